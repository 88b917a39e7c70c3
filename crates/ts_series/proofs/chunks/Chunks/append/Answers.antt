use Rattle.std.proofs.Common.{◌≡◌, suc, ◌+◌, ◌-◌, [], ◌∷◌, ◌++◌, length, get_or, map, refl, sym, ◌∙◌, ap, subst, arith}
use Rattle.std.specs.Prelude.{slice_set, Some}
use Rattle.std.specs.VecDeque.{deque_len}
use Rattle.ts_spec.specs.Sample.{IsAscending, last_of}
use Rattle.ts_sample.specs.Chunk.{IsPast, Fits, joined}
use Rattle.ts_series.specs.Stored.{Stored, AreStoredChunks, LastChunkFits, with_last}
use Rattle.ts_series.proofs.Changed.{few-kept}
use Rattle.ts_series.proofs.Appended.{map-last, map-same, room-last, list-taken, kept-last}
use Rattle.ts_series.proofs.chunks.Chunks.append.Goals as goal
use Rattle.ts_series.proofs.chunks.Chunks.append.Goals.{After-known}

-- there is a last chunk, which has room
last-has-room : (g : _) (c : After-known g) → (length c.self.inside.chunks.items ≡ suc (deque_len c.self.inside.chunks - 1))
    × LastChunkFits g.C.Chunk.format (Some c.args.sample.now) (map g.C.Chunk.list c.self.inside.chunks.items) (map g.C.Chunk.most c.self.inside.chunks.items)
last-has-room g c = (
  omega (arith, c.self.inside.chunks.ok.0, c.in-Some.ensures.variant.0 refl),
  subst (λ (h : Stored). LastChunkFits g.C.Chunk.format (Some c.args.sample.now) h.pieces h.limits) (sym c.self.view_is) c.requires.room,
)

-- it took the sample
took : (g : _) (c : After-known g)
    → g.C.Chunk.list c.try_append-fits.new.self ≡ g.C.Chunk.list (get_or c.self.inside.chunks.items (deque_len c.self.inside.chunks - 1) c.in-Some.last.now) ++ c.args.sample.now ∷ []
took g c =
    let p = c.args.sample.now in
    let chunks = c.self.inside.chunks in
    let last = c.in-Some.last.now in
    let open_last = last-has-room g c in
    let fits = subst (λ k. Fits g.C.Chunk.format (g.C.Chunk.most k) (g.C.Chunk.list k ++ p ∷ [])) (sym c.in-Some.ensures.value)
    (room-last g.C.Chunk.format g.C.Chunk.list g.C.Chunk.most p (deque_len chunks - 1) chunks.items last open_last.0 open_last.1).1 in
    list-taken g.C.Chunk.format (g.C.Chunk.most last) (g.C.Chunk.list last) (g.C.Chunk.list c.try_append-fits.new.self) p c.try_append-fits.result c.try_append-fits.ensures.fits
    c.try_append-fits.ensures.list fits
    ∙ ap (λ k. g.C.Chunk.list k ++ p ∷ []) c.in-Some.ensures.value

-- all chunks are kept then
kept-then : (g : _) (c : After-known g) → AreStoredChunks g.C.Chunk.format
    (map g.C.Chunk.list (slice_set c.self.inside.chunks.items (deque_len c.self.inside.chunks - 1) c.try_append-fits.new.self))
    (map g.C.Chunk.most (slice_set c.self.inside.chunks.items (deque_len c.self.inside.chunks - 1) c.try_append-fits.new.self)) (c.self.inside.count + 1)
kept-then g c =
    let p = c.args.sample.now in
    let chunks = c.self.inside.chunks in
    let open_last = last-has-room g c in
    let up = subst (λ (h : Stored). IsAscending (joined (with_last (Some p) h.pieces))) (sym c.self.view_is) c.requires.ascending in
    kept-last g.C.Chunk.format g.C.Chunk.list g.C.Chunk.most p (deque_len chunks - 1) chunks.items c.try_append-fits.new.self c.in-Some.last.now c.self.inside.count open_last.0
    (took g c) c.known.ensures open_last.1 up c.self.invariant

pub try_append-fits-requires : goal.try_append-fits-requires
try_append-fits-requires g c =
    let p = c.args.sample.now in
    let chunks = c.self.inside.chunks in
    let long : length chunks.items ≡ suc (deque_len chunks - 1) = omega (arith, chunks.ok.0, c.in-Some.ensures.variant.0 refl) in
    let room = subst (λ (h : Stored). LastChunkFits g.C.Chunk.format (Some p) h.pieces h.limits) (sym c.self.view_is) c.requires.room in
    record {
      past = subst (λ k. IsPast (last_of (g.C.Chunk.list k)) p.time) (sym c.in-Some.ensures.value)
          (room-last g.C.Chunk.format g.C.Chunk.list g.C.Chunk.most p (deque_len chunks - 1) chunks.items c.in-Some.last.now long room).0;
    }

pub overflow_add-self : goal.overflow_add-self
overflow_add-self g c =
    let items = slice_set c.self.inside.chunks.items (deque_len c.self.inside.chunks - 1) c.try_append-fits.new.self in
    omega (arith, few-kept g.C.Chunk.format (map g.C.Chunk.list items) (map g.C.Chunk.most items) (c.self.inside.count + 1) (kept-then g (goal.at.overflow_add-self g c).After-known))

pub invariant_of-self : goal.invariant_of-self
invariant_of-self g c = kept-then g (goal.at.invariant_of-self g c).After-known

pub returns-in-Some-clause-pieces : goal.returns-in-Some-clause-pieces
returns-in-Some-clause-pieces g c =
    let p = c.args.sample.now in
    let chunks = c.self.inside.chunks in
    let known = (goal.at.returns-in-Some-clause-pieces g c).After-known in
    map-last g.C.Chunk.list p (deque_len chunks - 1) chunks.items c.try_append-fits.new.self c.in-Some.last.now (last-has-room g known).0 (took g known)
    ∙ ap (λ (h : Stored). with_last (Some p) h.pieces) c.self.view_is

pub returns-in-Some-clause-limits : goal.returns-in-Some-clause-limits
returns-in-Some-clause-limits g c =
    let chunks = c.self.inside.chunks in
    map-same g.C.Chunk.most (deque_len chunks - 1) chunks.items c.try_append-fits.new.self c.in-Some.last.now (c.try_append-fits.ensures.limit ∙ ap g.C.Chunk.most c.in-Some.ensures.value)
    ∙ ap (λ (h : Stored). h.limits) c.self.view_is
