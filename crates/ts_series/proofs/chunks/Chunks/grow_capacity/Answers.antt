use Rattle.std.proofs.Common.{◌≡◌, ◌-◌, ◌+◌, ◌≤◌, [], ◌∷◌, ◌++◌, length, map, refl, sym, ◌∙◌, ap, subst, arith, append-nil, append_assoc, length-append, deque_len, deque_capacity}
use Rattle.std.specs.Prelude.{IfSome, MatchOption}
use Rattle.std.proofs.lemmas.List.{nil_from_length, length-map}
use Rattle.ts_series.specs.Stored.{Stored, AreStoredChunks}
use Rattle.ts_series.proofs.chunks.Chunks.grow_capacity.Goals as goal
use Rattle.ts_series.proofs.chunks.Chunks.grow_capacity.Goals.{In_default-pop_front}

-- in the end all chunks are in the larger place
all-moved : (g : _) (c : In_default-pop_front g) → c.self.inside.chunks.items ≡ c.loop-chunk.larger.items
all-moved g c =
    let moved = c.loop-chunk.larger.items in
    let left = c.loop-chunk.self-inside.chunks in
    let none : left.items ≡ [] = nil_from_length left.items (omega (arith, left.ok.0, c.in_default-pop_front.ensures.cases.0)) in
    sym c.loop-chunk.invariant.items ∙ ap (λ ks. moved ++ ks) none ∙ append-nil moved

pub loop-chunk-init : goal.loop-chunk-init
loop-chunk-init g c =
    let items = c.self.inside.chunks.items in
    let empty = subst (λ o. IfSome o (λ q. q.items ≡ [])) c.in-Some.is c.requires.empty in
    let enough = subst (λ o. IfSome o (λ q. length c.args.self.now.pieces ≤ deque_capacity q)) c.in-Some.is c.requires.enough in
    record {
      items = ap (λ ks. ks ++ items) empty;
      capacity = refl;
      room = omega (arith, enough, ap (λ (s : Stored). length s.pieces) c.self.view_is, length-map items g.C.Chunk.list);
      count = refl;
    }

pub push_back_reserved-requires : goal.push_back_reserved-requires
push_back_reserved-requires g c =
    let moved = c.loop-chunk.larger in
    let left = c.loop-chunk.self-inside.chunks in
    let known = c.loop-chunk.invariant in
    omega (arith, moved.ok.0, left.ok.0, ap length known.items, length-append moved.items left.items, known.capacity, known.room, c.in-Some-pop_front.ensures.cases)

pub loop-chunk-smaller : goal.loop-chunk-smaller
loop-chunk-smaller g c = omega (arith, c.in-Some-pop_front.ensures.cases)

pub loop-chunk-preserved : goal.loop-chunk-preserved
loop-chunk-preserved g c =
    let moved = c.loop-chunk.larger.items in
    let rest = c.pop_front.new.self.items in
    let known = c.loop-chunk.invariant in
    record {
      items = ap (λ ks. ks ++ rest) c.push_back_reserved.ensures.items ∙ append_assoc moved (c.in-Some-pop_front.chunk ∷ []) rest ∙ ap (λ ks. moved ++ ks) (sym c.in-Some-pop_front.ensures.items) ∙ known.items;
      capacity = c.push_back_reserved.ensures.capacity ∙ known.capacity;
      room = known.room;
      count = known.count;
    }

pub invariant_of-self : goal.invariant_of-self
invariant_of-self g c =
    let moved = c.loop-chunk.larger.items in
    subst (λ n. AreStoredChunks g.C.Chunk.format (map g.C.Chunk.list moved) (map g.C.Chunk.most moved) n) (sym c.loop-chunk.invariant.count)
    (subst (λ ks. AreStoredChunks g.C.Chunk.format (map g.C.Chunk.list ks) (map g.C.Chunk.most ks) c.self.inside.count) (all-moved g (goal.at.invariant_of-self g c).In_default-pop_front) c.self.invariant)

pub returns-clause-pieces : goal.returns-clause-pieces
returns-clause-pieces g c = ap (map g.C.Chunk.list) (sym (all-moved g (goal.at.returns-clause-pieces g c).In_default-pop_front)) ∙ ap (λ (s : Stored). s.pieces) c.self.view_is

pub returns-clause-limits : goal.returns-clause-limits
returns-clause-limits g c = ap (map g.C.Chunk.most) (sym (all-moved g (goal.at.returns-clause-limits g c).In_default-pop_front)) ∙ ap (λ (s : Stored). s.limits) c.self.view_is

pub returns-clause-room : goal.returns-clause-room
returns-clause-room g c =
    let moved = c.loop-chunk.larger in
    let left = c.loop-chunk.self-inside.chunks in
    let known = c.loop-chunk.invariant in
    let places = deque_capacity moved - deque_len moved in
    let all : length (map g.C.Chunk.list moved.items) + places ≡ deque_capacity c.in-Some.larger =
    omega (arith, moved.ok.0, length-map moved.items g.C.Chunk.list, ap length known.items, length-append moved.items left.items, known.capacity, known.room) in
    subst (λ o. MatchOption o (places ≡ c.args.self.now.room) (λ q. length (map g.C.Chunk.list moved.items) + places ≡ deque_capacity q)) (sym c.in-Some.is) all
