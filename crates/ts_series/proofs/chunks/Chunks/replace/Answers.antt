use Rattle.std.proofs.Common.{◌≡◌, ◌+◌, ◌-◌, ◌≤◌, length, map, refl, sym, ◌∙◌, ap, subst, arith}
use Rattle.std.specs.Prelude.{slice_range}
use Rattle.ts_spec.specs.Sample.{IsAscending}
use Rattle.ts_sample.specs.Chunk.{joined}
use Rattle.ts_series.specs.Stored.{Stored, AreStoredChunks, replaced}
use Rattle.ts_series.proofs.Changed.{count-replaced, new-in, few-kept, map-replaced, kept-replaced}
use Rattle.ts_series.proofs.PieceCounts.{joined-same}
use Rattle.ts_series.proofs.chunks.Chunks.replace.Goals as goal
use Rattle.ts_series.proofs.chunks.Chunks.replace.Goals.{After-count_of-removed, After-count_in-added}

-- all chunks with the new ones in their places are kept
kept-with : (g : _) (c : After-count_of-removed g) → AreStoredChunks g.C.Chunk.format (map g.C.Chunk.list (replaced c.args.start c.args.end c.args.chunks.items c.self.inside.chunks.items))
    (map g.C.Chunk.most (replaced c.args.start c.args.end c.args.chunks.items c.self.inside.chunks.items)) (length (joined (map g.C.Chunk.list (replaced c.args.start c.args.end c.args.chunks.items c.self.inside.chunks.items))))
kept-with g c =
    let start = c.args.start in
    let end = c.args.end in
    let new = c.args.chunks.items in
    let old = c.self.inside.chunks.items in
    let all = replaced start end new old in
    let up = subst (λ (h : Stored). IsAscending (joined (replaced start end (map g.C.Chunk.list new) h.pieces))) (sym c.self.view_is) c.requires.ascending in
    kept-replaced g.C.Chunk.format g.C.Chunk.list g.C.Chunk.most start end new old all (length (joined (map g.C.Chunk.list all))) c.self.inside.count refl refl c.requires.chunks up c.self.invariant

-- the count, by those that went and came
counted : (g : _) (c : After-count_in-added g) → (c.count_of-removed.result ≤ c.self.inside.count)
    × (c.self.inside.count - c.count_of-removed.result + c.count_in-added.result ≡ length (joined (map g.C.Chunk.list (replaced c.args.start c.args.end c.args.chunks.items c.self.inside.chunks.items))))
counted g c =
    let start = c.args.start in
    let end = c.args.end in
    let new = c.args.chunks.items in
    let old = c.self.inside.chunks.items in
    count-replaced g.C.Chunk.list start end new old (replaced start end new old) c.self.inside.count c.count_of-removed.result c.count_in-added.result c.requires.ordered refl c.self.invariant.counted
    (c.count_of-removed.ensures ∙ ap (λ (h : Stored). length (joined (slice_range h.pieces start end))) (sym c.self.view_is))
    (c.count_in-added.ensures ∙ ap length (joined-same g.C.Chunk.list c.deref.result.now new c.deref.ensures.value))

pub count_in-added-requires : goal.count_in-added-requires
count_in-added-requires g c =
    let new = c.args.chunks.items in
    let old = c.self.inside.chunks.items in
    let all = replaced c.args.start c.args.end new old in
    let kept = kept-with g (goal.at.count_in-added-requires g c).After-count_of-removed in
    omega (
      arith,
      few-kept g.C.Chunk.format (map g.C.Chunk.list all) (map g.C.Chunk.most all) (length (joined (map g.C.Chunk.list all))) kept,
      ap length (joined-same g.C.Chunk.list c.deref.result.now new c.deref.ensures.value),
      new-in g.C.Chunk.list c.args.start c.args.end new old,
    )

pub overflow_sub-self : goal.overflow_sub-self
overflow_sub-self g c = (counted g (goal.at.overflow_sub-self g c).After-count_in-added).0

pub overflow_add-self : goal.overflow_add-self
overflow_add-self g c =
    let all = replaced c.args.start c.args.end c.args.chunks.items c.self.inside.chunks.items in
    let at = goal.at.overflow_add-self g c in
    omega (
      arith,
      few-kept g.C.Chunk.format (map g.C.Chunk.list all) (map g.C.Chunk.most all) (length (joined (map g.C.Chunk.list all))) (kept-with g at.After-count_of-removed),
      (counted g at.After-count_in-added).1,
    )

pub invariant_of-self : goal.invariant_of-self
invariant_of-self g c =
    let start = c.args.start in
    let end = c.args.end in
    let new = c.args.chunks.items in
    let old = c.self.inside.chunks.items in
    let up = subst (λ (h : Stored). IsAscending (joined (replaced start end (map g.C.Chunk.list new) h.pieces))) (sym c.self.view_is) c.requires.ascending in
    let counts = (counted g (goal.at.invariant_of-self g c).After-count_in-added).1 ∙ ap (λ ks. length (joined (map g.C.Chunk.list ks))) (sym c.replace_between.ensures.items) in
    kept-replaced g.C.Chunk.format g.C.Chunk.list g.C.Chunk.most start end new old c.replace_between.new.ring.items _ c.self.inside.count c.replace_between.ensures.items counts c.requires.chunks up c.self.invariant

pub returns-clause-pieces : goal.returns-clause-pieces
returns-clause-pieces g c =
    ap (map g.C.Chunk.list) c.replace_between.ensures.items ∙ map-replaced g.C.Chunk.list c.args.start c.args.end c.args.chunks.items c.self.inside.chunks.items
    ∙ ap (λ (h : Stored). replaced c.args.start c.args.end (map g.C.Chunk.list c.args.chunks.items) h.pieces) c.self.view_is

pub returns-clause-limits : goal.returns-clause-limits
returns-clause-limits g c =
    ap (map g.C.Chunk.most) c.replace_between.ensures.items ∙ map-replaced g.C.Chunk.most c.args.start c.args.end c.args.chunks.items c.self.inside.chunks.items
    ∙ ap (λ (h : Stored). replaced c.args.start c.args.end (map g.C.Chunk.most c.args.chunks.items) h.limits) c.self.view_is
