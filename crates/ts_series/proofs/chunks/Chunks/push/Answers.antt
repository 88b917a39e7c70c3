use Rattle.std.proofs.Common.{◌+◌, ◌++◌, [], ◌∷◌, map, sym, ◌∙◌, ap, subst, arith}
use Rattle.std.specs.Prelude.{List}
use Rattle.ts_spec.specs.Sample.{Point, IsAscending}
use Rattle.ts_sample.specs.Chunk.{joined}
use Rattle.ts_series.specs.Stored.{Stored, AreStoredChunks}
use Rattle.ts_series.proofs.Changed.{few-kept}
use Rattle.ts_series.proofs.Restoring.{stored-more}
use Rattle.ts_series.proofs.chunks.Chunks.push.Goals as goal
use Rattle.ts_series.proofs.chunks.Chunks.push.Goals.{After-self}

-- what holds of the chunks with the new one
kept-then : (g : _) (c : After-self g) → AreStoredChunks g.C.Chunk.format (map g.C.Chunk.list (c.self.inside.chunks.items ++ c.args.chunk ∷ [])) (map g.C.Chunk.most (c.self.inside.chunks.items ++ c.args.chunk ∷ []))
    (c.self.inside.count + c.len.result)
kept-then g c =
    let list = g.C.Chunk.list in
    let items = c.self.inside.chunks.items in
    let pieces = ap (λ (h : Stored). h.pieces) c.self.view_is ∙ c.reserve_one.ensures.pieces in
    let up : IsAscending (joined (map list items) ++ list c.args.chunk) = subst (λ (pss : List (List Point)). IsAscending (joined pss ++ list c.args.chunk)) (sym pieces) c.requires.ascending in
    stored-more g.C.Chunk.format list g.C.Chunk.most items c.args.chunk c.self.inside.count (c.self.inside.count + c.len.result) c.self.invariant c.known.ensures c.requires.some up
    (ap (λ n. c.self.inside.count + n) c.len.ensures)

pub overflow_add-self : goal.overflow_add-self
overflow_add-self g c =
    let items = c.self.inside.chunks.items ++ c.args.chunk ∷ [] in
    let kept = kept-then g (goal.at.overflow_add-self g c).After-self in
    omega (arith, few-kept g.C.Chunk.format (map g.C.Chunk.list items) (map g.C.Chunk.most items) (c.self.inside.count + c.len.result) kept)

pub invariant_of-self : goal.invariant_of-self
invariant_of-self g c =
    subst (λ ks. AreStoredChunks g.C.Chunk.format (map g.C.Chunk.list ks) (map g.C.Chunk.most ks) (c.self.inside.count + c.len.result)) (sym c.push_back_reserved.ensures.items)
    (kept-then g (goal.at.invariant_of-self g c).After-self)
