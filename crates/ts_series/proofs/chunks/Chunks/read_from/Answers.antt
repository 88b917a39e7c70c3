use Rattle.std.proofs.Common.{subst}
use Rattle.ts_spec.specs.Sample.{IsAscending}
use Rattle.ts_series.specs.Stored.{Stored, points}
use Rattle.ts_series.proofs.ReadingOn.{begun-at}
use Rattle.ts_series.proofs.chunks.Chunks.read_from.Goals as goal

pub returns-clause-left : goal.returns-clause-left
returns-clause-left g c =
    let rises : IsAscending (points c.args.self.now) = subst (λ (k : Stored). IsAscending (points k)) c.self.view_is c.self.invariant.ascending in
    let b = c.before-at.ensures in
    begun-at c.args.time c.before-at.result (g.C.Chunk.passed c.place_from-place.result) c.args.self.now.pieces rises b.earlier b.reached c.place_from-place.ensures.within c.place_from-place.ensures.left
