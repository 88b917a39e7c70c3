use Rattle.std.proofs.Common.{◌∙◌}
use Rattle.ts_series.specs.Stored.{points}
use Rattle.ts_series.proofs.IntervalCount.{between-count}
use Rattle.ts_series.proofs.NewChunks.{fine-joined}
use Rattle.ts_series.proofs.PlannedPieces.{kept-view}
use Rattle.ts_series.proofs.chunks.Chunks.count_between.Goals as goal

pub returns-clause-count : goal.returns-clause-count
returns-clause-count g c =
    let now = c.args.self.now in
    let kept = kept-view g.C.Chunk.format _ now c.self.inside.count c.self.view_is c.self.invariant in
    c.saturating_sub.ensures
    ∙ between-count c.args.from c.args.to c.saturating_add.result c.saturating_add.ensures (points now) (fine-joined g.C.Chunk.format now.pieces now.limits kept.chunks)
    c.count_before-upto.result c.count_before-before.result c.count_before-upto.ensures.count c.count_before-before.ensures.count
