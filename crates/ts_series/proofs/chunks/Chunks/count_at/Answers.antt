use Rattle.std.proofs.Common.{sym, ◌∙◌, ap}
use Rattle.ts_series.specs.Stored.{points}
use Rattle.ts_series.proofs.PlannedPieces.{kept-view}
use Rattle.ts_series.proofs.OneRow.{count-at, found}
use Rattle.ts_series.proofs.chunks.Chunks.count_at.Goals as goal

pub returns-in-None-clause-count : goal.returns-in-None-clause-count
returns-in-None-clause-count g c =
    let kept = kept-view g.C.Chunk.format _ c.args.self.now c.self.inside.count c.self.view_is c.self.invariant in
    sym (count-at c.args.time (points c.args.self.now) kept.ascending ∙ ap found (sym c.at.ensures.at ∙ c.in-None.is))

pub returns-in-Some-clause-count : goal.returns-in-Some-clause-count
returns-in-Some-clause-count g c =
    let kept = kept-view g.C.Chunk.format _ c.args.self.now c.self.inside.count c.self.view_is c.self.invariant in
    sym (count-at c.args.time (points c.args.self.now) kept.ascending ∙ ap found (sym c.at.ensures.at ∙ c.in-Some.is))
