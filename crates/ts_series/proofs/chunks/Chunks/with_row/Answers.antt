use Rattle.std.proofs.Common.{sym, ap, subst, ◌∙◌}
use Rattle.ts_spec.specs.Sample.{Point, last_of}
use Rattle.ts_sample.specs.Chunk.{IsPast}
use Rattle.ts_series.specs.Stored.{points}
use Rattle.ts_series.proofs.PlannedPieces.{kept-view}
use Rattle.ts_series.proofs.OneRow.{count-at, found}
use Rattle.ts_series.proofs.Putting.{at-past}
use Rattle.ts_series.proofs.chunks.Chunks.with_row.Goals as goal

pub returns-then-not-is_late-clause-removed : goal.returns-then-not-is_late-clause-removed
returns-then-not-is_late-clause-removed g c =
    let kept = kept-view g.C.Chunk.format _ c.args.self.now c.self.inside.count c.self.view_is c.self.invariant in
    let time = c.args.row.now.time in
    let now = points c.args.self.now in
    let past = subst (λ (p : Point). IsPast (last_of now) p.time) c.row.view_is (c.is_late.ensures.past c.if-not-is_late.true) in
    sym (count-at time now kept.ascending ∙ ap found (at-past time now kept.ascending past))

pub returns-in-Ok-clause-limits : goal.returns-in-Ok-clause-limits
returns-in-Ok-clause-limits g c = c.in-Ok.ensures.limits c.args.chunk_size
