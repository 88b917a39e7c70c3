use Rattle.std.proofs.Common.{ap, ◌∙◌}
use Rattle.ts_spec.specs.Answer.{limit_rows}
use Rattle.ts_group.specs.Summaries.{ReductionState}
use Rattle.ts_group.specs.Rows.{rows_of_summaries}
use Rattle.ts_group.proofs.Told.{reply_parts-rows}
use Rattle.ts_group.proofs.reduction.Reduction.rows.Goals as goal

pub returns : goal.returns
returns c = λ rows. λ taken. λ kept.
    reply_parts-rows c.args.self.now c.args.reducer c.args.count c.args.reverse c.new.result rows
    (c.new.ensures ∙ ap (λ (k : ReductionState). limit_rows c.args.count (rows_of_summaries c.args.reducer c.args.reverse k.summaries)) c.self.view_is) taken kept
