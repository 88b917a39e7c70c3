use Rattle.std.proofs.Common.{◌∙◌, ap, map}
use Rattle.ts_spec.specs.Answer.{limit_rows}
use Rattle.ts_range.specs.Query.{row_of}
use Rattle.ts_range.proofs.Reversed.{map-reverse}
use Rattle.ts_range.proofs.answers.in_requested_order.Goals as goal

pub returns : goal.returns
returns c = c.first.ensures ∙ ap (limit_rows c.args.count) (ap (map row_of) c.reverse.ensures.items ∙ map-reverse row_of c.args.rows.items)
