use Rattle.std.proofs.Common.{ℕ, ◌∙◌, sym, ap, map}
use Rattle.std.specs.Prelude.{Option}
use Rattle.ts_spec.specs.Answer.{limit_rows}
use Rattle.ts_range.specs.Query.{row_of}
use Rattle.ts_range.proofs.Reversed.{map-take}
use Rattle.ts_range.proofs.answers.first.Goals as goal

pub returns-in-Some : goal.returns-in-Some
returns-in-Some c =
    ap (map row_of) c.truncate.ensures.items ∙ map-take row_of c.in-Some.count c.args.rows.items
    ∙ ap (λ (o : Option ℕ). limit_rows o (map row_of c.args.rows.items)) (sym c.in-Some.is)

pub returns-in_default : goal.returns-in_default
returns-in_default c = ap (λ (o : Option ℕ). limit_rows o (map row_of c.args.rows.items)) (sym c.in_default.is)
