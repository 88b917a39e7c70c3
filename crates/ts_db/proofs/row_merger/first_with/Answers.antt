use Rattle.std.proofs.Common.{sym, ◌∙◌, ap, arith}
use Rattle.std.specs.Prelude.{Option}
use Rattle.ts_spec.specs.Sample.{Point, first_of, put_all}
use Rattle.ts_rules.specs.Rules.{one_of}
use Rattle.ts_db.proofs.Rows.{first-alone, first-stays, first-row}
use Rattle.ts_db.proofs.row_merger.first_with.Goals as goal

pub returns-in_default-first : goal.returns-in_default-first
returns-in_default-first c = λ ps up is.
    first-alone c.in-Some.row ps (sym c.in_default-first.is ∙ is) ∙ ap (λ (o : Option Point). first_of (put_all (one_of o) ps)) (sym c.in-Some.is)

pub returns-then-first-row : goal.returns-then-first-row
returns-then-first-row c = λ ps up is.
    first-stays c.in-Some.row c.in-Some-first.first ps up (sym c.in-Some-first.is ∙ is) (omega (arith, ap (λ (p : Point). p.time) c.row.view_is, ap (λ (p : Point). p.time) c.first.view_is, c.if-first-row.true)) ∙ ap (λ (o : Option Point). first_of (put_all (one_of o) ps)) (sym c.in-Some.is)

pub returns-else-first-row : goal.returns-else-first-row
returns-else-first-row c = λ ps up is.
    first-row c.in-Some.row c.in-Some-first.first ps up (sym c.in-Some-first.is ∙ is) (omega (arith, ap (λ (p : Point). p.time) c.row.view_is, ap (λ (p : Point). p.time) c.first.view_is, c.if-first-row.false)) ∙ ap (λ (o : Option Point). first_of (put_all (one_of o) ps)) (sym c.in-Some.is)
