use Rattle.std.proofs.Common.{sym, ◌∙◌, ap, arith}
use Rattle.std.specs.Prelude.{Option}
use Rattle.ts_spec.specs.Sample.{Point, last_of, put_all}
use Rattle.ts_rules.specs.Rules.{one_of}
use Rattle.ts_db.proofs.Rows.{last-alone, last-stays, last-row}
use Rattle.ts_db.proofs.row_merger.last_with.Goals as goal

pub returns-in_default-last : goal.returns-in_default-last
returns-in_default-last c = λ ps up is.
    last-alone c.in-Some.row ps (sym c.in_default-last.is ∙ is) ∙ ap (λ (o : Option Point). last_of (put_all (one_of o) ps)) (sym c.in-Some.is)

pub returns-then-row-last : goal.returns-then-row-last
returns-then-row-last c = λ ps up is.
    last-stays c.in-Some.row c.in-Some-last.last ps up (sym c.in-Some-last.is ∙ is) (omega (arith, ap (λ (p : Point). p.time) c.row.view_is, ap (λ (p : Point). p.time) c.last.view_is, c.if-row-last.true)) ∙ ap (λ (o : Option Point). last_of (put_all (one_of o) ps)) (sym c.in-Some.is)

pub returns-else-row-last : goal.returns-else-row-last
returns-else-row-last c = λ ps up is.
    last-row c.in-Some.row c.in-Some-last.last ps up (sym c.in-Some-last.is ∙ is) (omega (arith, ap (λ (p : Point). p.time) c.row.view_is, ap (λ (p : Point). p.time) c.last.view_is, c.if-row-last.false)) ∙ ap (λ (o : Option Point). last_of (put_all (one_of o) ps)) (sym c.in-Some.is)
