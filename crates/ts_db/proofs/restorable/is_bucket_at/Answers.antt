use Rattle.std.proofs.Common.{◌≡◌, ◌+◌, ◌-◌, ◌≤◌, [], sym, ◌∙◌, ap, arith, eqb-true, eq-eqb}
use Rattle.std.proofs.lemmas.Bool.Decides.{nat_tests}
use Rattle.std.specs.Prelude.{Some}
use Rattle.ts_spec.specs.Aggregate.{Summary}
use Rattle.ts_spec.specs.StoredSeries.{StoredRule}
use Rattle.ts_restore.specs.Restored.{top_at}
use Rattle.ts_series.specs.History.{list_of}
use Rattle.ts_db.specs.Restorable.{top_since}
use Rattle.ts_db.specs.Restoring.{part_of_rule}
use Rattle.ts_db.proofs.WrittenSince.{top-from, bucket-at, bucket-start, bucket-high}
use Rattle.ts_db.proofs.restorable.is_bucket_at.Goals as goal
use Rattle.ts_db.proofs.restorable.is_bucket_at.Goals.{After-top_since}

-- the rule, and the highest time that the scan found
abbrev rule : (g : _) (c : After-top_since g) → StoredRule
rule g c = (part_of_rule [] [] c.args.rule.now).rule

found : (g : _) (c : After-top_since g) → top_since c.args.rule.now.made (Some (c.args.start + c.saturating_sub.result)) (list_of c.args.series.now) ≡ Some (top_at (rule g c) c.args.start (list_of c.args.series.now))
found g c =
    top-from (rule g c) c.args.start (c.args.start + c.saturating_sub.result) (list_of c.args.series.now)
    (ap (λ n. c.args.start + n) c.saturating_sub.ensures ∙ ap (λ (s : Summary). c.args.start + (s.count - 1)) c.parts.ensures.value)

pub returns-in_default-clause-bucket : goal.returns-in_default-clause-bucket
returns-in_default-clause-bucket g c =
    let f = found g (goal.at.returns-in_default-clause-bucket g c).After-top_since in absurd (cc (c.in_default.ensures.top, f))

pub returns-then-top-high-clause-bucket : goal.returns-then-top-high-clause-bucket
returns-then-top-high-clause-bucket g c =
    let f = found g (goal.at.returns-then-top-high-clause-bucket g c).After-top_since in
    let h = c.args.series.now in
    let q = (part_of_rule [] [] c.args.rule.now).rule in
    let is = c.in-Some.ensures.top ∙ f in (
      (λ t. bucket-at h q c.requires.summary c.args.start c.in-Some.top c.in-Some-high.high is c.in-Some-high.ensures c.if-top-high.true (sym c.start_of.ensures ∙ eqb-true c.start_of.result c.args.start t)),
      (λ x. eq-eqb c.start_of.result c.args.start (c.start_of.ensures ∙ bucket-start h q c.requires.summary c.args.start c.in-Some.top c.in-Some-high.high is c.in-Some-high.ensures x)),
    )

pub returns-else-top-high-clause-bucket : goal.returns-else-top-high-clause-bucket
returns-else-top-high-clause-bucket g c =
    let f = found g (goal.at.returns-else-top-high-clause-bucket g c).After-top_since in
    let h = c.args.series.now in
    let q = (part_of_rule [] [] c.args.rule.now).rule in
    let is = c.in-Some.ensures.top ∙ f in (
      (λ t. absurd (grind (arith, nat_tests))),
      (λ x.
          let most : c.in-Some.top ≤ c.in-Some-high.high = bucket-high h q c.requires.summary c.args.start c.in-Some.top c.in-Some-high.high is c.in-Some-high.ensures x in absurd (omega (arith, most, c.if-top-high.false))),
    )
