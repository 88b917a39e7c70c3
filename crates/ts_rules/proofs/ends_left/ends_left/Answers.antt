use Rattle.std.proofs.Common.{◌≡◌, ◌≢◌, sym, ap, ◌∙◌, arith}
use Rattle.std.specs.Prelude.{nat_le, filter}
use Rattle.ts_spec.specs.Bucket.{start, members}
use Rattle.ts_spec.specs.Aggregate.{summary}
use Rattle.ts_series.specs.History.{list_of}
use Rattle.ts_rules.specs.Deletions.{left_of}
use Rattle.ts_rules.proofs.Sizes.{around-one, around-two}
use Rattle.ts_rules.proofs.ends_left.ends_left.Goals as goal

pub returns-then-start_of-clause-last : goal.returns-then-start_of-clause-last
returns-then-start_of-clause-last g c =
    let same : start c.args.rule.now.grid c.args.deletion.now.from ≡ start c.args.rule.now.grid c.args.deletion.now.to = sym c.start_of.ensures ∙ c.if-start_of.true ∙ c.start_of-2.ensures in
    c.bucket_left-first.ensures.running
    ∙ ap (λ b. summary (filter (λ p. nat_le c.args.rule.now.made p.made) (members c.args.rule.now.grid b (left_of c.args.deletion.now.source.now c.args.deletion.now.from c.args.deletion.now.to)))) same

pub returns-then-start_of-clause-bounded : goal.returns-then-start_of-clause-bounded
returns-then-start_of-clause-bounded g c = omega (arith, c.bucket_left-first.ensures.steps.bounded, around-one c.args.rule.now.grid c.args.deletion.now.from c.args.deletion.now.to (list_of c.args.deletion.now.source.now) c.requires.order)

pub returns-clause-bounded : goal.returns-clause-bounded
returns-clause-bounded g c =
    let other : start c.args.rule.now.grid c.args.deletion.now.from ≢ start c.args.rule.now.grid c.args.deletion.now.to = λ e. c.if-start_of.false (c.start_of.ensures ∙ e ∙ sym c.start_of-2.ensures) in
    omega (arith, c.bucket_left-first.ensures.one_side other, c.bucket_left-last.ensures.one_side other, around-two c.args.rule.now.grid c.args.deletion.now.from c.args.deletion.now.to (list_of c.args.deletion.now.source.now) c.requires.order other)
