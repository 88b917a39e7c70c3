use Rattle.std.proofs.Common.{◌∙◌, sym, ap, arith, eqb-true}
use Rattle.ts_spec.specs.StoredUpdates.{lies_in}
use Rattle.ts_spec.specs.Sample.{between}
use Rattle.ts_series.specs.History.{list_of}
use Rattle.ts_rules.proofs.Clamped.{none-lies, unchanged-planned}
use Rattle.ts_rules.proofs.Sizes.{between-in-buckets}
use Rattle.ts_rules.proofs.rule_plans.plan_with_buffers.Goals as goal

pub returns-then-is_empty-clause-planned : goal.returns-then-is_empty-clause-planned
returns-then-is_empty-clause-planned g c =
    let gone = between c.args.deletion.now.from c.args.deletion.now.to (list_of c.args.deletion.now.source.now) in
    let none = eqb-true c.starts-lost.result.len 0 (sym c.is_empty.ensures ∙ c.if-is_empty.true) in
    unchanged-planned c.args.rule.now c.args.deletion.now.source.now c.args.dest.now c.args.deletion.now.from c.args.deletion.now.to c.args.limit
    (none-lies c.args.rule.now.grid gone c.starts-lost.result.items (λ b. c.starts-lost.ensures.lies b ∙ ap (λ g. lies_in g gone b) c.requires.lost.grid) (omega (arith, none, c.starts-lost.result.ok.0)))
    c.known.ensures.kept c.requires.fits c.unchanged.result c.unchanged.ensures.rule c.unchanged.ensures.dest

pub returns-then-is_empty-clause-steps : goal.returns-then-is_empty-clause-steps
returns-then-is_empty-clause-steps g c =
    record {
      counted = c.starts-lost.ensures.steps.counted;
      bounded = omega (arith, c.starts-lost.ensures.steps.bounded, between-in-buckets c.args.rule.now.grid c.args.deletion.now.from c.args.deletion.now.to c.args.deletion.now.to (list_of c.args.deletion.now.source.now) (omega arith));
    }

pub returns-clause-planned : goal.returns-clause-planned
returns-clause-planned g c = (c.rule_left-rule.ensures, c.in_ok-dest.ensures.updated_list)
