use Rattle.std.proofs.Common.{◌≤◌, sym, ◌∙◌, arith, ltb-true}
use Rattle.std.specs.Prelude.{Result, Ok, Err}
use Rattle.ts_spec.specs.Bucket.{start}
use Rattle.ts_series.specs.History.{list_of}
use Rattle.ts_series.proofs.TimeFor.{between-longer}
use Rattle.ts_rules.specs.declared.plan.RuleFault.TheVariants.{Full, Memory}
use Rattle.ts_rules.proofs.Clamped.{none-between, unchanged-planned, plan-clamped, shared-clamped, clamped-shared}
use Rattle.ts_rules.proofs.Sizes.{in_buckets-fewer}
use Rattle.ts_rules.proofs.Times.{not-past}
use Rattle.ts_rules.proofs.rule_plans.plan_delete_shared.Goals as goal
use Rattle.ts_rules.proofs.rule_plans.plan_delete_shared.Goals.{After-min-to}
use Rattle.ts_rules.specs.declared.shared_bucket.SharedBuckets.{SharedBuckets}
use Rattle.ts_rules.specs.Deletions.{left_of}
use Rattle.ts_rules.specs.SharedBuckets.{AreShared}
use Rattle.ts_rules.specs.PlansOfDeletions.{IsPlanOfDeletion}
use Rattle.ts_rules.specs.Shares.{deletion_share}
use Rattle.ts_rules.specs.declared.plan.RuleFault.{RuleFault}
use Rattle.ts_rules.specs.declared.plan.RulePlan.{RulePlan}

-- what is planned up to the greatest time is planned up to the end of the interval
clamped : (g : _) (c : After-min-to g) (result : Result RulePlan RuleFault) → IsPlanOfDeletion c.args.limit c.args.rule.now c.args.deletion.now.source.now c.args.deletion.now.from c.min-to.result c.args.dest.now result
    → IsPlanOfDeletion c.args.limit c.args.rule.now c.args.deletion.now.source.now c.args.deletion.now.from c.args.deletion.now.to c.args.dest.now result
clamped g c result =
    plan-clamped c.args.deletion.now.source.now c.args.deletion.now.from c.args.deletion.now.to c.known.ensures.kept.ascending c.known.ensures.times c.args.rule.now c.args.dest.now c.args.limit c.min-to.result result c.min-to.ensures

-- so is what the rules share
shared : (g : _) (c : After-min-to g) (t : SharedBuckets) → AreShared (left_of c.args.deletion.now.source.now c.args.deletion.now.from c.min-to.result) t
    → AreShared (left_of c.args.deletion.now.source.now c.args.deletion.now.from c.args.deletion.now.to) t
shared g c t = shared-clamped c.args.deletion.now.source.now c.args.deletion.now.from c.args.deletion.now.to c.known.ensures.kept.ascending c.known.ensures.times c.min-to.result t c.min-to.ensures

-- and it looks at no more
fewer : (g : _) (c : After-min-to g) → deletion_share c.args.rule.now c.args.deletion.now.source.now c.args.deletion.now.from c.min-to.result c.args.dest.now ≤ deletion_share c.args.rule.now c.args.deletion.now.source.now c.args.deletion.now.from c.args.deletion.now.to c.args.dest.now
fewer g c =
    let less : c.min-to.result ≤ c.args.deletion.now.to = omega (arith, c.min-to.ensures) in
    omega (
      arith,
      in_buckets-fewer c.args.rule.now.grid c.args.deletion.now.from c.min-to.result c.args.deletion.now.to (list_of c.args.deletion.now.source.now) less,
      between-longer (start c.args.rule.now.grid c.args.deletion.now.from) c.min-to.result c.args.deletion.now.to (list_of c.args.dest.now) less,
    )

pub returns-then-to-deletion-clause-planned : goal.returns-then-to-deletion-clause-planned
returns-then-to-deletion-clause-planned g c =
    clamped g (goal.at.returns-then-to-deletion-clause-planned g c).After-min-to (Ok c.unchanged.result)
    (unchanged-planned c.args.rule.now c.args.deletion.now.source.now c.args.dest.now c.args.deletion.now.from c.min-to.result c.args.limit
    (none-between c.args.deletion.now.from c.min-to.result (list_of c.args.deletion.now.source.now) (omega (arith, c.if-to-deletion.true))) c.known-2.ensures.kept c.requires.fits c.unchanged.result c.unchanged.ensures.rule c.unchanged.ensures.dest)

pub returns-in-Ok : goal.returns-in-Ok
returns-in-Ok g c =
    let at = (goal.at.returns-in-Ok g c).After-min-to in
    record {
      planned = clamped g at c.plan_with_buffers.result c.plan_with_buffers.ensures.planned;
      shared = shared g at _ c.plan_with_buffers.ensures.shared;
      steps = record {
        counted = c.plan_with_buffers.ensures.steps.counted;
        bounded = omega (arith, c.plan_with_buffers.ensures.steps.bounded, fewer g at);
      };
    }

pub returns-then-is_full : goal.returns-then-is_full
returns-then-is_full g c =
    let at = (goal.at.returns-then-is_full g c).After-min-to in
    record {
      planned = clamped g at (Err Full) (ltb-true c.args.limit _ (sym c.is_full.ensures.full ∙ c.if-is_full.true));
      shared = shared g at _ c.is_full.ensures.shared;
      steps = record {
        counted = c.is_full.ensures.steps.counted;
        bounded = omega (arith, c.is_full.ensures.steps.bounded, fewer g at);
      };
    }

pub returns-else-is_full : goal.returns-else-is_full
returns-else-is_full g c =
    let at = (goal.at.returns-else-is_full g c).After-min-to in
    record {
      planned = clamped g at (Err (Memory c.in-Err.fault)) (not-past c.args.limit _ (sym c.is_full.ensures.full ∙ c.if-is_full.false));
      shared = shared g at _ c.is_full.ensures.shared;
      steps = record {
        counted = c.is_full.ensures.steps.counted;
        bounded = omega (arith, c.is_full.ensures.steps.bounded, fewer g at);
      };
    }

pub plan_with_buffers-requires-clause-shared : goal.plan_with_buffers-requires-clause-shared
plan_with_buffers-requires-clause-shared g c = clamped-shared c.args.deletion.now.source.now c.args.deletion.now.from c.args.deletion.now.to c.known.ensures.kept.ascending c.known.ensures.times c.min-to.result _ c.min-to.ensures c.requires.shared

pub is_full-requires-clause-shared : goal.is_full-requires-clause-shared
is_full-requires-clause-shared g c = clamped-shared c.args.deletion.now.source.now c.args.deletion.now.from c.args.deletion.now.to c.known.ensures.kept.ascending c.known.ensures.times c.min-to.result _ c.min-to.ensures c.requires.shared
