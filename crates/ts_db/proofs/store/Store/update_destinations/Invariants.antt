use Rattle.std.proofs.Common.{List}
use Rattle.std.specs.Vec.Iter.{into_iter_items}
use Rattle.ts_rules.specs.declared.rule.Rule.{Rule as TheRule}
use Rattle.ts_db.specs.DestinationUpdates.{Rows, RemovedTimes}
use Rattle.ts_db.specs.Planning.{AreDestinationsUpdatedBy, AreDistinct}
use Rattle.ts_db.specs.Store.{IsInOrder}
use Rattle.ts_db.proofs.Feeds.{Feeding}
use Rattle.ts_db.proofs.store.Store.update_destinations.Given as goal

-- the remaining plans lead to the result of all plans
abbrev pub invariant-loop-plan : goal.invariant-loop-plan
invariant-loop-plan l = record {
  store : IsInOrder l.self;
  goes_on : (rows : Rows) (gone : RemovedTimes) (rs : List TheRule) → AreDestinationsUpdatedBy l.initial.self.limits.samples l.initial.self.nodes rows gone rs l.fn.plans.items → AreDistinct rs
      → Feeding l.initial.self l.self rows gone rs (into_iter_items l.plan-iterator);
}
