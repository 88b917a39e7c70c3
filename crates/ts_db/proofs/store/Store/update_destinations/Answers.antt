use Rattle.std.proofs.Common.{◌≡◌, List, [], ◌∷◌, refl, sym, subst, rules, arith}
use Rattle.std.specs.Vec.Iter.{into_iter_items}
use Rattle.ts_db.specs.declared.store.DestinationPlan.{DestinationPlan}
use Rattle.ts_db.specs.Planning.{AreDestinationsUpdatedBy}
use Rattle.ts_db.proofs.Feeds.{Feeding, update_dest-ready, update_dest-done, update_dest-none, update_dest-all, no-plans}
use Rattle.ts_db.proofs.store.Store.update_destinations.Goals as goal

pub loop-plan-init : goal.loop-plan-init
loop-plan-init c =
    let gives : into_iter_items c.into_iter-plan-iterator.result ≡ c.args.plans.items = search rules in
    record {
      store = c.requires.store;
      goes_on = λ rows gone rs update_dest distinct. record {
        rest = rs;
        plans = subst (λ (xs : List DestinationPlan). AreDestinationsUpdatedBy c.args.self.now.limits.samples c.args.self.now.nodes rows gone rs xs) (sym gives) update_dest;
        distinct = distinct;
        result = refl;
      };
    }

next-plan : (c : goal.After-apply-arg-1) → Feeding c.args.self.now c.loop-plan.self c.requires.planned.rows c.requires.planned.gone c.requires.planned.rules (c.in-Some.plan ∷ into_iter_items c.next.new.self)
next-plan c =
    subst (λ (xs : List DestinationPlan). Feeding c.args.self.now c.loop-plan.self c.requires.planned.rows c.requires.planned.gone c.requires.planned.rules xs) c.in-Some.ensures.steps.0
    (c.loop-plan.invariant.goes_on c.requires.planned.rows c.requires.planned.gone c.requires.planned.rules c.requires.planned.plans c.requires.planned.distinct)

pub apply-requires-clause-store : goal.apply-requires-clause-store
apply-requires-clause-store c = c.loop-plan.invariant.store

pub apply-requires-clause-ready : goal.apply-requires-clause-ready
apply-requires-clause-ready c =
    update_dest-ready c.args.self.now c.loop-plan.self c.loop-plan.invariant.store c.requires.planned.rows c.requires.planned.gone c.requires.planned.rules c.in-Some.plan (into_iter_items c.next.new.self)
    c.in-Some-change.series (next-plan c) c.in-Some-change.is

pub loop-plan-preserved-in-Some-change : goal.loop-plan-preserved-in-Some-change
loop-plan-preserved-in-Some-change c = record {
  store = c.apply.ensures.store;
  goes_on = λ rows gone rs update_dest distinct.
      update_dest-done c.args.self.now c.loop-plan.self c.loop-plan.invariant.store rows gone rs c.in-Some.plan (into_iter_items c.next.new.self) c.apply.new.self c.in-Some-change.series
      (subst (λ (xs : List DestinationPlan). Feeding c.args.self.now c.loop-plan.self rows gone rs xs) c.in-Some.ensures.steps.0 (c.loop-plan.invariant.goes_on rows gone rs update_dest distinct))
      c.in-Some-change.is c.apply.ensures.elsewhere c.apply.ensures.applied;
}

pub loop-plan-preserved : goal.loop-plan-preserved
loop-plan-preserved c = record {
  store = c.loop-plan.invariant.store;
  goes_on = λ rows gone rs update_dest distinct.
      update_dest-none c.args.self.now c.loop-plan.self c.loop-plan.invariant.store rows gone rs c.in-Some.plan (into_iter_items c.next.new.self)
      (subst (λ (xs : List DestinationPlan). Feeding c.args.self.now c.loop-plan.self rows gone rs xs) c.in-Some.ensures.steps.0 (c.loop-plan.invariant.goes_on rows gone rs update_dest distinct))
      c.in-None-change.is;
}

pub returns-clause-store : goal.returns-clause-store
returns-clause-store c = c.loop-plan.invariant.store

pub returns-clause-update_dest : goal.returns-clause-update_dest
returns-clause-update_dest c rows gone rs update_dest distinct =
    let none : into_iter_items c.loop-plan.plan-iterator ≡ [] = no-plans (into_iter_items c.loop-plan.plan-iterator) (omega (arith, c.in-None.ensures.steps.0, c.loop-plan.plan-iterator.rest.ok.0)) in
    update_dest-all c.args.self.now c.loop-plan.self rows gone rs
    (subst (λ (xs : List DestinationPlan). Feeding c.args.self.now c.loop-plan.self rows gone rs xs) none (c.loop-plan.invariant.goes_on rows gone rs update_dest distinct))
