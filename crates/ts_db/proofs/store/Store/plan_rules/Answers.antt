use Rattle.std.proofs.Common.{rules, ◌≡◌, ◌+◌, ◌-◌, ℕ, length, List, [], ◌∷◌, ◌++◌, take, drop, sym, ◌∙◌, ap, subst, arith}
use Rattle.std.proofs.lemmas.List.{take_more, drop_more, take_all, length-drop}
use Rattle.std.specs.Prelude.{Option, None}
use Rattle.ts_sample.specs.declared.sample.Id.{Id}
use Rattle.ts_rules.specs.declared.rule.Rule.{Rule}
use Rattle.ts_db.specs.declared.store.DestinationPlan.{DestinationPlan}
use Rattle.ts_db.specs.Store.{AreLive}
use Rattle.ts_db.specs.Planning.{changed_by, gone_by, rows_by_change, AllHaveCountCapacity, AreChanged, AreDestinationsUpdatedBy, first_full, IsRulePlanFault, IsPlanFault, shares_of, AreEasyOf, HasCapacityForRules}
use Rattle.ts_db.proofs.Planned.{shared-first}
use Rattle.ts_db.proofs.Plans.{full-past, update_dest-more, changed-more}
use Rattle.ts_db.proofs.store.Store.plan_rules.Goals as goal

pub plan_next-requires-clause-live : goal.plan_next-requires-clause-live
plan_next-requires-clause-live g c =
    (subst (AreLive c.args.self.now.nodes)
    (drop_more c.args.rules.now c.loop-rule.rule-index c.rule-item.result c.loop-rule-test.true
    ∙ ap (λ (r : Rule). r ∷ drop (c.loop-rule.rule-index + 1) c.args.rules.now) (sym c.rule-item.is))
    c.loop-rule.invariant.live).0

pub loop-rule-init : goal.loop-rule-init
loop-rule-init g c = record {
  changed = search rules;
  update_dest = search rules;
  fit = search rules;
  live = c.requires.live;
  shared = shared-first c.args.work.now c.args.source.now c.new-shared.result c.new-shared.ensures;
  takes = c.requires.room;
  many = search rules;
  room = search rules;
  counted = search rules;
  steps = search rules;
  easy = search rules;
}

pub loop-rule-preserved : goal.loop-rule-preserved
loop-rule-preserved g c =
    let limit = c.args.self.now.limits.samples in
    let nodes = c.args.self.now.nodes in
    let work = c.args.work.now in
    let source = c.args.source.now in
    let all = c.args.rules.now in
    let i : ℕ = c.loop-rule.rule-index in
    let r : Rule = c.rule-item.result in
    let so_far : take (i + 1) all ≡ take i all ++ r ∷ [] = take_more all i r c.loop-rule-test.true ∙ ap (λ (x : Rule). take i all ++ x ∷ []) (sym c.rule-item.is) in
    let left : drop i all ≡ r ∷ drop (i + 1) all = drop_more all i r c.loop-rule-test.true ∙ ap (λ (x : Rule). x ∷ drop (i + 1) all) (sym c.rule-item.is) in
    record {
      changed = subst (λ (rs : List Rule). AreChanged (changed_by work source) rs c.push.new.self.rules.items) (sym so_far)
          (subst (λ (xs : List Rule). AreChanged (changed_by work source) (take i all ++ r ∷ []) xs) (sym c.push.ensures.rules)
          (changed-more (changed_by work source) (take i all) c.loop-rule.planned.rules.items r _ c.loop-rule.invariant.changed c.in-Ok-plan_next.ensures.changed));
      update_dest = subst (λ (rs : List Rule). AreDestinationsUpdatedBy limit nodes (rows_by_change work source) (gone_by work source) rs c.push.new.self.plans.items) (sym so_far)
          (subst (λ (xs : List DestinationPlan). AreDestinationsUpdatedBy limit nodes (rows_by_change work source) (gone_by work source) (take i all ++ r ∷ []) xs) (sym c.push.ensures.plans)
          (update_dest-more limit nodes (rows_by_change work source) (gone_by work source) (take i all) c.loop-rule.planned.plans.items r _ c.loop-rule.invariant.update_dest c.in-Ok-plan_next.ensures.update_dest));
      fit = sym (ap (first_full limit nodes (rows_by_change work source) (gone_by work source)) left
          ∙ full-past limit nodes (rows_by_change work source) (gone_by work source) r (drop (i + 1) all) c.in-Ok-plan_next.ensures.fits) ∙ c.loop-rule.invariant.fit;
      live = (subst (AreLive nodes) left c.loop-rule.invariant.live).1;
      shared = c.plan_next.ensures.shared;
      takes = (subst (AllHaveCountCapacity work source) left c.loop-rule.invariant.takes).1;
      many = c.push.ensures.one ∙ ap (λ (n : ℕ). n + 1) c.loop-rule.invariant.many;
      room = c.push.ensures.room (length (drop (i + 1) all)) (subst (λ (rs : List Rule). HasCapacityForRules (length rs) c.loop-rule.planned) left c.loop-rule.invariant.room);
      counted = omega (arith, c.plan_next.ensures.steps.counted, c.loop-rule.invariant.counted);
      steps = omega (arith, c.plan_next.ensures.steps.bounded, c.loop-rule.invariant.steps, ap (shares_of nodes work source) left);
      easy = λ all_easy. (
        c.plan_next.ensures.easy (subst (AreEasyOf limit nodes work source) left (c.loop-rule.invariant.easy all_easy).1).0 ∙ (c.loop-rule.invariant.easy all_easy).0,
        (subst (AreEasyOf limit nodes work source) left (c.loop-rule.invariant.easy all_easy).1).1,
      );
    }

pub returns-in-Err-Memory-clause-refused : goal.returns-in-Err-Memory-clause-refused
returns-in-Err-Memory-clause-refused g c =
    let work = c.args.work.now in
    let source = c.args.source.now in
    let all = c.args.rules.now in
    let i : ℕ = c.loop-rule.rule-index in
    let r : Rule = c.rule-item.result in
    let left : drop i all ≡ r ∷ drop (i + 1) all = drop_more all i r c.loop-rule-test.true ∙ ap (λ (x : Rule). x ∷ drop (i + 1) all) (sym c.rule-item.is) in
    let so_far : c.len.result ≡ i = omega (arith, c.len.ensures, c.loop-rule.invariant.many) in
    let first : List Rule → Option Id = first_full c.args.self.now.limits.samples c.args.self.now.nodes (rows_by_change work source) (gone_by work source) in
    let none : first (r ∷ []) ≡ None =
    subst (IsRulePlanFault r (first (r ∷ []))) c.in-Err-Memory.field-0-is c.in-Err-Memory.ensures.refused in
    subst (λ (full : Option Id). IsPlanFault full c.plan_fault-in-Err-Memory.result)
    (sym (sym c.loop-rule.invariant.fit ∙ ap first left
    ∙ full-past c.args.self.now.limits.samples c.args.self.now.nodes (rows_by_change work source) (gone_by work source) r (drop (i + 1) all) none
    ∙ ap (λ k. first (drop (k + 1) all)) (sym so_far)
    ∙ ap first (sym (take_all (length all - (c.len.result + 1)) (drop (c.len.result + 1) all) (omega (arith, length-drop (c.len.result + 1) all))))))
    c.plan_fault-in-Err-Memory.ensures.refused

pub returns-in-Err-clause-refused : goal.returns-in-Err-clause-refused
returns-in-Err-clause-refused g c = c.plan_fault.ensures.refused

pub returns-in-Err-clause-steps : goal.returns-in-Err-clause-steps
returns-in-Err-clause-steps g c = c.plan_fault.ensures.steps

pub returns-in-Err-clause-easy : goal.returns-in-Err-clause-easy
returns-in-Err-clause-easy g c = c.plan_fault.ensures.easy

pub returns-in-Err-Full-clause-steps : goal.returns-in-Err-Full-clause-steps
returns-in-Err-Full-clause-steps g c =
    let all = c.args.rules.now in
    let i : ℕ = c.loop-rule.rule-index in
    let r : Rule = c.rule-item.result in
    let left : drop i all ≡ r ∷ drop (i + 1) all = drop_more all i r c.loop-rule-test.true ∙ ap (λ (x : Rule). x ∷ drop (i + 1) all) (sym c.rule-item.is) in
    record {
      counted = omega (arith, c.plan_next.ensures.steps.counted, c.loop-rule.invariant.counted);
      bounded = omega (arith, c.plan_next.ensures.steps.bounded, c.loop-rule.invariant.steps, ap (shares_of c.args.self.now.nodes c.args.work.now c.args.source.now) left);
    }

pub returns-in-Err-Full-clause-easy : goal.returns-in-Err-Full-clause-easy
returns-in-Err-Full-clause-easy g c =
    let all = c.args.rules.now in
    let i : ℕ = c.loop-rule.rule-index in
    let r : Rule = c.rule-item.result in
    let left : drop i all ≡ r ∷ drop (i + 1) all = drop_more all i r c.loop-rule-test.true ∙ ap (λ (x : Rule). x ∷ drop (i + 1) all) (sym c.rule-item.is) in
    λ all_easy. c.plan_next.ensures.easy (subst (AreEasyOf c.args.self.now.limits.samples c.args.self.now.nodes c.args.work.now c.args.source.now) left (c.loop-rule.invariant.easy all_easy).1).0
    ∙ (c.loop-rule.invariant.easy all_easy).0

pub returns-in-Err-Memory-clause-steps : goal.returns-in-Err-Memory-clause-steps
returns-in-Err-Memory-clause-steps g c =
    let all = c.args.rules.now in
    let i : ℕ = c.loop-rule.rule-index in
    let r : Rule = c.rule-item.result in
    let shares : List Rule → ℕ = shares_of c.args.self.now.nodes c.args.work.now c.args.source.now in
    let left : drop i all ≡ r ∷ drop (i + 1) all = drop_more all i r c.loop-rule-test.true ∙ ap (λ (x : Rule). x ∷ drop (i + 1) all) (sym c.rule-item.is) in
    let so_far : c.len.result ≡ i = omega (arith, c.len.ensures, c.loop-rule.invariant.many) in
    let rest : take (length all - (c.len.result + 1)) (drop (c.len.result + 1) all) ≡ drop (i + 1) all =
    take_all (length all - (c.len.result + 1)) (drop (c.len.result + 1) all) (omega (arith, length-drop (c.len.result + 1) all)) ∙ ap (λ (k : ℕ). drop (k + 1) all) so_far in
    record {
      counted = omega (arith, c.plan_next.ensures.steps.counted, c.plan_fault-in-Err-Memory.ensures.steps.counted, c.loop-rule.invariant.counted);
      bounded = omega (arith, c.plan_next.ensures.steps.bounded, c.plan_fault-in-Err-Memory.ensures.steps.bounded, c.loop-rule.invariant.steps, ap shares left, ap shares rest);
    }

pub returns-in-Err-Memory-clause-easy : goal.returns-in-Err-Memory-clause-easy
returns-in-Err-Memory-clause-easy g c =
    let all = c.args.rules.now in
    let i : ℕ = c.loop-rule.rule-index in
    let r : Rule = c.rule-item.result in
    let AreEasy : List Rule → Type 0 = AreEasyOf c.args.self.now.limits.samples c.args.self.now.nodes c.args.work.now c.args.source.now in
    let left : drop i all ≡ r ∷ drop (i + 1) all = drop_more all i r c.loop-rule-test.true ∙ ap (λ (x : Rule). x ∷ drop (i + 1) all) (sym c.rule-item.is) in
    let so_far : c.len.result ≡ i = omega (arith, c.len.ensures, c.loop-rule.invariant.many) in
    let rest : take (length all - (c.len.result + 1)) (drop (c.len.result + 1) all) ≡ drop (i + 1) all =
    take_all (length all - (c.len.result + 1)) (drop (c.len.result + 1) all) (omega (arith, length-drop (c.len.result + 1) all)) ∙ ap (λ (k : ℕ). drop (k + 1) all) so_far in
    λ all_easy.
    let easy : AreEasy (r ∷ drop (i + 1) all) = subst AreEasy left (c.loop-rule.invariant.easy all_easy).1 in
    c.plan_fault-in-Err-Memory.ensures.easy (subst AreEasy (sym rest) easy.1) ∙ c.plan_next.ensures.easy easy.0 ∙ (c.loop-rule.invariant.easy all_easy).0

pub returns-clause-steps : goal.returns-clause-steps
returns-clause-steps g c = record {
  counted = c.loop-rule.invariant.counted;
  bounded = omega (arith, c.loop-rule.invariant.steps);
}

pub returns-clause-easy : goal.returns-clause-easy
returns-clause-easy g c = λ all_easy. (c.loop-rule.invariant.easy all_easy).0
