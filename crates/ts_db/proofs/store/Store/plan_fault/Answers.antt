use Rattle.std.proofs.Common.{◌≡◌, ◌+◌, ℕ, ◌∷◌, drop, refl, sym, ◌∙◌, ap, subst, arith, if◌then◌else◌}
use Rattle.std.specs.Prelude.{Some}
use Rattle.std.proofs.lemmas.List.{drop_more}
use Rattle.ts_rules.specs.declared.rule.Rule.{Rule}
use Rattle.ts_db.specs.Store.{AreLive}
use Rattle.ts_db.specs.Planning.{gone_by, rows_by_change, AllHaveCountCapacity, first_full, IsPlanFault, shares_of, AreEasyOf}
use Rattle.ts_db.proofs.store.Store.plan_fault.Goals as goal

pub overfills-requires-clause-live : goal.overfills-requires-clause-live
overfills-requires-clause-live g c =
    (subst (AreLive c.args.self.now.nodes)
    (drop_more c.args.rules.now c.loop-rule.rule-index c.rule-item.result c.loop-rule-test.true
    ∙ ap (λ (r : Rule). r ∷ drop (c.loop-rule.rule-index + 1) c.args.rules.now) (sym c.rule-item.is))
    c.loop-rule.invariant.live).0

pub loop-rule-preserved : goal.loop-rule-preserved
loop-rule-preserved g c =
    let limit = c.args.self.now.limits.samples in
    let nodes = c.args.self.now.nodes in
    let work = c.args.work.now in
    let source = c.args.source.now in
    let all = c.args.rules.now in
    let i : ℕ = c.loop-rule.rule-index in
    let r : Rule = c.rule-item.result in
    let left : drop i all ≡ r ∷ drop (i + 1) all = drop_more all i r c.loop-rule-test.true ∙ ap (λ (x : Rule). x ∷ drop (i + 1) all) (sym c.rule-item.is) in
    record {
      fit = sym (ap (first_full limit nodes (rows_by_change work source) (gone_by work source)) left
          ∙ ap (λ b. if b then Some r.dest else first_full limit nodes (rows_by_change work source) (gone_by work source) (drop (i + 1) all)) (sym c.overfills.ensures.full ∙ c.if-overfills.false))
          ∙ c.loop-rule.invariant.fit;
      live = (subst (AreLive nodes) left c.loop-rule.invariant.live).1;
      takes = (subst (AllHaveCountCapacity work source) left c.loop-rule.invariant.takes).1;
      counted = omega (arith, c.overfills.ensures.steps.counted, c.loop-rule.invariant.counted);
      steps = omega (arith, c.overfills.ensures.steps.bounded, c.loop-rule.invariant.steps, ap (shares_of nodes work source) left);
      easy = λ all_easy. (
        c.overfills.ensures.easy (subst (AreEasyOf limit nodes work source) left (c.loop-rule.invariant.easy all_easy).1).0 ∙ (c.loop-rule.invariant.easy all_easy).0,
        (subst (AreEasyOf limit nodes work source) left (c.loop-rule.invariant.easy all_easy).1).1,
      );
    }

pub returns-then-overfills-clause-refused : goal.returns-then-overfills-clause-refused
returns-then-overfills-clause-refused g c =
    let limit = c.args.self.now.limits.samples in
    let nodes = c.args.self.now.nodes in
    let work = c.args.work.now in
    let source = c.args.source.now in
    let all = c.args.rules.now in
    let i : ℕ = c.loop-rule.rule-index in
    let r : Rule = c.rule-item.result in
    let left : drop i all ≡ r ∷ drop (i + 1) all = drop_more all i r c.loop-rule-test.true ∙ ap (λ (x : Rule). x ∷ drop (i + 1) all) (sym c.rule-item.is) in
    let full : first_full limit nodes (rows_by_change work source) (gone_by work source) all ≡ Some r.dest =
    sym c.loop-rule.invariant.fit ∙ ap (first_full limit nodes (rows_by_change work source) (gone_by work source)) left
    ∙ ap (λ b. if b then Some r.dest else first_full limit nodes (rows_by_change work source) (gone_by work source) (drop (i + 1) all)) (sym c.overfills.ensures.full ∙ c.if-overfills.true) in
    subst (IsPlanFault (first_full limit nodes (rows_by_change work source) (gone_by work source) all)) (sym c.full_at.ensures) (refl, full)
