use Rattle.std.proofs.Common.{◌≡◌, ◌+◌, ℕ, List, [], ◌∷◌, ◌++◌, map, take, drop, sym, ◌∙◌, ap, subst, arith}
use Rattle.std.proofs.lemmas.List.{take_more, drop_more}
use Rattle.ts_spec.specs.StoredQueries.{stored_rule_info}
use Rattle.ts_rules.specs.declared.rule.Rule.{Rule}
use Rattle.ts_db.specs.declared.info.RuleInfo.{RuleInfo}
use Rattle.ts_db.specs.Information.{rule_info_of}
use Rattle.ts_db.specs.Store.{rules_by, key_in, AreLive}
use Rattle.ts_db.proofs.Infos.{told-more}
use Rattle.ts_db.proofs.store.Store.rule_infos.Goals as goal

pub rule_info-requires-clause-live : goal.rule_info-requires-clause-live
rule_info-requires-clause-live c =
    (subst (AreLive c.args.self.now.nodes)
    (drop_more c.args.rules.now c.loop-rule.rule-index c.rule-item.result c.loop-rule-test.true
    ∙ ap (λ (r : Rule). r ∷ drop (c.loop-rule.rule-index + 1) c.args.rules.now) (sym c.rule-item.is))
    c.loop-rule.invariant.live).0

pub loop-rule-preserved : goal.loop-rule-preserved
loop-rule-preserved c =
    let names = key_in c.args.self.now.nodes in
    let all = c.args.rules.now in
    let i : ℕ = c.loop-rule.rule-index in
    let r : Rule = c.rule-item.result in
    let so_far : take (i + 1) all ≡ take i all ++ r ∷ [] = take_more all i r c.loop-rule-test.true ∙ ap (λ (x : Rule). take i all ++ x ∷ []) (sym c.rule-item.is) in
    let left : drop i all ≡ r ∷ drop (i + 1) all = drop_more all i r c.loop-rule-test.true ∙ ap (λ (x : Rule). x ∷ drop (i + 1) all) (sym c.rule-item.is) in
    record {
      so_far = subst (λ (xs : List RuleInfo). map rule_info_of xs ≡ map stored_rule_info (rules_by names (take (i + 1) all))) (sym {A = List RuleInfo} c.push_reserved.ensures.items)
          (told-more names all c.loop-rule.infos.items i r c.in_ok-rule_info.field-0 so_far c.loop-rule.invariant.so_far c.in_ok-rule_info.ensures);
      live = (subst (AreLive c.args.self.now.nodes) left c.loop-rule.invariant.live).1;
      many = omega (arith, c.push_reserved.ensures.len, c.loop-rule.invariant.many);
      room = omega (arith, c.push_reserved.ensures.capacity, c.loop-rule.invariant.room);
    }
