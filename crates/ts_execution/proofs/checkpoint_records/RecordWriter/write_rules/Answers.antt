use Rattle.std.proofs.Common.{◌≡◌, List, [], ◌∷◌, take, map, ◌∙◌, ap, subst, arith}
use Rattle.std.proofs.lemmas.List.{take_all}
use Rattle.std.specs.Prelude.{Ok}
use Rattle.ts_spec.specs.declared.wire.WireLimits.{WireLimits}
use Rattle.ts_spec.specs.StoredSeries.{StoredRule}
use Rattle.ts_spec.specs.Key.{Key}
use Rattle.ts_checkpoint.specs.Parts.{Rule}
use Rattle.ts_db.specs.Faults.{key_of_id}
use Rattle.ts_restore.specs.Checkpoint.{parts_from}
use Rattle.ts_rules.specs.declared.rule.Rule.{Rule as TheRule}
use Rattle.ts_rules.specs.Rules.{stored_rule_for}
use Rattle.ts_execution.specs.Checkpoints.{Written}
use Rattle.ts_execution.proofs.Drafting.{drafts-then}
use Rattle.ts_execution.proofs.StoredEntries.{rule-next, rules-same}
use Rattle.ts_execution.proofs.checkpoint_records.RecordWriter.write_rules.Goals as goal

pub loop-rule-preserved : goal.loop-rule-preserved
loop-rule-preserved g c =
    let so_far = c.loop-rule.invariant in
    let key = c.key_of-source.result.now in
    let stored : TheRule → StoredRule = λ r. stored_rule_for (key_of_id c.args.db.now.ids r.dest) r in
    let rs = c.rules_of-rule-items.result.now in
    let r = c.rule-item.result in
    let one = subst
    (λ (limits : WireLimits). Written limits (g.J.Log.drafted c.loop-rule.log) (g.J.Log.drafted c.write_rule.new.log) (Rule (record { source = key; rule = stored r }) ∷ []))
    so_far.limits c.in_ok-write_rule.ensures.written in
    record {
      written = rule-next key stored rs c.loop-rule.rule-index r (omega arith) c.rule-item.is so_far.written one;
      drafts = drafts-then {result = Ok tt} so_far.drafts c.in_ok-write_rule.ensures.drafts;
      limits = c.in_ok-write_rule.ensures.limits ∙ so_far.limits;
    }

pub returns-clause-written : goal.returns-clause-written
returns-clause-written g c = λ e is. (
    let rs = c.rules_of-rule-items.result.now in
    let stored : TheRule → StoredRule = λ r. stored_rule_for (key_of_id c.args.db.now.ids r.dest) r in
    let all : take c.loop-rule.rule-index rs ≡ rs = take_all c.loop-rule.rule-index rs (omega arith) in
    let key : c.key_of-source.result.now ≡ e.key = c.key_of-source.ensures.key ∙ c.key_of-source.ensures.one e.key is.numbered in
    let rules : map stored (take c.loop-rule.rule-index rs) ≡ e.value.rules =
    ap (λ (l : List TheRule). map stored l) all ∙ rules-same c.args.db.now e rs is.there (c.rules_of-rule-items.ensures.stored e.key is.numbered) in
    let written : Key → List StoredRule → Type 0 =
    λ k qs. Written c.args.self.now.limits (g.J.Log.drafted c.args.log.now) (g.J.Log.drafted c.loop-rule.log) (map Rule (parts_from k qs)) in
    subst (λ (k : Key). written k e.value.rules) key (subst (λ (qs : List StoredRule). written c.key_of-source.result.now qs) rules c.loop-rule.invariant.written))
