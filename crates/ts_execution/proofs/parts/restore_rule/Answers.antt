use Rattle.std.proofs.Common.{◌≡◌, sym, ap, subst}
use Rattle.std.proofs.lemmas.Bool.{false≢true}
use Rattle.ts_spec.specs.Aggregate.{Summary}
use Rattle.ts_db.specs.DbState.{Simulates}
use Rattle.ts_restore.specs.Checkpoint.{RulePart}
use Rattle.ts_restore.specs.Restorable.{IsNewRule}
use Rattle.ts_restore.specs.Restored.{with_restored_rule}
use Rattle.ts_checkpoint.specs.Checks.{is_new_rule}
use Rattle.ts_checkpoint.specs.Loading.{with_rule}
use Rattle.ts_checkpoint.specs.Parts.{rule_of}
use Rattle.ts_execution.specs.Stages.{GivesRestored}
use Rattle.ts_execution.specs.declared.parts.PartResult.{PartResult}
use Rattle.ts_execution.proofs.StoredParts.{stored-by, never-new}
use Rattle.ts_execution.proofs.parts.restore_rule.Goals as goal

pub returns-in-None : goal.returns-in-None
returns-in-None g c =
    let p : RulePart = rule_of c.args.rule in
    never-new (λ limits keys. is_new_rule limits keys p) (λ limits keys. IsNewRule limits keys p) (λ limits keys. c.checks_are_exact.ensures.rule limits keys p) (with_restored_rule p)
    c.args.db.now (λ limits keys new. false≢true (c.in-None.ensures.valid.1 (c.new_rules_have_short_summaries.ensures limits keys p new c.known.ensures)))

pub returns : goal.returns
returns g c =
    let r = c.args.rule in
    let p : RulePart = record {
      source = r.source;
      rule = record { dest = r.dest; agg = r.agg; grid = r.grid; made = r.made; current = r.current; running = c.in-Some.running };
    } in
    let made = c.restore_rule.ensures in
    let same : p ≡ rule_of r = ap (λ (s : Summary). record { source = r.source; rule = record { dest = r.dest; agg = r.agg; grid = r.grid; made = r.made; current = r.current; running = s } }) c.in-Some.ensures.value in
    subst (λ (q : RulePart). Simulates c.args.db.now c.restore_rule.new.self (λ from to. GivesRestored c.part_result.result (with_rule from.limits from.state q) from to)) same
    (subst (λ (o : PartResult). Simulates c.args.db.now c.restore_rule.new.self (λ from to. GivesRestored o (with_rule from.limits from.state p) from to)) (sym c.part_result.ensures)
    (stored-by (λ limits keys. is_new_rule limits keys p) (λ limits keys. IsNewRule limits keys p) (λ limits keys. c.checks_are_exact.ensures.rule limits keys p) (with_restored_rule p)
    c.args.db.now c.restore_rule.new.self c.restore_rule.result made.valid made.refused made.each))
