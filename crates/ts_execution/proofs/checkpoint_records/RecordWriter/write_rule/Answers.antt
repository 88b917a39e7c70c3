use Rattle.std.proofs.Common.{◌≡◌, [], ◌∷◌, ◌∙◌, subst}
use Rattle.std.specs.Prelude.{OnOk}
use Rattle.ts_checkpoint.specs.Parts.{Part, Rule}
use Rattle.ts_restore.specs.Summaries.{summary_of}
use Rattle.ts_db.specs.Faults.{key_of_id}
use Rattle.ts_rules.specs.Rules.{stored_rule_for}
use Rattle.ts_execution.specs.Checkpoints.{Written}
use Rattle.ts_execution.proofs.Drafting.{one-written}
use Rattle.ts_execution.proofs.checkpoint_records.RecordWriter.write_rule.Goals as goal

pub returns-clause-written : goal.returns-clause-written
returns-clause-written g c =
    let r = c.args.rule.now in
    let p : Part = Rule (record {
      source = c.in_ok-copy.field-0;
      rule = record {
        dest = c.in_ok-copy-2.field-0;
        agg = r.agg;
        grid = r.grid;
        made = r.made;
        current = r.current;
        running = summary_of c.parts.result;
      };
    }) in
    let same : p ≡ Rule (record { source = c.args.source.now; rule = stored_rule_for (key_of_id c.args.db.now.ids r.dest) r }) =
    λ i. Rule (record {
      source = c.in_ok-copy.ensures.bytes i;
      rule = record {
        dest = (c.in_ok-copy-2.ensures.bytes ∙ c.key_of.ensures.key) i;
        agg = r.agg;
        grid = r.grid;
        made = r.made;
        current = r.current;
        running = c.parts.ensures.value i;
      };
    }) in
    subst
    (λ (q : Part). OnOk c.write.result (Written c.args.self.now.limits (g.J.Log.drafted c.args.log.now) (g.J.Log.drafted c.write.new.log) (q ∷ [])))
    same
    (one-written _ _ _ c.write.result _ _ p c.write.ensures.written c.deref.ensures.value c.in_ok-words.ensures (c.rule_reads_back.ensures.0 c.if-not-rule_reads_back.false))
