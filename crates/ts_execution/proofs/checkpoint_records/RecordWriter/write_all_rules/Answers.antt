use Rattle.std.proofs.Common.{List, get_or, map, ◌∙◌, subst, arith}
use Rattle.std.specs.Prelude.{Ok}
use Rattle.ts_spec.specs.declared.wire.WireLimits.{WireLimits}
use Rattle.ts_spec.specs.Keyed.{Entry}
use Rattle.ts_spec.specs.StoredSeries.{StoredSeries}
use Rattle.ts_sample.specs.declared.sample.Id.{Id}
use Rattle.ts_restore.specs.Checkpoint.{parts_from, rule_parts}
use Rattle.ts_checkpoint.specs.Parts.{Rule}
use Rattle.ts_execution.specs.Checkpoints.{Written, IsEntry}
use Rattle.ts_execution.proofs.Drafting.{drafts-then}
use Rattle.ts_execution.proofs.StoredEntries.{next-entry, all-entries, live-entry, rules-next}
use Rattle.ts_execution.proofs.checkpoint_records.RecordWriter.write_all_rules.Goals as goal

pub write_rules-requires : goal.write_rules-requires
write_rules-requires g c =
    let db = c.args.db.now in
    live-entry db db.keys.entries c.loop-id.id-index _ (next-entry db c.args.ids.now c.loop-id.id-index (record { 0 = 0 }) c.requires (omega arith))

pub loop-id-preserved : goal.loop-id-preserved
loop-id-preserved g c =
    let db = c.args.db.now in
    let so_far = c.loop-id.invariant in
    let id : Id = get_or c.args.ids.now c.loop-id.id-index (record { 0 = 0 }) in
    let next = next-entry db c.args.ids.now c.loop-id.id-index (record { 0 = 0 }) c.requires (omega arith) in
    let Each : WireLimits → Type 0 =
    λ l. (e : Entry StoredSeries) → IsEntry db id e → Written l (g.J.Log.drafted c.loop-id.log) (g.J.Log.drafted c.write_rules.new.log) (map Rule (parts_from e.key e.value.rules)) in
    record {
      written = rules-next db db.keys.entries c.loop-id.id-index id next so_far.written (subst Each so_far.limits c.in_ok-write_rules.ensures.written);
      drafts = drafts-then {result = Ok tt} so_far.drafts c.in_ok-write_rules.ensures.drafts;
      limits = c.in_ok-write_rules.ensures.limits ∙ so_far.limits;
    }

pub returns-clause-written : goal.returns-clause-written
returns-clause-written g c =
    let db = c.args.db.now in
    subst
    (λ (l : List (Entry StoredSeries)). Written c.args.self.now.limits (g.J.Log.drafted c.args.log.now) (g.J.Log.drafted c.loop-id.log) (map Rule (rule_parts l)))
    (all-entries db c.args.ids.now c.loop-id.id-index c.requires (omega arith)) c.loop-id.invariant.written
