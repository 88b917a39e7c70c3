use Rattle.std.proofs.Common.{List, [], ◌∷◌, get_or, refl, ◌∙◌, subst, arith}
use Rattle.std.specs.Prelude.{Ok}
use Rattle.ts_spec.specs.declared.wire.WireLimits.{WireLimits}
use Rattle.ts_spec.specs.Keyed.{Entry}
use Rattle.ts_spec.specs.StoredSeries.{StoredSeries}
use Rattle.ts_sample.specs.declared.sample.Id.{Id}
use Rattle.ts_execution.specs.Checkpoints.{WrittenSeries, IsEntry}
use Rattle.ts_execution.proofs.Drafting.{drafts-none, drafts-then}
use Rattle.ts_execution.proofs.StoredEntries.{next-entry, all-entries, live-entry, series-none, series-next}
use Rattle.ts_execution.proofs.checkpoint_records.RecordWriter.write_all_series.Goals as goal

pub loop-id-init : goal.loop-id-init
loop-id-init g c = record {
  written = series-none c.args.self.now.limits c.args.db.now (g.J.Log.drafted c.args.log.now);
  drafts = drafts-none _ (Ok tt) (λ e. absurd cc);
  limits = refl;
}

pub write_series-requires : goal.write_series-requires
write_series-requires g c =
    let db = c.args.db.now in
    live-entry db db.keys.entries c.loop-id.id-index _ (next-entry db c.args.ids.now c.loop-id.id-index (record { 0 = 0 }) c.requires (omega arith))

pub loop-id-preserved : goal.loop-id-preserved
loop-id-preserved g c =
    let db = c.args.db.now in
    let so_far = c.loop-id.invariant in
    let id : Id = get_or c.args.ids.now c.loop-id.id-index (record { 0 = 0 }) in
    let next = next-entry db c.args.ids.now c.loop-id.id-index (record { 0 = 0 }) c.requires (omega arith) in
    let Each : WireLimits → Type 0 =
    λ l. (e : Entry StoredSeries) → IsEntry db id e → WrittenSeries l db (e ∷ []) (g.J.Log.drafted c.loop-id.log) (g.J.Log.drafted c.write_series.new.log) in
    record {
      written = series-next db db.keys.entries c.loop-id.id-index id next so_far.written (subst Each so_far.limits c.in_ok-write_series.ensures.written);
      drafts = drafts-then {result = Ok tt} so_far.drafts c.in_ok-write_series.ensures.drafts;
      limits = c.in_ok-write_series.ensures.limits ∙ so_far.limits;
    }

pub returns-clause-written : goal.returns-clause-written
returns-clause-written g c =
    let db = c.args.db.now in
    subst
    (λ (l : List (Entry StoredSeries)). WrittenSeries c.args.self.now.limits db l (g.J.Log.drafted c.args.log.now) (g.J.Log.drafted c.loop-id.log))
    (all-entries db c.args.ids.now c.loop-id.id-index c.requires (omega arith)) c.loop-id.invariant.written
