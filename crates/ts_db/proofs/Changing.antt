-- The result of TS.ALTER.
use Rattle.std.proofs.Common.{◌≡◌, ◌≤◌, ℕ, true, false, List, length, sym, ◌∙◌, ap, subst, arith, nat_le}
use Rattle.std.specs.Prelude.{if◌then◌else◌, Option, None, Some}
use Rattle.std.specs.Option.{unwrap_or}
use Rattle.ts_spec.specs.Refusal as refusal
use Rattle.ts_spec.specs.Key.{Key}
use Rattle.ts_spec.specs.Keyed.{with_key}
use Rattle.ts_spec.specs.State.{Label, edge_of}
use Rattle.ts_spec.specs.StoredSeries.{StoredKeys}
use Rattle.ts_spec.specs.StoredKeys.{stored_altered, keys_changed}
use Rattle.ts_spec.specs.Command.{Change}
use Rattle.ts_spec.specs.Response.{Done}
use Rattle.ts_spec.specs.Step.{is_longer}
use Rattle.ts_spec.specs.StoredStep.{StoredOutcome, stored_refused, stored_alter_at, stored_alter}
use Rattle.ts_sample.specs.declared.sample.Id.{Id}
use Rattle.ts_series.specs.History.{list_of}
use Rattle.ts_series.specs.Plan.{Plan, after, alters, options_with, with_change}
use Rattle.ts_series.proofs.Counting.{times-length}
use Rattle.ts_db.specs.declared.node.Node.{Node}
use Rattle.ts_db.specs.declared.store.Store.{Store}
use Rattle.ts_db.specs.DbState.{AllowsOutOfMemory}
use Rattle.ts_db.specs.Store.{stored_node, db_view_of, contents_of, Contents, IsInOrder, Holds}
use Rattle.ts_db.specs.Answering.{node_after}
use Rattle.ts_db.proofs.Applying.{there}
use Rattle.ts_db.proofs.OneKey.{altered-alone}

-- ---- new options and labels

pub few-altered : (limit : ℕ) (labels : Option (List Label)) (old : List Label) → is_longer limit labels ≡ false → length old ≤ limit → length (unwrap_or labels old) ≤ limit
few-altered limit None old fits le = le
few-altered limit (Some labels) old fits le = grind (arith, fits)

-- a plan of new options leaves no more samples
pub altered-within : (n : Node) (plan : Plan) (c : Change) (limit : ℕ) → plan ≡ with_change plan (alters (options_with c.retention c.chunk_size c.policy c.ignore n.series.options)) → length (list_of n.series) ≤ limit
    → length (list_of (after plan n.series)) ≤ limit
altered-within n plan c limit is le =
    let fewer : length (list_of (after (alters (options_with c.retention c.chunk_size c.policy c.ignore n.series.options)) n.series)) ≤ length (list_of n.series) =
    times-length (nat_le (edge_of (unwrap_or c.retention n.series.options.retention) n.series.high)) n.series.samples in
    subst (λ (p : Plan). length (list_of (after p n.series)) ≤ limit) (sym is) (omega (arith, fewer, le))

module _ (s : Store) (store : IsInOrder s) (key : Key) (id : Id) (n : Node) (holds : Holds s key id n) where
  pub alter-longer : (c : Change) → is_longer s.limits.labels c.labels ≡ true → stored_alter s.limits (db_view_of s).keys key c ≡ stored_refused (db_view_of s).keys refusal.LabelsFull
  alter-longer c long =
      ap (stored_alter_at s.limits (db_view_of s).keys key c) (there s store key id n holds)
      ∙ ap (λ b. if b then stored_refused (db_view_of s).keys refusal.LabelsFull else record { keys = keys_changed key (stored_altered c) (db_view_of s).keys; response = Done }) long

  pub alter-yields : (c : Change) → is_longer s.limits.labels c.labels ≡ false → AllowsOutOfMemory (stored_alter s.limits (db_view_of s).keys key c).response
  alter-yields c fits =
      subst (λ (o : StoredOutcome). AllowsOutOfMemory o.response)
      (sym (ap (stored_alter_at s.limits (db_view_of s).keys key c) (there s store key id n holds)
      ∙ ap (λ b. if b then stored_refused (db_view_of s).keys refusal.LabelsFull else record { keys = keys_changed key (stored_altered c) (db_view_of s).keys; response = Done }) fits)) tt

  pub alter-answers : (c : Change) (plan : Plan) (new : Contents) → is_longer s.limits.labels c.labels ≡ false → plan ≡ with_change plan (alters (options_with c.retention c.chunk_size c.policy c.ignore n.series.options))
      → new ≡ record (contents_of s) { keys = with_key key (stored_node s.nodes (node_after plan c.labels None n)) (db_view_of s).keys }
      → stored_alter s.limits (db_view_of s).keys key c ≡ record { keys = new.keys; response = Done }
  alter-answers c plan new fits is applied =
      ap (stored_alter_at s.limits (db_view_of s).keys key c) (there s store key id n holds)
      ∙ ap (λ b. if b then stored_refused (db_view_of s).keys refusal.LabelsFull else record { keys = keys_changed key (stored_altered c) (db_view_of s).keys; response = Done }) fits
      ∙ ap (λ (m : StoredKeys). record { keys = m; response = Done })
      (altered-alone (db_view_of s).keys key (stored_node s.nodes n) c (there s store key id n holds)
      ∙ sym (ap (λ (x : Contents). x.keys) applied ∙ ap (λ (p : Plan). with_key key (stored_node s.nodes (node_after p c.labels None n)) (db_view_of s).keys) is))
