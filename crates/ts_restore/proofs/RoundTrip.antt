-- The checkpoint of a valid state is valid, and restores to a state with the same stored data.
use Rattle.std.proofs.Common.{◌≡◌, ℕ, ◌≤◌, Some, sym, ap, ◌∙◌, subst}
use Rattle.ts_spec.specs.declared.limits.Limits.{Limits}
use Rattle.ts_spec.specs.Key.{Key}
use Rattle.ts_spec.specs.Keyed.{get}
use Rattle.ts_spec.specs.State.{State, link_to}
use Rattle.ts_spec.specs.Valid.{IsValid}
use Rattle.ts_spec.specs.StoredSeries.{StoredSeries, StoredKeys, stored_record, kept}
use Rattle.ts_spec.specs.Represents.{RepresentsState, AllHaveDurations}
use Rattle.ts_spec.proofs.Linked.{From, mapped-from}
use Rattle.ts_spec.proofs.StoredMaps.{get-kept, count-kept}
use Rattle.ts_restore.specs.Checkpoint.{series_part, rule_parts, checkpoint_of}
use Rattle.ts_restore.specs.Restored.{keys_with_all_rules, keys_of, state_of}
use Rattle.ts_restore.specs.Restorable.{IsSeries, AreNewRules, IsCheckpoint}
use Rattle.ts_restore.proofs.Entries.{each-entry}
use Rattle.ts_restore.proofs.Restoring.{represents-checkpoint}
use Rattle.ts_restore.proofs.RulesBack.{new-rules, keys-of-rules}
use Rattle.ts_restore.proofs.SeriesBack.{keys-of-series, new-series}
use Rattle.ts_restore.proofs.ShownSeries.{series-stored}

module _ (limits : Limits) (m : State) (v : IsValid limits m) (long : AllHaveDurations (kept m)) where
  one-series : (k : Key) (x : StoredSeries) → get k (kept m) ≡ Some x → IsSeries limits (series_part (record { key = k; value = x }))
  one-series k x e =
      let f : From (stored_record (link_to m k)) (get k m) x = mapped-from (stored_record (link_to m k)) (get k m) x (sym (get-kept m k) ∙ e) in
      subst (λ (y : StoredSeries). IsSeries limits (series_part (record { key = k; value = y }))) f.gives (series-stored limits m k f.value v f.is)

  pub valid-back : IsCheckpoint limits (checkpoint_of (kept m))
  valid-back = record {
    series = new-series limits (kept m) (subst (λ (n : ℕ). n ≤ limits.keys) (sym (count-kept m)) v.keys)
        (each-entry (λ k d. IsSeries limits (series_part (record { key = k; value = d }))) (kept m).entries (kept m).sorted one-series);
    rules = subst (λ (keys : StoredKeys). AreNewRules limits keys (rule_parts (kept m).entries)) (sym (keys-of-series (kept m))) (new-rules limits m v long);
  }

  keys-are-back : keys_of (checkpoint_of (kept m)) ≡ kept m
  keys-are-back = ap (keys_with_all_rules (rule_parts (kept m).entries)) (keys-of-series (kept m)) ∙ keys-of-rules limits m v long

  pub represents-back : RepresentsState limits (kept m) (state_of (checkpoint_of (kept m)))
  represents-back = subst (λ (keys : StoredKeys). RepresentsState limits keys (state_of (checkpoint_of (kept m)))) keys-are-back (represents-checkpoint limits (checkpoint_of (kept m)) valid-back)
