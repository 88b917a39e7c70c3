-- Deleting keys one after another.
use Rattle.std.proofs.Common.{◌≡◌, ◌+◌, ℕ, Bool, List, [], ◌∷◌, ◌∙◌, ap}
use Rattle.std.specs.Prelude.{is_some, if◌then◌else◌, Ok}
use Rattle.ts_spec.specs.Command.{Drop}
use Rattle.ts_spec.specs.Key.{Key}
use Rattle.ts_spec.specs.Keyed.{get}
use Rattle.ts_spec.specs.Response.{Count}
use Rattle.ts_spec.specs.Rules.{dropped}
use Rattle.ts_spec.specs.State.{State}
use Rattle.ts_spec.specs.Step.{drop_keys}
use Rattle.ts_spec.specs.StoredKeys.{keys_dropped}
use Rattle.ts_spec.specs.StoredSeries.{StoredKeys}
use Rattle.ts_spec.specs.StoredStep.{stored_drop_keys}
use Rattle.ts_spec.proofs.StoredSteps.{kept-step}
use Rattle.ts_db.specs.declared.store.Store.{Store}
use Rattle.ts_db.specs.DbState.{DbView, AnswersCount}
use Rattle.ts_db.specs.Store.{db_view_of, IsInOrder, IsDb}
use Rattle.ts_db.proofs.Laws.{drop-law, drop-leads}
use Rattle.ts_db.proofs.Lifting.{lifted-on}
use Rattle.ts_db.proofs.Refusing.{Refuses}

-- ---- one more key

module _ (old new : Store) (key : Key) (was : Bool) (there : was ≡ is_some (get key (db_view_of old).keys))
    (keys : (db_view_of new).keys ≡ (if is_some (get key (db_view_of old).keys) then keys_dropped key (db_view_of old).keys else (db_view_of old).keys)) where
  -- the store is still a database
  pub db-less : new.limits ≡ old.limits → IsDb old → IsInOrder new → IsDb new
  db-less limits db order = record {
    store = order;
    stands = drop-leads (db_view_of old) (db_view_of new) key was (drop-law (db_view_of old) (db_view_of new) key was there keys limits) db.stands;
  }

  -- and the remaining keys come to the same
  pub goes-on : (rest : List Key) (count after : ℕ) → after ≡ (if was then count + 1 else count)
      → stored_drop_keys (db_view_of new).keys after rest ≡ stored_drop_keys (db_view_of old).keys count (key ∷ rest)
  goes-on rest count after is =
      ap (λ (m : StoredKeys). stored_drop_keys m after rest) keys
      ∙ ap (λ (n : ℕ). stored_drop_keys (if is_some (get key (db_view_of old).keys) then keys_dropped key (db_view_of old).keys else (db_view_of old).keys) n rest)
      (is ∙ ap (λ (b : Bool). if b then count + 1 else count) there)

-- ---- all keys

-- a deletion of keys refuses nothing
drop_keys-refuses : (m now : State) (count : ℕ) (ks : List Key) → Refuses m (drop_keys now count ks)
drop_keys-refuses m now count [] r e = absurd (cc e)
drop_keys-refuses m now count (k ∷ ks) r e = drop_keys-refuses m (if is_some (get k now) then dropped k now else now) (if is_some (get k now) then count + 1 else count) ks r e

pub drop_keys-law : {db_view : DbView} (s new : Store) (view : db_view_of s ≡ db_view) (db : IsDb s) (order : IsInOrder new) (ks : List Key) (n : ℕ)
    → stored_drop_keys (db_view_of s).keys 0 ks ≡ record { keys = (db_view_of new).keys; response = Count n } → new.limits ≡ s.limits
    → IsDb new × AnswersCount db_view (λ h. drop_keys h.state 0 ks) (Ok n) (db_view_of new)
drop_keys-law s new view db order ks n is limits = lifted-on s new view db order (λ h. drop_keys h.state 0 ks) (stored_drop_keys (db_view_of s).keys 0 ks)
    (λ m st. record { is_step = kept-step s.limits m (db_view_of s).keys 0 (Drop ks) db.store.some_samples st; refuses = drop_keys-refuses m m 0 ks }) (λ x. Count x) (Ok n) (is, limits)
