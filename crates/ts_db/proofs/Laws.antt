-- Operations on a store answer as the steps of each represented state do.
use Rattle.std.proofs.Common.{◌≡◌, ℕ, ℤ, Bool, true, false, List, sym, ◌∙◌, ap, subst}
use Rattle.std.specs.Prelude.{⊤, nat_le, Option, is_some, if◌then◌else◌, Result, Ok, Err, IfOk}
use Rattle.ts_spec.specs.declared.limits.Limits.{Limits}
use Rattle.ts_spec.specs.declared.series.Policy.{Policy}
use Rattle.ts_spec.specs.declared.bucket.Aggregator.{Aggregator}
use Rattle.ts_spec.specs.Bucket.{Grid}
use Rattle.ts_spec.specs.Key.{Key}
use Rattle.ts_spec.specs.Keyed.{get, count_keys}
use Rattle.ts_spec.specs.State.{State}
use Rattle.ts_spec.specs.Command.{Spec, Change, Create, Alter, CreateRule, DeleteRule}
use Rattle.ts_spec.specs.Rules.{dropped}
use Rattle.ts_spec.specs.Response.{Done, Count}
use Rattle.ts_spec.specs.Step.{create, alter, add, incr, delete, create_rule, delete_rule}
use Rattle.ts_spec.specs.Queries.{asked, info_response, labels_at}
use Rattle.ts_spec.specs.Filter.{Filter, selection}
use Rattle.ts_spec.specs.Totals.{total_shown}
use Rattle.ts_spec.specs.StoredSeries.{StoredKeys}
use Rattle.ts_spec.specs.StoredStep.{stored_create, stored_alter, stored_add, stored_incr, stored_delete, stored_create_rule, stored_delete_rule}
use Rattle.ts_spec.specs.StoredQueries.{stored_asked, stored_info_response, stored_labels_at, stored_selection}
use Rattle.ts_spec.specs.StoredKeys.{keys_dropped}
use Rattle.ts_spec.specs.Represents.{RepresentsState}
use Rattle.ts_spec.proofs.StoredSteps.{kept-step}
use Rattle.ts_spec.proofs.WriteSteps.{add-step, incr-step}
use Rattle.ts_spec.proofs.DeleteStep.{delete-step}
use Rattle.ts_spec.proofs.StoredEnds.{kept-dropped}
use Rattle.ts_spec.proofs.KeysGo.{valid-dropped}
use Rattle.ts_spec.proofs.StoredMaps.{some-kept, count-kept}
use Rattle.ts_spec.proofs.StoredAsked.{asked-kept, info-kept, labels-kept, selection-kept}
use Rattle.ts_sample.specs.declared.sample.Id.{Id}
use Rattle.ts_db.specs.declared.fault.DbFault.{DbFault}
use Rattle.ts_db.specs.declared.store.Store.{Store}
use Rattle.ts_db.specs.Store.{db_view_of, IsInOrder, IsDb}
use Rattle.ts_db.specs.DbState.{DbState, DbView, Represents, RepresentsSome, AnswersDone, AnswersCount, Drops, AreIdsOf}
use Rattle.ts_db.specs.Answering.{StoredDone, StoredCount}
use Rattle.ts_db.specs.Totals.{total_of}
use Rattle.ts_db.proofs.ShownTotals.{total-kept}
use Rattle.ts_db.proofs.Refusing.{create-refuses, alter-refuses, add-refuses, incr-refuses, delete-refuses, create_rule-refuses, delete_rule-refuses}
use Rattle.ts_db.proofs.Lifting.{at-limits, lifted-on}

module _ {db_view : DbView} (s new : Store) (view : db_view_of s ≡ db_view) (db : IsDb s) (order : IsInOrder new) where
  pub create-law : (key : Key) (spec : Spec) (r : Result (Unit {0}) DbFault) → StoredDone (db_view_of s) (stored_create s.limits (db_view_of s).keys key spec) r (db_view_of new)
      → IsDb new × AnswersDone db_view (λ h. create h.limits h.state key spec) r (db_view_of new)
  create-law key spec = lifted-on s new view db order (λ h. create h.limits h.state key spec) (stored_create s.limits (db_view_of s).keys key spec)
      (λ m st. record { is_step = kept-step s.limits m (db_view_of s).keys 0 (Create key spec) db.store.some_samples st; refuses = create-refuses s.limits m key spec }) (λ x. Done)

  pub alter-law : (key : Key) (c : Change) (r : Result (Unit {0}) DbFault) → StoredDone (db_view_of s) (stored_alter s.limits (db_view_of s).keys key c) r (db_view_of new)
      → IsDb new × AnswersDone db_view (λ h. alter h.limits h.state key c) r (db_view_of new)
  alter-law key c = lifted-on s new view db order (λ h. alter h.limits h.state key c) (stored_alter s.limits (db_view_of s).keys key c)
      (λ m st. record { is_step = kept-step s.limits m (db_view_of s).keys 0 (Alter key c) db.store.some_samples st; refuses = alter-refuses s.limits m key c (get key m) }) (λ x. Done)

  pub add-law : (key : Key) (t : ℕ) (v : ℤ) (on : Option Policy) (spec : Spec) (r : Result ℕ DbFault) → StoredCount (db_view_of s) (stored_add s.limits (db_view_of s).keys key t v on spec) r (db_view_of new)
      → IsDb new × AnswersCount db_view (λ h. add h.limits h.state key t v on spec) r (db_view_of new)
  add-law key t v on spec = lifted-on s new view db order (λ h. add h.limits h.state key t v on spec) (stored_add s.limits (db_view_of s).keys key t v on spec)
      (λ m st. record { is_step = add-step s.limits (db_view_of s).keys m key t v on spec db.store.some_samples st; refuses = add-refuses s.limits m key t v on spec (get key m) }) (λ x. Count x)

  pub incr-law : (key : Key) (x : ℤ) (t : ℕ) (spec : Spec) (r : Result ℕ DbFault) → StoredCount (db_view_of s) (stored_incr s.limits (db_view_of s).keys key x t spec) r (db_view_of new)
      → IsDb new × AnswersCount db_view (λ h. incr h.limits h.state key x t spec) r (db_view_of new)
  incr-law key x t spec = lifted-on s new view db order (λ h. incr h.limits h.state key x t spec) (stored_incr s.limits (db_view_of s).keys key x t spec)
      (λ m st. record { is_step = incr-step s.limits (db_view_of s).keys m key x t spec db.store.some_samples st; refuses = incr-refuses s.limits m key x t spec (get key m) }) (λ x. Count x)

  pub delete-law : (key : Key) (from to : ℕ) (r : Result ℕ DbFault) → StoredCount (db_view_of s) (stored_delete s.limits (db_view_of s).keys key from to) r (db_view_of new)
      → IsDb new × AnswersCount db_view (λ h. delete h.limits h.state key from to) r (db_view_of new)
  delete-law key from to = lifted-on s new view db order (λ h. delete h.limits h.state key from to) (stored_delete s.limits (db_view_of s).keys key from to)
      (λ m st. record { is_step = delete-step s.limits (db_view_of s).keys m key from to st; refuses = delete-refuses s.limits m key from to (get key m) }) (λ x. Count x)

  pub create_rule-law : (source dest : Key) (agg : Aggregator) (grid : Grid) (r : Result (Unit {0}) DbFault) → StoredDone (db_view_of s) (stored_create_rule s.limits (db_view_of s).keys source dest agg grid) r (db_view_of new)
      → IsDb new × AnswersDone db_view (λ h. create_rule h.limits h.state source dest agg grid) r (db_view_of new)
  create_rule-law source dest agg grid = lifted-on s new view db order (λ h. create_rule h.limits h.state source dest agg grid) (stored_create_rule s.limits (db_view_of s).keys source dest agg grid)
      (λ m st. record { is_step = kept-step s.limits m (db_view_of s).keys 0 (CreateRule source dest agg grid) db.store.some_samples st; refuses = create_rule-refuses s.limits m source dest agg grid }) (λ x. Done)

  pub delete_rule-law : (source dest : Key) (r : Result (Unit {0}) DbFault) → StoredDone (db_view_of s) (stored_delete_rule (db_view_of s).keys source dest) r (db_view_of new)
      → IsDb new × AnswersDone db_view (λ h. delete_rule h.state source dest) r (db_view_of new)
  delete_rule-law source dest = lifted-on s new view db order (λ h. delete_rule h.state source dest) (stored_delete_rule (db_view_of s).keys source dest)
      (λ m st. record { is_step = kept-step s.limits m (db_view_of s).keys 0 (DeleteRule source dest) db.store.some_samples st; refuses = delete_rule-refuses m source dest (get source m) }) (λ x. Done)

-- a key is there exactly where it is in each state that is represented
pub there-law : (db_view : DbView) (key : Key) (was : Bool) → was ≡ is_some (get key db_view.keys) → (from : DbState) → Represents db_view from → was ≡ is_some (get key from.state)
there-law db_view key was is from st = is ∙ ap (λ (m : StoredKeys). is_some (get key m)) st.state.kept ∙ some-kept from.state key

-- there are as many keys as in each state that is represented
pub count-law : (db_view : DbView) (n : ℕ) → n ≡ count_keys db_view.keys → (from : DbState) → Represents db_view from → n ≡ count_keys from.state
count-law db_view n is from st = is ∙ ap count_keys st.state.kept ∙ count-kept from.state

-- a key has the labels that it has in each state that is represented
pub labels-law : (db_view : DbView) (key : Key) (from : DbState) → Represents db_view from → stored_labels_at (get key db_view.keys) ≡ labels_at (get key from.state)
labels-law db_view key from st = ap (λ (m : StoredKeys). stored_labels_at (get key m)) st.state.kept ∙ labels-kept from.state key

-- and the keys whose labels pass filters are those of each such state
pub selection-law : (db_view : DbView) (filters : List Filter) (from : DbState) → Represents db_view from → stored_selection db_view.keys filters ≡ selection from.state filters
selection-law db_view filters from st = ap (λ (m : StoredKeys). stored_selection m filters) st.state.kept ∙ selection-kept from.state filters

-- so the ids that are selected are those of the selection in each such state
pub select-law : {V E : Type 0} (items : V → List Id) (db_view : DbView) (filters : List Filter) (r : Result V E) → IfOk r (λ v. AreIdsOf db_view.ids (stored_selection db_view.keys filters) (items v))
    → (from : DbState) → Represents db_view from → IfOk r (λ v. AreIdsOf db_view.ids (selection from.state filters) (items v))
select-law items db_view filters (Ok v) h from st = subst (λ (ks : List Key). AreIdsOf db_view.ids ks (items v)) (selection-law db_view filters from st) h
select-law items db_view filters (Err e) h from st = h

-- all keys together show as many samples as in each such state
pub total-law : (db_view : DbView) (from : DbState) → Represents db_view from → total_of db_view.keys ≡ total_shown from.state
total-law db_view from st = ap total_of st.state.kept ∙ total-kept from.state

-- the database is full exactly if each represented state is
pub full-law : (db_view : DbView) (full : Bool) → full ≡ nat_le db_view.limits.keys (count_keys db_view.keys) → (from : DbState) → Represents db_view from → full ≡ nat_le from.limits.keys (count_keys from.state)
full-law db_view full is = at-limits db_view (λ from. full ≡ nat_le from.limits.keys (count_keys from.state))
    (λ m st. is ∙ ap (λ (keys : StoredKeys). nat_le db_view.limits.keys (count_keys keys)) st.kept ∙ ap (nat_le db_view.limits.keys) (count-kept m))

-- a key that goes
pub drop-law : (old new : DbView) (key : Key) (was : Bool) → was ≡ is_some (get key old.keys) → new.keys ≡ (if is_some (get key old.keys) then keys_dropped key old.keys else old.keys)
    → new.limits ≡ old.limits → (from : DbState) → Represents old from → Drops key was from new
drop-law old new key was is keys limits = at-limits old (λ from. Drops key was from new) (λ m st. record {
  there = is ∙ ap (λ (n : StoredKeys). is_some (get key n)) st.kept ∙ some-kept m key;
  stands = record {
    limits = sym limits;
    state = subst (λ (l : Limits). RepresentsState l new.keys (if was then dropped key m else m)) (sym limits)
        (subst (λ (n : StoredKeys). RepresentsState old.limits n (if was then dropped key m else m)) (sym (keys ∙ ap (λ b. if b then keys_dropped key old.keys else old.keys) (sym is))) (go m st was));
  };
})
  where
    go : (m : State) → RepresentsState old.limits old.keys m → (b : Bool) → RepresentsState old.limits (if b then keys_dropped key old.keys else old.keys) (if b then dropped key m else m)
    go m st true = record { valid = valid-dropped old.limits m key st.valid; kept = ap (keys_dropped key) st.kept ∙ kept-dropped old.limits m key st.valid }
    go m st false = st

-- and so there is still a state that is represented
pub drop-leads : (old new : DbView) (key : Key) (was : Bool) → ((from : DbState) → Represents old from → Drops key was from new) → RepresentsSome old (λ held. ⊤) → RepresentsSome new (λ held. ⊤)
drop-leads old new key was drops w =
    record { to = record { limits = w.to.limits; state = if was then dropped key w.to.state else w.to.state }; done = tt; stands = (drops w.to w.stands).stands }

-- what is asked of a key, and what is told of it, is that of each such state
pub asked-law : (db_view : DbView) (key : Key) (latest : Bool) (from : DbState) → Represents db_view from → stored_asked db_view.keys latest key ≡ asked from.state latest key
asked-law db_view key latest from st = ap (λ (m : StoredKeys). stored_asked m latest key) st.state.kept ∙ asked-kept from.state latest key

pub told-law : (db_view : DbView) (key : Key) (from : DbState) → Represents db_view from → stored_info_response (get key db_view.keys) ≡ info_response from.state key (get key from.state)
told-law db_view key from st = ap (λ (m : StoredKeys). stored_info_response (get key m)) st.state.kept ∙ info-kept from.state key
