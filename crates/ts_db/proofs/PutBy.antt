-- A write to an existing key with its own duplicate policy: its effect on each represented state.
use Rattle.std.proofs.Common.{◌≡◌, ◌≤◌, ℕ, ℤ, refl, sym, ◌∙◌, ap, subst}
use Rattle.std.specs.Prelude.{Option, None, Some, option_map, unwrap_or, Result}
use Rattle.ts_spec.specs.declared.limits.Limits.{Limits}
use Rattle.ts_spec.specs.declared.series.Policy.{Policy}
use Rattle.ts_spec.specs.declared.series.Merge.{Merge}
use Rattle.ts_spec.specs.declared.series.Merge.TheVariants.{By}
use Rattle.ts_spec.specs.Key.{Key}
use Rattle.ts_spec.specs.Keyed.{get}
use Rattle.ts_spec.specs.State.{Record, State, link_to}
use Rattle.ts_spec.specs.Response.{Count}
use Rattle.ts_spec.specs.Settings.{nothing}
use Rattle.ts_spec.specs.SeriesOptions.{spec}
use Rattle.ts_spec.specs.Step.{Outcome, add_at, put_at}
use Rattle.ts_spec.specs.StoredSeries.{StoredSeries, StoredKeys, stored_record}
use Rattle.ts_spec.specs.StoredStep.{StoredOutcome, stored_write, stored_add_at, stored_put_at}
use Rattle.ts_spec.specs.Represents.{RepresentsState, SimulatesStep}
use Rattle.ts_spec.proofs.StoredMaps.{get-kept}
use Rattle.ts_spec.proofs.WriteSteps.{add-step, put-step}
use Rattle.ts_db.specs.declared.fault.DbFault.{DbFault}
use Rattle.ts_db.specs.declared.store.Store.{Store}
use Rattle.ts_db.specs.Store.{db_view_of, IsInOrder, IsDb}
use Rattle.ts_db.specs.DbState.{DbView, AnswersCount}
use Rattle.ts_db.specs.Answering.{StoredCount}
use Rattle.ts_db.specs.PutBy.{put_with_policy_at, put_with_policy, stored_put_with_policy_at, stored_put_with_policy, stored_merge_at}
use Rattle.ts_db.proofs.Refusing.{add-refuses, put-refuses}
use Rattle.ts_db.proofs.Lifting.{IsLaw, lifted-on}

module _ (limits : Limits) (keys : StoredKeys) (m : State) (stands : RepresentsState limits keys m) (key : Key) where
  -- the stored data of the key, by its record
  abbrev stored_series : Option Record → Option StoredSeries
  stored_series o = option_map (stored_record (link_to m key)) o

  -- a step by the record of the key
  by-record : (step : Option Record → Outcome) (stored_step : Option StoredSeries → StoredOutcome) (o : Option Record) → get key m ≡ o
      → SimulatesStep limits (step (get key m)) (stored_step (get key keys)) → SimulatesStep limits (step o) (stored_step (stored_series o))
  by-record step stored_step o is done =
      subst (λ (q : Option Record). SimulatesStep limits (step q) (stored_step (stored_series q))) is
      (subst (λ (q : Option StoredSeries). SimulatesStep limits (step (get key m)) (stored_step q)) (ap (get key) stands.kept ∙ get-kept m key) done)

  -- where the key is missing it is a write by the series' own policy, and else one that would make the series
  of-record : (room : 1 ≤ limits.samples) (t : ℕ) (v : ℤ) (on : Option Policy) (o : Option Record) → get key m ≡ o
      → IsLaw limits m (put_with_policy_at limits m key t v on o) (stored_put_with_policy_at limits keys key t v on (stored_series o))
  of-record room t v on None is = record {
    is_step = by-record (put_at limits m key t v) (stored_put_at limits keys key t v) None is (put-step limits keys m key t v stands);
    refuses = put-refuses limits m key t v None;
  }
  of-record room t v on (Some d) is = record {
    is_step = by-record (add_at limits m key t v on (spec nothing)) (stored_add_at limits keys key t v on (spec nothing)) (Some d) is (add-step limits keys m key t v on (spec nothing) room stands);
    refuses = add-refuses limits m key t v on (spec nothing) (Some d);
  }

  pub put_with_policy-is : (room : 1 ≤ limits.samples) (t : ℕ) (v : ℤ) (on : Option Policy)
      → IsLaw limits m (put_with_policy limits m key t v on) (stored_put_with_policy limits keys key t v on)
  put_with_policy-is room t v on =
      subst (λ (q : Option StoredSeries). IsLaw limits m (put_with_policy limits m key t v on) (stored_put_with_policy_at limits keys key t v on q))
      (sym (ap (get key) stands.kept ∙ get-kept m key)) (of-record room t v on (get key m) refl)

-- its answers are those of the step of each state
pub put_with_policy-law : {db_view : DbView} (s new : Store) (view : db_view_of s ≡ db_view) (db : IsDb s) (order : IsInOrder new) (key : Key) (t : ℕ) (v : ℤ) (on : Option Policy) (r : Result ℕ DbFault)
    → StoredCount (db_view_of s) (stored_put_with_policy s.limits (db_view_of s).keys key t v on) r (db_view_of new)
    → IsDb new × AnswersCount db_view (λ h. put_with_policy h.limits h.state key t v on) r (db_view_of new)
put_with_policy-law s new view db order key t v on = lifted-on s new view db order (λ h. put_with_policy h.limits h.state key t v on) (stored_put_with_policy s.limits (db_view_of s).keys key t v on)
    (λ m st. put_with_policy-is s.limits (db_view_of s).keys m st key db.store.some_samples t v on) (λ x. Count x)

-- a policy that is given is the merge, and else the series' own is
pub put-merges : (limits : Limits) (keys : StoredKeys) (key : Key) (t : ℕ) (v : ℤ) (on : Option Policy) (how : Option Merge) → how ≡ option_map By on → (o : Option StoredSeries)
    → stored_merge_at limits keys key t v how o ≡ stored_put_with_policy_at limits keys key t v on o
put-merges limits keys key t v on how is None = refl
put-merges limits keys key t v on how is (Some d) = ap (λ (h : Option Merge). stored_write limits keys key d (unwrap_or h (By d.options.policy)) t v) is ∙ ap (λ (m : Merge). stored_write limits keys key d m t v) (own on)
  where
    own : (on : Option Policy) → unwrap_or (option_map By on) (By d.options.policy) ≡ By (unwrap_or on d.options.policy)
    own None = refl
    own (Some policy) = refl
