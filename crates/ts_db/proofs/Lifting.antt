-- From results in stored data to results in each represented state.
use Rattle.std.proofs.Common.{◌≡◌, sym, ◌∙◌, ap, subst}
use Rattle.std.specs.Prelude.{Option, None, Some, ⊤, Result, Ok, Err}
use Rattle.ts_spec.specs.declared.limits.Limits.{Limits}
use Rattle.ts_spec.specs.Refusal.{Refusal}
use Rattle.ts_spec.specs.Response.{Response}
use Rattle.ts_spec.specs.Outcome.{Outcome}
use Rattle.ts_spec.specs.State.{State}
use Rattle.ts_spec.specs.StoredStep.{StoredOutcome}
use Rattle.ts_spec.specs.Represents.{RepresentsState, SimulatesStep}
use Rattle.ts_db.specs.declared.fault.DbFault.{DbFault}
use Rattle.ts_db.specs.Faults.{refusal_of}
use Rattle.ts_db.specs.DbState.{DbState, DbView, Represents, RepresentsSome, AllowsOutOfMemory, IsAnswer, IsDone, Answers}
use Rattle.ts_db.specs.declared.store.Store.{Store}
use Rattle.ts_db.specs.Answering.{IsStoredAnswer, StoredAnswers}
use Rattle.ts_db.specs.Store.{db_view_of, IsInOrder, IsDb}
use Rattle.ts_db.proofs.Refusing.{Refuses}

-- results about stored data, and about each state that it represents
pub at-limits : (db_view : DbView) (P : DbState → Type 0) → ((m : State) → RepresentsState db_view.limits db_view.keys m → P (record { limits = db_view.limits; state = m })) → (from : DbState) → Represents db_view from → P from
at-limits db_view P each from st = subst (λ (l : Limits). P (record { limits = l; state = from.state })) (sym st.limits) (each from.state st.state)

-- A step over the stored data, and that of each state: it is its step, and leaves the state where it refuses.
pub record IsLaw (limits : Limits) (m : State) (step : Outcome) (stored_step : StoredOutcome) : Type 0 where
  pub is_step : SimulatesStep limits step stored_step
  pub refuses : Refuses m step

module _ (old new : DbView) (step : DbState → Outcome) (stored_step : StoredOutcome)
    (law : (m : State) → RepresentsState old.limits old.keys m → IsLaw old.limits m (step (record { limits = old.limits; state = m })) stored_step) where
  done : (response : Response) → (stored_step ≡ record { keys = new.keys; response = response }) × (new.limits ≡ old.limits)
      → (from : DbState) → Represents old from → IsDone response from.limits (step from) new
  done response a = at-limits old (λ from. IsDone response from.limits (step from) new) (λ m s.
      let is : SimulatesStep old.limits (step (record { limits = old.limits; state = m })) stored_step = (law m s).is_step in
      record {
        says = is.response ∙ ap (λ (o : StoredOutcome). o.response) a.0;
        stands = record {
          limits = sym a.1;
          state = subst (λ (l : Limits). RepresentsState l new.keys (step (record { limits = old.limits; state = m })).state) (sym a.1)
              (subst (λ (o : StoredOutcome). RepresentsState old.limits o.keys (step (record { limits = old.limits; state = m })).state) a.0 is.stands);
        };
      })

  refusal : (o : Option Refusal) → IsStoredAnswer o old.keys stored_step → (from : DbState) → Represents old from → IsAnswer o from.state (step from)
  refusal None a = at-limits old (λ from. IsAnswer None from.state (step from)) (λ m s. subst AllowsOutOfMemory (sym (law m s).is_step.response) a)
  refusal (Some r) a = at-limits old (λ from. IsAnswer (Some r) from.state (step from)) (λ m s.
      let both = law m s in both.refuses r (both.is_step.response ∙ ap (λ (o : StoredOutcome). o.response) a))

  -- the answers of each state
  lifted : {T : Type 0} (response : T → Response) (r : Result T DbFault) → StoredAnswers response old stored_step r new → Answers response old step r new
  lifted response (Ok x) a = done (response x) a
  lifted response (Err fault) a = (refusal (refusal_of old.ids fault) a.0, a.1)

-- where there was a state that was represented there is one after that
leads-on : {T : Type 0} (response : T → Response) (old new : DbView) (step : DbState → Outcome) (r : Result T DbFault) → Answers response old step r new → RepresentsSome old (λ held. ⊤) → RepresentsSome new (λ held. ⊤)
leads-on response old new step (Ok x) a w = record { to = record { limits = w.to.limits; state = (step w.to).state }; done = tt; stands = (a w.to w.stands).stands }
leads-on response old new step (Err fault) a w = subst (λ (s : DbView). RepresentsSome s (λ held. ⊤)) (sym a.1) w

-- So a call of a store leaves a database, which answers as the step does of each state that it represented.
pub lifted-on : {db_view : DbView} (s new : Store) (view : db_view_of s ≡ db_view) (db : IsDb s) (order : IsInOrder new) (step : DbState → Outcome) (stored_step : StoredOutcome)
    → ((m : State) → RepresentsState s.limits (db_view_of s).keys m → IsLaw s.limits m (step (record { limits = s.limits; state = m })) stored_step)
    → {T : Type 0} (response : T → Response) (r : Result T DbFault) → StoredAnswers response (db_view_of s) stored_step r (db_view_of new) → IsDb new × Answers response db_view step r (db_view_of new)
lifted-on s new view db order step stored_step law response r kept =
    let answers = lifted (db_view_of s) (db_view_of new) step stored_step law response r kept in (
      record { store = order; stands = leads-on response (db_view_of s) (db_view_of new) step r answers db.stands },
      subst (λ (old : DbView). Answers response old step r (db_view_of new)) view answers,
    )
