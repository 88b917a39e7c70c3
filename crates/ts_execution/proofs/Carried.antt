-- Lemmas that hold for each state that a database represents.
use Rattle.std.proofs.Common.{◌≡◌, true, refl, sym, ◌∙◌, ap, inl, inr, subst}
use Rattle.std.proofs.lemmas.Bool.{false≢true}
use Rattle.std.specs.Prelude.{Option, None, Some, is_some, Result, Ok, Err, IfErr}
use Rattle.ts_spec.specs.Replies.{reply_to}
use Rattle.ts_spec.specs.Response.{Response}
use Rattle.ts_spec.specs.Refusal.{Refusal}
use Rattle.ts_spec.specs.Step.{Outcome}
use Rattle.ts_spec.specs.Text.{Reply, Error}
use Rattle.ts_sample.specs.declared.sample.Id.{Id}
use Rattle.ts_spec.specs.Keyed.{Keyed}
use Rattle.ts_db.specs.Faults.{refusal_of, IsRefusal}
use Rattle.ts_db.specs.DbState.{DbState, DbView, Represents, RepresentsSome, Simulates, Answers, IsAnswer}
use Rattle.ts_db.specs.declared.fault.DbFault.{DbFault}
use Rattle.ts_questions.specs.Answering.{message_of}
use Rattle.ts_questions.proofs.Refusals.{is_refused}
use Rattle.ts_execution.specs.Answers.{reply_of_result}
use Rattle.ts_execution.specs.Handling.{IsStep, StepOrOutOfMemory}

-- nothing has changed
pub carries_none : (db_view : DbView) (P : DbState → DbState → Type 0) → ((from : DbState) → Represents db_view from → P from from) → Simulates db_view db_view P
carries_none db_view P is = λ from stands. record { to = from; done = is from stands; stands = stands }

-- what follows from what holds
pub carries_as : (old new : DbView) (P Q : DbState → DbState → Type 0) → ((from to : DbState) → P from to → Q from to) → Simulates old new P → Simulates old new Q
carries_as old new P Q follows carries = λ from stands.
    let a : RepresentsSome new (P from) = carries from stands in
    record { to = a.to; done = follows from a.to a.done; stands = a.stands }

-- one change after another
pub carries_then : (old mid new : DbView) (P Q R : DbState → DbState → Type 0) → ((from between to : DbState) → P from between → Q between to → R from to)
    → Simulates old mid P → Simulates mid new Q → Simulates old new R
carries_then old mid new P Q R both one two = λ from stands.
    let a : RepresentsSome mid (P from) = one from stands in
    let b : RepresentsSome new (Q a.to) = two a.to a.stands in
    record { to = b.to; done = both from a.to b.to a.done b.done; stands = b.stands }

-- ---- results of the database and their replies

-- the reply is the error of the step, or out of memory
refused_or_memory : (o : Option Refusal) (from : DbState) (step : Outcome) → IsAnswer o from.state step → StepOrOutOfMemory step from (Error (message_of o)) from
refused_or_memory None from step is = inr (is, record { says = refl; same = refl })
refused_or_memory (Some r) from step is = inl (record {
  says = ap (λ (s : Outcome). reply_to s.response) (sym is);
  state = ap (λ (s : Outcome). s.state) (sym is);
  limits = refl;
})

-- a command on one series is answered like its step
pub answered : {T : Type 0} (response : T → Response) (old new : DbView) (step : DbState → Outcome) (result : Result T DbFault) (reply : Reply)
    → ((ids : Keyed Id) → reply ≡ reply_of_result ids response result) → Answers response old step result new → Simulates old new (λ from to. StepOrOutOfMemory (step from) from reply to)
answered response old new step (Ok x) reply is answers = λ from stands.
    let a = answers from stands in
    record {
      to = record { limits = from.limits; state = (step from).state };
      done = inl (record { says = is old.ids ∙ ap reply_to (sym a.says); state = refl; limits = refl });
      stands = a.stands;
    }
answered response old new step (Err fault) reply is answers = λ from stands. record {
  to = from;
  done = subst (λ (r : Reply). StepOrOutOfMemory (step from) from r from) (sym (is old.ids)) (refused_or_memory (refusal_of old.ids fault) from (step from) (answers.0 from stands));
  stands = subst (λ (s : DbView). Represents s from) (sym answers.1) stands;
}

-- the reply is the error of the step
refused_surely : (o : Option Refusal) (from : DbState) (step : Outcome) (reply : Reply) → is_some o ≡ true → reply ≡ Error (message_of o) → IsAnswer o from.state step → IsStep step from reply from
refused_surely None from step reply some is answer = absurd (false≢true some)
refused_surely (Some r) from step reply some is answer = record {
  says = is ∙ ap (λ (s : Outcome). reply_to s.response) (sym answer);
  state = ap (λ (s : Outcome). s.state) (sym answer);
  limits = refl;
}

-- a command that cannot run out of memory is answered like its step
pub answered_surely : {T : Type 0} (response : T → Response) (old new : DbView) (step : DbState → Outcome) (result : Result T DbFault) (reply : Reply)
    → ((ids : Keyed Id) → reply ≡ reply_of_result ids response result) → IfErr result IsRefusal → Answers response old step result new
    → Simulates old new (λ from to. IsStep (step from) from reply to)
answered_surely response old new step (Ok x) reply is sure answers = λ from stands.
    let a = answers from stands in
    record {
      to = record { limits = from.limits; state = (step from).state };
      done = record { says = is old.ids ∙ ap reply_to (sym a.says); state = refl; limits = refl };
      stands = a.stands;
    }
answered_surely response old new step (Err fault) reply is sure answers = λ from stands. record {
  to = from;
  done = refused_surely (refusal_of old.ids fault) from (step from) reply (is_refused old.ids fault sure) (is old.ids) (answers.0 from stands);
  stands = subst (λ (s : DbView). Represents s from) (sym answers.1) stands;
}
