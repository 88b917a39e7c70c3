-- Replaying TS.MADD from a journal.
use Rattle.std.specs.Prelude.{◌⊎◌, ℤ, None, Some, Result, Ok, Err, if◌then◌else◌, ◌||◌, not}
use Rattle.std.proofs.Common.{◌≡◌, inl, inr, Bool, true, false, ℕ, List, [], ◌∷◌, ◌++◌, map, refl, sym, ◌∙◌, ap, subst}
use Rattle.ts_spec.specs.declared.limits.Limits.{Limits}
use Rattle.ts_spec.specs.Command.{Triple, Madd}
use Rattle.ts_spec.specs.Grammar.{needs_clock}
use Rattle.ts_spec.specs.Key.{Key}
use Rattle.ts_spec.specs.Keyed.{Keyed}
use Rattle.ts_spec.specs.Refusal.{Fault}
use Rattle.ts_spec.specs.Replies.{reply_list, item_reply}
use Rattle.ts_spec.specs.Response.{Item, Wrote, IsWrong, IsRefused, Count}
use Rattle.ts_spec.specs.State.{State}
use Rattle.ts_spec.specs.Step.{Outcome, time_of, triple_step, item_of, put_own, madd}
use Rattle.ts_spec.specs.declared.command.At.{At}
use Rattle.ts_sample.specs.declared.sample.Id.{Id}
use Rattle.ts_db.specs.Faults.{refusal_of}
use Rattle.ts_db.specs.DbState.{DbState, DbView, Represents, RepresentsSome, Simulates, Answers, IsAnswer}
use Rattle.ts_db.specs.declared.fault.DbFault.{DbFault}
use Rattle.ts_db.specs.declared.fault.DbFault.TheVariants.{KeyExists, NoKey, KeysFull, LabelsFull, TooOld, Duplicate, OutOfRange, BeforeLast, SamplesFull, DeleteBeyondRetention, SameKey, SourceIsDest, DestIsSource, DestHasSource, RulesSpent, RulesFull, NoRule, Memory}
use Rattle.ts_journal.specs.Loading.{accepted_state}
use Rattle.ts_journal.specs.RecordReplay.{has_error}
use Rattle.ts_execution.specs.JournalReplay.{replay_result_of_fault, replay_result_of, ReplaysCommand, ReplaysTriple}
use Rattle.ts_execution.specs.declared.journal_replay.ReplayResult.{ReplayResult}
use Rattle.ts_execution.specs.declared.journal_replay.ReplayResult.TheVariants as replay_result
use Rattle.ts_execution.proofs.Carried.{carries_none, carries_as, carries_then}
use Rattle.ts_execution.proofs.ReplayedCommands.{apply_recorded-change}

has_error-append : (a b : List Item) → has_error (reply_list (map item_reply (a ++ b))) ≡ (has_error (reply_list (map item_reply a)) || has_error (reply_list (map item_reply b)))
has_error-append [] b = refl
has_error-append (Wrote time ∷ a) b = has_error-append a b
has_error-append (IsWrong fault ∷ a) b = refl
has_error-append (IsRefused refusal ∷ a) b = refl

either-true : (a b : Bool) → a ≡ true → (a || b) ≡ true
either-true true b h = refl
either-true false b h = (cc)

-- an error among the items so far makes the replay fail
spoiled : (limits : Limits) (m : State) (so_far : List Item) (triples : List Triple) → has_error (reply_list (map item_reply so_far)) ≡ true
    → accepted_state (madd limits m 0 so_far triples) ≡ None
spoiled limits m so_far [] h = ap (λ (b : Bool). if not b then Some m else None) h
spoiled limits m so_far (t ∷ ts) h =
    let done : Outcome = triple_step limits m 0 t.key t.at t.value in
    spoiled limits done.state (so_far ++ item_of done.response) ts
    (has_error-append so_far (item_of done.response) ∙ either-true (has_error (reply_list (map item_reply so_far))) (has_error (reply_list (map item_reply (item_of done.response)))) h)

-- replaying the remaining triples, all with given times, gives what replaying all of them gives
pub record WritesOn (all rest : List Triple) (from now : DbState) : Type 0 where
  pub so_far : List Item
  pub goes_on : madd from.limits now.state 0 so_far rest ≡ madd from.limits from.state 0 [] all
  pub good : has_error (reply_list (map item_reply so_far)) ≡ false
  pub limits : now.limits ≡ from.limits

pub writes-none : (all rest : List Triple) (db_view : DbView) → rest ≡ all → Simulates db_view db_view (λ from now. WritesOn all rest from now)
writes-none all rest db_view is = carries_none db_view (λ from now. WritesOn all rest from now)
    (λ from stands. record { so_far = []; goes_on = ap (λ (l : List Triple). madd from.limits from.state 0 [] l) is; good = refl; limits = refl })

one-more : (limits limits' : Limits) (t : Triple) (ts : List Triple) (m n : State) (so_far : List Item) (time : ℕ) → limits ≡ limits'
    → item_of (triple_step limits m 0 t.key t.at t.value).response ≡ Wrote time ∷ [] → n ≡ (triple_step limits m 0 t.key t.at t.value).state
    → madd limits' n 0 (so_far ++ Wrote time ∷ []) ts ≡ madd limits' m 0 so_far (t ∷ ts)
one-more limits limits' t ts m n so_far time same told is =
    subst (λ (l : Limits). madd l n 0 (so_far ++ Wrote time ∷ []) ts ≡ madd l m 0 so_far (t ∷ ts)) same
    (ap (λ (s : State). madd limits s 0 (so_far ++ Wrote time ∷ []) ts) is
    ∙ ap (λ (l : List Item). madd limits (triple_step limits m 0 t.key t.at t.value).state 0 (so_far ++ l) ts) (sym told))

-- one more triple remains
module _ (all left rest : List Triple) (t : Triple) (first old new : DbView) (split : left ≡ t ∷ rest) (before : Simulates first old (λ from now. WritesOn all left from now)) where
  -- it was written
  pub writes-more : Simulates old new (λ from to. ReplaysTriple replay_result.Accepted t from to) → Simulates first new (λ from now. WritesOn all rest from now)
  writes-more one =
      carries_then first old new (λ from now. WritesOn all left from now) (λ from to. ReplaysTriple replay_result.Accepted t from to) (λ from now. WritesOn all rest from now)
      (λ from now to on wrote. record {
        so_far = on.so_far ++ Wrote wrote.0 ∷ [];
        goes_on = one-more now.limits from.limits t rest now.state to.state on.so_far wrote.0 on.limits wrote.1 wrote.2
            ∙ ap (λ (l : List Triple). madd from.limits now.state 0 on.so_far l) (sym split) ∙ on.goes_on;
        good = has_error-append on.so_far (Wrote wrote.0 ∷ []) ∙ ap (λ (b : Bool). b || false) on.good;
        limits = wrote.3 ∙ on.limits;
      }) before one

  -- it was rejected
  pub writes-refused : needs_clock (Madd all) ≡ false → Simulates old new (λ from to. ReplaysTriple replay_result.Refused t from to) → Simulates first new (λ from to. ReplaysCommand replay_result.Refused (Madd all) from to)
  writes-refused clock one =
      carries_then first old new (λ from now. WritesOn all left from now) (λ from to. ReplaysTriple replay_result.Refused t from to) (λ from to. ReplaysCommand replay_result.Refused (Madd all) from to)
      (λ from now to on wrong.
      let done : Outcome = triple_step from.limits now.state 0 t.key t.at t.value in
      let its : has_error (reply_list (map item_reply (item_of done.response))) ≡ true =
      subst (λ (l : Limits). has_error (reply_list (map item_reply (item_of (triple_step l now.state 0 t.key t.at t.value).response))) ≡ true) on.limits wrong.0 in (
        apply_recorded-change from.limits from.state (Madd all) refl clock ∙ ap accepted_state (sym on.goes_on)
            ∙ ap (λ (l : List Triple). accepted_state (madd from.limits now.state 0 on.so_far l)) split
            ∙ spoiled from.limits done.state (on.so_far ++ item_of done.response) rest
            (has_error-append on.so_far (item_of done.response) ∙ ap (λ (b : Bool). b || has_error (reply_list (map item_reply (item_of done.response)))) on.good ∙ its),
        wrong.1 ∙ on.limits,
      )) before one

-- all triples were written
pub writes-all : (all rest : List Triple) (first new : DbView) → rest ≡ [] → needs_clock (Madd all) ≡ false → Simulates first new (λ from now. WritesOn all rest from now)
    → Simulates first new (λ from to. ReplaysCommand replay_result.Accepted (Madd all) from to)
writes-all all rest first new none clock carries =
    carries_as first new (λ from now. WritesOn all rest from now) (λ from to. ReplaysCommand replay_result.Accepted (Madd all) from to)
    (λ from to on. (
      apply_recorded-change from.limits from.state (Madd all) refl clock ∙ ap accepted_state (sym on.goes_on)
          ∙ ap (λ (l : List Triple). accepted_state (madd from.limits to.state 0 on.so_far l)) none
          ∙ ap (λ (b : Bool). if not b then Some to.state else None) on.good,
      on.limits,
    )) carries

-- out of memory for one of them
pub writes-no_memory : (all : List Triple) (first old new : DbView) (P Q : DbState → DbState → Type 0) → Simulates first old P → Simulates old new Q
    → Simulates first new (λ from to. ReplaysCommand replay_result.Memory (Madd all) from to)
writes-no_memory all first old new P Q before one = carries_then first old new P Q (λ from to. ReplaysCommand replay_result.Memory (Madd all) from to) (λ from now to on lost. tt) before one

triple-refused : (ids : Keyed Id) (fault : DbFault) (t : Triple) (from : DbState) (o : Outcome) → triple_step from.limits from.state 0 t.key t.at t.value ≡ o
    → IsAnswer (refusal_of ids fault) from.state o → ReplaysTriple (replay_result_of_fault fault) t from from
triple-refused ids (Memory e) t from o same is = tt
triple-refused ids KeyExists t from o same is = (ap (λ (d : Outcome). has_error (reply_list (map item_reply (item_of d.response)))) (same ∙ is), refl)
triple-refused ids NoKey t from o same is = (ap (λ (d : Outcome). has_error (reply_list (map item_reply (item_of d.response)))) (same ∙ is), refl)
triple-refused ids KeysFull t from o same is = (ap (λ (d : Outcome). has_error (reply_list (map item_reply (item_of d.response)))) (same ∙ is), refl)
triple-refused ids LabelsFull t from o same is = (ap (λ (d : Outcome). has_error (reply_list (map item_reply (item_of d.response)))) (same ∙ is), refl)
triple-refused ids TooOld t from o same is = (ap (λ (d : Outcome). has_error (reply_list (map item_reply (item_of d.response)))) (same ∙ is), refl)
triple-refused ids Duplicate t from o same is = (ap (λ (d : Outcome). has_error (reply_list (map item_reply (item_of d.response)))) (same ∙ is), refl)
triple-refused ids OutOfRange t from o same is = (ap (λ (d : Outcome). has_error (reply_list (map item_reply (item_of d.response)))) (same ∙ is), refl)
triple-refused ids BeforeLast t from o same is = (ap (λ (d : Outcome). has_error (reply_list (map item_reply (item_of d.response)))) (same ∙ is), refl)
triple-refused ids (SamplesFull id written) t from o same is = (ap (λ (d : Outcome). has_error (reply_list (map item_reply (item_of d.response)))) (same ∙ is), refl)
triple-refused ids DeleteBeyondRetention t from o same is = (ap (λ (d : Outcome). has_error (reply_list (map item_reply (item_of d.response)))) (same ∙ is), refl)
triple-refused ids SameKey t from o same is = (ap (λ (d : Outcome). has_error (reply_list (map item_reply (item_of d.response)))) (same ∙ is), refl)
triple-refused ids SourceIsDest t from o same is = (ap (λ (d : Outcome). has_error (reply_list (map item_reply (item_of d.response)))) (same ∙ is), refl)
triple-refused ids DestIsSource t from o same is = (ap (λ (d : Outcome). has_error (reply_list (map item_reply (item_of d.response)))) (same ∙ is), refl)
triple-refused ids DestHasSource t from o same is = (ap (λ (d : Outcome). has_error (reply_list (map item_reply (item_of d.response)))) (same ∙ is), refl)
triple-refused ids RulesSpent t from o same is = (ap (λ (d : Outcome). has_error (reply_list (map item_reply (item_of d.response)))) (same ∙ is), refl)
triple-refused ids RulesFull t from o same is = (ap (λ (d : Outcome). has_error (reply_list (map item_reply (item_of d.response)))) (same ∙ is), refl)
triple-refused ids NoRule t from o same is = (ap (λ (d : Outcome). has_error (reply_list (map item_reply (item_of d.response)))) (same ∙ is), refl)

-- the result of the database for one triple
pub replay_matches-triple : (t : Triple) (one : DbState → Outcome) (old new : DbView) (result : Result ℕ DbFault) (answer : ReplayResult) → answer ≡ replay_result_of result
    → ((h : DbState) → triple_step h.limits h.state 0 t.key t.at t.value ≡ one h) → Answers (λ time. Count time) old one result new
    → Simulates old new (λ from to. ReplaysTriple answer t from to)
replay_matches-triple t one old new (Ok time) answer is same answers = λ from stands.
    let a = answers from stands in
    subst (λ (r : ReplayResult). RepresentsSome new (λ to. ReplaysTriple r t from to)) (sym is) (record {
      to = record { limits = from.limits; state = (one from).state };
      done = (time, ap (λ (d : Outcome). item_of d.response) (same from) ∙ ap item_of a.says, ap (λ (d : Outcome). d.state) (sym (same from)), refl);
      stands = a.stands;
    })
replay_matches-triple t one old new (Err fault) answer is same answers = λ from stands.
    subst (λ (r : ReplayResult). RepresentsSome new (λ to. ReplaysTriple r t from to)) (sym is) (record {
      to = from;
      done = triple-refused old.ids fault t from (one from) (same from) (answers.0 from stands);
      stands = subst (λ (s : DbView). Represents s from) (sym answers.1) stands;
    })

-- a triple with an invalid time or value
step-without : (limits : Limits) (m : State) (key : Key) (at : Result At Fault) (v : Result ℤ Fault) (f : Fault) → (at ≡ Err f) ⊎ (v ≡ Err f)
    → has_error (reply_list (map item_reply (item_of (triple_step limits m 0 key at v).response))) ≡ true
step-without limits m key (Err fault) v f is = refl
step-without limits m key (Ok at) (Err fault) f is = refl
step-without limits m key (Ok at) (Ok v) f (inl is) = (cc)
step-without limits m key (Ok at) (Ok v) f (inr is) = (cc)

pub triple-without : (t : Triple) (db_view : DbView) (f : Fault) → (t.at ≡ Err f) ⊎ (t.value ≡ Err f) → Simulates db_view db_view (λ from to. ReplaysTriple replay_result.Refused t from to)
triple-without t db_view f is = carries_none db_view (λ from to. ReplaysTriple replay_result.Refused t from to) (λ from stands. (step-without from.limits from.state t.key t.at t.value f is, refl))

-- a triple with a valid time and value
pub triple-with : (limits : Limits) (m : State) (t : Triple) (at : At) (v : ℤ) → t.at ≡ Ok at → t.value ≡ Ok v → triple_step limits m 0 t.key t.at t.value ≡ put_own limits m t.key (time_of 0 at) v
triple-with limits m t at v one two = ap (λ (a : Result At Fault). triple_step limits m 0 t.key a t.value) one ∙ ap (λ (x : Result ℤ Fault). triple_step limits m 0 t.key (Ok at) x) two
