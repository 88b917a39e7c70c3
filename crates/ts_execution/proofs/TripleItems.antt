-- The item of one triple of TS.MADD.
use Rattle.std.proofs.Common.{◌≡◌, ℕ, ℤ, [], ◌∷◌, map, inl, inr, refl, sym, ◌∙◌, ap, subst}
use Rattle.std.specs.Prelude.{Option, None, Some, Result, Ok, Err, IsTrue, ◌&&◌}
use Rattle.std.specs.Result.{is_ok}
use Rattle.ts_spec.specs.Command.{Triple}
use Rattle.ts_spec.specs.Refusal.{Fault, Refusal}
use Rattle.ts_spec.specs.Replies.{fault_reply, item_reply}
use Rattle.ts_spec.specs.Step.{Outcome, triple_step, item_of}
use Rattle.ts_spec.specs.Text.{Reply, Error}
use Rattle.ts_spec.specs.declared.command.At.{At}
use Rattle.ts_command.specs.Faults.{IsNoMemory, fault_of, message}
use Rattle.ts_command.specs.declared.fault.CommandFault.{CommandFault}
use Rattle.ts_command.specs.declared.fault.CommandFault.TheVariants as code
use Rattle.ts_sample.specs.declared.sample.Id.{Id}
use Rattle.ts_spec.specs.Keyed.{Keyed}
use Rattle.ts_db.specs.Faults.{refusal_of}
use Rattle.ts_db.specs.DbState.{DbState, DbView, Represents, Simulates, AnswersCount, AllowsOutOfMemory, IsAnswer}
use Rattle.ts_db.specs.declared.fault.DbFault.{DbFault}
use Rattle.ts_questions.specs.Answering.{message_of}
use Rattle.ts_execution.specs.Answers.{reply_of_number}
use Rattle.ts_execution.specs.Handling.{HasItem, IsItem, is_well_formed}
use Rattle.ts_execution.proofs.Carried.{carries_none}

-- the item is that of the triple, and the limits stay
abbrev pub Tells : (reading : ℕ) → Triple → Reply → DbState → DbState → Type 0
Tells reading triple item from to = HasItem from.limits reading triple from.state item to.state × (to.limits ≡ from.limits)

-- invalid arguments have their message
pub fault_item : (fault : CommandFault) → IsNoMemory fault → Error (message fault) ≡ fault_reply (fault_of fault)
fault_item code.UnknownCommand words = refl
fault_item code.Arity words = refl
fault_item code.BadTimestamp words = refl
fault_item (code.BadValue fault) words = refl
fault_item code.BadOption words = refl
fault_item code.RepeatedOption words = refl
fault_item code.BadLabels words = refl
fault_item code.BadChunkSize words = refl
fault_item code.BadPolicy words = refl
fault_item code.BadEncoding words = refl
fault_item code.UnknownAggregator words = refl
fault_item code.AggregatorNotInProfile words = refl
fault_item code.BadDuration words = refl
fault_item code.BadFilter words = refl
fault_item code.NoPositiveFilter words = refl
fault_item (code.Memory error) words = absurd (words error refl)

-- an invalid time, and an invalid value
pub wrong_time : (reading : ℕ) (triple : Triple) (fault : Fault) (item : Reply) (db_view : DbView) → triple.at ≡ Err fault → item ≡ fault_reply fault
    → Simulates db_view db_view (λ from to. Tells reading triple item from to)
wrong_time reading triple fault item db_view at is = carries_none db_view (λ from to. Tells reading triple item from to) (λ from stands. (
  inl (subst (λ (a : Result At Fault). IsItem (triple_step from.limits from.state reading triple.key a triple.value) item from.state) (sym at)
      (record { reply = ap (λ (r : Reply). r ∷ []) (sym is); state = refl })),
  refl,
))

pub wrong_value : (reading : ℕ) (triple : Triple) (time : At) (fault : Fault) (item : Reply) (db_view : DbView) → triple.at ≡ Ok time → triple.value ≡ Err fault → item ≡ fault_reply fault
    → Simulates db_view db_view (λ from to. Tells reading triple item from to)
wrong_value reading triple time fault item db_view at value is = carries_none db_view (λ from to. Tells reading triple item from to) (λ from stands. (
  inl (subst (λ (a : Result At Fault). IsItem (triple_step from.limits from.state reading triple.key a triple.value) item from.state) (sym at)
      (subst (λ (v : Result ℤ Fault). IsItem (triple_step from.limits from.state reading triple.key (Ok time) v) item from.state) (sym value)
      (record { reply = ap (λ (r : Reply). r ∷ []) (sym is); state = refl }))),
  refl,
))

-- a valid time and value
module _ (reading : ℕ) (triple : Triple) (time : At) (value : ℤ) (at_is : triple.at ≡ Ok time) (value_is : triple.value ≡ Ok value) where
  abbrev the_step : DbState → Outcome
  the_step h = triple_step h.limits h.state reading triple.key (Ok time) (Ok value)

  as_step : (from : DbState) → the_step from ≡ triple_step from.limits from.state reading triple.key triple.at triple.value
  as_step from = ap (λ (a : Result At Fault). triple_step from.limits from.state reading triple.key a (Ok value)) (sym at_is)
      ∙ ap (λ (v : Result ℤ Fault). triple_step from.limits from.state reading triple.key triple.at v) (sym value_is)

  well_formed : IsTrue (is_well_formed triple)
  well_formed = ap (λ (a : Result At Fault). is_ok a && is_ok triple.value) at_is ∙ ap (λ (v : Result ℤ Fault). is_ok v) value_is

  lost : (o : Option Refusal) (from : DbState) (item : Reply) → IsAnswer o from.state (the_step from) → item ≡ Error (message_of o) → HasItem from.limits reading triple from.state item from.state
  lost None from item answer is = inr (record { well_formed = well_formed; yields = subst (λ (s : Outcome). AllowsOutOfMemory s.response) (as_step from) answer; reply = is; same = refl })
  lost (Some r) from item answer is = inl (subst (λ (s : Outcome). IsItem s item from.state) (sym answer ∙ as_step from) (record { reply = ap (λ (r : Reply). r ∷ []) (sym is); state = refl }))

  pub put_item : (old new : DbView) (result : Result ℕ DbFault) (item : Reply) → ((ids : Keyed Id) → item ≡ reply_of_number ids result) → AnswersCount old the_step result new
      → Simulates old new (λ from to. Tells reading triple item from to)
  put_item old new (Ok t) item is answers = λ from stands.
      let a = answers from stands in
      record {
        to = record { limits = from.limits; state = (the_step from).state };
        done = (
          inl (subst (λ (s : Outcome). IsItem s item (the_step from).state) (as_step from)
              (record { reply = ap (λ r. map item_reply (item_of r)) a.says ∙ ap (λ (r : Reply). r ∷ []) (sym (is old.ids)); state = refl })),
          refl,
        );
        stands = a.stands;
      }
  put_item old new (Err fault) item is answers = λ from stands. record {
    to = from;
    done = (lost (refusal_of old.ids fault) from item (answers.0 from stands) (is old.ids), refl);
    stands = subst (λ (s : DbView). Represents s from) (sym answers.1) stands;
  }
