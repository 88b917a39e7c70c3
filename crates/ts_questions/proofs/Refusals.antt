-- Which errors of the database are rejections, and which mean out of memory.
use Rattle.std.proofs.Common.{◌≡◌, ℕ, List, true, refl, sym, ◌∙◌, ap, subst, inl, inr}
use Rattle.std.specs.Prelude.{Option, None, Some, is_some, Err}
use Rattle.ts_spec.specs.Keyed.{Keyed}
use Rattle.ts_spec.specs.Refusal as refusal
use Rattle.ts_spec.specs.Replies.{reply_to}
use Rattle.ts_spec.specs.Response.{Response, Refused}
use Rattle.ts_spec.specs.State.{Record}
use Rattle.ts_spec.specs.Text.{Error, text}
use Rattle.ts_sample.specs.declared.sample.Id.{Id}
use Rattle.ts_db.specs.Faults.{refusal_of, IsRefusal, IsMemory}
use Rattle.ts_db.specs.DbState.{Finds, AllowsOutOfMemory}
use Rattle.ts_db.specs.declared.fault.DbFault.{DbFault}
use Rattle.ts_db.specs.declared.fault.DbFault.TheVariants.{KeyExists, NoKey, KeysFull, LabelsFull, TooOld, Duplicate, OutOfRange, BeforeLast, SamplesFull, DeleteBeyondRetention, SameKey, SourceIsDest, DestIsSource, DestHasSource, RulesSpent, RulesFull, NoRule, Memory}
use Rattle.ts_questions.specs.Answering.{message_of, IsReplyText}

pub is_refused : (ids : Keyed Id) (fault : DbFault) → IsRefusal fault → is_some (refusal_of ids fault) ≡ true
is_refused ids KeyExists is = refl
is_refused ids NoKey is = refl
is_refused ids KeysFull is = refl
is_refused ids LabelsFull is = refl
is_refused ids TooOld is = refl
is_refused ids Duplicate is = refl
is_refused ids OutOfRange is = refl
is_refused ids BeforeLast is = refl
is_refused ids (SamplesFull id written) is = refl
is_refused ids DeleteBeyondRetention is = refl
is_refused ids SameKey is = refl
is_refused ids SourceIsDest is = refl
is_refused ids DestIsSource is = refl
is_refused ids DestHasSource is = refl
is_refused ids RulesSpent is = refl
is_refused ids RulesFull is = refl
is_refused ids NoRule is = refl
is_refused ids (Memory e) is = absurd is

is_lost : (ids : Keyed Id) (fault : DbFault) → IsMemory fault → refusal_of ids fault ≡ None
is_lost ids KeyExists is = absurd is
is_lost ids NoKey is = absurd is
is_lost ids KeysFull is = absurd is
is_lost ids LabelsFull is = absurd is
is_lost ids TooOld is = absurd is
is_lost ids Duplicate is = absurd is
is_lost ids OutOfRange is = absurd is
is_lost ids BeforeLast is = absurd is
is_lost ids (SamplesFull id written) is = absurd is
is_lost ids DeleteBeyondRetention is = absurd is
is_lost ids SameKey is = absurd is
is_lost ids SourceIsDest is = absurd is
is_lost ids DestIsSource is = absurd is
is_lost ids DestHasSource is = absurd is
is_lost ids RulesSpent is = absurd is
is_lost ids RulesFull is = absurd is
is_lost ids NoRule is = absurd is
is_lost ids (Memory e) is = refl

-- a question that finds nothing is told that there is no such key, or no memory
pub missing_key_response : {T : Type 0} (response : Option Record → Response) (o : Option Record) (what : T → Type 0) (fault : DbFault) (ids : Keyed Id) (written : List ℕ) → response None ≡ Refused refusal.NoKey
    → ((d : Record) → AllowsOutOfMemory (response (Some d))) → Finds o what (Err fault) → written ≡ text (Error (message_of (refusal_of ids fault))) → IsReplyText (response o) written
missing_key_response response None what fault ids written none yields finds is =
    inl (is ∙ ap (λ (f : DbFault). text (Error (message_of (refusal_of ids f)))) finds ∙ ap (λ (r : Response). text (reply_to r)) (sym none))
missing_key_response response (Some d) what fault ids written none yields finds is = inr (yields d, is ∙ ap (λ (o : Option refusal.Refusal). text (Error (message_of o))) (is_lost ids fault finds))

-- one that takes no memory finds nothing only where there is no such key
pub no_key_response : {T : Type 0} (response : Option Record → Response) (o : Option Record) (what : T → Type 0) (fault : DbFault) (ids : Keyed Id) (written : List ℕ) → response None ≡ Refused refusal.NoKey
    → fault ≡ NoKey → Finds o what (Err fault) → written ≡ text (Error (message_of (refusal_of ids fault))) → written ≡ text (reply_to (response o))
no_key_response response None what fault ids written none missing finds is =
    is ∙ ap (λ (f : DbFault). text (Error (message_of (refusal_of ids f)))) finds ∙ ap (λ (r : Response). text (reply_to r)) (sym none)
no_key_response response (Some d) what fault ids written none missing finds is = absurd (subst IsMemory missing finds)
