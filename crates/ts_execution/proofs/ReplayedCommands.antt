-- Replaying a request of a journal.
use Rattle.std.specs.Prelude.{is_some, Option, None, Some, Result, Ok, Err, if◌then◌else◌, ◌&&◌, not}
use Rattle.std.proofs.Common.{◌≡◌, Bool, true, false, ℕ, ◌+◌, List, [], ◌∷◌, refl, sym, ◌∙◌, ap, subst}
use Rattle.ts_command.specs.declared.fault.CommandFault.{CommandFault}
use Rattle.ts_command.specs.declared.fault.CommandFault.TheVariants as spoken
use Rattle.ts_command.specs.Answers.{IsFaultIn}
use Rattle.ts_spec.specs.declared.limits.Limits.{Limits}
use Rattle.ts_spec.specs.Command.{Command, Drop}
use Rattle.ts_spec.specs.Grammar.{command, needs_clock}
use Rattle.ts_spec.specs.Key.{Key}
use Rattle.ts_spec.specs.Keyed.{Keyed, get}
use Rattle.ts_spec.specs.Replies.{reply_to}
use Rattle.ts_spec.specs.Response.{Response, Count, Done}
use Rattle.ts_spec.specs.Rules.{dropped}
use Rattle.ts_spec.specs.State.{State}
use Rattle.ts_spec.specs.Step.{Outcome, step, drop_keys}
use Rattle.ts_spec.specs.Text.{Reply}
use Rattle.ts_spec.specs.Wire.{Request}
use Rattle.ts_sample.specs.declared.sample.Id.{Id}
use Rattle.ts_db.specs.Faults.{refusal_of}
use Rattle.ts_db.specs.DbState.{DbState, DbView, Represents, Simulates, Answers, IsAnswer}
use Rattle.ts_db.specs.declared.fault.DbFault.{DbFault}
use Rattle.ts_db.specs.declared.fault.DbFault.TheVariants.{KeyExists, NoKey, KeysFull, LabelsFull, TooOld, Duplicate, OutOfRange, BeforeLast, SamplesFull, DeleteBeyondRetention, SameKey, SourceIsDest, DestIsSource, DestHasSource, RulesSpent, RulesFull, NoRule, Memory}
use Rattle.ts_journal.specs.Record.{is_change}
use Rattle.ts_journal.specs.Loading.{is_accepted, accepted_state, apply_recorded, apply_recorded_request}
use Rattle.ts_execution.specs.JournalReplay.{replay_result_of_fault, replay_result_of, replay_result_of_words, ReplaysCommand, ReplaysRequest}
use Rattle.ts_execution.specs.declared.journal_replay.ReplayResult.{ReplayResult}
use Rattle.ts_execution.specs.declared.journal_replay.ReplayResult.TheVariants as replay_result
use Rattle.ts_execution.specs.Handling.{IsStep}
use Rattle.ts_execution.proofs.Carried.{carries_none, carries_as}

-- ---- which commands a journal contains

-- a change that does not read the clock is replayed by its step
pub apply_recorded-change : (limits : Limits) (m : State) (c : Command) → is_change c ≡ true → needs_clock c ≡ false → apply_recorded limits m c ≡ accepted_state (step limits m 0 c)
apply_recorded-change limits m c change clock =
    ap (λ (b : Bool). if b && not (needs_clock c) then accepted_state (step limits m 0 c) else None) change
    ∙ ap (λ (b : Bool). if not b then accepted_state (step limits m 0 c) else None) clock

-- no other command is valid in a journal
pub apply_recorded-none : (limits : Limits) (m : State) (c : Command) → is_change c ≡ false → apply_recorded limits m c ≡ None
apply_recorded-none limits m c h = ap (λ (b : Bool). if b && not (needs_clock c) then accepted_state (step limits m 0 c) else None) h

neither : (b : Bool) (o : Option State) → (if b && false then o else None) ≡ None
neither true o = refl
neither false o = refl

pub apply_recorded-clock : (limits : Limits) (m : State) (c : Command) → needs_clock c ≡ true → apply_recorded limits m c ≡ None
apply_recorded-clock limits m c h =
    ap (λ (b : Bool). if is_change c && not b then accepted_state (step limits m 0 c) else None) h ∙ neither (is_change c) (accepted_state (step limits m 0 c))

-- ---- results of the database

accepts : (done : Outcome) (response : Response) → done.response ≡ response → is_accepted (reply_to response) ≡ true → accepted_state done ≡ Some done.state
accepts done response says good =
    ap (λ (r : Response). if is_accepted (reply_to r) then Some done.state else None) says ∙ ap (λ (b : Bool). if b then Some done.state else None) good

refuses : (c : Command) (ids : Keyed Id) (fault : DbFault) (from : DbState) (o : Outcome) → apply_recorded from.limits from.state c ≡ accepted_state o
    → IsAnswer (refusal_of ids fault) from.state o → ReplaysCommand (replay_result_of_fault fault) c from from
refuses c ids (Memory e) from o same is = tt
refuses c ids KeyExists from o same is = (same ∙ ap accepted_state is, refl)
refuses c ids NoKey from o same is = (same ∙ ap accepted_state is, refl)
refuses c ids KeysFull from o same is = (same ∙ ap accepted_state is, refl)
refuses c ids LabelsFull from o same is = (same ∙ ap accepted_state is, refl)
refuses c ids TooOld from o same is = (same ∙ ap accepted_state is, refl)
refuses c ids Duplicate from o same is = (same ∙ ap accepted_state is, refl)
refuses c ids OutOfRange from o same is = (same ∙ ap accepted_state is, refl)
refuses c ids BeforeLast from o same is = (same ∙ ap accepted_state is, refl)
refuses c ids (SamplesFull id written) from o same is = (same ∙ ap accepted_state is, refl)
refuses c ids DeleteBeyondRetention from o same is = (same ∙ ap accepted_state is, refl)
refuses c ids SameKey from o same is = (same ∙ ap accepted_state is, refl)
refuses c ids SourceIsDest from o same is = (same ∙ ap accepted_state is, refl)
refuses c ids DestIsSource from o same is = (same ∙ ap accepted_state is, refl)
refuses c ids DestHasSource from o same is = (same ∙ ap accepted_state is, refl)
refuses c ids RulesSpent from o same is = (same ∙ ap accepted_state is, refl)
refuses c ids RulesFull from o same is = (same ∙ ap accepted_state is, refl)
refuses c ids NoRule from o same is = (same ∙ ap accepted_state is, refl)

-- the call did what its command does, or returned the error
pub replay_matches : {T : Type 0} (response : T → Response) (c : Command) (one : DbState → Outcome) (old new : DbView) (result : Result T DbFault)
    → ((x : T) → is_accepted (reply_to (response x)) ≡ true) → ((h : DbState) → apply_recorded h.limits h.state c ≡ accepted_state (one h))
    → Answers response old one result new → Simulates old new (λ from to. ReplaysCommand (replay_result_of result) c from to)
replay_matches response c one old new (Ok x) good same answers = λ from stands.
    let a = answers from stands in
    record {
      to = record { limits = from.limits; state = (one from).state };
      done = (same from ∙ accepts (one from) (response x) a.says (good x), refl);
      stands = a.stands;
    }
replay_matches response c one old new (Err fault) good same answers = λ from stands. record {
  to = from;
  done = refuses c old.ids fault from (one from) (same from) (answers.0 from stands);
  stands = subst (λ (s : DbView). Represents s from) (sym answers.1) stands;
}

-- by the same result
pub restores_as : (c : Command) (old new : DbView) (told answer : ReplayResult) → answer ≡ told → Simulates old new (λ from to. ReplaysCommand told c from to) → Simulates old new (λ from to. ReplaysCommand answer c from to)
restores_as c old new told answer is carries = subst (λ (r : ReplayResult). Simulates old new (λ from to. ReplaysCommand r c from to)) (sym is) carries

-- a call that returns OK, and one that returns a count
pub replay_matches-done : (c : Command) (one : DbState → Outcome) (old new : DbView) (result : Result (Unit {0}) DbFault) (answer : ReplayResult) → answer ≡ replay_result_of result
    → ((h : DbState) → apply_recorded h.limits h.state c ≡ accepted_state (one h)) → Answers (λ x. Done) old one result new → Simulates old new (λ from to. ReplaysCommand answer c from to)
replay_matches-done c one old new result answer is same answers = restores_as c old new (replay_result_of result) answer is (replay_matches (λ x. Done) c one old new result (λ x. refl) same answers)

pub replay_matches-number : (c : Command) (one : DbState → Outcome) (old new : DbView) (result : Result ℕ DbFault) (answer : ReplayResult) → answer ≡ replay_result_of result
    → ((h : DbState) → apply_recorded h.limits h.state c ≡ accepted_state (one h)) → Answers (λ t. Count t) old one result new → Simulates old new (λ from to. ReplaysCommand answer c from to)
replay_matches-number c one old new result answer is same answers = restores_as c old new (replay_result_of result) answer is (replay_matches (λ t. Count t) c one old new result (λ t. refl) same answers)

-- DEL never fails
drop-accepted : (m : State) (so_far : ℕ) (keys : List Key) → is_accepted (reply_to (drop_keys m so_far keys).response) ≡ true
drop-accepted m so_far [] = refl
drop-accepted m so_far (key ∷ keys) =
    let there : Bool = is_some (get key m) in
    drop-accepted (if there then dropped key m else m) (if there then so_far + 1 else so_far) keys

pub replay_matches-drop : (keys : List Key) (old new : DbView) (reply : Reply) → Simulates old new (λ from to. IsStep (drop_keys from.state 0 keys) from reply to)
    → Simulates old new (λ from to. ReplaysCommand replay_result.Accepted (Drop keys) from to)
replay_matches-drop keys old new reply carries =
    carries_as old new (λ from to. IsStep (drop_keys from.state 0 keys) from reply to) (λ from to. ReplaysCommand replay_result.Accepted (Drop keys) from to)
    (λ from to is. (
      apply_recorded-change from.limits from.state (Drop keys) refl refl
          ∙ ap (λ (b : Bool). if b then Some (drop_keys from.state 0 keys).state else None) (drop-accepted from.state 0 keys)
          ∙ ap Some (sym is.state),
      is.limits,
    )) carries

-- a command that a journal does not contain
pub replay_matches-not : (c : Command) (db_view : DbView) → ((h : DbState) → apply_recorded h.limits h.state c ≡ None) → Simulates db_view db_view (λ from to. ReplaysCommand replay_result.Refused c from to)
replay_matches-not c db_view none = carries_none db_view (λ from to. ReplaysCommand replay_result.Refused c from to) (λ from stands. (none from, refl))

-- ---- requests

-- valid arguments
pub words-restore : (words : Request) (c : Command) (answer : ReplayResult) (old new : DbView) → command words ≡ Ok c → Simulates old new (λ from to. ReplaysCommand answer c from to)
    → Simulates old new (λ from to. ReplaysRequest answer words from to)
words-restore words c replay_result.Accepted old new is carries =
    carries_as old new (λ from to. ReplaysCommand replay_result.Accepted c from to) (λ from to. ReplaysRequest replay_result.Accepted words from to)
    (λ from to done. (ap (apply_recorded_request from.limits from.state) is ∙ done.0, done.1)) carries
words-restore words c replay_result.Refused old new is carries =
    carries_as old new (λ from to. ReplaysCommand replay_result.Refused c from to) (λ from to. ReplaysRequest replay_result.Refused words from to)
    (λ from to done. (ap (apply_recorded_request from.limits from.state) is ∙ done.0, done.1)) carries
words-restore words c replay_result.Memory old new is carries =
    carries_as old new (λ from to. ReplaysCommand replay_result.Memory c from to) (λ from to. ReplaysRequest replay_result.Memory words from to) (λ from to done. tt) carries

refuses-words : (words : Request) (fault : CommandFault) (from : DbState) → IsFaultIn words fault → ReplaysRequest (replay_result_of_words fault) words from from
refuses-words words (spoken.Memory e) from is = tt
refuses-words words spoken.UnknownCommand from is = (ap (apply_recorded_request from.limits from.state) is, refl)
refuses-words words spoken.Arity from is = (ap (apply_recorded_request from.limits from.state) is, refl)
refuses-words words spoken.BadTimestamp from is = (ap (apply_recorded_request from.limits from.state) is, refl)
refuses-words words (spoken.BadValue fault) from is = (ap (apply_recorded_request from.limits from.state) is, refl)
refuses-words words spoken.BadOption from is = (ap (apply_recorded_request from.limits from.state) is, refl)
refuses-words words spoken.RepeatedOption from is = (ap (apply_recorded_request from.limits from.state) is, refl)
refuses-words words spoken.BadLabels from is = (ap (apply_recorded_request from.limits from.state) is, refl)
refuses-words words spoken.BadChunkSize from is = (ap (apply_recorded_request from.limits from.state) is, refl)
refuses-words words spoken.BadPolicy from is = (ap (apply_recorded_request from.limits from.state) is, refl)
refuses-words words spoken.BadEncoding from is = (ap (apply_recorded_request from.limits from.state) is, refl)
refuses-words words spoken.UnknownAggregator from is = (ap (apply_recorded_request from.limits from.state) is, refl)
refuses-words words spoken.AggregatorNotInProfile from is = (ap (apply_recorded_request from.limits from.state) is, refl)
refuses-words words spoken.BadDuration from is = (ap (apply_recorded_request from.limits from.state) is, refl)
refuses-words words spoken.BadFilter from is = (ap (apply_recorded_request from.limits from.state) is, refl)
refuses-words words spoken.NoPositiveFilter from is = (ap (apply_recorded_request from.limits from.state) is, refl)

-- invalid arguments, or out of memory while parsing them
pub words-refuse : (words : Request) (fault : CommandFault) (db_view : DbView) (answer : ReplayResult) → answer ≡ replay_result_of_words fault → IsFaultIn words fault
    → Simulates db_view db_view (λ from to. ReplaysRequest answer words from to)
words-refuse words fault db_view answer told is =
    carries_none db_view (λ from to. ReplaysRequest answer words from to)
    (λ from stands. subst (λ (r : ReplayResult). ReplaysRequest r words from from) (sym told) (refuses-words words fault from is))
