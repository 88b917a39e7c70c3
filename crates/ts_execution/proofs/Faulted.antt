-- Invalid arguments are handled as specified.
use Rattle.std.proofs.Common.{◌≡◌, false, inl, inr, ⊎_elim, ℕ, List, refl, sym, ◌∙◌, ap, subst}
use Rattle.std.specs.Prelude.{◌⊎◌, Result, Err}
use Rattle.ts_spec.specs.Command.{Command}
use Rattle.ts_spec.specs.Grammar.{command}
use Rattle.ts_spec.specs.Run.{is_quit, says_quit}
use Rattle.ts_spec.specs.Refusal as refusal
use Rattle.ts_spec.specs.Refusal.{Fault}
use Rattle.ts_spec.specs.Text.{Error, text}
use Rattle.ts_spec.specs.Wire.{Request}
use Rattle.ts_command.specs.declared.fault.CommandFault.{CommandFault}
use Rattle.ts_command.specs.declared.fault.CommandFault.TheVariants as code
use Rattle.ts_command.specs.Answers.{IsFaultIn}
use Rattle.ts_command.specs.Faults.{message}
use Rattle.ts_command.proofs.AnswerLemmas.{IsFaultOfWords, IsWantOfMemory, fault-or-memory}
use Rattle.ts_questions.specs.Answering.{IsShort}
use Rattle.ts_questions.proofs.Short.{short_memory}
use Rattle.ts_execution.specs.Handling.{World, IsRefused, IsOutOfMemoryReading, HandlesBy, handles}
use Rattle.ts_execution.proofs.ShortAnswers.{short_fault}
use Rattle.ts_execution.proofs.Lists.{lists_no_quit}

-- invalid arguments are answered by their error, or by out of memory
pub refused_or_unread : (words : Request) (fault : CommandFault) (from : World) (written : List ℕ) → IsFaultIn words fault → written ≡ text (Error (message fault))
    → ((f : Fault) × (command words ≡ Err f) × IsRefused f from written from) ⊎ IsOutOfMemoryReading words from written from
refused_or_unread words fault from written is says =
    ⊎_elim
    (λ (in_words : IsFaultOfWords words fault). inl (
      _,
      in_words.command,
      record {
        says = says ∙ ap (λ (l : List ℕ). text (Error l)) in_words.message;
        same = refl;
      },
    ))
    (λ (want : IsWantOfMemory words fault). inr (record {
      may = want.lists;
      says = says ∙ ap (λ (l : List ℕ). text (Error l)) want.message;
      same = refl;
    }))
    (fault-or-memory words fault is)

pub faulted : (words : Request) (fault : CommandFault) (from : World) (written : List ℕ) → IsFaultIn words fault → written ≡ text (Error (message fault)) → handles from words written from
faulted words fault from written is says =
    ⊎_elim
    (λ (refused : (f : Fault) × (command words ≡ Err f) × IsRefused f from written from).
    inl (subst (λ (r : Result Command Fault). HandlesBy r from written from) (sym refused.1) refused.2))
    (λ (unread : IsOutOfMemoryReading words from written from). inr unread)
    (refused_or_unread words fault from written is says)

-- arguments that were answered by an error or by out of memory are not QUIT
pub faulted_no_quit : (words : Request) (fault : CommandFault) → IsFaultIn words fault → is_quit words ≡ false
faulted_no_quit words fault is =
    ⊎_elim (λ (in_words : IsFaultOfWords words fault). ap says_quit in_words.command)
    (λ (want : IsWantOfMemory words fault). lists_no_quit words want.lists)
    (fault-or-memory words fault is)

pub message_is_short : (fault : CommandFault) → IsShort (Error (message fault))
message_is_short code.UnknownCommand = short_fault refusal.UnknownCommand
message_is_short code.Arity = short_fault refusal.Arity
message_is_short code.BadTimestamp = short_fault refusal.BadTimestamp
message_is_short (code.BadValue fault) = short_fault (refusal.BadValue fault)
message_is_short code.BadOption = short_fault refusal.BadOption
message_is_short code.RepeatedOption = short_fault refusal.RepeatedOption
message_is_short code.BadLabels = short_fault refusal.BadLabels
message_is_short code.BadChunkSize = short_fault refusal.BadChunkSize
message_is_short code.BadPolicy = short_fault refusal.BadPolicy
message_is_short code.BadEncoding = short_fault refusal.BadEncoding
message_is_short code.UnknownAggregator = short_fault refusal.UnknownAggregator
message_is_short code.AggregatorNotInProfile = short_fault refusal.AggregatorNotInProfile
message_is_short code.BadDuration = short_fault refusal.BadDuration
message_is_short code.BadFilter = short_fault refusal.BadFilter
message_is_short code.NoPositiveFilter = short_fault refusal.NoPositiveFilter
message_is_short (code.Memory error) = short_memory
