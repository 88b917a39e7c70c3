-- The meaning of an error of `read`.
use Rattle.std.proofs.Common.{◌≡◌, refl, sym, subst, ◌⊎◌, inl, inr}
use Rattle.std.specs.Prelude.{Result, Ok, Err, IsTrue}
use Rattle.std.specs.Result.{IsErrAnd}
use Rattle.ts_spec.specs.Refusal.{Fault}
use Rattle.ts_spec.specs.Wire.{Request}
use Rattle.ts_spec.specs.Grammar.{command, makes_list}
use Rattle.ts_spec.specs.Messages.{fault_message, memory_message}
use Rattle.ts_command.specs.declared.fault.CommandFault.{CommandFault}
use Rattle.ts_command.specs.declared.fault.CommandFault.TheVariants as code
use Rattle.ts_command.specs.Faults.{fault_of, fault_of_word, message, IsFaultOrMemory, MatchesOrMemory}
use Rattle.ts_command.specs.Answers.{IsFaultIn}
use Rattle.ts_command.specs.declared.fault.WordFault.{WordFault}
use Rattle.ts_command.specs.declared.fault.ReadFault.{ReadFault}
use Rattle.ts_command.specs.declared.fault.ReadFault.TheVariants as read

-- the fault of the words with its message
pub record IsFaultOfWords (words : Request) (fault : CommandFault) : Type 0 where
  pub command : command words ≡ Err (fault_of fault)
  pub message : message fault ≡ fault_message (fault_of fault)

-- want of memory with its message
pub record IsWantOfMemory (words : Request) (fault : CommandFault) : Type 0 where
  pub lists : IsTrue (makes_list words)
  pub message : message fault ≡ memory_message

-- a fault that was answered is that of the words, or want of memory where they make a list
pub fault-or-memory : (words : Request) (fault : CommandFault) → IsFaultIn words fault → IsFaultOfWords words fault ⊎ IsWantOfMemory words fault
fault-or-memory words code.UnknownCommand e = inl (record { command = e; message = refl })
fault-or-memory words code.Arity e = inl (record { command = e; message = refl })
fault-or-memory words code.BadTimestamp e = inl (record { command = e; message = refl })
fault-or-memory words (code.BadValue fault) e = inl (record { command = e; message = refl })
fault-or-memory words code.BadOption e = inl (record { command = e; message = refl })
fault-or-memory words code.RepeatedOption e = inl (record { command = e; message = refl })
fault-or-memory words code.BadLabels e = inl (record { command = e; message = refl })
fault-or-memory words code.BadChunkSize e = inl (record { command = e; message = refl })
fault-or-memory words code.BadPolicy e = inl (record { command = e; message = refl })
fault-or-memory words code.BadEncoding e = inl (record { command = e; message = refl })
fault-or-memory words code.UnknownAggregator e = inl (record { command = e; message = refl })
fault-or-memory words code.AggregatorNotInProfile e = inl (record { command = e; message = refl })
fault-or-memory words code.BadDuration e = inl (record { command = e; message = refl })
fault-or-memory words code.BadFilter e = inl (record { command = e; message = refl })
fault-or-memory words code.NoPositiveFilter e = inl (record { command = e; message = refl })
fault-or-memory words (code.Memory error) e = inr (record { lists = e; message = refl })

-- what answers the fault of a word says what is wanted, if that is this fault
pub word-fault-says : {X Y : Type 0} (allowed : Type 0) (view : X → Y) (result : Result X ReadFault) (fault : WordFault) (wanted : Result Y Fault)
    → IsErrAnd result (λ e. e ≡ read.Word fault) → wanted ≡ Err (fault_of_word fault) → MatchesOrMemory allowed view result wanted
word-fault-says allowed view (Ok x) fault wanted is says = absurd is
word-fault-says allowed view (Err e) fault wanted is says = subst (λ (f : ReadFault). IsFaultOrMemory allowed f wanted) (sym is) says
