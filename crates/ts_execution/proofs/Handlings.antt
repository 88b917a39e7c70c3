-- A request is handled, in each state that the database represents.
use Rattle.std.proofs.Common.{◌≡◌, ℕ, List, inl, sym, subst}
use Rattle.std.specs.Prelude.{Option, Result, Ok}
use Rattle.ts_command.specs.Answers.{IsFaultIn}
use Rattle.ts_command.specs.Faults.{message}
use Rattle.ts_command.specs.declared.fault.CommandFault.{CommandFault}
use Rattle.ts_spec.specs.Command.{Command}
use Rattle.ts_spec.specs.Grammar.{command, needs_clock}
use Rattle.ts_spec.specs.Refusal.{Fault}
use Rattle.ts_spec.specs.Text.{Error, text}
use Rattle.ts_spec.specs.Wire.{Request}
use Rattle.ts_db.specs.DbState.{DbView, Simulates}
use Rattle.ts_execution.specs.Handling.{Executes, IsReading, readings_after_use, HandlesBy, handles}
use Rattle.ts_execution.proofs.Carried.{carries_none, carries_as}
use Rattle.ts_execution.proofs.Faulted.{faulted}

-- valid arguments
pub turns_by : (words : Request) (said : Command) (reading : ℕ) (readings left : Option (List ℕ)) (old new : DbView) (written : List ℕ) → command words ≡ Ok said
    → IsReading (needs_clock said) readings reading → left ≡ readings_after_use (needs_clock said) readings → Simulates old new (λ from to. Executes reading said from written to)
    → Simulates old new (λ from to. handles (record { held = from; readings = readings }) words written (record { held = to; readings = left }))
turns_by words said reading readings left old new written is read left_is carries =
    carries_as old new (λ from to. Executes reading said from written to)
    (λ from to. handles (record { held = from; readings = readings }) words written (record { held = to; readings = left }))
    (λ from to executes. inl (subst (λ (r : Result Command Fault). HandlesBy r (record { held = from; readings = readings }) written (record { held = to; readings = left })) (sym is)
    (record { reading = reading; read = read; executes = executes; left = left_is }))) carries

-- invalid arguments, or out of memory while parsing them
pub turns_faulted : (words : Request) (fault : CommandFault) (readings : Option (List ℕ)) (db_view : DbView) (written : List ℕ) → IsFaultIn words fault → written ≡ text (Error (message fault))
    → Simulates db_view db_view (λ from to. handles (record { held = from; readings = readings }) words written (record { held = to; readings = readings }))
turns_faulted words fault readings db_view written is says =
    carries_none db_view (λ from to. handles (record { held = from; readings = readings }) words written (record { held = to; readings = readings }))
    (λ from stands. faulted words fault (record { held = from; readings = readings }) written is says)
