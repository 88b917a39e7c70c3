-- How an input was answered, given its fault counters.
use Rattle.std.specs.Prelude.{◌≡◌, ◌⊎◌, ℕ, ◌≤◌, ◌<◌, List, length, take, Option}
use Rattle.ts_io.specs.Causes.{Rose}
use Rattle.ts_engine.specs.declared.piped.Outcome.{Outcome}
use Rattle.ts_words.specs.declared.status.Status.{Status}
use Rattle.ts_words.specs.declared.status.Status.TheVariants as status
use Rattle.ts_execution.specs.Handler.{Handler}
use Rattle.ts_engine.specs.Headline.{Exchange, Writes, count_done, ending, asks_to_quit}
use Rattle.ts_engine.specs.Status.{status_of}
use Rattle.ts_engine.specs.InputTaken.{ReadBound}
use Rattle.ts_engine.specs.Top.{status_by, status_cut}

-- out of memory, or this status
abbrev pub IsOutOfMemoryOr : (given wanted : Status) → Type 0
IsOutOfMemoryOr given wanted = (given ≡ status.Memory) ⊎ (given ≡ wanted)

-- The output is what the end says, for `executed` requests, and at most one piece was read past an end that the input
-- shows. If no fault counter rose, the end is out of memory or the one that the bytes determine.
pub record InputAnswered {handler : Handler} (exchange : Exchange handler) (budget : ℕ) (bytes : List ℕ) (left : Option (List ℕ)) (outcome : Outcome) (reads reads' writes writes' : ℕ) : Type 0 where
  pub written : Writes exchange budget bytes left outcome.end
  pub executed : outcome.executed ≡ count_done exchange budget bytes left outcome.end written
  pub read_bound : ReadBound exchange bytes left budget outcome.end written outcome.taken
  pub complete : length bytes < budget → (Rose reads reads' → ⊥) → (Rose writes writes' → ⊥)
      → IsOutOfMemoryOr (status_of outcome.end) (status_by (asks_to_quit exchange.limits bytes) (ending exchange.limits bytes))
  pub spent : budget ≤ length bytes → (Rose reads reads' → ⊥) → (Rose writes writes' → ⊥)
      → IsOutOfMemoryOr (status_of outcome.end) (status_cut (asks_to_quit exchange.limits (take budget bytes)) (ending exchange.limits (take budget bytes)))
