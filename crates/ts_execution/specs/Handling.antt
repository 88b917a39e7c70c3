-- How a request is handled: its reply, and what it does to the database.
use Rattle.std.specs.Prelude.{◌≡◌, ◌⊎◌, ◌<◌, ◌^◌, ℕ, nat_lt, Bool, true, false, ◌&&◌, length, List, [], ◌∷◌, map, Option, None, Some, option_map, Result, Ok, Err, IsTrue}
use Rattle.std.specs.Result.{is_ok}
use Rattle.ts_io.specs.Clocks.{reading_of, readings_after}
use Rattle.ts_spec.specs.Command.{Triple, Command, Madd, DeleteRule, Get, Ping, Echo, Quit, Drop, Exists}
use Rattle.ts_spec.specs.Grammar.{command, makes_list, needs_clock}
use Rattle.ts_spec.specs.Refusal.{Fault}
use Rattle.ts_spec.specs.Replies.{array, fault_reply, memory_reply, item_reply, reply_to}
use Rattle.ts_spec.specs.State.{State}
use Rattle.ts_spec.specs.Step.{Outcome, step, triple_step, item_of}
use Rattle.ts_spec.specs.Text.{Reply, text}
use Rattle.ts_spec.specs.Wire.{Request}
use Rattle.ts_spec.specs.declared.limits.Limits.{Limits}
use Rattle.ts_db.specs.DbState.{DbState, AllowsOutOfMemory}
use Rattle.ts_execution.specs.Handler.{Handler}

-- the database, and the clock readings left, if they are known
pub record World : Type 0 where
  pub held : DbState
  pub readings : Option (List ℕ)

-- ---- one step

-- the reply and the new state are those of a step of the specification; the limits stay
pub record IsStep (step : Outcome) (old : DbState) (reply : Reply) (new : DbState) : Type 0 where
  pub says : reply ≡ reply_to step.response
  pub state : new.state ≡ step.state
  pub limits : new.limits ≡ old.limits

-- the reply is the out-of-memory error, and nothing changes
pub record IsOutOfMemory (old : DbState) (reply : Reply) (new : DbState) : Type 0 where
  pub says : reply ≡ memory_reply
  pub same : new ≡ old

-- a step of the specification; or out of memory, if the step itself is no error
abbrev pub StepOrOutOfMemory : Outcome → DbState → Reply → DbState → Type 0
StepOrOutOfMemory step old reply new = IsStep step old reply new ⊎ (AllowsOutOfMemory step.response × IsOutOfMemory old reply new)

-- ---- TS.MADD

-- both the time and the value of a triple are valid
abbrev pub is_well_formed : Triple → Bool
is_well_formed triple = is_ok triple.at && is_ok triple.value

-- the item and the new state are those of the step
pub record IsItem (step : Outcome) (item : Reply) (new : State) : Type 0 where
  pub reply : map item_reply (item_of step.response) ≡ item ∷ []
  pub state : new ≡ step.state

-- a valid triple runs out of memory, where the step is no error; the state stays
pub record ItemRunsOutOfMemory (step : Outcome) (triple : Triple) (old : State) (item : Reply) (new : State) : Type 0 where
  pub well_formed : IsTrue (is_well_formed triple)
  pub yields : AllowsOutOfMemory step.response
  pub reply : item ≡ memory_reply
  pub same : new ≡ old

-- the item of a triple, and the state after it
abbrev pub HasItem : Limits → (reading : ℕ) → Triple → State → Reply → State → Type 0
HasItem limits reading triple old item new =
    let step : Outcome = triple_step limits old reading triple.key triple.at triple.value in
    IsItem step item new ⊎ ItemRunsOutOfMemory step triple old item new

-- the first triple has the first item, and the rest follows from the state after it
pub record ItemThen (limits : Limits) (reading : ℕ) (triple : Triple) (old : State) (later : State → List Reply → Type 0) (items : List Reply) : Type 0 where
  pub first : Reply
  pub others : List Reply
  pub mid : State
  pub split : items ≡ first ∷ others
  pub here : HasItem limits reading triple old first mid
  pub after : later mid others

-- the items of these triples in order, all at the same clock reading
abbrev pub HaveItems : Limits → (reading : ℕ) → List Triple → State → List Reply → State → Type 0
HaveItems limits reading [] old items new = (items ≡ []) × (new ≡ old)
HaveItems limits reading (triple ∷ triples) old items new =
    ItemThen limits reading triple old (λ mid others. HaveItems limits reading triples mid others new) items

-- the reply is the array of all items
pub record HasAllItems (reading : ℕ) (triples : List Triple) (old : DbState) (reply : Reply) (new : DbState) : Type 0 where
  pub items : List Reply
  pub each : HaveItems old.limits reading triples old.state items new.state
  pub says : reply ≡ array items
  pub limits : new.limits ≡ old.limits

-- the text of the reply with all items
pub record WritesAll (reading : ℕ) (triples : List Triple) (old : DbState) (written : List ℕ) (new : DbState) : Type 0 where
  pub reply : Reply
  pub its_text : written ≡ text reply
  pub all : HasAllItems reading triples old reply new

-- ---- commands

-- how a command is answered, and what it does
abbrev pub IsAnswered : (reading : ℕ) → Command → DbState → Reply → DbState → Type 0
IsAnswered reading (Madd triples) old reply new = HasAllItems reading triples old reply new
IsAnswered reading other old reply new = IsStep (step old.limits old.state reading other) old reply new

-- an argument that may not fit the reserved reply buffer
abbrev pub is_long : List ℕ → Bool
is_long word = nat_lt 30 (length word)

-- whether a command may run out of memory; every other reply fits the reserved buffer
abbrev pub may_run_out_of_memory : Command → Bool
may_run_out_of_memory (DeleteRule source dest) = false
may_run_out_of_memory (Get key latest) = false
may_run_out_of_memory (Ping None) = false
may_run_out_of_memory (Ping (Some word)) = is_long word
may_run_out_of_memory (Echo word) = is_long word
may_run_out_of_memory Quit = false
may_run_out_of_memory (Drop keys) = false
may_run_out_of_memory (Exists keys) = false
may_run_out_of_memory other = true

-- a command that may run out of memory does, where the step is no error; nothing changes
pub record RunsOutOfMemory (reading : ℕ) (command : Command) (old : DbState) (reply : Reply) (new : DbState) : Type 0 where
  pub may : IsTrue (may_run_out_of_memory command)
  pub yields : AllowsOutOfMemory (step old.limits old.state reading command).response
  pub out_of_memory : IsOutOfMemory old reply new

-- `execute` wrote the text of the reply, or of the out-of-memory error
pub record Executes (reading : ℕ) (command : Command) (old : DbState) (written : List ℕ) (new : DbState) : Type 0 where
  pub reply : Reply
  pub its_text : written ≡ text reply
  pub done : IsAnswered reading command old reply new ⊎ RunsOutOfMemory reading command old reply new

-- ---- the clock

-- the clock reading of a command: the next known one, or any; 0 if it needs none
abbrev pub IsReading : (needed : Bool) → Option (List ℕ) → ℕ → Type 0
IsReading false readings reading = reading ≡ 0
IsReading true None reading = reading < 2 ^ 64
IsReading true (Some readings) reading = reading ≡ reading_of readings

-- the readings left after it
abbrev pub readings_after_use : (needed : Bool) → Option (List ℕ) → Option (List ℕ)
readings_after_use false readings = readings
readings_after_use true readings = option_map readings_after readings

-- ---- requests

-- the command was executed at its clock reading
pub record IsExecuted (command : Command) (from : World) (written : List ℕ) (to : World) : Type 0 where
  pub reading : ℕ
  pub read : IsReading (needs_clock command) from.readings reading
  pub executes : Executes reading command from.held written to.held
  pub left : to.readings ≡ readings_after_use (needs_clock command) from.readings

-- invalid arguments are answered by their error, and nothing changes
pub record IsRefused (fault : Fault) (from : World) (written : List ℕ) (to : World) : Type 0 where
  pub says : written ≡ text (fault_reply fault)
  pub same : to ≡ from

-- memory ran out for arguments that make a list, and nothing changes
pub record IsOutOfMemoryReading (request : Request) (from : World) (written : List ℕ) (to : World) : Type 0 where
  pub may : IsTrue (makes_list request)
  pub says : written ≡ text memory_reply
  pub same : to ≡ from

-- by the parsed arguments
abbrev pub HandlesBy : Result Command Fault → World → List ℕ → World → Type 0
HandlesBy (Ok command) from written to = IsExecuted command from written to
HandlesBy (Err fault) from written to = IsRefused fault from written to

-- how one request is handled: by its arguments, or out of memory while parsing them
abbrev pub handles : World → Request → List ℕ → World → Type 0
handles from request written to = HandlesBy (command request) from written to ⊎ IsOutOfMemoryReading request from written to

-- ---- the plain handler

-- handles requests and nothing else; a request whose reply is cut short was still executed
abbrev pub plain : Handler
plain = record {
  World = World;
  handles = handles;
  cut = λ from request reply kept to. handles from request reply to;
  Faults = Unit {0};
  rose = λ before now. ⊥;
}
