-- Commands whose times are resolved: a reading of the clock replaces each `*`.
use Rattle.std.specs.Prelude.{◌≡◌, ℕ, Bool, true, false, [], ◌∷◌, map, Result, Ok, Err}
use Rattle.ts_spec.specs.declared.command.At.{At}
use Rattle.ts_spec.specs.declared.command.At.TheVariants.{Time}
use Rattle.ts_spec.specs.Command.{Triple, Command, Add, Madd, Incr}
use Rattle.ts_spec.specs.Outcome.{time_of, Outcome}
use Rattle.ts_spec.specs.Refusal.{Fault}
use Rattle.ts_spec.specs.Response.{Item, Wrote, IsWrong, IsRefused}
use Rattle.ts_spec.specs.State.{State}
use Rattle.ts_spec.specs.Writing.{item_of}

-- a resolved time, and the resolved time of a triple, which may be bad
abbrev pub resolved_at : (reading : ℕ) → At → At
resolved_at reading at = Time (time_of reading at)

abbrev pub resolved_word : (reading : ℕ) → Result At Fault → Result At Fault
resolved_word reading (Ok at) = Ok (resolved_at reading at)
resolved_word reading (Err fault) = Err fault

-- a triple with its time resolved
abbrev pub resolved_triple : (reading : ℕ) → Triple → Triple
resolved_triple reading t = record { key = t.key; at = resolved_word reading t.at; value = t.value }

-- a command with its times resolved
abbrev pub resolved : (reading : ℕ) → Command → Command
resolved reading (Add key at v on spec) = Add key (resolved_at reading at) v on spec
resolved reading (Madd triples) = Madd (map (resolved_triple reading) triples)
resolved reading (Incr key change at spec) = Incr key change (resolved_at reading at) spec
resolved reading c = c

-- whether an item is the time of a sample that was written
abbrev pub is_written : Item → Bool
is_written (Wrote t) = true
is_written (IsWrong fault) = false
is_written (IsRefused refusal) = false

-- The response has one item. Unless that is the time of a written sample, the state is unchanged.
pub record AnswersOneItem (old : State) (done : Outcome) : Type 0 where
  pub item : Item
  pub told : item_of done.response ≡ item ∷ []
  pub stays : is_written item ≡ false → done.state ≡ old
