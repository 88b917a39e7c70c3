-- What a record does when it is executed: what its command did, as far as its reply accepted it.
use Rattle.std.specs.Prelude.{◌≡◌, ◌≢◌, ℕ, Bool, true, false, ◌||◌, List, [], ◌∷◌, Ok}
use Rattle.ts_spec.specs.declared.limits.Limits.{Limits}
use Rattle.ts_spec.specs.Command.{Triple, Command, Madd}
use Rattle.ts_spec.specs.Grammar.{command}
use Rattle.ts_spec.specs.Replies.{reply_to}
use Rattle.ts_spec.specs.Response.{Wrote}
use Rattle.ts_spec.specs.State.{State}
use Rattle.ts_spec.specs.Step.{Outcome, step, triple_step, item_of}
use Rattle.ts_spec.specs.Text.{Reply, Replies, Empty, Item}
use Rattle.ts_spec.specs.Wire.{Request}
use Rattle.ts_journal.specs.Record.{is_error, is_number, items_of, record_of}

-- the triple's sample was written, which leads to the new state
pub record IsTripleWritten (limits : Limits) (reading : ℕ) (t : Triple) (old new : State) : Type 0 where
  pub time : ℕ
  pub wrote : item_of (triple_step limits old reading t.key t.at t.value).response ≡ Wrote time ∷ []
  pub state : new ≡ (triple_step limits old reading t.key t.at t.value).state

-- what a triple does: it writes a sample if its item is a number; otherwise it changes nothing, because it failed, is
-- invalid or found no memory
abbrev pub ExecutesTriple : Bool → Limits → (reading : ℕ) → Triple → (old new : State) → Type 0
ExecutesTriple true limits reading t old new = IsTripleWritten limits reading t old new
ExecutesTriple false limits reading t old new = new ≡ old

-- the triples are executed in order, with the same reading, and each has its item in the reply
abbrev pub ExecutesTriples : Limits → (reading : ℕ) → List Triple → (old : State) → Replies → (new : State) → Type 0
ExecutesTriples limits reading [] old Empty new = new ≡ old
ExecutesTriples limits reading [] old (Item reply replies) new = ⊥
ExecutesTriples limits reading (t ∷ ts) old Empty new = ⊥
ExecutesTriples limits reading (t ∷ ts) old (Item reply replies) new = (mid : State) × ExecutesTriple (is_number reply) limits reading t old mid × ExecutesTriples limits reading ts mid replies new

-- a step gives this reply, and leads to the new state
pub record IsStep (done : Outcome) (reply : Reply) (new : State) : Type 0 where
  pub says : reply ≡ reply_to done.response
  pub state : new ≡ done.state

-- A command was executed with this reading: it got this reply, and led to the new state. Some triples of TS.MADD may
-- have run out of memory.
abbrev pub IsDone : Limits → (reading : ℕ) → Command → (old : State) → Reply → (new : State) → Type 0
IsDone limits reading (Madd triples) old reply new = ExecutesTriples limits reading triples old (items_of reply) new
IsDone limits reading c old reply new = IsStep (step limits old reading c) reply new

-- a command was executed, and has a record
pub record IsRecorded (limits : Limits) (reading : ℕ) (c : Command) (old : State) (reply : Reply) (new : State) : Type 0 where
  pub words : Request
  pub says : command words ≡ Ok c
  pub done : IsDone limits reading c old reply new
  pub some : record_of c reading reply ≢ []

-- whether one of the replies is an error
abbrev pub has_error : Replies → Bool
has_error Empty = false
has_error (Item reply replies) = is_error reply || has_error replies

-- the reply is not an error, and has none among its items
abbrev pub IsAccepted : Reply → Type 0
IsAccepted reply = (is_error reply ≡ false) × (has_error (items_of reply) ≡ false)
