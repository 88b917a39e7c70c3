-- How many bytes of an input are read, by how it is answered.
use Rattle.std.specs.Prelude.{◌≡◌, ◌⊎◌, ⊤, true, ℕ, zero, suc, ◌+◌, ◌≤◌, if◌then◌else◌, List, [], ◌++◌, length, Option, None, Some}
use Rattle.std.proofs.Common.{inl, inr}
use Rattle.ts_spec.specs.Run.{is_quit}
use Rattle.ts_spec.specs.Wire.{Stream, Then, Ended, Inside, Broken, stream_at}
use Rattle.ts_engine.specs.declared.piped.End.{End}
use Rattle.ts_engine.specs.declared.piped.End.TheVariants as end
use Rattle.ts_words.specs.declared.status.Status.{Status}
use Rattle.ts_words.specs.declared.status.Status.TheVariants as status
use Rattle.ts_execution.specs.Handler.{Handler}
use Rattle.ts_engine.specs.Headline.{Exchange, RunView, exchange_of, AllAnswered, WholeAnswered, LastCut, FaultCut, asks_to_quit, Writes}
use Rattle.ts_engine.specs.Piping.{PIECE}
use Rattle.ts_engine.specs.Status.{status_of, place_of}
use Rattle.ts_engine.specs.Top.{Headline, Reports}

-- the offset after the first QUIT, if there is one
abbrev pub quit_place : Stream → Option ℕ
quit_place (Then request after rest) = if is_quit request then Some after else quit_place rest
quit_place Ended = None
quit_place (Inside place) = None
quit_place (Broken kind place) = None

-- the offset after the request with this index, counted from 0
abbrev pub place_after : Stream → ℕ → Option ℕ
place_after (Then request after rest) zero = Some after
place_after (Then request after rest) (suc n) = place_after rest n
place_after Ended n = None
place_after (Inside place) n = None
place_after (Broken kind place) n = None

-- there is such an offset, and at most one piece was read past it
pub record IsWithinPiece (place : Option ℕ) (taken : ℕ) : Type 0 where
  pub at : ℕ
  pub is : place ≡ Some at
  pub read_bound : taken ≤ at + PIECE

module _ {handler : Handler} (exchange : Exchange handler) (bytes : List ℕ) (left : Option (List ℕ)) where
  -- at most one piece was read past a QUIT
  abbrev pub QuitReadBound : WholeAnswered exchange bytes left Ended ⊎ (AllAnswered exchange bytes [] × (asks_to_quit exchange.limits bytes ≡ true)) → ℕ → Type 0
  QuitReadBound (inl whole) taken = ⊤
  QuitReadBound (inr quits) taken = IsWithinPiece (quit_place (stream_at exchange.limits 0 bytes)) taken

  -- at most one piece was read past the request whose reply was cut, or past the protocol error whose text was
  abbrev pub CutReadBound : LastCut exchange bytes ⊎ FaultCut exchange bytes → ℕ → Type 0
  CutReadBound (inl cut) taken = IsWithinPiece (place_after (stream_at exchange.limits 0 bytes) (length cut.done)) taken
  CutReadBound (inr cut) taken = taken ≤ cut.place + PIECE

  -- at most one piece was read past an end that the input shows
  abbrev pub ReadBound : (budget : ℕ) (e : End) → Writes exchange budget bytes left e → (taken : ℕ) → Type 0
  ReadBound budget end.Ended written taken = QuitReadBound written taken
  ReadBound budget (end.Truncated place) written taken = ⊤
  ReadBound budget (end.Protocol fault) written taken = taken ≤ fault.place + PIECE
  ReadBound budget end.ReadFault written taken = ⊤
  ReadBound budget end.Budget written taken = ⊤
  ReadBound budget end.Memory written taken = ⊤
  ReadBound budget end.WriteFault written taken = CutReadBound written taken

-- A prefix of these bytes was read, at most the budget. `left` is what the input has left.
pub record PrefixTaken (budget : ℕ) (bytes : List ℕ) (left : Option (List ℕ)) : Type 0 where
  pub front : List ℕ
  pub rest : List ℕ
  pub split : bytes ≡ front ++ rest
  pub left_is : left ≡ Some rest
  pub within : length front ≤ budget

-- What was written for an input with these bytes, by its end, and which prefix of it was read. That prefix alone would
-- be answered the same.
pub record WrittenAndTaken {handler : Handler} (exchange : Exchange handler) (budget : ℕ) (bytes : List ℕ) (left : Option (List ℕ)) (e : End) : Type 0 where
  pub written : Writes exchange budget bytes left e
  pub taken : PrefixTaken budget bytes left
  pub alone : Writes exchange budget taken.front (Some []) e
  pub read_bound : ReadBound exchange bytes left budget e written (length taken.front)

-- How an input with these bytes was answered, and which prefix of it was read: at most the budget. That prefix alone
-- would be answered the same. A good end always has the good status.
pub record InputTaken (seen : RunView) (budget : ℕ) (bytes : List ℕ) (left : Option (List ℕ)) (had has : List ℕ → Type 0) (given : Status) : Type 0 where
  pub headline : Headline seen budget bytes left had has given
  pub front : List ℕ
  pub rest : List ℕ
  pub split : bytes ≡ front ++ rest
  pub left_is : left ≡ Some rest
  pub within : length front ≤ budget
  pub alone : Writes (exchange_of seen headline.held) budget front (Some []) headline.end
  pub read_bound : ReadBound (exchange_of seen headline.held) bytes left budget headline.end headline.written (length front)
  pub quiet : headline.end ≡ end.Ended → given ≡ status.Ended

-- An end was reported by its status and line. Holds even if the input's bytes are unknown. A good end always has the
-- good status.
pub record HasStatusLine (had has : List ℕ → Type 0) (given : Status) : Type 0 where
  pub ended : End
  pub reported : Reports (status_of ended) (place_of ended) given had has
  pub quiet : ended ≡ end.Ended → given ≡ status.Ended
