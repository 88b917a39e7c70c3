-- What is written for an input if the journal fails.
use Rattle.std.specs.Prelude.{◌≡◌, ℕ, List, ◌∷◌, ◌++◌, length, Option}
use Rattle.ts_io.specs.Sinks.{Grows}
use Rattle.ts_spec.specs.Run.{Runs}
use Rattle.ts_spec.specs.Wire.{Request, stream_at}
use Rattle.ts_execution.specs.Journaling.{Snapshot, IsJournaled, IsTorn, journaled}
use Rattle.ts_engine.specs.Headline.{Exchange, requests}
use Rattle.ts_engine.specs.InputTaken.{PrefixTaken, IsWithinPiece, place_after}

module _ (exchange : Exchange journaled) where
  -- The first requests in these bytes were handled: their records are in the journal and their replies in the output.
  -- The next one was executed too, but the journal failed within its record, and nothing of its reply was written.
  pub record NotJournaled (bytes : List ℕ) : Type 0 where
    pub done : List Request
    pub last : Request
    pub others : List Request
    pub first : requests exchange.limits bytes ≡ done ++ last ∷ others
    pub text : List ℕ
    pub mid : Snapshot
    pub reply : List ℕ
    pub run : Runs IsJournaled exchange.from done text mid
    pub torn : IsTorn mid last reply exchange.to
    pub grown : Grows exchange.had exchange.has text

  -- That happened, and a prefix of the bytes was read that alone would be answered the same. It ends at most one piece
  -- past the request whose record is torn.
  pub record NotJournaledTaken (budget : ℕ) (bytes : List ℕ) (left : Option (List ℕ)) : Type 0 where
    pub taken : PrefixTaken budget bytes left
    pub not_journaled : NotJournaled bytes
    pub alone : NotJournaled taken.front
    pub read_bound : IsWithinPiece (place_after (stream_at exchange.limits 0 bytes) (length not_journaled.done)) (length taken.front)
