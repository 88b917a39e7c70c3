-- Responses to commands, before they are encoded as replies.
use Rattle.std.specs.Prelude.{ℕ, List, Option}
use Rattle.ts_spec.specs.declared.bucket.Aggregator.{Aggregator}
use Rattle.ts_spec.specs.Bucket.{Grid}
use Rattle.ts_spec.specs.Key.{Key}
use Rattle.ts_spec.specs.State.{Label}
use Rattle.ts_spec.specs.declared.series.Options.{Options}
use Rattle.ts_spec.specs.Refusal.{Fault, Refusal}
use Rattle.ts_spec.specs.Answer.{Row}

-- the response to one triple of TS.MADD
pub data Item : Type 0 where
  -- the time of the written sample
  Wrote : ℕ → Item
  -- its time or value is invalid
  IsWrong : Fault → Item
  IsRefused : Refusal → Item

-- a label in a reply, with its value if the series has it
pub record ShownLabel : Type 0 where
  pub name : List ℕ
  pub value : Option (List ℕ)

-- one series in a reply over many
pub record Member : Type 0 where
  pub key : Key
  pub labels : List ShownLabel
  pub rows : List Row

-- what TS.INFO returns for a rule
pub record RuleInfo : Type 0 where
  pub dest : Key
  pub grid : Grid
  pub agg : Aggregator

-- What TS.INFO returns: the number of samples that the key shows, the times of the first and the last one (0 if there
-- is none), and the options, labels and rules of the series.
pub record Info : Type 0 where
  pub total : ℕ
  pub first : ℕ
  pub last : ℕ
  pub options : Options
  pub labels : List Label
  pub source : Option Key
  pub rules : List RuleInfo

-- The response to a command.
pub data Response : Type 0 where
  Done : Response
  -- a time in milliseconds, or a count
  Count : ℕ → Response
  Refused : Refusal → Response
  Items : List Item → Response
  Rows : List Row → Response
  -- the last row, if there is one
  LastRow : Option Row → Response
  Members : List Member → Response
  -- members with at most one row
  LastRows : List Member → Response
  Keys : List Key → Response
  KeyInfo : Info → Response
  Pong : Response
  -- a word sent back
  Word : List ℕ → Response
