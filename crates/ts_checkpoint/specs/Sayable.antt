-- What words can say: the parts that read back from their words.
use Rattle.std.specs.Prelude.{◌≡◌, ℕ, ◌^◌, ◌≤◌, ◌<◌, ℤ, unsigned_abs, false, length, Option, None, IfSome, Ok}
use Rattle.ts_spec.specs.Aggregate.{Summary}
use Rattle.ts_spec.specs.Command.{Create}
use Rattle.ts_spec.specs.Grammar.{command}
use Rattle.ts_spec.specs.Key.{same}
use Rattle.ts_spec.specs.Sample.{MAX_TIME}
use Rattle.ts_spec.specs.Value.{bound}
use Rattle.ts_spec.specs.Wire.{Request}
use Rattle.ts_sample.specs.Chunk.{IsLimit}
use Rattle.ts_bucket.specs.Grid.{IsGrid}
use Rattle.ts_restore.specs.Checkpoint.{RulePart}
use Rattle.ts_checkpoint.specs.Parts.{SeriesHead, Piece, Part, Head, Series, Samples, Rule}
use Rattle.ts_checkpoint.specs.PartOf.{MOST_RULES}

-- a time, if there is one
abbrev pub IsTimeIfAny : Option ℕ → Type 0
IsTimeIfAny time = IfSome time (λ t. t ≤ MAX_TIME)

-- numbers within their bounds, and options and labels that some TS.CREATE gives
pub record IsSayableSeries (s : SeriesHead) : Type 0 where
  pub high : IsTimeIfAny s.high
  pub born : s.born ≤ MOST_RULES
  pub pieces : s.pieces ≤ MOST_RULES
  pub words : Request
  pub says : command words ≡ Ok (Create s.key s.spec)

-- samples that fit a valid limit
pub record IsSayablePiece (p : Piece) : Type 0 where
  pub limit : IsLimit p.limit
  pub some : 1 ≤ length p.samples
  pub fits : length p.samples ≤ p.limit

-- a value
abbrev pub IsValue : ℤ → Type 0
IsValue v = unsigned_abs v ≤ bound

-- numbers within their bounds
pub record IsSayableSummary (s : Summary) : Type 0 where
  pub count : s.count ≤ MAX_TIME
  pub sum : unsigned_abs s.sum < 10 ^ 38
  pub least : IsValue s.least
  pub greatest : IsValue s.greatest
  pub first : IsValue s.first
  pub last : IsValue s.last

-- numbers within their bounds, and two different keys; the rule counts samples only if it has an open bucket
pub record IsSayableRule (p : RulePart) : Type 0 where
  pub other : same p.source p.rule.dest ≡ false
  pub grid : IsGrid p.rule.grid
  pub made_from : 1 ≤ p.rule.made
  pub made_to : p.rule.made ≤ MOST_RULES
  pub current : IsTimeIfAny p.rule.current
  pub nowhere : p.rule.current ≡ None → p.rule.running.count ≡ 0
  pub running : IsSayableSummary p.rule.running

-- words can say this part
abbrev pub IsSayable : Part → Type 0
IsSayable (Head records) = records ≤ MAX_TIME
IsSayable (Series s) = IsSayableSeries s
IsSayable (Samples p) = IsSayablePiece p
IsSayable (Rule p) = IsSayableRule p
