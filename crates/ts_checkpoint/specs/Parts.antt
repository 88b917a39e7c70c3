-- What one record of a checkpoint says.
use Rattle.std.specs.Prelude.{ℕ, List, Option}
use Rattle.ts_spec.specs.Command.{Spec}
use Rattle.ts_spec.specs.Key.{Key}
use Rattle.ts_restore.specs.Checkpoint.{RulePart}
use Rattle.ts_restore.specs.Summaries.{summary_of}
use Rattle.ts_labels.specs.Spec.{spec_of}
use Rattle.ts_checkpoint.specs.declared.part.Part as code
use Rattle.ts_checkpoint.specs.declared.part.Part.TheVariants as part
use Rattle.ts_checkpoint.specs.declared.part.SeriesHead as code_series
use Rattle.ts_checkpoint.specs.declared.part.Piece as code_piece
use Rattle.ts_checkpoint.specs.declared.part.RuleRecord as code_rule

-- a series, without its rules and samples, and how many pieces follow with its samples
pub record SeriesHead : Type 0 where
  pub key : Key
  pub spec : Spec
  pub high : Option ℕ
  pub born : ℕ
  pub pieces : ℕ

-- the samples of one chunk, packed, and the limit of the chunk
pub record Piece : Type 0 where
  pub limit : ℕ
  pub samples : List ℕ

-- what a record says
pub data Part : Type 0 where
  -- the first record: how many follow
  Head : (records : ℕ) → Part
  Series : SeriesHead → Part
  -- the next samples of the series before it
  Samples : Piece → Part
  Rule : RulePart → Part

-- ---- the values of the code

-- a series
abbrev pub series_of : code_series.SeriesHead → SeriesHead
series_of s = record { key = s.key; spec = spec_of s.spec; high = s.high; born = s.born; pieces = s.pieces }

-- a piece
abbrev pub piece_of : code_piece.Piece → Piece
piece_of p = record { limit = p.limit; samples = p.samples }

-- a rule
abbrev pub rule_of : code_rule.RuleRecord → RulePart
rule_of r = record {
  source = r.source;
  rule = record {
    dest = r.dest;
    agg = r.agg;
    grid = r.grid;
    made = r.made;
    current = r.current;
    running = summary_of r.running;
  };
}

-- what a record says
abbrev pub value_of : code.Part → Part
value_of (part.Head records) = Head records
value_of (part.Series s) = Series (series_of s)
value_of (part.Samples p) = Samples (piece_of p)
value_of (part.Rule r) = Rule (rule_of r)
