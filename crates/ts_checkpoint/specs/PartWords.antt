-- The words of a record: its name, a check number, what it says, and for series and rules the command that makes one.
use Rattle.std.specs.Prelude.{[], ◌∷◌, ◌++◌, codes}
use Rattle.std.specs.Fmt.{decimal, signed_decimal}
use Rattle.ts_spec.specs.Aggregate.{Summary}
use Rattle.ts_spec.specs.Command.{Create, CreateRule}
use Rattle.ts_spec.specs.Value.{shown_value}
use Rattle.ts_spec.specs.Wire.{Request}
use Rattle.ts_journal.specs.Record.{record_words}
use Rattle.ts_restore.specs.CheckNumber.{check_number}
use Rattle.ts_restore.specs.Checkpoint.{RulePart}
use Rattle.ts_checkpoint.specs.Numbers.{time_word}
use Rattle.ts_checkpoint.specs.Parts.{SeriesHead, Part, Head, Series, Samples, Rule}

-- the words about a series, before its command
abbrev pub series_numbers : SeriesHead → Request
series_numbers s = codes "TSD.SERIES" ∷ time_word s.high ∷ decimal s.born ∷ decimal s.pieces ∷ []

-- a summary
abbrev pub summary_words : Summary → Request
summary_words s =
    decimal s.count ∷ signed_decimal s.sum ∷ shown_value s.least ∷ shown_value s.greatest ∷ shown_value s.first
    ∷ shown_value s.last ∷ []

-- the words about a rule, before its command
abbrev pub rule_numbers : RulePart → Request
rule_numbers p = codes "TSD.RULE" ∷ decimal p.rule.made ∷ time_word p.rule.current ∷ summary_words p.rule.running

-- all words but the check number
abbrev pub unchecked_words : Part → Request
unchecked_words (Head records) = codes "TSD.CHECKPOINT" ∷ codes "1" ∷ decimal records ∷ []
unchecked_words (Series s) = series_numbers s ++ record_words 0 (Create s.key s.spec)
unchecked_words (Samples p) = codes "TSD.PIECE" ∷ decimal p.limit ∷ p.samples ∷ []
unchecked_words (Rule p) = rule_numbers p ++ record_words 0 (CreateRule p.source p.rule.dest p.rule.agg p.rule.grid)

-- these words with their check number behind the first
abbrev pub checked : Request → Request
checked [] = []
checked (name ∷ words) = name ∷ decimal (check_number (name ∷ words)) ∷ words

-- the words of a record
abbrev pub part_words : Part → Request
part_words p = checked (unchecked_words p)
