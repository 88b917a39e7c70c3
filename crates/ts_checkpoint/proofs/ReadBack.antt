-- Parts read back from their words.
use Rattle.std.proofs.Common.{◌≡◌, ℕ, ◌≤◌, ◌&&◌, true, false, if◌then◌else◌, List, [], ◌∷◌, ◌++◌, length, codes, Some, refl, ◌∙◌, ap, arith}
use Rattle.std.proofs.lemmas.Bool.{le-leb, eq-eqb}
use Rattle.std.specs.Prelude.{Option, None, Ok, not}
use Rattle.std.specs.Fmt.{decimal}
use Rattle.std.specs.Str.{bytes_eq}
use Rattle.ts_spec.specs.Aggregate.{Summary}
use Rattle.ts_spec.specs.Command.{Create, CreateRule}
use Rattle.ts_spec.specs.Grammar.{command}
use Rattle.ts_spec.specs.Sample.{MAX_TIME}
use Rattle.ts_spec.specs.Wire.{Request}
use Rattle.ts_sample.specs.Chunk.{least_limit, greatest_limit}
use Rattle.ts_journal.specs.Record.{record_words}
use Rattle.ts_restore.specs.CheckNumber.{check_number}
use Rattle.ts_restore.specs.Checkpoint.{RulePart}
use Rattle.ts_checkpoint.specs.Numbers.{if_read, time_or_none, time_word}
use Rattle.ts_checkpoint.specs.Parts.{SeriesHead, Piece, Part, Head, Series, Samples, Rule}
use Rattle.ts_checkpoint.specs.PartOf.{MOST_RULES, head_part, series_part, piece_part, summary_in, rule_numbers, rule_part, unchecked_part, part_of, counts_nowhere}
use Rattle.ts_checkpoint.specs.PartWords.{checked, unchecked_words, part_words, summary_words}
use Rattle.ts_checkpoint.specs.Sayable.{IsTimeIfAny, IsSayableSeries, IsSayablePiece, IsSayableSummary, IsSayableRule, IsSayable}
use Rattle.ts_checkpoint.proofs.CommandsBack.{RecordsRead, create-read, create_rule-read}
use Rattle.ts_checkpoint.proofs.Decimals.{number-decimal, some-time-read, integer-read, value-read}

pub same-bytes : (word : List ℕ) → bytes_eq word word ≡ true
same-bytes [] = refl
same-bytes (b ∷ word) = ap (λ c. c && bytes_eq word word) (eq-eqb b b refl) ∙ same-bytes word

-- a record whose check number was written passes the test
pub checked-read : (name : List ℕ) (words : Request) → part_of (checked (name ∷ words)) ≡ unchecked_part (name ∷ words)
unfolding part_of
checked-read name words = ap (λ b. if b then unchecked_part (name ∷ words) else None) (same-bytes (decimal (check_number (name ∷ words))))

none-read : time_or_none (codes "-") ≡ Some None
unfolding time_or_none
none-read = refl

time-read : (o : Option ℕ) → IsTimeIfAny o → time_or_none (time_word o) ≡ Some o
time-read None h = none-read
time-read (Some t) h = some-time-read t h

head-read : (records : ℕ) → records ≤ MAX_TIME → unchecked_part (unchecked_words (Head records)) ≡ Some (Head records)
unfolding unchecked_part head_part
head-read records h = ap (λ o. if_read o (λ n. Some (Head n))) (number-decimal 0 MAX_TIME records (omega arith) (omega arith) h)

series-read : (s : SeriesHead) → IsSayableSeries s → command (record_words 0 (Create s.key s.spec)) ≡ Ok (Create s.key s.spec)
    → unchecked_part (unchecked_words (Series s)) ≡ Some (Series s)
unfolding unchecked_part series_part
series-read s h says =
    rw (
      time-read s.high h.high,
      number-decimal 0 MOST_RULES s.born (omega (arith, h.born)) (omega arith) h.born,
      number-decimal 0 MOST_RULES s.pieces (omega (arith, h.pieces)) (omega arith) h.pieces,
      says,
    ) refl

piece-read : (p : Piece) → IsSayablePiece p → unchecked_part (unchecked_words (Samples p)) ≡ Some (Samples p)
unfolding unchecked_part piece_part
piece-read p h =
    rw (
      number-decimal least_limit greatest_limit p.limit (omega (arith, h.limit.greatest)) h.limit.least h.limit.greatest,
      le-leb 1 (length p.samples) h.some,
      le-leb (length p.samples) p.limit h.fits,
    ) refl

summary-read : (s : Summary) (words : Request) → IsSayableSummary s → summary_in (summary_words s ++ words) ≡ Some s
unfolding summary_in
summary-read s words h =
    rw (
      number-decimal 0 MAX_TIME s.count (omega (arith, h.count)) (omega arith) h.count,
      integer-read s.sum h.sum,
      value-read s.least h.least,
      value-read s.greatest h.greatest,
      value-read s.first h.first,
      value-read s.last h.last,
    ) refl

-- a rule without an open bucket counts nothing
nowhere-false : (current : Option ℕ) (count : ℕ) → (current ≡ None → count ≡ 0) → counts_nowhere current count ≡ false
nowhere-false None count h = ap not (eq-eqb count 0 (h refl))
nowhere-false (Some b) count h = refl

numbers-read : (p : RulePart) (words : Request) → IsSayableRule p
    → rule_numbers (decimal p.rule.made ∷ time_word p.rule.current ∷ (summary_words p.rule.running ++ words))
    ≡ Some (record { made = p.rule.made; current = p.rule.current; running = p.rule.running })
unfolding rule_numbers
numbers-read p words h =
    rw (
      number-decimal 1 MOST_RULES p.rule.made (omega (arith, h.made_to)) h.made_from h.made_to,
      time-read p.rule.current h.current,
      summary-read p.rule.running words h.running,
    ) refl

rule-read : (p : RulePart) → IsSayableRule p
    → command (record_words 0 (CreateRule p.source p.rule.dest p.rule.agg p.rule.grid)) ≡ Ok (CreateRule p.source p.rule.dest p.rule.agg p.rule.grid)
    → unchecked_part (unchecked_words (Rule p)) ≡ Some (Rule p)
unfolding unchecked_part rule_part
rule-read p h says =
    rw (
      numbers-read p (record_words 0 (CreateRule p.source p.rule.dest p.rule.agg p.rule.grid)) h,
      says,
      h.other,
      nowhere-false p.rule.current p.rule.running.count h.nowhere,
    ) refl

pub reads-back : RecordsRead → (p : Part) → IsSayable p → part_of (part_words p) ≡ Some p
reads-back law (Head records) h = checked-read (codes "TSD.CHECKPOINT") (codes "1" ∷ decimal records ∷ []) ∙ head-read records h
reads-back law (Series s) h =
    checked-read (codes "TSD.SERIES") (time_word s.high ∷ decimal s.born ∷ decimal s.pieces ∷ record_words 0 (Create s.key s.spec))
    ∙ series-read s h (create-read law s.key s.spec h.words h.says)
reads-back law (Samples p) h = checked-read (codes "TSD.PIECE") (decimal p.limit ∷ p.samples ∷ []) ∙ piece-read p h
reads-back law (Rule p) h =
    checked-read (codes "TSD.RULE")
    (decimal p.rule.made ∷ time_word p.rule.current ∷ (summary_words p.rule.running ++ record_words 0 (CreateRule p.source p.rule.dest p.rule.agg p.rule.grid)))
    ∙ rule-read p h (create_rule-read p.source p.rule.dest p.rule.agg p.rule.grid h.grid)
