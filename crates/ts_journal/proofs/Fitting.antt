-- If a command's request is within limits, its record fits the limits of the journal.
use Rattle.std.proofs.Common.{◌≡◌, ◌≢◌, ℕ, suc, ◌+◌, ◌-◌, ◌≤◌, ◌==◌, Bool, true, false, not, if◌then◌else◌, List, [], ◌∷◌, length, take, filter, sum_by, All, inl, inr, refl, ap, arith, sym, subst}
use Rattle.std.proofs.lemmas.Bool.{eqb-false}
use Rattle.std.proofs.lemmas.List.{length-take-le}
use Rattle.std.proofs.lemmas.List.Elements.{All-nil, All-cons}
use Rattle.std.proofs.lemmas.List.Splits.{slice_split-cons_yes, slice_split-cons_no}
use Rattle.std.proofs.lemmas.List.Sums.{sum_by-cons}
use Rattle.std.proofs.lemmas.Result.{IfOk-at_ok}
use Rattle.std.specs.List.{slice_split, onto_first}
use Rattle.std.specs.Prelude.{slice_index}
use Rattle.ts_spec.specs.declared.wire.WireLimits.{WireLimits}
use Rattle.ts_spec.specs.Encoded.{Fits, encoded}
use Rattle.ts_spec.specs.StreamPrefixes.{IsWithin}
use Rattle.ts_spec.specs.Settings.{Word}
use Rattle.ts_spec.specs.Text.{Reply}
use Rattle.ts_spec.specs.Wire.{Request, Ended, RETURN, is_blank, text_of_line, stream_at, requests_of, ending_of}
use Rattle.ts_spec.proofs.ReadBack.{requests-encoded}
use Rattle.ts_journal.specs.Limits.{IsBounded, IsRecordWithin, journal_limits}
use Rattle.ts_journal.specs.Record.{accepted, record_words}
use Rattle.ts_journal.proofs.CommandCosts.{command-costed}
use Rattle.ts_journal.proofs.Costs.{AreShort, Costs}

-- ---- the words of a line

onto-weight : (x : ℕ) (parts : List Word) → sum_by length (onto_first x parts) ≤ 1 + sum_by length parts
onto-weight x [] = omega (arith, sum_by-cons length (x ∷ []) [])
onto-weight x (part ∷ parts) = omega (arith, sum_by-cons length (x ∷ part) parts, sum_by-cons length part parts)

split-weight : (p : ℕ → Bool) (bytes : List ℕ) → sum_by length (slice_split p bytes) ≤ length bytes
split-weight p [] = omega arith
split-weight p (byte ∷ bytes) = go (p byte) refl (split-weight p bytes)
  where
    go : (b : Bool) → p byte ≡ b → sum_by length (slice_split p bytes) ≤ length bytes → sum_by length (slice_split p (byte ∷ bytes)) ≤ suc (length bytes)
    go true e h = omega (arith, ap (sum_by length) (slice_split-cons_yes p byte bytes e), sum_by-cons length [] (slice_split p bytes), h)
    go false e h = omega (arith, ap (sum_by length) (slice_split-cons_no p byte bytes e), onto-weight byte (slice_split p bytes), h)

-- the words are no more, nor longer together, than the bytes of their pieces
pieces-few : (pieces : List Word) → (length (filter (λ piece. not (length piece == 0)) pieces) ≤ sum_by length pieces) × (sum_by length (filter (λ piece. not (length piece == 0)) pieces) ≤ sum_by length pieces)
pieces-few [] = (omega arith, omega arith)
pieces-few (piece ∷ pieces) = go (length piece == 0) refl (pieces-few pieces)
  where
    rest : List Word
    rest = filter (λ piece. not (length piece == 0)) pieces

    total : sum_by length (piece ∷ pieces) ≡ length piece + sum_by length pieces
    total = sum_by-cons length piece pieces

    go : (b : Bool) → (length piece == 0) ≡ b → (length rest ≤ sum_by length pieces) × (sum_by length rest ≤ sum_by length pieces)
        → (length (if not b then piece ∷ rest else rest) ≤ sum_by length (piece ∷ pieces)) × (sum_by length (if not b then piece ∷ rest else rest) ≤ sum_by length (piece ∷ pieces))
    go true e h = (omega (arith, total, h.0), omega (arith, total, h.1))
    go false e h =
        let some = eqb-false (length piece) 0 e in
        let one : 1 ≤ length piece = omega (arith, some) in
        (omega (arith, total, h.0, one), omega (arith, total, h.1, sum_by-cons length piece rest))

text-few : (line : List ℕ) → length (text_of_line line) ≤ length line
text-few line = go (slice_index line (length line - 1) == RETURN)
  where
    go : (b : Bool) → length (if b then take (length line - 1) line else line) ≤ length line
    go true = omega (arith, length-take-le (length line - 1) line)
    go false = omega arith

-- ---- limits

short-together : (most : ℕ) (words : List Word) → sum_by length words ≤ most → AreShort most words
short-together most [] h = tt
short-together most (word ∷ words) h =
    let total = sum_by-cons length word words in
    (omega (arith, total, h), short-together most words (omega (arith, total, h)))

short-of-all : (most : ℕ) (words : List Word) → All (λ word. length word ≤ most) words → AreShort most words
short-of-all most [] h = tt
short-of-all most (word ∷ words) h = (h 0 word (omega arith), short-of-all most words (λ k d below. h (suc k) d (omega arith)))

all-of-short : (most more : ℕ) (words : List Word) → most ≤ more → AreShort most words → All (λ word. length word ≤ more) words
all-of-short most more [] e h = All-nil (λ word. length word ≤ more)
all-of-short most more (word ∷ words) e h = All-cons (λ word. length word ≤ more) word words (omega (arith, e, h.0)) (all-of-short most more words e h.1)

fitting : (limits : WireLimits) (put words : List Word) (count most together : ℕ) → Costs put words 32 512 → put ≢ []
    → length words ≤ count → AreShort most words → sum_by length words ≤ together
    → count ≤ limits.words + limits.line_bytes → most ≤ limits.word_bytes + limits.line_bytes → together ≤ limits.request_bytes + limits.line_bytes
    → Fits (journal_limits limits) put
fitting limits put words count most together cost some few short small a b c = record {
  some = some;
  words = omega (arith, cost.count, few, a);
  each = all-of-short (most + 32) (limits.word_bytes + limits.line_bytes + 32) put (omega (arith, b)) (cost.each most short);
  together = omega (arith, cost.together, small, c);
}

within-fits : (limits : WireLimits) (put words : List Word) → IsWithin limits words → Costs put words 32 512 → put ≢ [] → Fits (journal_limits limits) put
within-fits limits put words (inl fits) cost some =
    fitting limits put words limits.words limits.word_bytes limits.request_bytes cost some fits.words (short-of-all limits.word_bytes words fits.each) fits.together
    (omega arith) (omega arith) (omega arith)
within-fits limits put words (inr line) cost some =
    let bytes = text_of_line line.line in
    let pieces = slice_split is_blank bytes in
    let few = pieces-few pieces in
    let less = split-weight is_blank bytes in
    let short = text-few line.line in
    let its : length words ≤ limits.line_bytes = omega (arith, ap length line.words, few.0, less, short, line.bytes) in
    let sum : sum_by length words ≤ limits.line_bytes = omega (arith, ap (sum_by length) line.words, few.1, less, short, line.bytes) in
    fitting limits put words limits.line_bytes limits.line_bytes limits.line_bytes cost some its (short-together limits.line_bytes words sum) sum (omega arith) (omega arith) (omega arith)

pub record-fits : (limits : WireLimits) (request : Request) → IsRecordWithin limits request → Fits (journal_limits limits) request
record-fits limits request r =
    within-fits limits request r.words r.within
    (subst (λ put. Costs put r.words 32 512) (sym r.its)
    (IfOk-at_ok (λ c. (reading : ℕ) (reply : Reply) → Costs (record_words reading (accepted c reply)) r.words 32 512) r.says (command-costed r.words) r.reading r.reply)) r.some

-- records one after another are a stream of requests
pub records-read : (limits : WireLimits) → IsBounded limits → (records : List Request) → All (IsRecordWithin limits) records
    → (requests_of (stream_at (journal_limits limits) 0 (encoded records)) ≡ records) × (ending_of (stream_at (journal_limits limits) 0 (encoded records)) ≡ Ended)
records-read limits b records all =
    requests-encoded (journal_limits limits) records 0 (omega (arith, b.words, b.line_bytes)) (omega (arith, b.word_bytes, b.line_bytes))
    (λ k d below. record-fits limits _ (all k d below))
