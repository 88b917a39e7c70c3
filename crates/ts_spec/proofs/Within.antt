-- The requests of a stream are within its limits.
use Rattle.std.proofs.Common.{◌≡◌, ◌≢◌, ℕ, zero, suc, ◌+◌, ◌-◌, ◌*◌, ◌<◌, ◌≤◌, Bool, true, false, ◌&&◌, nat_le, nat_lt, ◌==◌, if◌then◌else◌, List, [], ◌∷◌, ◌++◌, length, sum_by, All, inl, inr, refl, length-append, arith}
use Rattle.std.proofs.lemmas.Bool.{leb-true, ltb-true, and_parts}
use Rattle.std.proofs.lemmas.List.Elements.{All-nil, All-cons, All-append}
use Rattle.std.proofs.lemmas.List.Sums.{sum_by-append, sum_by-cons}
use Rattle.ts_spec.specs.declared.wire.Kind.TheVariants.{Crlf, Dollar, TooLarge}
use Rattle.ts_spec.specs.declared.wire.WireLimits.{WireLimits}
use Rattle.ts_spec.specs.StreamPrefixes.{IsWithin}
use Rattle.ts_spec.specs.Wire.{Request, Stream, Partial, Line, Blank, Zero, Number, Minus, MinusOne, Mode, Start, Text, Count, CountFeed, Mark, Length, LengthFeed, Body, WordReturn, WordFeed, Move, Goto, Whole, Fault, LineMove, Goes, Returns, Wrong, STAR, DOLLAR, RETURN, FEED, MINUS, on_text, on_count, on_length, on_body, after_count, after_length, after_word, with_digit, line_step, is_digit, digit_of, words_of_line, move, at_end, after_move, then_request, read_on, requests_of}

-- a number so far is at most this
abbrev IsAtMost : ℕ → Line → Type 0
IsAtMost limit (Number n) = n ≤ limit
IsAtMost limit other = Unit {0}

abbrev GoesWithin : ℕ → LineMove → Type 0
GoesWithin limit (Goes line) = IsAtMost limit line
GoesWithin limit (Returns n) = n ≤ limit
GoesWithin limit Wrong = Unit {0}

line_either : (limit : ℕ) (test : Bool) (one other : LineMove) → GoesWithin limit one → GoesWithin limit other → GoesWithin limit (if test then one else other)
line_either limit true one other h k = h
line_either limit false one other h k = k

digit_within : (limit n byte : ℕ) → GoesWithin limit (with_digit limit n byte)
digit_within limit n byte = go (is_digit byte && nat_le (10 * n + digit_of byte) limit) refl
  where
    go : (b : Bool) → (is_digit byte && nat_le (10 * n + digit_of byte) limit) ≡ b
        → GoesWithin limit (if b then Goes (Number (10 * n + digit_of byte)) else Wrong)
    go true e = leb-true (10 * n + digit_of byte) limit (and_parts (is_digit byte) (nat_le (10 * n + digit_of byte) limit) e).1
    go false e = tt

line_within : (limit : ℕ) (negative : Bool) (line : Line) (byte : ℕ) → IsAtMost limit line → GoesWithin limit (line_step limit negative line byte)
line_within limit negative Blank byte h =
    line_either limit (byte == 48) (Goes Zero) (if negative && (byte == MINUS) then Goes Minus else with_digit limit 0 byte) tt
    (line_either limit (negative && (byte == MINUS)) (Goes Minus) (with_digit limit 0 byte) tt (digit_within limit 0 byte))
line_within limit negative Zero byte h = line_either limit (byte == RETURN) (Returns 0) Wrong (omega arith) tt
line_within limit negative (Number n) byte h = line_either limit (byte == RETURN) (Returns n) (with_digit limit n byte) h (digit_within limit n byte)
line_within limit negative Minus byte h = line_either limit (byte == 49) (Goes MinusOne) Wrong tt tt
line_within limit negative MinusOne byte h = line_either limit (byte == RETURN) (Returns 0) Wrong (omega arith) tt

-- the words so far fit, and this many more bytes
pub record FitSoFar (limits : WireLimits) (so_far : Partial) (bytes : ℕ) : Type 0 where
  pub words : length so_far.words + suc so_far.later ≤ limits.words
  pub each : All (λ word. length word ≤ limits.word_bytes) so_far.words
  pub word : bytes ≤ limits.word_bytes
  pub together : sum_by length so_far.words + bytes + so_far.room ≤ limits.request_bytes

-- what has come of a request is within the limits
abbrev IsPart : WireLimits → Mode → Type 0
IsPart limits Start = Unit {0}
IsPart limits (Text line) = length line ≤ limits.line_bytes
IsPart limits (Count line) = IsAtMost limits.words line
IsPart limits (CountFeed n) = n ≤ limits.words
IsPart limits (Mark so_far) = FitSoFar limits so_far 0
IsPart limits (Length so_far line) = FitSoFar limits so_far 0 × IsAtMost limits.word_bytes line
IsPart limits (LengthFeed so_far n) = FitSoFar limits so_far n
IsPart limits (Body so_far n bytes) = FitSoFar limits so_far (length bytes + n) × (0 < n)
IsPart limits (WordReturn so_far bytes) = FitSoFar limits so_far (length bytes)
IsPart limits (WordFeed so_far bytes) = FitSoFar limits so_far (length bytes)

abbrev MovesWithin : WireLimits → Move → Type 0
MovesWithin limits (Goto next) = IsPart limits next
MovesWithin limits (Whole request) = request ≢ [] → IsWithin limits request
MovesWithin limits (Fault kind) = Unit {0}

either : (limits : WireLimits) (test : Bool) (one other : Move) → MovesWithin limits one → MovesWithin limits other → MovesWithin limits (if test then one else other)
either limits true one other h k = h
either limits false one other h k = k

text_within : (limits : WireLimits) (line : List ℕ) (byte : ℕ) → length line ≤ limits.line_bytes → MovesWithin limits (on_text limits line byte)
text_within limits line byte h =
    either limits (byte == FEED) (Whole (words_of_line line)) (if nat_lt (length line) limits.line_bytes then Goto (Text (line ++ byte ∷ [])) else Fault TooLarge)
    (λ some. inr (record { line = line; words = refl; bytes = h }))
    (go (nat_lt (length line) limits.line_bytes) refl)
  where
    go : (b : Bool) → nat_lt (length line) limits.line_bytes ≡ b → MovesWithin limits (if b then Goto (Text (line ++ byte ∷ [])) else Fault TooLarge)
    go true e = omega (arith, ltb-true (length line) limits.line_bytes e, length-append line (byte ∷ []))
    go false e = tt

counted : (limits : WireLimits) (n : ℕ) → n ≤ limits.words → MovesWithin limits (after_count limits n)
counted limits zero h = λ some. absurd (some refl)
counted limits (suc later) h = record { words = omega (arith, h); each = All-nil (λ word. length word ≤ limits.word_bytes); word = omega arith; together = omega arith }

count_within : (limits : WireLimits) (m : LineMove) → GoesWithin limits.words m → MovesWithin limits (on_count m)
count_within limits (Goes line) h = h
count_within limits (Returns n) h = h
count_within limits Wrong h = tt

length_within : (limits : WireLimits) (so_far : Partial) (m : LineMove) → FitSoFar limits so_far 0 → GoesWithin limits.word_bytes m → MovesWithin limits (on_length so_far m)
length_within limits so_far (Goes line) f h = (f, h)
length_within limits so_far (Returns n) f h = go (nat_le n so_far.room) refl
  where
    go : (b : Bool) → nat_le n so_far.room ≡ b
        → MovesWithin limits (if b then Goto (LengthFeed (record { words = so_far.words; later = so_far.later; room = so_far.room - n }) n) else Fault TooLarge)
    go true e = record { words = f.words; each = f.each; word = h; together = omega (arith, leb-true n so_far.room e, f.together) }
    go false e = tt
length_within limits so_far Wrong f h = tt

measured : (limits : WireLimits) (so_far : Partial) (n : ℕ) → FitSoFar limits so_far n → IsPart limits (after_length so_far n)
measured limits so_far zero f = f
measured limits so_far (suc n) f = (record { words = f.words; each = f.each; word = omega (arith, f.word); together = omega (arith, f.together) }, omega arith)

filled : (limits : WireLimits) (so_far : Partial) (n : ℕ) (bytes : List ℕ) → FitSoFar limits so_far (length bytes + n) → IsPart limits (on_body so_far n bytes)
filled limits so_far zero bytes f = record { words = f.words; each = f.each; word = omega (arith, f.word); together = omega (arith, f.together) }
filled limits so_far (suc n) bytes f = (f, omega arith)

one_more : (limits : WireLimits) (so_far : Partial) (n : ℕ) (bytes : List ℕ) (byte : ℕ) → 0 < n → FitSoFar limits so_far (length bytes + n)
    → FitSoFar limits so_far (length (bytes ++ byte ∷ []) + (n - 1))
one_more limits so_far n bytes byte some f =
    let same : length (bytes ++ byte ∷ []) + (n - 1) ≡ length bytes + n = omega (arith, length-append bytes (byte ∷ [])) in
    record { words = f.words; each = f.each; word = omega (arith, same, f.word); together = omega (arith, same, f.together) }

ended : (limits : WireLimits) (words : Request) (word : List ℕ) (later room : ℕ) → FitSoFar limits (record { words = words; later = later; room = room }) (length word)
    → MovesWithin limits (after_word (words ++ word ∷ []) later room)
ended limits words word later room f = go later f
  where
    each : FitSoFar limits (record { words = words; later = later; room = room }) (length word) → All (λ word. length word ≤ limits.word_bytes) (words ++ word ∷ [])
    each f = All-append (λ word. length word ≤ limits.word_bytes) words (word ∷ []) f.each
        (All-cons (λ word. length word ≤ limits.word_bytes) word [] f.word (All-nil (λ word. length word ≤ limits.word_bytes)))

    count : length (words ++ word ∷ []) ≡ length words + 1
    count = length-append words (word ∷ [])

    total : sum_by length (words ++ word ∷ []) ≡ sum_by length words + length word
    total = omega (arith, sum_by-append length words (word ∷ []), sum_by-cons length word [])

    go : (later : ℕ) → FitSoFar limits (record { words = words; later = later; room = room }) (length word) → MovesWithin limits (after_word (words ++ word ∷ []) later room)
    go zero g = λ some. inl (record { some = some; words = omega (arith, count, g.words); each = each f; together = omega (arith, total, g.together) })
    go (suc later) g = record { words = omega (arith, count, g.words); each = each f; word = omega arith; together = omega (arith, total, g.together) }

moves : (limits : WireLimits) (mode : Mode) (byte : ℕ) → IsPart limits mode → MovesWithin limits (move limits mode byte)
moves limits Start byte h = either limits (byte == STAR) (Goto (Count Blank)) (on_text limits [] byte) tt (text_within limits [] byte (omega arith))
moves limits (Text line) byte h = text_within limits line byte h
moves limits (Count line) byte h = count_within limits (line_step limits.words true line byte) (line_within limits.words true line byte h)
moves limits (CountFeed n) byte h = either limits (byte == FEED) (after_count limits n) (Fault Crlf) (counted limits n h) tt
moves limits (Mark so_far) byte h = either limits (byte == DOLLAR) (Goto (Length so_far Blank)) (Fault Dollar) (h, tt) tt
moves limits (Length so_far line) byte h =
    length_within limits so_far (line_step limits.word_bytes false line byte) h.0 (line_within limits.word_bytes false line byte h.1)
moves limits (LengthFeed so_far n) byte h = either limits (byte == FEED) (Goto (after_length so_far n)) (Fault Crlf) (measured limits so_far n h) tt
moves limits (Body so_far n bytes) byte h = filled limits so_far (n - 1) (bytes ++ byte ∷ []) (one_more limits so_far n bytes byte h.1 h.0)
moves limits (WordReturn so_far bytes) byte h = either limits (byte == RETURN) (Goto (WordFeed so_far bytes)) (Fault Crlf) h tt
moves limits (WordFeed so_far bytes) byte h =
    either limits (byte == FEED) (after_word (so_far.words ++ bytes ∷ []) so_far.later so_far.room) (Fault Crlf) (ended limits so_far.words bytes so_far.later so_far.room h) tt

within_end : (limits : WireLimits) (mode : Mode) (begin : ℕ) → All (IsWithin limits) (requests_of (at_end mode begin))
within_end limits Start begin = All-nil (IsWithin limits)
within_end limits (Text line) begin = All-nil (IsWithin limits)
within_end limits (Count line) begin = All-nil (IsWithin limits)
within_end limits (CountFeed n) begin = All-nil (IsWithin limits)
within_end limits (Mark so_far) begin = All-nil (IsWithin limits)
within_end limits (Length so_far line) begin = All-nil (IsWithin limits)
within_end limits (LengthFeed so_far n) begin = All-nil (IsWithin limits)
within_end limits (Body so_far n bytes) begin = All-nil (IsWithin limits)
within_end limits (WordReturn so_far bytes) begin = All-nil (IsWithin limits)
within_end limits (WordFeed so_far bytes) begin = All-nil (IsWithin limits)

some_word : (word : List ℕ) (words : Request) → (word ∷ words) ≢ []
some_word word words = λ e. cc

first_within : (limits : WireLimits) (request : Request) (place : ℕ) (rest : Stream) → (request ≢ [] → IsWithin limits request) → All (IsWithin limits) (requests_of rest)
    → All (IsWithin limits) (requests_of (then_request request place rest))
first_within limits [] place rest h others = others
first_within limits (word ∷ words) place rest h others = All-cons (IsWithin limits) (word ∷ words) (requests_of rest) (h (some_word word words)) others

moved : (limits : WireLimits) (m : Move) (place begin : ℕ) (on : ℕ → Mode → Stream) → MovesWithin limits m
    → ((from : ℕ) (next : Mode) → IsPart limits next → All (IsWithin limits) (requests_of (on from next))) → All (IsWithin limits) (requests_of (after_move m place begin on))
moved limits (Goto next) place begin on h others = others begin next h
moved limits (Whole request) place begin on h others = first_within limits request (place + 1) (on (place + 1) Start) h (others (place + 1) Start tt)
moved limits (Fault kind) place begin on h others = All-nil (IsWithin limits)

pub requests-within : (limits : WireLimits) (place begin : ℕ) (mode : Mode) (bytes : List ℕ) → IsPart limits mode
    → All (IsWithin limits) (requests_of (read_on limits place begin mode bytes))
unfolding read_on
requests-within limits place begin mode [] h = within_end limits mode begin
requests-within limits place begin mode (byte ∷ bytes) h =
    moved limits (move limits mode byte) place begin (λ from next. read_on limits (place + 1) from next bytes) (moves limits mode byte h)
    (λ from next part. requests-within limits (place + 1) from next bytes part)
