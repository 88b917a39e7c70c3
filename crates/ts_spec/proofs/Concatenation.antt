-- Two streams concatenate if the first ends between two requests.
use Rattle.std.proofs.Common.{◌≡◌, ℕ, zero, suc, ◌+◌, ◌-◌, Bool, true, false, nat_le, nat_lt, ◌==◌, if◌then◌else◌, List, [], ◌∷◌, ◌++◌, length, refl, sym, ap, ◌∙◌, subst, arith}
use Rattle.ts_spec.specs.declared.wire.Kind.TheVariants.{Crlf, Dollar, TooLarge}
use Rattle.ts_spec.specs.declared.wire.WireLimits.{WireLimits}
use Rattle.ts_spec.specs.Wire.{Request, Stream, Then, Ended, Inside, Broken, Partial, Mode, Start, Text, Count, CountFeed, Mark, Length, LengthFeed, Body, WordReturn, WordFeed, Move, Goto, Whole, Fault, LineMove, Goes, Returns, Wrong, STAR, DOLLAR, RETURN, FEED, expect_byte, on_text, on_count, on_length, on_body, after_count, after_length, after_word, line_step, words_of_line, move, at_end, after_move, then_request, read_on, ending_of}
use Rattle.ts_spec.specs.StreamPrefixes.{continued_by}

-- no byte leads back before a request but one that makes it whole
abbrev IsMid : Mode → Type 0
IsMid Start = ⊥
IsMid (Text line) = Unit {0}
IsMid (Count line) = Unit {0}
IsMid (CountFeed n) = Unit {0}
IsMid (Mark so_far) = Unit {0}
IsMid (Length so_far line) = Unit {0}
IsMid (LengthFeed so_far n) = Unit {0}
IsMid (Body so_far n bytes) = Unit {0}
IsMid (WordReturn so_far bytes) = Unit {0}
IsMid (WordFeed so_far bytes) = Unit {0}

abbrev LeadsOn : Move → Type 0
LeadsOn (Goto next) = IsMid next
LeadsOn (Whole request) = Unit {0}
LeadsOn (Fault kind) = Unit {0}

either : (test : Bool) (one other : Move) → LeadsOn one → LeadsOn other → LeadsOn (if test then one else other)
either true one other h k = h
either false one other h k = k

text_leads : (limits : WireLimits) (line : List ℕ) (byte : ℕ) → LeadsOn (on_text limits line byte)
text_leads limits line byte =
    either (byte == FEED) (Whole (words_of_line line)) (if nat_lt (length line) limits.line_bytes then Goto (Text (line ++ byte ∷ [])) else Fault TooLarge) tt
    (either (nat_lt (length line) limits.line_bytes) (Goto (Text (line ++ byte ∷ []))) (Fault TooLarge) tt tt)

count_leads : (m : LineMove) → LeadsOn (on_count m)
count_leads (Goes line) = tt
count_leads (Returns n) = tt
count_leads Wrong = tt

length_leads : (so_far : Partial) (m : LineMove) → LeadsOn (on_length so_far m)
length_leads so_far (Goes line) = tt
length_leads so_far (Returns n) =
    either (nat_le n so_far.room) (Goto (LengthFeed (record { words = so_far.words; later = so_far.later; room = so_far.room - n }) n)) (Fault TooLarge) tt tt
length_leads so_far Wrong = tt

counted : (limits : WireLimits) (n : ℕ) → LeadsOn (after_count limits n)
counted limits zero = tt
counted limits (suc later) = tt

measured : (so_far : Partial) (n : ℕ) → IsMid (after_length so_far n)
measured so_far zero = tt
measured so_far (suc n) = tt

filled : (so_far : Partial) (n : ℕ) (bytes : List ℕ) → IsMid (on_body so_far n bytes)
filled so_far zero bytes = tt
filled so_far (suc n) bytes = tt

ended : (words : Request) (later room : ℕ) → LeadsOn (after_word words later room)
ended words zero room = tt
ended words (suc later) room = tt

leads_on : (limits : WireLimits) (mode : Mode) (byte : ℕ) → LeadsOn (move limits mode byte)
leads_on limits Start byte = either (byte == STAR) (Goto (Count Rattle.ts_spec.specs.Wire.Line.Blank)) (on_text limits [] byte) tt (text_leads limits [] byte)
leads_on limits (Text line) byte = text_leads limits line byte
leads_on limits (Count line) byte = count_leads (line_step limits.words true line byte)
leads_on limits (CountFeed n) byte = either (byte == FEED) (after_count limits n) (Fault Crlf) (counted limits n) tt
leads_on limits (Mark so_far) byte = either (byte == DOLLAR) (Goto (Length so_far Rattle.ts_spec.specs.Wire.Line.Blank)) (Fault Dollar) tt tt
leads_on limits (Length so_far line) byte = length_leads so_far (line_step limits.word_bytes false line byte)
leads_on limits (LengthFeed so_far n) byte = either (byte == FEED) (Goto (after_length so_far n)) (Fault Crlf) (measured so_far n) tt
leads_on limits (Body so_far n bytes) byte = filled so_far (n - 1) (bytes ++ byte ∷ [])
leads_on limits (WordReturn so_far bytes) byte = either (byte == RETURN) (Goto (WordFeed so_far bytes)) (Fault Crlf) tt tt
leads_on limits (WordFeed so_far bytes) byte =
    either (byte == FEED) (after_word (so_far.words ++ bytes ∷ []) so_far.later so_far.room) (Fault Crlf) (ended (so_far.words ++ bytes ∷ []) so_far.later so_far.room) tt

-- before the first byte of a request, that request begins there
abbrev Begins : Mode → (place begin : ℕ) → Type 0
Begins Start place begin = begin ≡ place
Begins _ place begin = Unit {0}

mid_begins : (mode : Mode) (place begin : ℕ) → IsMid mode → Begins mode place begin
mid_begins Start place begin h = absurd h
mid_begins (Text line) place begin h = tt
mid_begins (Count line) place begin h = tt
mid_begins (CountFeed n) place begin h = tt
mid_begins (Mark so_far) place begin h = tt
mid_begins (Length so_far line) place begin h = tt
mid_begins (LengthFeed so_far n) place begin h = tt
mid_begins (Body so_far n bytes) place begin h = tt
mid_begins (WordReturn so_far bytes) place begin h = tt
mid_begins (WordFeed so_far bytes) place begin h = tt

abbrev IsEnded : Stream → Type 0
IsEnded (Then request place rest) = ⊥
IsEnded Ended = Unit {0}
IsEnded (Inside place) = ⊥
IsEnded (Broken kind place) = ⊥

-- what the bytes make, and then others
abbrev Concatenates : Stream → Stream → (ℕ → Stream) → ℕ → Type 0
Concatenates stream longer rest n = ending_of stream ≡ Ended → longer ≡ continued_by stream (rest n)

ends_here : (limits : WireLimits) (mode : Mode) (place begin : ℕ) (more : List ℕ) → Begins mode place begin
    → Concatenates (at_end mode begin) (read_on limits place begin mode more) (λ n. read_on limits (place + n) (place + n) Start more) 0
ends_here limits Start place begin more b = λ e.
    let here : place ≡ place + 0 = omega arith in
    ap (λ begin. read_on limits place begin Start more) b ∙ ap (λ place. read_on limits place place Start more) here
ends_here limits (Text line) place begin more b = λ e. absurd (subst IsEnded (sym e) tt)
ends_here limits (Count line) place begin more b = λ e. absurd (subst IsEnded (sym e) tt)
ends_here limits (CountFeed n) place begin more b = λ e. absurd (subst IsEnded (sym e) tt)
ends_here limits (Mark so_far) place begin more b = λ e. absurd (subst IsEnded (sym e) tt)
ends_here limits (Length so_far line) place begin more b = λ e. absurd (subst IsEnded (sym e) tt)
ends_here limits (LengthFeed so_far n) place begin more b = λ e. absurd (subst IsEnded (sym e) tt)
ends_here limits (Body so_far n bytes) place begin more b = λ e. absurd (subst IsEnded (sym e) tt)
ends_here limits (WordReturn so_far bytes) place begin more b = λ e. absurd (subst IsEnded (sym e) tt)
ends_here limits (WordFeed so_far bytes) place begin more b = λ e. absurd (subst IsEnded (sym e) tt)

one_more : (request : Request) (place : ℕ) (stream longer rest : Stream) → (ending_of stream ≡ Ended → longer ≡ continued_by stream rest)
    → ending_of (then_request request place stream) ≡ Ended → then_request request place longer ≡ continued_by (then_request request place stream) rest
one_more [] place stream longer rest h e = h e
one_more (word ∷ words) place stream longer rest h e = ap (λ longer. Then (word ∷ words) place longer) (h e)

moved : (m : Move) (place begin : ℕ) (on longer : ℕ → Mode → Stream) (rest : Stream) → LeadsOn m
    → ((from : ℕ) (next : Mode) → Begins next (place + 1) from → ending_of (on from next) ≡ Ended → longer from next ≡ continued_by (on from next) rest)
    → ending_of (after_move m place begin on) ≡ Ended → after_move m place begin longer ≡ continued_by (after_move m place begin on) rest
moved (Goto next) place begin on longer rest l h e = h begin next (mid_begins next (place + 1) begin l) e
moved (Whole request) place begin on longer rest l h e =
    one_more request (place + 1) (on (place + 1) Start) (longer (place + 1) Start) rest (h (place + 1) Start refl) e
moved (Fault kind) place begin on longer rest l h e = refl

pub concatenated : (limits : WireLimits) (place begin : ℕ) (mode : Mode) (bytes more : List ℕ) → Begins mode place begin
    → ending_of (read_on limits place begin mode bytes) ≡ Ended
    → read_on limits place begin mode (bytes ++ more) ≡ continued_by (read_on limits place begin mode bytes) (read_on limits (place + length bytes) (place + length bytes) Start more)
unfolding read_on
concatenated limits place begin mode [] more b e = ends_here limits mode place begin more b e
concatenated limits place begin mode (byte ∷ bytes) more b e =
    let there : place + 1 + length bytes ≡ place + suc (length bytes) = omega arith in
    moved (move limits mode byte) place begin (λ from next. read_on limits (place + 1) from next bytes) (λ from next. read_on limits (place + 1) from next (bytes ++ more))
    (read_on limits (place + suc (length bytes)) (place + suc (length bytes)) Start more) (leads_on limits mode byte)
    (λ from next b e. concatenated limits (place + 1) from next bytes more b e
    ∙ ap (λ after. continued_by (read_on limits (place + 1) from next bytes) (read_on limits after after Start more)) there)
    e
