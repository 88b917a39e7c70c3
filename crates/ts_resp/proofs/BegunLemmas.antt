-- Where the current request begins, one byte of its header at a time.
use Rattle.std.proofs.Common.{◌≡◌, ℕ, suc, ◌+◌, ◌<◌, Bool, true, false, ◌==◌, if◌then◌else◌, List, [], ◌∷◌, length, drop, Some, refl, sym, ap, ◌∙◌, subst, arith}
use Rattle.std.proofs.lemmas.List.{drop-drop}
use Rattle.ts_spec.specs.declared.wire.Kind.TheVariants.{Multibulk, Crlf}
use Rattle.ts_spec.specs.declared.wire.WireLimits.{WireLimits}
use Rattle.ts_spec.specs.Wire.{Mode, Start, Count, CountFeed, STAR, FEED, Move, Fault, Line, Blank, LineMove, Goes, Returns, Wrong, expect_byte, move, line_step, on_count, after_count}
use Rattle.ts_resp.proofs.StartLemmas.{on_star}
use Rattle.ts_resp.specs.declared.line.NumberLine.{NumberLine}
use Rattle.ts_resp.specs.declared.line.NumberLine.TheVariants as found
use Rattle.ts_resp.specs.declared.header.Header.{Header}
use Rattle.ts_resp.specs.declared.header.Header.TheVariants as header
use Rattle.ts_resp.specs.Lines.{after, on_move, number_line}
use Rattle.ts_resp.specs.Reading.{begun_after, begun_at_end, begun_on}
use Rattle.ts_resp.specs.Headers.{IsBegun, feed_at}

pub begun_on-nil : (limits : WireLimits) (place begin : ℕ) (mode : Mode) → begun_on limits place begin mode [] ≡ begun_at_end mode begin
unfolding begun_on
begun_on-nil limits place begin mode = refl

pub begun_on-byte : (limits : WireLimits) (place begin : ℕ) (mode : Mode) (byte : ℕ) (bytes : List ℕ) (m : Move) → move limits mode byte ≡ m
    → begun_on limits place begin mode (byte ∷ bytes) ≡ begun_after m place begin (λ from next. begun_on limits (place + 1) from next bytes)
unfolding begun_on
begun_on-byte limits place begin mode byte bytes m e =
    ap (λ m. begun_after m place begin (λ from next. begun_on limits (place + 1) from next bytes)) e

-- what the rest of the line makes of it
abbrev IsLineBegun : WireLimits → Line → List ℕ → (place begin : ℕ) → NumberLine → Type 0
IsLineBegun limits line bytes place begin found.Open = begun_on limits place begin (Count line) bytes ≡ Some begin
IsLineBegun limits line bytes place begin (found.Whole number len) =
    begun_on limits place begin (Count line) bytes ≡ begun_on limits (place + len + 1) begin (CountFeed number) (drop (len + 1) bytes)
IsLineBegun limits line bytes place begin (found.Wrong at) = begun_on limits place begin (Count line) bytes ≡ Some begin

line_byte : (limits : WireLimits) (line : Line) (byte : ℕ) (bytes : List ℕ) (place begin : ℕ) (step : LineMove) → line_step limits.words true line byte ≡ step
    → begun_on limits place begin (Count line) (byte ∷ bytes)
    ≡ begun_after (on_count step) place begin (λ from next. begun_on limits (place + 1) from next bytes)
line_byte limits line byte bytes place begin step e = begun_on-byte limits place begin (Count line) byte bytes _ (ap on_count e)

IsLineBegun-later : (limits : WireLimits) (line next : Line) (byte : ℕ) (bytes : List ℕ) (place begin : ℕ) (r : NumberLine) → line_step limits.words true line byte ≡ Goes next
    → IsLineBegun limits next bytes (place + 1) begin r → IsLineBegun limits line (byte ∷ bytes) place begin (after 1 r)
IsLineBegun-later limits line next byte bytes place begin found.Open e h = line_byte limits line byte bytes place begin _ e ∙ h
IsLineBegun-later limits line next byte bytes place begin (found.Whole number len) e h =
    let there : place + 1 + len + 1 ≡ place + (1 + len) + 1 = omega arith in
    let less : suc (len + 1) ≡ 1 + len + 1 = omega arith in
    line_byte limits line byte bytes place begin _ e ∙ h
    ∙ ap (λ place. begun_on limits place begin (CountFeed number) (drop (len + 1) bytes)) there
    ∙ ap (λ k. begun_on limits (place + (1 + len) + 1) begin (CountFeed number) (drop k (byte ∷ bytes))) less
IsLineBegun-later limits line next byte bytes place begin (found.Wrong at) e h = line_byte limits line byte bytes place begin _ e ∙ h

IsLineBegun-move : (limits : WireLimits) (line : Line) (byte : ℕ) (bytes : List ℕ) (place begin : ℕ) (step : LineMove) → line_step limits.words true line byte ≡ step
    → ((next : Line) → IsLineBegun limits next bytes (place + 1) begin (number_line limits.words true next bytes))
    → IsLineBegun limits line (byte ∷ bytes) place begin (on_move step (λ next. number_line limits.words true next bytes))
IsLineBegun-move limits line byte bytes place begin (Goes next) e h =
    IsLineBegun-later limits line next byte bytes place begin (number_line limits.words true next bytes) e (h next)
IsLineBegun-move limits line byte bytes place begin (Returns n) e h =
    let here : place + 1 ≡ place + 0 + 1 = omega arith in
    line_byte limits line byte bytes place begin _ e ∙ ap (λ place. begun_on limits place begin (CountFeed n) bytes) here
IsLineBegun-move limits line byte bytes place begin Wrong e h = line_byte limits line byte bytes place begin _ e

line_begun : (limits : WireLimits) (line : Line) (bytes : List ℕ) (place begin : ℕ) → IsLineBegun limits line bytes place begin (number_line limits.words true line bytes)
unfolding number_line
line_begun limits line [] place begin = begun_on-nil limits place begin (Count line)
line_begun limits line (byte ∷ bytes) place begin =
    IsLineBegun-move limits line byte bytes place begin _ refl (λ next. line_begun limits next bytes (place + 1) begin)

-- the first byte of a header leads to its line
led : (limits : WireLimits) (first : ℕ) (line : List ℕ) (place begin : ℕ) (r : NumberLine) → first ≡ STAR → r ≡ number_line limits.words true Blank line
    → (begun_on limits place begin Start (first ∷ line) ≡ begun_on limits (place + 1) begin (Count Blank) line) × IsLineBegun limits Blank line (place + 1) begin r
led limits first line place begin r e is = (
  begun_on-byte limits place begin Start first line _ (on_star limits first e),
  subst (IsLineBegun limits Blank line (place + 1) begin) (sym is) (line_begun limits Blank line (place + 1) begin),
)

pub IsBegun-none : (limits : WireLimits) (bytes : List ℕ) → length bytes < 1 → IsBegun limits bytes header.Open
IsBegun-none limits [] h = λ place begin. begun_on-nil limits place begin Start
IsBegun-none limits (byte ∷ bytes) h = absurd (omega arith)

pub IsBegun-open : (limits : WireLimits) (first : ℕ) (line : List ℕ) → first ≡ STAR → found.Open ≡ number_line limits.words true Blank line
    → IsBegun limits (first ∷ line) header.Open
IsBegun-open limits first line e is = λ place begin. let l = led limits first line place begin found.Open e is in l.0 ∙ l.1

pub IsBegun-wrong : (limits : WireLimits) (first : ℕ) (line : List ℕ) (at : ℕ) → first ≡ STAR → found.Wrong at ≡ number_line limits.words true Blank line
    → IsBegun limits (first ∷ line) (header.Broken Multibulk (at + 1))
IsBegun-wrong limits first line at e is = λ place begin. let l = led limits first line place begin (found.Wrong at) e is in l.0 ∙ l.1

fed_test : (limits : WireLimits) (bytes rest : List ℕ) (number at : ℕ) (test : Bool) → drop (at + 1) bytes ≡ rest
    → ((place begin : ℕ) → begun_on limits place begin Start bytes
    ≡ begun_after (if test then after_count limits number else Fault Crlf) (place + at) begin (λ from on. begun_on limits (place + at + 1) from on rest))
    → IsBegun limits bytes (if test then header.Whole number at else header.Broken Crlf at)
fed_test limits bytes rest number at true r h = λ place begin.
    h place begin ∙ ap (λ rest. begun_after (after_count limits number) (place + at) begin (λ from on. begun_on limits (place + at + 1) from on rest)) (sym r)
fed_test limits bytes rest number at false r h = h

fed_line : (limits : WireLimits) (first : ℕ) (line : List ℕ) (number len : ℕ) (tail : List ℕ) → first ≡ STAR
    → found.Whole number len ≡ number_line limits.words true Blank line → drop (len + 1) line ≡ tail
    → IsBegun limits (first ∷ line) (feed_at number (len + 2) tail)
fed_line limits first line number len [] e is t = λ place begin.
    let l = led limits first line place begin (found.Whole number len) e is in
    l.0 ∙ l.1 ∙ ap (begun_on limits (place + 1 + len + 1) begin (CountFeed number)) t
    ∙ begun_on-nil limits (place + 1 + len + 1) begin (CountFeed number)
fed_line limits first line number len (byte ∷ rest) e is t =
    let less : len + 2 + 1 ≡ suc (len + 1 + 1) = omega arith in
    let gone : drop (len + 2 + 1) (first ∷ line) ≡ rest = ap (λ n. drop n (first ∷ line)) less ∙ sym (drop-drop 1 (len + 1) line) ∙ ap (drop 1) t in
    fed_test limits (first ∷ line) rest number (len + 2) (byte == FEED) gone
    (λ place begin.
    let l = led limits first line place begin (found.Whole number len) e is in
    let there : place + 1 + len + 1 ≡ place + (len + 2) = omega arith in
    l.0 ∙ l.1 ∙ ap (begun_on limits (place + 1 + len + 1) begin (CountFeed number)) t
    ∙ begun_on-byte limits (place + 1 + len + 1) begin (CountFeed number) byte rest _ refl
    ∙ ap (λ place. begun_after (expect_byte byte FEED Crlf (after_count limits number)) place begin (λ from on. begun_on limits (place + 1) from on rest)) there)

-- the LF, or what stands in its place
pub IsBegun-feed : (limits : WireLimits) (first : ℕ) (line : List ℕ) (number len : ℕ) (r : Header) → first ≡ STAR
    → found.Whole number len ≡ number_line limits.words true Blank line → r ≡ feed_at number (len + 2) (drop (len + 1) line)
    → IsBegun limits (first ∷ line) r
IsBegun-feed limits first line number len r e is fed =
    subst (IsBegun limits (first ∷ line)) (sym fed) (fed_line limits first line number len (drop (len + 1) line) e is refl)
