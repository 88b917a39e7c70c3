-- Parsing a line of text, one byte at a time: its effect on the stream and on where a request begins.
use Rattle.std.proofs.Common.{◌≡◌, ℕ, zero, suc, ◌+◌, ◌<◌, ◌≤◌, Bool, true, false, cond, not, nat_lt, if◌then◌else◌, List, [], ◌∷◌, ◌++◌, length, take, drop, get_or, slice_index, refl, sym, ap, ◌∙◌, append_assoc, append-nil, length-append, arith}
use Rattle.std.proofs.lemmas.Bool.{lt-ltb, le-ltb, ltb-true, ltb-false, cond_both}
use Rattle.std.proofs.lemmas.List.{length-take-le}
use Rattle.std.proofs.lemmas.List.Sums.{prefix_len-le-length, fails_before_first, passes_at_first}
use Rattle.std.proofs.Math.Seq.{drop-cons}
use Rattle.std.proofs.Math.ListN.{drop_of_length-le}
use Rattle.ts_spec.specs.declared.wire.Kind.TheVariants.{TooLarge}
use Rattle.ts_spec.specs.declared.wire.WireLimits.{WireLimits}
use Rattle.ts_spec.specs.Wire as wire
use Rattle.ts_spec.specs.Wire.{Mode, Start, STAR, Move, Goto, Whole, Fault, words_of_line, move, after_move, read_on}
use Rattle.ts_spec.proofs.Streams.{read_on-nil, read_on-byte}
use Rattle.ts_resp.specs.declared.text.Text.{Text}
use Rattle.ts_resp.specs.declared.text.Text.TheVariants as text
use Rattle.ts_resp.specs.Reading.{begun_after, begun_on}
use Rattle.ts_resp.specs.Texts.{IsText, IsTextBegun, IsTextWithin, is_feed, before_feed, text_at}
use Rattle.ts_resp.proofs.StartLemmas.{on_other}
use Rattle.ts_resp.proofs.BegunLemmas.{begun_on-nil, begun_on-byte}

-- what is made of the bytes one after another, and goes on inside a line
record IsRead {X : Type 0} (limits : WireLimits) (F : (place begin : ℕ) → Mode → List ℕ → X) (g : Move → (place begin : ℕ) → (ℕ → Mode → X) → X) : Type 0 where
  pub byte : (place begin : ℕ) (mode : Mode) (byte : ℕ) (bytes : List ℕ) (m : Move) → move limits mode byte ≡ m
      → F place begin mode (byte ∷ bytes) ≡ g m place begin (λ from next. F (place + 1) from next bytes)
  pub goes : (line : List ℕ) (place begin : ℕ) (on : ℕ → Mode → X) → g (Goto (wire.Text line)) place begin on ≡ on begin (wire.Text line)

stream_read : (limits : WireLimits) → IsRead limits (read_on limits) after_move
stream_read limits = record { byte = read_on-byte limits; goes = λ line place begin on. refl }

begun_read : (limits : WireLimits) → IsRead limits (begun_on limits) begun_after
begun_read limits = record { byte = begun_on-byte limits; goes = λ line place begin on. refl }

-- what a byte of a line does
abbrev with_byte : WireLimits → List ℕ → ℕ → Move
with_byte limits line byte = if nat_lt (length line) limits.line_bytes then Goto (wire.Text (line ++ byte ∷ [])) else Fault TooLarge

text_feed : (limits : WireLimits) (line : List ℕ) (byte : ℕ) → is_feed byte ≡ true → move limits (wire.Text line) byte ≡ Whole (words_of_line line)
text_feed limits line byte e = ap (λ test. if test then Whole (words_of_line line) else with_byte limits line byte) e

text_more : (limits : WireLimits) (line : List ℕ) (byte : ℕ) → is_feed byte ≡ false → length line < limits.line_bytes
    → move limits (wire.Text line) byte ≡ Goto (wire.Text (line ++ byte ∷ []))
text_more limits line byte e h =
    ap (λ test. if test then Whole (words_of_line line) else with_byte limits line byte) e
    ∙ ap (λ test. if test then Goto (wire.Text (line ++ byte ∷ [])) else Fault TooLarge) (lt-ltb (length line) limits.line_bytes h)

text_long : (limits : WireLimits) (line : List ℕ) (byte : ℕ) → is_feed byte ≡ false → limits.line_bytes ≤ length line → move limits (wire.Text line) byte ≡ Fault TooLarge
text_long limits line byte e h =
    ap (λ test. if test then Whole (words_of_line line) else with_byte limits line byte) e
    ∙ ap (λ test. if test then Goto (wire.Text (line ++ byte ∷ [])) else Fault TooLarge) (le-ltb (length line) limits.line_bytes h)

-- no LF is the first byte, where one or more stand before the first LF
not_first : (byte : ℕ) (bytes : List ℕ) (n : ℕ) → suc n ≤ before_feed (byte ∷ bytes) → (is_feed byte ≡ false) × (n ≤ before_feed bytes)
not_first byte bytes n h = by_test (is_feed byte) refl h
  where
    by_test : (test : Bool) → is_feed byte ≡ test → suc n ≤ cond (not test) (1 + before_feed bytes) 0 → (is_feed byte ≡ false) × (n ≤ before_feed bytes)
    by_test true e h = absurd (omega arith)
    by_test false e h = (e, omega arith)

-- the first n bytes, of which none is an LF
reaches : {X : Type 0} {limits : WireLimits} {F : (place begin : ℕ) → Mode → List ℕ → X} {g : Move → (place begin : ℕ) → (ℕ → Mode → X) → X} → IsRead limits F g
    → (n : ℕ) (front bytes more : List ℕ) (place begin : ℕ) → n ≤ before_feed bytes → length front + n ≤ limits.line_bytes
    → F place begin (wire.Text front) (bytes ++ more) ≡ F (place + n) begin (wire.Text (front ++ take n bytes)) (drop n bytes ++ more)
reaches {X} {limits} {F} {g} read zero front bytes more place begin h fits =
    let here : place ≡ place + 0 = omega arith in
    ap (λ place. F place begin (wire.Text front) (bytes ++ more)) here
    ∙ ap (λ line. F (place + 0) begin (wire.Text line) (bytes ++ more)) (sym (append-nil front))
reaches {X} {limits} {F} {g} read (suc n) front [] more place begin h fits = let none : suc n ≤ 0 = h in absurd (omega arith)
reaches {X} {limits} {F} {g} read (suc n) front (byte ∷ bytes) more place begin h fits =
    let first = not_first byte bytes n h in
    let longer = length-append front (byte ∷ []) in
    let there : place + 1 + n ≡ place + suc n = omega arith in
    read.byte place begin (wire.Text front) byte (bytes ++ more) _ (text_more limits front byte first.0 (omega arith))
    ∙ read.goes (front ++ byte ∷ []) place begin (λ from next. F (place + 1) from next (bytes ++ more))
    ∙ reaches read n (front ++ byte ∷ []) bytes more (place + 1) begin first.1 (omega arith)
    ∙ ap (λ place. F place begin (wire.Text ((front ++ byte ∷ []) ++ take n bytes)) (drop n bytes ++ more)) there
    ∙ ap (λ line. F (place + suc n) begin (wire.Text line) (drop n bytes ++ more)) (append_assoc front (byte ∷ []) (take n bytes))

-- the same from the start of the line
abbrev IsOther : List ℕ → Type 0
IsOther bytes = (0 < length bytes) × (slice_index bytes 0 ≡ STAR → ⊥)

from_start : {X : Type 0} {limits : WireLimits} {F : (place begin : ℕ) → Mode → List ℕ → X} {g : Move → (place begin : ℕ) → (ℕ → Mode → X) → X} → IsRead limits F g
    → (bytes more : List ℕ) (place begin : ℕ) → IsOther bytes
    → F place begin Start (bytes ++ more) ≡ F place begin (wire.Text []) (bytes ++ more)
from_start {X} {limits} {F} {g} read [] more place begin other = let none : 0 < 0 = other.0 in absurd (omega arith)
from_start {X} {limits} {F} {g} read (byte ∷ bytes) more place begin other =
    read.byte place begin Start byte (bytes ++ more) _ (on_other limits byte other.1) ∙ sym (read.byte place begin (wire.Text []) byte (bytes ++ more) _ refl)

start_reaches : {X : Type 0} {limits : WireLimits} {F : (place begin : ℕ) → Mode → List ℕ → X} {g : Move → (place begin : ℕ) → (ℕ → Mode → X) → X} → IsRead limits F g
    → (n : ℕ) (bytes more : List ℕ) (place begin : ℕ) → IsOther bytes → n ≤ before_feed bytes → n ≤ limits.line_bytes
    → F place begin Start (bytes ++ more) ≡ F (place + n) begin (wire.Text (take n bytes)) (drop n bytes ++ more)
start_reaches {X} {limits} {F} {g} read n bytes more place begin other h fits =
    from_start read bytes more place begin other ∙ reaches read n [] bytes more place begin h (omega arith)

-- and the byte after them
start_byte : {X : Type 0} {limits : WireLimits} {F : (place begin : ℕ) → Mode → List ℕ → X} {g : Move → (place begin : ℕ) → (ℕ → Mode → X) → X} → IsRead limits F g
    → (n : ℕ) (bytes more : List ℕ) (place begin : ℕ) (m : Move) → IsOther bytes → n ≤ before_feed bytes → n ≤ limits.line_bytes → n < length bytes
    → move limits (wire.Text (take n bytes)) (get_or bytes n 0) ≡ m
    → F place begin Start (bytes ++ more) ≡ g m (place + n) begin (λ from next. F (place + n + 1) from next (drop (n + 1) bytes ++ more))
start_byte {X} {limits} {F} {g} read n bytes more place begin m other h fits within e =
    let next : suc n ≡ n + 1 = omega arith in
    start_reaches read n bytes more place begin other h fits
    ∙ ap (λ rest. F (place + n) begin (wire.Text (take n bytes)) (rest ++ more)) (drop-cons bytes n 0 within)
    ∙ read.byte (place + n) begin (wire.Text (take n bytes)) (get_or bytes n 0) (drop (suc n) bytes ++ more) m e
    ∙ ap (λ k. g m (place + n) begin (λ from next. F (place + n + 1) from next (drop k bytes ++ more))) next

pub before_feed-within : (bytes : List ℕ) → before_feed bytes ≤ length bytes
before_feed-within bytes = prefix_len-le-length (λ byte. not (is_feed byte)) bytes

-- a whole line
text_whole : {X : Type 0} {limits : WireLimits} {F : (place begin : ℕ) → Mode → List ℕ → X} {g : Move → (place begin : ℕ) → (ℕ → Mode → X) → X} → IsRead limits F g
    → (bytes more : List ℕ) (place begin : ℕ) → IsOther bytes → before_feed bytes ≤ limits.line_bytes → before_feed bytes < length bytes
    → F place begin Start (bytes ++ more) ≡ g (Whole (words_of_line (take (before_feed bytes) bytes))) (place + before_feed bytes) begin
    (λ from next. F (place + before_feed bytes + 1) from next (drop (before_feed bytes + 1) bytes ++ more))
text_whole {X} {limits} {F} {g} read bytes more place begin other fits within =
    start_byte read (before_feed bytes) bytes more place begin _ other (omega arith) fits within
    (text_feed limits (take (before_feed bytes) bytes) (get_or bytes (before_feed bytes) 0) (passes_at_first is_feed bytes 0 within))

-- the byte that makes a line too long
text_too_long : {X : Type 0} {limits : WireLimits} {F : (place begin : ℕ) → Mode → List ℕ → X} {g : Move → (place begin : ℕ) → (ℕ → Mode → X) → X} → IsRead limits F g
    → (bytes more : List ℕ) (place begin : ℕ) → IsOther bytes → limits.line_bytes < before_feed bytes
    → F place begin Start (bytes ++ more) ≡ g (Fault TooLarge) (place + limits.line_bytes) begin
    (λ from next. F (place + limits.line_bytes + 1) from next (drop (limits.line_bytes + 1) bytes ++ more))
text_too_long {X} {limits} {F} {g} read bytes more place begin other long =
    let most = before_feed-within bytes in
    let n : ℕ = limits.line_bytes in
    let as_long : length (take n bytes) ≡ n = length-take-le n bytes (omega arith) in
    start_byte read n bytes more place begin _ other (omega arith) (omega arith) (omega arith)
    (text_long limits (take n bytes) (get_or bytes n 0) (fails_before_first is_feed bytes n 0 long) (omega arith))

-- bytes that hold no LF
text_open : {X : Type 0} {limits : WireLimits} {F : (place begin : ℕ) → Mode → List ℕ → X} {g : Move → (place begin : ℕ) → (ℕ → Mode → X) → X} → IsRead limits F g
    → (bytes : List ℕ) (place begin : ℕ) → IsOther bytes → length bytes ≤ before_feed bytes → before_feed bytes ≤ limits.line_bytes
    → F place begin Start bytes ≡ F (place + length bytes) begin (wire.Text (take (length bytes) bytes)) []
text_open {X} {limits} {F} {g} read bytes place begin other none fits =
    ap (F place begin Start) (sym (append-nil bytes))
    ∙ start_reaches read (length bytes) bytes [] place begin other none (omega arith)
    ∙ ap (λ rest. F (place + length bytes) begin (wire.Text (take (length bytes) bytes)) (rest ++ [])) (drop_of_length-le bytes (omega arith))

-- what holds in each case
at_text : (P : Text → Type 0) (limit : ℕ) (bytes : List ℕ) → (limit < before_feed bytes → P text.TooLong)
    → (before_feed bytes ≤ limit → before_feed bytes < length bytes → P (text.Whole (before_feed bytes)))
    → (before_feed bytes ≤ limit → length bytes ≤ before_feed bytes → P text.Open) → P (text_at limit bytes)
at_text P limit bytes long whole unended =
    cond_both (nat_lt limit (before_feed bytes)) text.TooLong (if nat_lt (before_feed bytes) (length bytes) then text.Whole (before_feed bytes) else text.Open) P
    (λ e. long (ltb-true limit (before_feed bytes) e))
    (λ e.
    cond_both (nat_lt (before_feed bytes) (length bytes)) (text.Whole (before_feed bytes)) text.Open P
    (λ f. whole (ltb-false limit (before_feed bytes) e) (ltb-true (before_feed bytes) (length bytes) f))
    (λ f. unended (ltb-false limit (before_feed bytes) e) (ltb-false (before_feed bytes) (length bytes) f)))

pub IsText-at : (limits : WireLimits) (bytes : List ℕ) → IsOther bytes → IsText limits bytes (text_at limits.line_bytes bytes)
IsText-at limits bytes other =
    at_text (IsText limits bytes) limits.line_bytes bytes
    (λ long place begin more. text_too_long (stream_read limits) bytes more place begin other long)
    (λ fits within place begin more. text_whole (stream_read limits) bytes more place begin other fits within)
    (λ fits none place begin. text_open (stream_read limits) bytes place begin other none fits ∙ read_on-nil limits (place + length bytes) begin (wire.Text (take (length bytes) bytes)))

pub IsTextBegun-at : (limits : WireLimits) (bytes : List ℕ) → IsOther bytes → IsTextBegun limits bytes (text_at limits.line_bytes bytes)
IsTextBegun-at limits bytes other =
    at_text (IsTextBegun limits bytes) limits.line_bytes bytes
    (λ long place begin. ap (begun_on limits place begin Start) (sym (append-nil bytes)) ∙ text_too_long (begun_read limits) bytes [] place begin other long)
    (λ fits within place begin.
    ap (begun_on limits place begin Start) (sym (append-nil bytes)) ∙ text_whole (begun_read limits) bytes [] place begin other fits within
    ∙ ap (λ rest. begun_after (Whole (words_of_line (take (before_feed bytes) bytes))) (place + before_feed bytes) begin (λ from next. begun_on limits (place + before_feed bytes + 1) from next rest))
    (append-nil (drop (before_feed bytes + 1) bytes)))
    (λ fits none place begin. text_open (begun_read limits) bytes place begin other none fits ∙ begun_on-nil limits (place + length bytes) begin (wire.Text (take (length bytes) bytes)))

pub IsTextWithin-at : (limits : WireLimits) (bytes : List ℕ) → IsTextWithin limits bytes (text_at limits.line_bytes bytes)
IsTextWithin-at limits bytes =
    let most = before_feed-within bytes in
    at_text (IsTextWithin limits bytes) limits.line_bytes bytes (λ long. omega arith) (λ fits within. within) (λ fits none. none)
