-- Parsing a header, one byte at a time.
use Rattle.std.proofs.Common.{◌≡◌, ℕ, suc, ◌+◌, ◌-◌, ◌<◌, ◌≤◌, Bool, true, false, ◌==◌, if◌then◌else◌, List, [], ◌∷◌, ◌++◌, length, drop, take, get_or, refl, sym, ap, ◌∙◌, subst, append-nil, arith}
use Rattle.std.proofs.lemmas.List.{drop-drop}
use Rattle.std.proofs.Math.Seq.{take-length}
use Rattle.ts_spec.specs.declared.wire.Kind.{Kind}
use Rattle.ts_spec.specs.declared.wire.Kind.TheVariants.{Multibulk, Bulk, Dollar, Crlf}
use Rattle.ts_spec.specs.declared.wire.WireLimits.{WireLimits}
use Rattle.ts_spec.specs.Wire as wire
use Rattle.ts_spec.specs.Wire.{Stream, Inside, Partial, Mode, Start, Mark, Count, CountFeed, Length, LengthFeed, after_count, after_length, Move, Goto, Fault, Line, Blank, LineMove, Goes, Returns, Wrong, FEED, expect_byte, move, line_step, on_count, on_length, at_end, after_move, read_on}
use Rattle.ts_spec.proofs.Streams.{read_on-nil, read_on-byte}
use Rattle.ts_spec.proofs.Lines.{on_line, IsLineMode, IsFed, count_line, length_line, length_ends, expect_byte-same}
use Rattle.ts_resp.proofs.StartLemmas.{on_star}
use Rattle.ts_resp.specs.declared.line.NumberLine.{NumberLine}
use Rattle.ts_resp.specs.declared.line.NumberLine.TheVariants as found
use Rattle.ts_resp.specs.declared.header.Header.{Header}
use Rattle.ts_resp.specs.declared.header.Header.TheVariants as header
use Rattle.ts_resp.specs.Lines.{after, on_move, number_line}
use Rattle.ts_resp.specs.Headers.{IsHeader, feed_at}

-- what the rest of a line makes of the stream
abbrev pub IsLine : WireLimits → (Line → Mode) → (ℕ → Move) → Kind → Line → List ℕ → (place begin : ℕ) → NumberLine → Type 0
IsLine limits mode ends kind line bytes place begin found.Open = read_on limits place begin (mode line) bytes ≡ Inside begin
IsLine limits mode ends kind line bytes place begin (found.Whole number len) =
    (more : List ℕ) → read_on limits place begin (mode line) (bytes ++ more)
    ≡ after_move (ends number) (place + len) begin (λ from on. read_on limits (place + len + 1) from on (drop (len + 1) bytes ++ more))
IsLine limits mode ends kind line bytes place begin (found.Wrong at) =
    (more : List ℕ) → read_on limits place begin (mode line) (bytes ++ more) ≡ wire.Broken kind (place + at)

-- one byte before
IsLine-later : {limits : WireLimits} {limit : ℕ} {negative : Bool} {mode : Line → Mode} {ends : ℕ → Move} {kind : Kind} → IsLineMode limits limit negative mode ends kind
    → (line next : Line) (byte : ℕ) (bytes : List ℕ) (place begin : ℕ) (r : NumberLine)
    → line_step limit negative line byte ≡ Goes next
    → IsLine limits mode ends kind next bytes (place + 1) begin r
    → IsLine limits mode ends kind line (byte ∷ bytes) place begin (after 1 r)
IsLine-later {limits} {limit} {negative} {mode} {ends} {kind} m line next byte bytes place begin found.Open e h =
    read_on-byte limits place begin (mode line) byte bytes _ (m.moves line byte ∙ ap (on_line mode ends kind) e) ∙ h
IsLine-later {limits} {limit} {negative} {mode} {ends} {kind} m line next byte bytes place begin (found.Whole number len) e h = λ more.
    let there : place + 1 + len ≡ place + (1 + len) = omega arith in
    let less : suc (len + 1) ≡ 1 + len + 1 = omega arith in
    read_on-byte limits place begin (mode line) byte (bytes ++ more) _ (m.moves line byte ∙ ap (on_line mode ends kind) e)
    ∙ h more
    ∙ ap (λ place. after_move (ends number) place begin (λ from on. read_on limits (place + 1) from on (drop (len + 1) bytes ++ more))) there
    ∙ ap (λ k. after_move (ends number) (place + (1 + len)) begin (λ from on. read_on limits (place + (1 + len) + 1) from on (drop k (byte ∷ bytes) ++ more))) less
IsLine-later {limits} {limit} {negative} {mode} {ends} {kind} m line next byte bytes place begin (found.Wrong at) e h = λ more.
    let there : place + 1 + at ≡ place + (1 + at) = omega arith in
    read_on-byte limits place begin (mode line) byte (bytes ++ more) _ (m.moves line byte ∙ ap (on_line mode ends kind) e)
    ∙ h more
    ∙ ap (λ place. wire.Broken kind place) there

IsLine-move : {limits : WireLimits} {limit : ℕ} {negative : Bool} {mode : Line → Mode} {ends : ℕ → Move} {kind : Kind} → IsLineMode limits limit negative mode ends kind
    → (line : Line) (byte : ℕ) (bytes : List ℕ) (place begin : ℕ) (step : LineMove)
    → line_step limit negative line byte ≡ step
    → ((next : Line) → IsLine limits mode ends kind next bytes (place + 1) begin (number_line limit negative next bytes))
    → IsLine limits mode ends kind line (byte ∷ bytes) place begin (on_move step (λ next. number_line limit negative next bytes))
IsLine-move {limits} {limit} {negative} {mode} {ends} {kind} m line byte bytes place begin (Goes next) e h =
    IsLine-later m line next byte bytes place begin (number_line limit negative next bytes) e (h next)
IsLine-move {limits} {limit} {negative} {mode} {ends} {kind} m line byte bytes place begin (Returns n) e h = λ more.
    let here : place ≡ place + 0 = omega arith in
    read_on-byte limits place begin (mode line) byte (bytes ++ more) _ (m.moves line byte ∙ ap (on_line mode ends kind) e)
    ∙ ap (λ place. after_move (ends n) place begin (λ from on. read_on limits (place + 1) from on (bytes ++ more))) here
IsLine-move {limits} {limit} {negative} {mode} {ends} {kind} m line byte bytes place begin Wrong e h = λ more.
    let here : place ≡ place + 0 = omega arith in
    read_on-byte limits place begin (mode line) byte (bytes ++ more) _ (m.moves line byte ∙ ap (on_line mode ends kind) e)
    ∙ ap (λ place. wire.Broken kind place) here

-- each line is what its bytes make of it
pub IsLine-number_line : {limits : WireLimits} {limit : ℕ} {negative : Bool} {mode : Line → Mode} {ends : ℕ → Move} {kind : Kind} → IsLineMode limits limit negative mode ends kind
    → (line : Line) (bytes : List ℕ) (place begin : ℕ) → IsLine limits mode ends kind line bytes place begin (number_line limit negative line bytes)
unfolding number_line
IsLine-number_line {limits} {limit} {negative} {mode} {ends} {kind} m line [] place begin = read_on-nil limits place begin (mode line) ∙ m.inside line begin
IsLine-number_line {limits} {limit} {negative} {mode} {ends} {kind} m line (byte ∷ bytes) place begin =
    IsLine-move m line byte bytes place begin _ refl (λ next. IsLine-number_line m next bytes (place + 1) begin)

-- a slice is its first byte and the others
pub first-rest : (bytes : List ℕ) → 1 ≤ length bytes → bytes ≡ get_or bytes 0 0 ∷ take (length bytes - 1) (drop 1 bytes)
first-rest [] h = absurd (omega arith)
first-rest (byte ∷ bytes) h =
    let less : suc (length bytes) - 1 ≡ length bytes = omega arith in
    ap (λ rest. byte ∷ rest) (sym (take-length bytes) ∙ ap (λ n. take n bytes) (sym less))

pub IsHeader-none : (limits : WireLimits) (mode : Mode) (next : ℕ → Move) (bytes : List ℕ) → length bytes < 1 → IsHeader limits mode next bytes header.Open
IsHeader-none limits mode next [] h = λ place begin. read_on-nil limits place begin mode
IsHeader-none limits mode next (byte ∷ bytes) h = absurd (omega arith)

-- no header begins with this byte
pub IsHeader-first : (limits : WireLimits) (mode : Mode) (next : ℕ → Move) (first : ℕ) (line : List ℕ) (kind : Kind)
    → move limits mode first ≡ Fault kind → IsHeader limits mode next (first ∷ line) (header.Broken kind 0)
IsHeader-first limits mode next first line kind e = λ place begin more.
    let here : place ≡ place + 0 = omega arith in
    read_on-byte limits place begin mode first (line ++ more) _ e ∙ ap (λ place. wire.Broken kind place) here

-- a header whose first byte leads to a line with a number
pub record IsLed (limits : WireLimits) (limit : ℕ) (negative : Bool) (mode : Line → Mode) (ends : ℕ → Move) (kind : Kind) (entry : Mode) (first : ℕ) : Type 0 where
  pub line : IsLineMode limits limit negative mode ends kind
  pub leads : move limits entry first ≡ Goto (mode Blank)

found_line : {limits : WireLimits} {limit : ℕ} {negative : Bool} {mode : Line → Mode} {ends : ℕ → Move} {kind : Kind} {entry : Mode} {first : ℕ}
    → IsLed limits limit negative mode ends kind entry first → (line : List ℕ) (r : NumberLine) → r ≡ number_line limit negative Blank line
    → (place begin : ℕ) → IsLine limits mode ends kind Blank line place begin r
found_line {limits} {limit} {negative} {mode} {ends} {kind} led line r e place begin =
    subst (IsLine limits mode ends kind Blank line place begin) (sym e) (IsLine-number_line led.line Blank line place begin)

pub IsHeader-open : {limits : WireLimits} {limit : ℕ} {negative : Bool} {mode : Line → Mode} {ends : ℕ → Move} {kind : Kind} {entry : Mode} {first : ℕ}
    → IsLed limits limit negative mode ends kind entry first → (next : ℕ → Move) (line : List ℕ)
    → found.Open ≡ number_line limit negative Blank line → IsHeader limits entry next (first ∷ line) header.Open
IsHeader-open {limits} {limit} {negative} {mode} {ends} {kind} {entry} {first} led next line e = λ place begin.
    read_on-byte limits place begin entry first line _ led.leads ∙ found_line led line found.Open e (place + 1) begin

pub IsHeader-wrong : {limits : WireLimits} {limit : ℕ} {negative : Bool} {mode : Line → Mode} {ends : ℕ → Move} {kind : Kind} {entry : Mode} {first : ℕ}
    → IsLed limits limit negative mode ends kind entry first → (next : ℕ → Move) (line : List ℕ) (at : ℕ)
    → found.Wrong at ≡ number_line limit negative Blank line → IsHeader limits entry next (first ∷ line) (header.Broken kind (at + 1))
IsHeader-wrong {limits} {limit} {negative} {mode} {ends} {kind} {entry} {first} led next line at e = λ place begin more.
    let there : place + 1 + at ≡ place + (at + 1) = omega arith in
    read_on-byte limits place begin entry first (line ++ more) _ led.leads ∙ found_line led line (found.Wrong at) e (place + 1) begin more
    ∙ ap (λ place. wire.Broken kind place) there

-- the CR breaks the stream
pub IsHeader-room : {limits : WireLimits} {limit : ℕ} {negative : Bool} {mode : Line → Mode} {ends : ℕ → Move} {kind : Kind} {entry : Mode} {first : ℕ}
    → IsLed limits limit negative mode ends kind entry first → (next : ℕ → Move) (line : List ℕ) (number len : ℕ) (fault : Kind)
    → found.Whole number len ≡ number_line limit negative Blank line → ends number ≡ Fault fault
    → IsHeader limits entry next (first ∷ line) (header.Broken fault (len + 1))
IsHeader-room {limits} {limit} {negative} {mode} {ends} {kind} {entry} {first} led next line number len fault e f = λ place begin more.
    let there : place + 1 + len ≡ place + (len + 1) = omega arith in
    read_on-byte limits place begin entry first (line ++ more) _ led.leads ∙ found_line led line (found.Whole number len) e (place + 1) begin more
    ∙ ap (λ m. after_move m (place + 1 + len) begin (λ from on. read_on limits (place + 1 + len + 1) from on (drop (len + 1) line ++ more))) f
    ∙ ap (λ place. wire.Broken fault place) there

fed_test : (limits : WireLimits) (entry : Mode) (next : ℕ → Move) (bytes rest : List ℕ) (number at : ℕ) (test : Bool) → drop (at + 1) bytes ≡ rest
    → ((place begin : ℕ) (more : List ℕ) → read_on limits place begin entry (bytes ++ more)
    ≡ after_move (if test then next number else Fault Crlf) (place + at) begin (λ from on. read_on limits (place + at + 1) from on (rest ++ more)))
    → IsHeader limits entry next bytes (if test then header.Whole number at else header.Broken Crlf at)
fed_test limits entry next bytes rest number at true r h = λ place begin more.
    h place begin more ∙ ap (λ rest. after_move (next number) (place + at) begin (λ from on. read_on limits (place + at + 1) from on (rest ++ more))) (sym r)
fed_test limits entry next bytes rest number at false r h = h

fed_line : {limits : WireLimits} {limit : ℕ} {negative : Bool} {mode : Line → Mode} {ends : ℕ → Move} {kind : Kind} {entry : Mode} {first : ℕ}
    → IsLed limits limit negative mode ends kind entry first → (next : ℕ → Move) (feed : Mode) (line : List ℕ) (number len : ℕ) (tail : List ℕ)
    → found.Whole number len ≡ number_line limit negative Blank line → ends number ≡ Goto feed → IsFed limits feed (next number)
    → drop (len + 1) line ≡ tail
    → IsHeader limits entry next (first ∷ line) (feed_at number (len + 2) tail)
fed_line {limits} {limit} {negative} {mode} {ends} {kind} {entry} {first} led next feed line number len [] e f fed t = λ place begin.
    read_on-byte limits place begin entry first line _ led.leads
    ∙ ap (read_on limits (place + 1) begin (mode Blank)) (sym (append-nil line))
    ∙ found_line led line (found.Whole number len) e (place + 1) begin []
    ∙ ap (λ m. after_move m (place + 1 + len) begin (λ from on. read_on limits (place + 1 + len + 1) from on (drop (len + 1) line ++ []))) f
    ∙ ap (λ tail. read_on limits (place + 1 + len + 1) begin feed (tail ++ [])) t
    ∙ read_on-nil limits (place + 1 + len + 1) begin feed ∙ fed.inside begin
fed_line {limits} {limit} {negative} {mode} {ends} {kind} {entry} {first} led next feed line number len (byte ∷ rest) e f fed t =
    let bytes = first ∷ line in
    let less : len + 2 + 1 ≡ suc (len + 1 + 1) = omega arith in
    let gone : drop (len + 2 + 1) (first ∷ line) ≡ rest = ap (λ n. drop n (first ∷ line)) less ∙ sym (drop-drop 1 (len + 1) line) ∙ ap (drop 1) t in
    fed_test limits entry next (first ∷ line) rest number (len + 2) (byte == FEED) gone
    (λ place begin more.
    let there : place + 1 + len + 1 ≡ place + (len + 2) = omega arith in
    read_on-byte limits place begin entry first (line ++ more) _ led.leads
    ∙ found_line led line (found.Whole number len) e (place + 1) begin more
    ∙ ap (λ m. after_move m (place + 1 + len) begin (λ from on. read_on limits (place + 1 + len + 1) from on (drop (len + 1) line ++ more))) f
    ∙ ap (λ tail. read_on limits (place + 1 + len + 1) begin feed (tail ++ more)) t
    ∙ read_on-byte limits (place + 1 + len + 1) begin feed byte (rest ++ more) _ (fed.moves byte)
    ∙ ap (λ place. after_move (expect_byte byte FEED Crlf (next number)) place begin (λ from on. read_on limits (place + 1) from on (rest ++ more))) there)

-- the LF, or what stands in its place
pub IsHeader-feed : {limits : WireLimits} {limit : ℕ} {negative : Bool} {mode : Line → Mode} {ends : ℕ → Move} {kind : Kind} {entry : Mode} {first : ℕ}
    → IsLed limits limit negative mode ends kind entry first → (next : ℕ → Move) (feed : Mode) (line : List ℕ) (number len : ℕ) (r : Header)
    → found.Whole number len ≡ number_line limit negative Blank line → ends number ≡ Goto feed → IsFed limits feed (next number)
    → r ≡ feed_at number (len + 2) (drop (len + 1) line)
    → IsHeader limits entry next (first ∷ line) r
IsHeader-feed {limits} {limit} {negative} {mode} {ends} {kind} {entry} {first} led next feed line number len r e f fed is =
    subst (IsHeader limits entry next (first ∷ line)) (sym is) (fed_line led next feed line number len (drop (len + 1) line) e f fed refl)

pub count_led : (limits : WireLimits) (first : ℕ) → first ≡ 42 → IsLed limits limits.words true Count (λ n. Goto (CountFeed n)) Multibulk Start first
count_led limits first e = record { line = count_line limits; leads = on_star limits first e }

pub length_led : (limits : WireLimits) (so_far : Partial) (first : ℕ) → first ≡ 36
    → IsLed limits limits.word_bytes false (Length so_far) (length_ends so_far) Bulk (Mark so_far) first
length_led limits so_far first e = record { line = length_line limits so_far; leads = expect_byte-same first 36 Dollar (Goto (Length so_far Blank)) e }

-- what holds of a first byte and the others holds of the slice
pub of_slice : (P : List ℕ → Type 0) (bytes : List ℕ) → 1 ≤ length bytes → P (get_or bytes 0 0 ∷ take (length bytes - 1) (drop 1 bytes)) → P bytes
of_slice P bytes h p = subst P (sym (first-rest bytes h)) p
