-- Parsing an argument after its header.
use Rattle.std.proofs.Common.{◌≡◌, ℕ, ◌+◌, ◌-◌, ◌≤◌, Bool, true, false, nat_lt, ◌==◌, if◌then◌else◌, List, [], ◌∷◌, ◌++◌, length, drop, take, slice_range, refl, sym, ap, ◌∙◌, subst, append_assoc, append-nil, arith}
use Rattle.std.proofs.lemmas.Bool.{ltb-true, ltb-false}
use Rattle.std.proofs.lemmas.List.{drop-drop, take-append-drop, length-take-le}
use Rattle.ts_spec.specs.declared.wire.Kind.TheVariants.{Crlf}
use Rattle.ts_spec.specs.declared.wire.WireLimits.{WireLimits}
use Rattle.ts_spec.specs.Wire.{Partial, Mark, WordReturn, WordFeed, Goto, Fault, FEED, RETURN, expect_byte, after_move, after_word, after_length, on_body, read_on}
use Rattle.ts_spec.proofs.Streams.{read_on-nil, read_on-byte, read_on-word, read_on-part, after_length-body}
use Rattle.ts_resp.specs.declared.header.Header.TheVariants as header
use Rattle.ts_resp.specs.declared.header.FoundWord.{FoundWord}
use Rattle.ts_resp.specs.declared.header.FoundWord.TheVariants as found
use Rattle.ts_resp.specs.Headers.{IsLength, IsWord, ended_by, body_at}

-- the same request with less room
abbrev pub less_room : Partial → ℕ → Partial
less_room so_far n = record { words = so_far.words; later = so_far.later; room = so_far.room - n }

-- the byte after the word, where no other follows
end_test : (limits : WireLimits) (so_far after : Partial) (bytes word : List ℕ) (end : ℕ) (test : Bool)
    → ((place begin : ℕ) (more : List ℕ) → read_on limits place begin (Mark so_far) (bytes ++ more)
    ≡ after_move (if test then Goto (WordFeed after word) else Fault Crlf) (place + end) begin (λ from on. read_on limits (place + end + 1) from on more))
    → IsWord limits so_far bytes (if test then found.Open else found.Broken Crlf end)
end_test limits so_far after bytes word end true h = λ place begin.
    ap (read_on limits place begin (Mark so_far)) (sym (append-nil bytes)) ∙ h place begin [] ∙ read_on-nil limits (place + end + 1) begin (WordFeed after word)
end_test limits so_far after bytes word end false h = h

-- both bytes after the word
ends_test : (limits : WireLimits) (so_far : Partial) (bytes word rest : List ℕ) (start end : ℕ) (test tests : Bool)
    → slice_range bytes start end ≡ word → drop (end + 2) bytes ≡ rest
    → ((place begin : ℕ) (more : List ℕ) → read_on limits place begin (Mark so_far) (bytes ++ more)
    ≡ after_move (if test then Goto (WordFeed (less_room so_far (end - start)) word) else Fault Crlf) (place + end) begin
    (λ from on. after_move (if tests then after_word (so_far.words ++ word ∷ []) so_far.later (so_far.room - (end - start)) else Fault Crlf) (place + end + 1) from
    (λ from on. read_on limits (place + end + 1 + 1) from on (rest ++ more))))
    → IsWord limits so_far bytes (if test then (if tests then found.Whole start end else found.Broken Crlf (end + 1)) else found.Broken Crlf end)
ends_test limits so_far bytes word rest start end true true w r h = λ place begin more.
    let there : place + end + 1 ≡ place + (end + 1) = omega arith in
    h place begin more
    ∙ ap (λ place. after_move (after_word (so_far.words ++ word ∷ []) so_far.later (so_far.room - (end - start))) place begin (λ from on. read_on limits (place + 1) from on (rest ++ more))) there
    ∙ ap (λ word. after_move (after_word (so_far.words ++ word ∷ []) so_far.later (so_far.room - (end - start))) (place + (end + 1)) begin (λ from on. read_on limits (place + (end + 1) + 1) from on (rest ++ more))) (sym w)
    ∙ ap (λ rest. after_move (after_word (so_far.words ++ slice_range bytes start end ∷ []) so_far.later (so_far.room - (end - start))) (place + (end + 1)) begin (λ from on. read_on limits (place + (end + 1) + 1) from on (rest ++ more))) (sym r)
ends_test limits so_far bytes word rest start end true false w r h = λ place begin more.
    let there : place + end + 1 ≡ place + (end + 1) = omega arith in
    h place begin more ∙ ap (λ place. after_move (Fault Crlf) place begin (λ from on. read_on limits (place + 1) from on (rest ++ more))) there
ends_test limits so_far bytes word rest start end false tests w r h = h

-- what follows the word's own bytes
IsWord-ended : (limits : WireLimits) (so_far : Partial) (bytes word tail : List ℕ) (start end : ℕ)
    → slice_range bytes start end ≡ word → drop end bytes ≡ tail
    → ((place begin : ℕ) (more : List ℕ) → read_on limits place begin (Mark so_far) (bytes ++ more)
    ≡ read_on limits (place + end) begin (WordReturn (less_room so_far (end - start)) word) (tail ++ more))
    → IsWord limits so_far bytes (ended_by start end tail)
IsWord-ended limits so_far bytes word [] start end w t h = λ place begin.
    ap (read_on limits place begin (Mark so_far)) (sym (append-nil bytes)) ∙ h place begin []
    ∙ read_on-nil limits (place + end) begin (WordReturn (less_room so_far (end - start)) word)
IsWord-ended limits so_far bytes word (byte ∷ []) start end w t h =
    end_test limits so_far (less_room so_far (end - start)) bytes word end (byte == RETURN)
    (λ place begin more. h place begin more ∙ read_on-byte limits (place + end) begin (WordReturn (less_room so_far (end - start)) word) byte more _ refl)
IsWord-ended limits so_far bytes word (byte ∷ next ∷ rest) start end w t h =
    ends_test limits so_far bytes word rest start end (byte == RETURN) (next == FEED) w (sym (drop-drop 2 end bytes) ∙ ap (drop 2) t)
    (λ place begin more.
    h place begin more
    ∙ read_on-byte limits (place + end) begin (WordReturn (less_room so_far (end - start)) word) byte (next ∷ rest ++ more) _ refl
    ∙ first_move limits (less_room so_far (end - start)) word next (rest ++ more) (place + end) begin (byte == RETURN))
  where
    first_move : (limits : WireLimits) (after : Partial) (word : List ℕ) (next : ℕ) (more : List ℕ) (place begin : ℕ) (test : Bool)
        → after_move (if test then Goto (WordFeed after word) else Fault Crlf) place begin (λ from on. read_on limits (place + 1) from on (next ∷ more))
        ≡ after_move (if test then Goto (WordFeed after word) else Fault Crlf) place begin
        (λ from on. after_move (expect_byte next FEED Crlf (after_word (after.words ++ word ∷ []) after.later after.room)) (place + 1) from (λ from on. read_on limits (place + 1 + 1) from on more))
    first_move limits after word next more place begin true = read_on-byte limits (place + 1) begin (WordFeed after word) next more _ refl
    first_move limits after word next more place begin false = refl

body_test : (limits : WireLimits) (so_far : Partial) (bytes rest : List ℕ) (start len : ℕ) (test : Bool) → nat_lt (length rest) len ≡ test
    → drop start bytes ≡ rest
    → ((place begin : ℕ) (more : List ℕ) → read_on limits place begin (Mark so_far) (bytes ++ more)
    ≡ read_on limits (place + start) begin (after_length (less_room so_far len) len) (rest ++ more))
    → IsWord limits so_far bytes (if test then found.Open else ended_by start (start + len) (drop len rest))
body_test limits so_far bytes rest start len true e r h = λ place begin.
    ap (read_on limits place begin (Mark so_far)) (sym (append-nil bytes)) ∙ h place begin []
    ∙ ap (read_on limits (place + start) begin (after_length (less_room so_far len) len)) (append-nil rest)
    ∙ ap (λ mode. read_on limits (place + start) begin mode rest) (after_length-body (less_room so_far len) len)
    ∙ read_on-part limits (less_room so_far len) rest len (place + start) begin [] (ltb-true (length rest) len e)
body_test limits so_far bytes rest start len false e r h =
    let size : start + len - start ≡ len = omega arith in
    let fits : len ≤ length rest = ltb-false (length rest) len e in
    let whole : slice_range bytes start (start + len) ≡ take len rest = ap (λ n. take n (drop start bytes)) size ∙ ap (take len) r in
    IsWord-ended limits so_far bytes (take len rest) (drop len rest) start (start + len) whole (sym (drop-drop len start bytes) ∙ ap (drop len) r)
    (λ place begin more.
    let there : place + start + len ≡ place + (start + len) = omega arith in
    h place begin more
    ∙ ap (λ mode. read_on limits (place + start) begin mode (rest ++ more)) (after_length-body (less_room so_far len) len)
    ∙ ap (λ rest. read_on limits (place + start) begin (on_body (less_room so_far len) len []) (rest ++ more)) (sym (take-append-drop len rest))
    ∙ ap (read_on limits (place + start) begin (on_body (less_room so_far len) len [])) (append_assoc (take len rest) (drop len rest) more)
    ∙ body len (length-take-le len rest fits) place begin (drop len rest ++ more)
    ∙ ap (λ place. read_on limits place begin (WordReturn (less_room so_far len) (take len rest)) (drop len rest ++ more)) there
    ∙ ap (λ n. read_on limits (place + (start + len)) begin (WordReturn (less_room so_far n) (take len rest)) (drop len rest ++ more)) (sym size))
  where
    body : (n : ℕ) → length (take len rest) ≡ n → (place begin : ℕ) (more : List ℕ)
        → read_on limits (place + start) begin (on_body (less_room so_far len) n []) (take len rest ++ more)
        ≡ read_on limits (place + start + n) begin (WordReturn (less_room so_far len) (take len rest)) more
    body n e place begin more =
        ap (λ n. read_on limits (place + start) begin (on_body (less_room so_far len) n []) (take len rest ++ more)) (sym e)
        ∙ read_on-word limits (less_room so_far len) (take len rest) (place + start) begin [] more
        ∙ ap (λ n. read_on limits (place + start + n) begin (WordReturn (less_room so_far len) (take len rest)) more) e

-- a word after its header
pub IsWord-body : (limits : WireLimits) (so_far : Partial) (bytes : List ℕ) (number feed : ℕ) (r : FoundWord)
    → IsLength limits so_far.words so_far.later so_far.room bytes (header.Whole number feed)
    → r ≡ body_at (feed + 1) number (drop (feed + 1) bytes)
    → IsWord limits so_far bytes r
IsWord-body limits so_far bytes number feed r h e =
    subst (IsWord limits so_far bytes) (sym e)
    (body_test limits so_far bytes (drop (feed + 1) bytes) (feed + 1) number (nat_lt (length (drop (feed + 1) bytes)) number) refl refl
    (λ place begin more.
    let there : place + feed + 1 ≡ place + (feed + 1) = omega arith in
    h place begin more ∙ ap (λ place. read_on limits place begin (after_length (less_room so_far number) number) (drop (feed + 1) bytes ++ more)) there))
