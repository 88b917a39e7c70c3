-- Parsing one byte, and the bytes of a word.
use Rattle.std.proofs.Common.{◌≡◌, ℕ, zero, suc, ◌+◌, ◌-◌, ◌<◌, List, [], ◌∷◌, ◌++◌, length, refl, sym, ap, ◌∙◌, append_assoc, append-nil, arith}
use Rattle.ts_spec.specs.declared.wire.WireLimits.{WireLimits}
use Rattle.ts_spec.specs.Wire.{Inside, Mode, Body, WordReturn, Partial, Move, Goto, move, at_end, after_move, after_length, on_body, read_on}

pub read_on-nil : (limits : WireLimits) (place begin : ℕ) (mode : Mode) → read_on limits place begin mode [] ≡ at_end mode begin
unfolding read_on
read_on-nil limits place begin mode = refl

pub read_on-byte : (limits : WireLimits) (place begin : ℕ) (mode : Mode) (byte : ℕ) (bytes : List ℕ) (m : Move) → move limits mode byte ≡ m
    → read_on limits place begin mode (byte ∷ bytes) ≡ after_move m place begin (λ from next. read_on limits (place + 1) from next bytes)
unfolding read_on
read_on-byte limits place begin mode byte bytes m e =
    ap (λ m. after_move m place begin (λ from next. read_on limits (place + 1) from next bytes)) e

-- a whole word
pub read_on-word : (limits : WireLimits) (so_far : Partial) (word : List ℕ) (place begin : ℕ) (front more : List ℕ)
    → read_on limits place begin (on_body so_far (length word) front) (word ++ more)
    ≡ read_on limits (place + length word) begin (WordReturn so_far (front ++ word)) more
read_on-word limits so_far [] place begin front more =
    let here : place ≡ place + 0 = omega arith in
    ap (λ place. read_on limits place begin (WordReturn so_far front) more) here
    ∙ ap (λ word. read_on limits (place + 0) begin (WordReturn so_far word) more) (sym (append-nil front))
read_on-word limits so_far (byte ∷ bytes) place begin front more =
    let less : suc (length bytes) - 1 ≡ length bytes = omega arith in
    let there : place + 1 + length bytes ≡ place + suc (length bytes) = omega arith in
    read_on-byte limits place begin (Body so_far (suc (length bytes)) front) byte (bytes ++ more) _ (ap (λ n. Goto (on_body so_far n (front ++ byte ∷ []))) less)
    ∙ read_on-word limits so_far bytes (place + 1) begin (front ++ byte ∷ []) more
    ∙ ap (λ place. read_on limits place begin (WordReturn so_far (front ++ byte ∷ [] ++ bytes)) more) there
    ∙ ap (λ word. read_on limits (place + suc (length bytes)) begin (WordReturn so_far word) more) (append_assoc front (byte ∷ []) bytes)

-- a word that has not all come
pub read_on-part : (limits : WireLimits) (so_far : Partial) (bytes : List ℕ) (n place begin : ℕ) (front : List ℕ) → length bytes < n
    → read_on limits place begin (on_body so_far n front) bytes ≡ Inside begin
read_on-part limits so_far bytes zero place begin front h = absurd (omega arith)
read_on-part limits so_far [] (suc n) place begin front h = read_on-nil limits place begin (Body so_far (suc n) front)
read_on-part limits so_far (byte ∷ bytes) (suc n) place begin front h =
    let less : suc n - 1 ≡ n = omega arith in
    read_on-byte limits place begin (Body so_far (suc n) front) byte bytes _ (ap (λ n. Goto (on_body so_far n (front ++ byte ∷ []))) less)
    ∙ read_on-part limits so_far bytes n (place + 1) begin (front ++ byte ∷ []) (omega arith)

-- after the length of a word
pub after_length-body : (so_far : Partial) (n : ℕ) → after_length so_far n ≡ on_body so_far n []
after_length-body so_far zero = refl
after_length-body so_far (suc n) = refl
