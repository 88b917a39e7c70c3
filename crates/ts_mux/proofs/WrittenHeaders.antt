-- Lemmas about writing the header of a frame from its end.
use Rattle.std.proofs.Common.{◌≡◌, ℕ, ◌+◌, ◌-◌, ◌<◌, ◌≤◌, ◌^◌, List, [], ◌∷◌, ◌++◌, length, set, drop, sym, ap, ◌∙◌, append_assoc, length-append, arith}
use Rattle.std.proofs.lemmas.Fmt.{length-decimal-le}
use Rattle.std.proofs.lemmas.Grind.{drop-set_at}
use Rattle.std.specs.Fmt.{decimal}
use Rattle.ts_spec.specs.Wire.{FEED, SPACE}
use Rattle.ts_mux.specs.Capture.{header}

pub twenty_digits : (number : ℕ) → number < 2 ^ 64 → length (decimal number) ≤ 20
twenty_digits number fits = length-decimal-le 20 number (omega arith) (omega arith) fits

pub length-header : (link len : ℕ) → length (header link len) ≡ length (decimal link) + length (decimal len) + 2
length-header link len = omega (arith, length-append (decimal link ++ SPACE ∷ decimal len) (FEED ∷ []), length-append (decimal link) (SPACE ∷ decimal len))

-- the line feed was put before `end`, the digits of the length before it, a space before these, and the digits of the number
pub header_put : (first second room mid after : List ℕ) (end digits start : ℕ) → 1 ≤ end → end ≤ length room → 1 ≤ digits → digits ≤ length mid
    → drop digits mid ≡ second ++ drop (end - 1) (set room (end - 1) FEED)
    → drop start after ≡ first ++ drop (digits - 1) (set mid (digits - 1) SPACE)
    → drop start after ≡ (first ++ SPACE ∷ second ++ FEED ∷ []) ++ drop end room
header_put first second room mid after end digits start some fits spaced within put_second put_first =
    let past_feed : end - 1 + 1 ≡ end = omega (arith, some) in
    let past_space : digits - 1 + 1 ≡ digits = omega (arith, spaced) in
    let feed : drop (end - 1) (set room (end - 1) FEED) ≡ FEED ∷ drop end room =
    drop-set_at room (end - 1) (end - 1) FEED (omega arith) (omega (arith, some, fits)) ∙ ap (λ n. FEED ∷ drop n room) past_feed in
    let space : drop (digits - 1) (set mid (digits - 1) SPACE) ≡ SPACE ∷ drop digits mid =
    drop-set_at mid (digits - 1) (digits - 1) SPACE (omega arith) (omega (arith, spaced, within)) ∙ ap (λ n. SPACE ∷ drop n mid) past_space in
    put_first
    ∙ ap (λ l. first ++ l) (space ∙ ap (λ l. SPACE ∷ l) (put_second ∙ ap (λ l. second ++ l) feed))
    ∙ sym (append_assoc first (SPACE ∷ second) (FEED ∷ drop end room))
    ∙ sym (append_assoc (first ++ SPACE ∷ second) (FEED ∷ []) (drop end room))
