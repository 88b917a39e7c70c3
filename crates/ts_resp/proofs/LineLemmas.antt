-- Parsing a number line, one byte at a time.
use Rattle.std.proofs.Common.{◌≡◌, ℕ, suc, ◌+◌, ◌<◌, ◌≤◌, Bool, if◌then◌else◌, List, length, drop, get_or, refl, sym, ap, ◌∙◌, subst, add_assoc, add-one, add-zero, zero-add, arith}
use Rattle.std.proofs.lemmas.Bool.{ne_eqb}
use Rattle.std.proofs.Math.Seq.{drop-cons}
use Rattle.std.proofs.Math.ListN.{drop_of_length-le}
use Rattle.ts_spec.specs.Wire.{Line, Goes, Returns, Wrong, Blank, Number, RETURN, line_step, with_digit}
use Rattle.ts_resp.specs.declared.line.NumberLine.{NumberLine}
use Rattle.ts_resp.specs.declared.line.NumberLine.TheVariants as found
use Rattle.ts_resp.specs.Lines.{after, on_move, number_line}

-- the line at an index is what its byte makes of it
pub number_line-drop : (limit : ℕ) (negative : Bool) (line : Line) (bytes : List ℕ) (at : ℕ) → at < length bytes
    → number_line limit negative line (drop at bytes)
    ≡ on_move (line_step limit negative line (get_or bytes at 0)) (λ next. number_line limit negative next (drop (suc at) bytes))
unfolding number_line
number_line-drop limit negative line bytes at h = ap (number_line limit negative line) (drop-cons bytes at 0 h)

pub after-after : (k j : ℕ) (r : NumberLine) → after k (after j r) ≡ after (k + j) r
after-after k j found.Open = refl
after-after k j (found.Whole number len) = ap (λ n. found.Whole number n) (sym (add_assoc k j len))
after-after k j (found.Wrong at) = ap (λ n. found.Wrong n) (sym (add_assoc k j at))

-- the line goes on at the next index
pub number_line-goes : (limit : ℕ) (negative : Bool) (line next : Line) (bytes : List ℕ) (at : ℕ) (r : NumberLine) → at < length bytes
    → Goes next ≡ line_step limit negative line (get_or bytes at 0)
    → after at (number_line limit negative line (drop at bytes)) ≡ r
    → after (at + 1) (number_line limit negative next (drop (at + 1) bytes)) ≡ r
number_line-goes limit negative line next bytes at r h e so_far =
    let step = number_line-drop limit negative line bytes at h in
    let goes = ap (λ m. on_move m (λ next. number_line limit negative next (drop (suc at) bytes))) (sym e) in
    let P : ℕ → Type 0 = λ n. after (at + 1) (number_line limit negative next (drop n bytes)) ≡ r in
    subst P (sym (add-one at))
    (sym (after-after at 1 (number_line limit negative next (drop (suc at) bytes))) ∙ sym (ap (after at) (step ∙ goes)) ∙ so_far)

pub number_line-returns : (limit : ℕ) (negative : Bool) (line : Line) (number : ℕ) (bytes : List ℕ) (at : ℕ) (r : NumberLine) → at < length bytes
    → Returns number ≡ line_step limit negative line (get_or bytes at 0)
    → after at (number_line limit negative line (drop at bytes)) ≡ r
    → found.Whole number at ≡ r
number_line-returns limit negative line number bytes at r h e so_far =
    let step = number_line-drop limit negative line bytes at h in
    let goes = ap (λ m. on_move m (λ next. number_line limit negative next (drop (suc at) bytes))) (sym e) in
    ap (λ n. found.Whole number n) (sym (add-zero at)) ∙ sym (ap (after at) (step ∙ goes)) ∙ so_far

pub number_line-wrong : (limit : ℕ) (negative : Bool) (line : Line) (bytes : List ℕ) (at : ℕ) (r : NumberLine) → at < length bytes
    → Wrong ≡ line_step limit negative line (get_or bytes at 0)
    → after at (number_line limit negative line (drop at bytes)) ≡ r
    → found.Wrong at ≡ r
number_line-wrong limit negative line bytes at r h e so_far =
    let step = number_line-drop limit negative line bytes at h in
    let goes = ap (λ m. on_move m (λ next. number_line limit negative next (drop (suc at) bytes))) (sym e) in
    ap (λ n. found.Wrong n) (sym (add-zero at)) ∙ sym (ap (after at) (step ∙ goes)) ∙ so_far

-- no byte is left
pub number_line-open : (limit : ℕ) (negative : Bool) (line : Line) (bytes : List ℕ) (at : ℕ) (r : NumberLine) → length bytes ≤ at
    → after at (number_line limit negative line (drop at bytes)) ≡ r
    → found.Open ≡ r
unfolding number_line
number_line-open limit negative line bytes at r h so_far =
    sym (ap (λ rest. after at (number_line limit negative line rest)) (drop_of_length-le bytes h)) ∙ so_far

-- before the first byte
pub after-zero : (r : NumberLine) → after 0 r ≡ r
after-zero found.Open = refl
after-zero (found.Whole number len) = ap (λ n. found.Whole number n) (zero-add len)
after-zero (found.Wrong at) = ap (λ n. found.Wrong n) (zero-add at)

-- one digit, and the CR that ends it
pub one_digit_line : (limit : ℕ) (negative : Bool) (bytes : List ℕ) (number : ℕ) → 2 ≤ length bytes
    → Goes (Number number) ≡ line_step limit negative Blank (get_or bytes 0 0) → get_or bytes 1 0 ≡ RETURN
    → found.Whole number 1 ≡ number_line limit negative Blank bytes
one_digit_line limit negative bytes number two first second =
    let none : 0 < length bytes = omega arith in
    let one : 1 < length bytes = omega arith in
    number_line-returns limit negative (Number number) number bytes 1 (number_line limit negative Blank bytes) one (ap (line_step limit negative (Number number)) (sym second))
    (number_line-goes limit negative Blank (Number number) bytes 0 (number_line limit negative Blank bytes) none first (after-zero (number_line limit negative Blank bytes)))

-- two digits, and the CR that ends them
pub two_digit_line : (limit : ℕ) (negative : Bool) (bytes : List ℕ) (tens number : ℕ) → 3 ≤ length bytes
    → Goes (Number tens) ≡ line_step limit negative Blank (get_or bytes 0 0) → Goes (Number number) ≡ line_step limit negative (Number tens) (get_or bytes 1 0)
    → get_or bytes 2 0 ≡ RETURN → found.Whole number 2 ≡ number_line limit negative Blank bytes
two_digit_line limit negative bytes tens number three first second third =
    let none : 0 < length bytes = omega arith in
    let one : 1 < length bytes = omega arith in
    let two : 2 < length bytes = omega arith in
    number_line-returns limit negative (Number number) number bytes 2 (number_line limit negative Blank bytes) two (ap (line_step limit negative (Number number)) (sym third))
    (number_line-goes limit negative (Number tens) (Number number) bytes 1 (number_line limit negative Blank bytes) one second
    (number_line-goes limit negative Blank (Number tens) bytes 0 (number_line limit negative Blank bytes) none first (after-zero (number_line limit negative Blank bytes))))

-- a digit that goes on with a number is no CR
pub digit_step : (limit : ℕ) (negative : Bool) (tens number byte : ℕ) → (byte ≡ RETURN → ⊥) → Goes (Number number) ≡ with_digit limit tens byte
    → Goes (Number number) ≡ line_step limit negative (Number tens) byte
digit_step limit negative tens number byte other e =
    e ∙ sym (ap (λ test. if test then Returns tens else with_digit limit tens byte) (ne_eqb byte RETURN other))
