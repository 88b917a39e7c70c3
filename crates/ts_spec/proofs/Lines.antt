-- Lines that hold a number, and their ends.
use Rattle.std.proofs.Common.{◌≡◌, ℕ, zero, suc, ◌+◌, ◌-◌, ◌*◌, ◌/◌, ◌%◌, ◌^◌, ◌<◌, ◌≤◌, Bool, true, false, ◌&&◌, nat_le, ◌==◌, if◌then◌else◌, List, [], ◌∷◌, ◌++◌, length, refl, sym, ap, ◌∙◌, zero-add, append_assoc, length-append, eq-eqb, arith}
use Rattle.std.proofs.lemmas.Bool.{ne_eqb, le-leb, lt-leb}
use Rattle.std.proofs.lemmas.Fmt.{decimal_digit, decimal_by_steps}
use Rattle.std.specs.Fmt.{decimal}
use Rattle.ts_spec.specs.declared.wire.Kind.{Kind}
use Rattle.ts_spec.specs.declared.wire.Kind.TheVariants.{Multibulk, Bulk, Crlf, TooLarge}
use Rattle.ts_spec.specs.declared.wire.WireLimits.{WireLimits}
use Rattle.ts_spec.specs.Wire.{Inside, Partial, Mode, Count, CountFeed, Length, LengthFeed, Move, Goto, Fault, Line, Blank, Zero, Number, Minus, LineMove, Goes, Returns, Wrong, FEED, MINUS, RETURN, digit_of, with_digit, expect_byte, move, line_step, on_count, on_length, after_count, after_length, at_end, after_move, read_on}
use Rattle.ts_spec.proofs.Streams.{read_on-byte}

-- what a byte of a line does, if its CR does this
abbrev pub on_line : (Line → Mode) → (ℕ → Move) → Kind → LineMove → Move
on_line mode ends kind (Goes line) = Goto (mode line)
on_line mode ends kind (Returns n) = ends n
on_line mode ends kind Wrong = Fault kind

-- the modes of a line with a number
pub record IsLineMode (limits : WireLimits) (limit : ℕ) (negative : Bool) (mode : Line → Mode) (ends : ℕ → Move) (kind : Kind) : Type 0 where
  pub moves : (line : Line) (byte : ℕ) → move limits (mode line) byte ≡ on_line mode ends kind (line_step limit negative line byte)
  pub inside : (line : Line) (begin : ℕ) → at_end (mode line) begin ≡ Inside begin

-- the line of the number of words
pub count_line : (limits : WireLimits) → IsLineMode limits limits.words true Count (λ n. Goto (CountFeed n)) Multibulk
count_line limits = record {
  moves = λ line byte. count_moves (line_step limits.words true line byte);
  inside = λ line begin. refl;
}
  where
    count_moves : (m : LineMove) → on_count m ≡ on_line Count (λ n. Goto (CountFeed n)) Multibulk m
    count_moves (Goes line) = refl
    count_moves (Returns n) = refl
    count_moves Wrong = refl

-- what the CR of a word's length does
abbrev pub length_ends : Partial → ℕ → Move
length_ends so_far n =
    if nat_le n so_far.room then Goto (LengthFeed (record { words = so_far.words; later = so_far.later; room = so_far.room - n }) n) else Fault TooLarge

-- the line of the length of a word
pub length_line : (limits : WireLimits) (so_far : Partial) → IsLineMode limits limits.word_bytes false (Length so_far) (length_ends so_far) Bulk
length_line limits so_far = record {
  moves = λ line byte. length_moves (line_step limits.word_bytes false line byte);
  inside = λ line begin. refl;
}
  where
    length_moves : (m : LineMove) → on_length so_far m ≡ on_line (Length so_far) (length_ends so_far) Bulk m
    length_moves (Goes line) = refl
    length_moves (Returns n) = refl
    length_moves Wrong = refl

-- if the CR leads to the mode for LF
pub record IsFed (limits : WireLimits) (mode : Mode) (next : Move) : Type 0 where
  pub moves : (byte : ℕ) → move limits mode byte ≡ expect_byte byte FEED Crlf next
  pub inside : (begin : ℕ) → at_end mode begin ≡ Inside begin

-- the expected byte, and any other
pub expect_byte-same : (byte wanted : ℕ) (kind : Kind) (m : Move) → byte ≡ wanted → expect_byte byte wanted kind m ≡ m
expect_byte-same byte wanted kind m e = ap (λ test. if test then m else Fault kind) (eq-eqb byte wanted e)

pub expect_byte-other : (byte wanted : ℕ) (kind : Kind) (m : Move) → (byte ≡ wanted → ⊥) → expect_byte byte wanted kind m ≡ Fault kind
expect_byte-other byte wanted kind m e = ap (λ test. if test then m else Fault kind) (ne_eqb byte wanted e)

pub count_fed : (limits : WireLimits) (n : ℕ) → IsFed limits (CountFeed n) (after_count limits n)
count_fed limits n = record { moves = λ byte. refl; inside = λ begin. refl }

pub length_fed : (limits : WireLimits) (so_far : Partial) (n : ℕ) → IsFed limits (LengthFeed so_far n) (Goto (after_length so_far n))
length_fed limits so_far n = record { moves = λ byte. refl; inside = λ begin. refl }

pub length_ends-room : (so_far : Partial) (n : ℕ) → so_far.room < n → length_ends so_far n ≡ Fault TooLarge
length_ends-room so_far n h =
    ap (λ test. if test then Goto (LengthFeed (record { words = so_far.words; later = so_far.later; room = so_far.room - n }) n) else Fault TooLarge) (lt-leb n so_far.room h)

pub length_ends-goes : (so_far : Partial) (n : ℕ) → n ≤ so_far.room
    → length_ends so_far n ≡ Goto (LengthFeed (record { words = so_far.words; later = so_far.later; room = so_far.room - n }) n)
length_ends-goes so_far n h =
    ap (λ test. if test then Goto (LengthFeed (record { words = so_far.words; later = so_far.later; room = so_far.room - n }) n) else Fault TooLarge) (le-leb n so_far.room h)

-- one more digit
with_digit-digit : (limit number digit : ℕ) → digit < 10 → 10 * number + digit ≤ limit → with_digit limit number (48 + digit) ≡ Goes (Number (10 * number + digit))
with_digit-digit limit number digit small fits =
    let d : digit_of (48 + digit) ≡ digit = omega arith in
    ap (λ test. if test && nat_le (48 + digit) 57 && nat_le (10 * number + digit_of (48 + digit)) limit then Goes (Number (10 * number + digit_of (48 + digit))) else Wrong) (le-leb 48 (48 + digit) (omega arith))
    ∙ ap (λ test. if test && nat_le (10 * number + digit_of (48 + digit)) limit then Goes (Number (10 * number + digit_of (48 + digit))) else Wrong) (le-leb (48 + digit) 57 (omega arith))
    ∙ ap (λ d. if nat_le (10 * number + d) limit then Goes (Number (10 * number + d)) else Wrong) d
    ∙ ap (λ test. if test then Goes (Number (10 * number + digit)) else Wrong) (le-leb (10 * number + digit) limit fits)

first_digit : (limit : ℕ) (negative : Bool) (digit : ℕ) → 0 < digit → digit < 10 → digit ≤ limit → line_step limit negative Blank (48 + digit) ≡ Goes (Number digit)
first_digit limit negative digit some small fits =
    ap (λ test. if test then Goes Zero else (if negative && (48 + digit == MINUS) then Goes Minus else with_digit limit 0 (48 + digit))) (ne_eqb (48 + digit) 48 (λ e. omega arith))
    ∙ ap (λ test. if negative && test then Goes Minus else with_digit limit 0 (48 + digit)) (ne_eqb (48 + digit) MINUS (λ e. omega arith))
    ∙ none negative (with_digit limit 0 (48 + digit))
    ∙ with_digit-digit limit 0 digit small (omega arith)
    ∙ ap (λ n. Goes (Number n)) (zero-add digit)
  where
    none : (test : Bool) (m : LineMove) → (if test && false then Goes Minus else m) ≡ m
    none true m = refl
    none false m = refl

next_digit : (limit : ℕ) (negative : Bool) (number digit : ℕ) → digit < 10 → 10 * number + digit ≤ limit → line_step limit negative (Number number) (48 + digit) ≡ Goes (Number (10 * number + digit))
next_digit limit negative number digit small fits =
    ap (λ test. if test then Returns number else with_digit limit number (48 + digit)) (ne_eqb (48 + digit) RETURN (λ e. omega arith))
    ∙ with_digit-digit limit number digit small fits

-- the digits of a number are read as that number
abbrev AreRead : WireLimits → (Line → Mode) → (limit number : ℕ) → List ℕ → Type 0
AreRead limits mode limit number digits =
    0 < number → number ≤ limit → (place begin : ℕ) (more : List ℕ)
    → read_on limits place begin (mode Blank) (digits ++ more) ≡ read_on limits (place + length digits) begin (mode (Number number)) more

digits_are_read : {limits : WireLimits} {limit : ℕ} {negative : Bool} {mode : Line → Mode} {ends : ℕ → Move} {kind : Kind} → IsLineMode limits limit negative mode ends kind
    → (number : ℕ) → number < 2 ^ 64 → AreRead limits mode limit number (decimal number)
digits_are_read {limits} {limit} {negative} {mode} {ends} {kind} m number small = decimal_by_steps (AreRead limits mode limit) one more number small
  where
    one : (n : ℕ) → n < 10 → AreRead limits mode limit n ((48 + n) ∷ [])
    one n h = λ some fits place begin rest.
        read_on-byte limits place begin (mode Blank) (48 + n) rest _ (m.moves Blank (48 + n) ∙ ap (on_line mode ends kind) (first_digit limit negative n some h fits))

    more : (n : ℕ) (digits : List ℕ) → 10 ≤ n → AreRead limits mode limit (n / 10) digits → AreRead limits mode limit n (digits ++ ((48 + n % 10) ∷ []))
    more n digits h before = λ some fits place begin rest.
        let whole : 10 * (n / 10) + n % 10 ≡ n = omega arith in
        let there : place + length digits + 1 ≡ place + length (digits ++ (48 + n % 10) ∷ []) = omega (arith, length-append digits ((48 + n % 10) ∷ [])) in
        ap (read_on limits place begin (mode Blank)) (append_assoc digits ((48 + n % 10) ∷ []) rest)
        ∙ before (omega arith) (omega arith) place begin ((48 + n % 10) ∷ rest)
        ∙ read_on-byte limits (place + length digits) begin (mode (Number (n / 10))) (48 + n % 10) rest _
        (m.moves (Number (n / 10)) (48 + n % 10) ∙ ap (on_line mode ends kind) (next_digit limit negative (n / 10) (n % 10) (omega arith) (omega arith) ∙ ap (λ n. Goes (Number n)) whole))
        ∙ ap (λ place. read_on limits place begin (mode (Number n)) rest) there

-- a whole line, up to its CR
pub line_is_read : {limits : WireLimits} {limit : ℕ} {negative : Bool} {mode : Line → Mode} {ends : ℕ → Move} {kind : Kind} → IsLineMode limits limit negative mode ends kind
    → (number : ℕ) → number < 2 ^ 64 → number ≤ limit → (place begin : ℕ) (more : List ℕ)
    → read_on limits place begin (mode Blank) (decimal number ++ RETURN ∷ more)
    ≡ after_move (ends number) (place + length (decimal number)) begin (λ from on. read_on limits (place + length (decimal number) + 1) from on more)
line_is_read {limits} {limit} {negative} {mode} {ends} {kind} m zero small fits place begin more =
    ap (λ digits. read_on limits place begin (mode Blank) (digits ++ RETURN ∷ more)) (decimal_digit 0 (omega arith))
    ∙ read_on-byte limits place begin (mode Blank) 48 (RETURN ∷ more) _ (m.moves Blank 48)
    ∙ read_on-byte limits (place + 1) begin (mode Zero) RETURN more _ (m.moves Zero RETURN)
    ∙ ap (λ n. after_move (ends 0) (place + n) begin (λ from on. read_on limits (place + n + 1) from on more)) (sym (ap length (decimal_digit 0 (omega arith))))
line_is_read {limits} {limit} {negative} {mode} {ends} {kind} m (suc n) small fits place begin more =
    digits_are_read m (suc n) small (omega arith) fits place begin (RETURN ∷ more)
    ∙ read_on-byte limits (place + length (decimal (suc n))) begin (mode (Number (suc n))) RETURN more _ (m.moves (Number (suc n)) RETURN)
