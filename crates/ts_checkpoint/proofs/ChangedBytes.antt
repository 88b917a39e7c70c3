-- A record with one changed byte is refused.
use Rattle.std.proofs.Common.{◌≡◌, ◌≢◌, ℕ, ◌<◌, Bool, true, false, if◌then◌else◌, List, [], ◌∷◌, ◌++◌, Some, refl, sym, ◌∙◌, ap, arith}
use Rattle.std.proofs.lemmas.Slice.Eq.{bytes_eq-Decides}
use Rattle.std.specs.Prelude.{fold, None}
use Rattle.std.specs.Fmt.{decimal}
use Rattle.std.specs.Str.{bytes_eq}
use Rattle.ts_spec.specs.Wire.{Request}
use Rattle.ts_restore.specs.CheckNumber.{MODULUS, check_word, check_number}
use Rattle.ts_restore.proofs.CheckNumbers.{changed_byte}
use Rattle.ts_checkpoint.specs.Numbers.{whole}
use Rattle.ts_checkpoint.specs.Parts.{Part}
use Rattle.ts_checkpoint.specs.PartOf.{unchecked_part, part_of}
use Rattle.ts_checkpoint.proofs.Decimals.{whole-decimal}

below : (words : Request) (x : ℕ) → x < MODULUS → fold check_word x words < MODULUS
below [] x h = h
below (word ∷ words) x h = below words (check_word x word) (omega arith)

-- two check numbers with the same text are equal
same-numbers : (one other : Request) → decimal (check_number one) ≡ decimal (check_number other) → check_number one ≡ check_number other
same-numbers one other e =
    let first : check_number one < MODULUS = below one 0 (omega arith) in
    let second : check_number other < MODULUS = below other 0 (omega arith) in
    let read : Some (check_number one) ≡ Some (check_number other) =
    sym (whole-decimal (check_number one) (omega arith)) ∙ ap whole e ∙ whole-decimal (check_number other) (omega arith) in
    cc

-- a record that was read has its check number
passed : (name check : List ℕ) (words : Request) (p : Part) → part_of (name ∷ check ∷ words) ≡ Some p → check ≡ decimal (check_number (name ∷ words))
unfolding part_of
passed name check words p = go (bytes_eq check (decimal (check_number (name ∷ words)))) refl
  where
    go : (b : Bool) → bytes_eq check (decimal (check_number (name ∷ words))) ≡ b
        → (if b then unchecked_part (name ∷ words) else None) ≡ Some p → check ≡ decimal (check_number (name ∷ words))
    go true e h = (bytes_eq-Decides check (decimal (check_number (name ∷ words)))).0 e
    go false e h = cc

-- a record with another check number is refused
failed : (name check : List ℕ) (words : Request) → check ≢ decimal (check_number (name ∷ words)) → part_of (name ∷ check ∷ words) ≡ None
unfolding part_of
failed name check words other = go (bytes_eq check (decimal (check_number (name ∷ words)))) refl
  where
    go : (b : Bool) → bytes_eq check (decimal (check_number (name ∷ words))) ≡ b → (if b then unchecked_part (name ∷ words) else None) ≡ None
    go true e = absurd (other ((bytes_eq-Decides check (decimal (check_number (name ∷ words)))).0 e))
    go false e = refl

-- other words than the ones of this check number are refused
moved : (name check other : List ℕ) (words others : Request) (p : Part) → part_of (name ∷ check ∷ words) ≡ Some p
    → check_number (name ∷ words) ≢ check_number (other ∷ others) → part_of (other ∷ check ∷ others) ≡ None
moved name check other words others p h differ =
    failed other check others (λ e. differ (same-numbers (name ∷ words) (other ∷ others) (sym (passed name check words p h) ∙ e)))

-- lists that differ in one place
apart : (front back : List ℕ) (a b : ℕ) → a ≢ b → (front ++ a ∷ back) ≢ (front ++ b ∷ back)
apart [] back a b differ e = absurd (differ (cc))
apart (x ∷ front) back a b differ e =
    let rest : front ++ a ∷ back ≡ front ++ b ∷ back = cc in
    apart front back a b differ rest

alone : (word : List ℕ) (p : Part) → part_of (word ∷ []) ≡ Some p → ⊥
unfolding part_of
alone word p h = cc

pub changed-refused : (before after : Request) (front back : List ℕ) (a b : ℕ) (p : Part) → a < 256 → b < 256 → a ≢ b
    → part_of (before ++ (front ++ a ∷ back) ∷ after) ≡ Some p → part_of (before ++ (front ++ b ∷ back) ∷ after) ≡ None
changed-refused [] [] front back a b p h k differ read = absurd (alone (front ++ a ∷ back) p read)
changed-refused [] (check ∷ words) front back a b p h k differ read =
    moved (front ++ a ∷ back) check (front ++ b ∷ back) words words p read (changed_byte [] words front back a b h k differ)
changed-refused (name ∷ []) words front back a b p h k differ read =
    failed name (front ++ b ∷ back) words (λ e. apart front back a b differ (passed name (front ++ a ∷ back) words p read ∙ sym e))
changed-refused (name ∷ check ∷ before) after front back a b p h k differ read =
    moved name check name (before ++ (front ++ a ∷ back) ∷ after) (before ++ (front ++ b ∷ back) ∷ after) p read
    (changed_byte (name ∷ before) after front back a b h k differ)
