-- The order of keys.
use Rattle.std.proofs.Common.{◌≡◌, ◌<◌, true, false, ◌==◌, ◌⊎◌, [], ◌∷◌, refl, sym, arith, inl, inr, eqb-true, eq-eqb, le-ltb, lt-ltb, ne_eqb}
use Rattle.std.proofs.lemmas.Bool.{cases_order, false≢true, and_parts}
use Rattle.ts_spec.specs.Key.{Key, same, is_before}

pub same-refl : (k : Key) → same k k ≡ true
same-refl [] = refl
same-refl (x ∷ k) = rw (eq-eqb x x refl) (same-refl k)

pub same-true : (j k : Key) → same j k ≡ true → j ≡ k
same-true [] [] h = refl
same-true [] (y ∷ k) h = absurd (false≢true h)
same-true (x ∷ j) [] h = absurd (false≢true h)
same-true (x ∷ j) (y ∷ k) h =
    let parts : (x == y ≡ true) × (same j k ≡ true) = and_parts (x == y) (same j k) h in
    let head : x ≡ y = eqb-true x y parts.0 in
    let tail : j ≡ k = same-true j k parts.1 in
    cc

pub same-sym : (j k : Key) → same j k ≡ same k j
same-sym [] [] = refl
same-sym [] (y ∷ k) = refl
same-sym (x ∷ j) [] = refl
same-sym (x ∷ j) (y ∷ k) = elim (cases_order x y) [
  | inl e ↦ rw (eq-eqb x y e, eq-eqb y x (sym e)) (same-sym j k)
  | inr (inl e) ↦ rw (ne_eqb x y (λ d. absurd (omega arith)), ne_eqb y x (λ d. absurd (omega arith))) refl
  | inr (inr e) ↦ rw (ne_eqb x y (λ d. absurd (omega arith)), ne_eqb y x (λ d. absurd (omega arith))) refl
]

-- a key is not before itself
pub before-irrefl : (k : Key) → is_before k k ≡ false
before-irrefl [] = refl
before-irrefl (x ∷ k) = rw (le-ltb x x (omega arith), eq-eqb x x refl) (before-irrefl k)

-- of two different keys, one is before the other
pub before-total : (j k : Key) → is_before j k ≡ false → is_before k j ≡ false → j ≡ k
before-total [] [] h g = refl
before-total [] (y ∷ k) h g = absurd (false≢true (sym h))
before-total (x ∷ j) [] h g = absurd (false≢true (sym g))
before-total (x ∷ j) (y ∷ k) h g = go (cases_order x y) (before-total j k)
  where
    go : (x ≡ y) ⊎ ((x < y) ⊎ (y < x)) → (is_before j k ≡ false → is_before k j ≡ false → j ≡ k) → x ∷ j ≡ y ∷ k
    go (inl e) ih =
        let one : is_before j k ≡ false = rw (le-ltb x y (omega arith), eq-eqb x y e) at h in
        let two : is_before k j ≡ false = rw (le-ltb y x (omega arith), eq-eqb y x (sym e)) at g in
        let tail : j ≡ k = ih one two in cc
    go (inr (inl e)) ih = absurd (false≢true (sym (rw (lt-ltb x y e) at h)))
    go (inr (inr e)) ih = absurd (false≢true (sym (rw (lt-ltb y x e) at g)))
