-- Keys: byte strings in lexicographic order.
use Rattle.std.specs.Prelude.{◌≡◌, ℕ, ◌<◌, Bool, true, false, ◌&&◌, ◌||◌, ◌==◌, nat_lt, ◌⊎◌, List, [], ◌∷◌, refl}
use Rattle.std.proofs.Common.{arith, inl, inr, ltb-true, eqb-true, lt-ltb, tests}
use Rattle.std.proofs.lemmas.Bool.{false≢true}

-- a byte string
abbrev pub Key : Type 0
Key = List ℕ

-- whether two keys are equal
abbrev pub same : Key → Key → Bool
same [] [] = true
same [] (y ∷ ys) = false
same (x ∷ xs) [] = false
same (x ∷ xs) (y ∷ ys) = (x == y) && same xs ys

-- whether a key comes before another in lexicographic order
abbrev pub is_before : Key → Key → Bool
is_before [] [] = false
is_before [] (y ∷ ys) = true
is_before (x ∷ xs) [] = false
is_before (x ∷ xs) (y ∷ ys) = nat_lt x y || ((x == y) && is_before xs ys)

-- ---- the order is transitive

before_cases : (x y : ℕ) (a b : Key) → is_before (x ∷ a) (y ∷ b) ≡ true → (x < y) ⊎ ((x ≡ y) × (is_before a b ≡ true))
before_cases x y a b h = go (nat_lt x y) (x == y) (is_before a b) refl refl refl h
  where
    go : (s t u : Bool) → nat_lt x y ≡ s → (x == y) ≡ t → is_before a b ≡ u → (s || (t && u)) ≡ true → (x < y) ⊎ ((x ≡ y) × (is_before a b ≡ true))
    go true t u p q r e = inl (ltb-true x y p)
    go false true true p q r e = inr (eqb-true x y q, r)
    go false true false p q r e = absurd (false≢true e)
    go false false u p q r e = absurd (false≢true e)

before_less : (x y : ℕ) (a b : Key) → x < y → is_before (x ∷ a) (y ∷ b) ≡ true
before_less x y a b h = rw (lt-ltb x y h) refl

before_tie : (x y : ℕ) (a b : Key) → x ≡ y → is_before a b ≡ true → is_before (x ∷ a) (y ∷ b) ≡ true
before_tie x y a b e h = grind (arith, tests, h)

-- the order is transitive
pub before_trans : (a b c : Key) → is_before a b ≡ true → is_before b c ≡ true → is_before a c ≡ true
before_trans [] [] c h k = absurd (false≢true h)
before_trans [] (y ∷ b) [] h k = absurd (false≢true k)
before_trans [] (y ∷ b) (z ∷ c) h k = refl
before_trans (x ∷ a) [] c h k = absurd (false≢true h)
before_trans (x ∷ a) (y ∷ b) [] h k = absurd (false≢true k)
before_trans (x ∷ a) (y ∷ b) (z ∷ c) h k =
    elim (before_cases x y a b h) [
      | inl p ↦ elim (before_cases y z b c k) [
        | inl q ↦ before_less x z a c (omega arith)
        | inr q ↦ before_less x z a c (omega arith)
      ]
      | inr p ↦ elim (before_cases y z b c k) [
        | inl q ↦ before_less x z a c (omega arith)
        | inr q ↦ before_tie x z a c (omega arith) (before_trans a b c p.1 q.1)
      ]
    ]
