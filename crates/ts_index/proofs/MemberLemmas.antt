-- The members of sorted lists after an id is added or removed.
use Rattle.std.proofs.Common.{◌≡◌, ℕ, ◌<◌, ◌==◌, ◌||◌, ◌&&◌, not, nat_lt, Bool, true, false, List, [], ◌∷◌, refl, sym, ◌∙◌, ap, inl, inr, arith, if◌then◌else◌, eq-eqb, ne_eqb, eqb-true, lt-ltb, le-ltb}
use Rattle.std.proofs.lemmas.Bool.{cases_order, false≢true}
use Rattle.std.specs.List.{AllByRecursion}
use Rattle.ts_sample.specs.declared.sample.Id.{Id}
use Rattle.ts_index.specs.Numbers.{AreAscending, has_id, with_id, without_id}

-- an id less than all is not there
pub none_in : (n : ℕ) (xs : List Id) → AllByRecursion (λ j. n < j.0) xs → has_id n xs ≡ false
none_in n [] h = refl
none_in n (x ∷ xs) h =
    let less : n < x.0 = h.0 in
    rw (ne_eqb n x.0 (λ e. absurd (omega arith))) (none_in n xs h.1)

-- what is greater than a greater one
pub chained : (m n : ℕ) (xs : List Id) → m < n → AllByRecursion (λ j. n < j.0) xs → AllByRecursion (λ j. m < j.0) xs
chained m n [] l h = tt
chained m n (x ∷ xs) l h =
    let less : n < x.0 = h.0 in
    (omega arith, chained m n xs l h.1)

all_with : (n : ℕ) (i : Id) (xs : List Id) → n < i.0 → AllByRecursion (λ j. n < j.0) xs → AllByRecursion (λ j. n < j.0) (with_id i xs)
all_with n i [] l h = (l, tt)
all_with n i (x ∷ xs) l h = by (nat_lt x.0 i.0) (x.0 == i.0) (all_with n i xs l h.1)
  where
    by : (b d : Bool) → AllByRecursion (λ j. n < j.0) (with_id i xs) → AllByRecursion (λ j. n < j.0) (if b then x ∷ with_id i xs else if d then x ∷ xs else i ∷ x ∷ xs)
    by true d rest = (h.0, rest)
    by false true rest = h
    by false false rest = (l, h)

all_without : (n : ℕ) (i : Id) (xs : List Id) → AllByRecursion (λ j. n < j.0) xs → AllByRecursion (λ j. n < j.0) (without_id i xs)
all_without n i [] h = tt
all_without n i (x ∷ xs) h = by (x.0 == i.0) (all_without n i xs h.1)
  where
    by : (d : Bool) → AllByRecursion (λ j. n < j.0) (without_id i xs) → AllByRecursion (λ j. n < j.0) (if d then xs else x ∷ without_id i xs)
    by true rest = h.1
    by false rest = (h.0, rest)

pub AreAscending-with : (i : Id) (xs : List Id) → AreAscending xs → AreAscending (with_id i xs)
AreAscending-with i [] h = (tt, tt)
AreAscending-with i (x ∷ xs) h = elim (cases_order x.0 i.0) [
  | inl e ↦ rw (le-ltb x.0 i.0 (omega arith), eq-eqb x.0 i.0 e) h
  | inr (inl e) ↦ rw (lt-ltb x.0 i.0 e) (all_with x.0 i xs e h.0, AreAscending-with i xs h.1)
  | inr (inr e) ↦ rw (le-ltb x.0 i.0 (omega arith), ne_eqb x.0 i.0 (λ d. absurd (omega arith))) ((e, chained i.0 x.0 xs e h.0), h)
]

pub AreAscending-without : (i : Id) (xs : List Id) → AreAscending xs → AreAscending (without_id i xs)
AreAscending-without i [] h = tt
AreAscending-without i (x ∷ xs) h = by (x.0 == i.0) (all_without x.0 i xs h.0, AreAscending-without i xs h.1)
  where
    by : (d : Bool) → AreAscending (x ∷ without_id i xs) → AreAscending (if d then xs else x ∷ without_id i xs)
    by true rest = h.1
    by false rest = rest

over : (a b c : Bool) → (a || (b || c)) ≡ (b || (a || c))
over true true c = refl
over true false c = refl
over false true c = refl
over false false c = refl

pub has_id-with : (i : Id) (xs : List Id) (q : ℕ) → has_id q (with_id i xs) ≡ ((q == i.0) || has_id q xs)
has_id-with i [] q = refl
has_id-with i (x ∷ xs) q = by (nat_lt x.0 i.0) (x.0 == i.0) refl (has_id-with i xs q)
  where
    twice : (b c : Bool) → (b || c) ≡ (b || (b || c))
    twice true c = refl
    twice false c = refl

    by : (b d : Bool) → (x.0 == i.0) ≡ d → has_id q (with_id i xs) ≡ ((q == i.0) || has_id q xs)
        → has_id q (if b then x ∷ with_id i xs else if d then x ∷ xs else i ∷ x ∷ xs) ≡ ((q == i.0) || ((q == x.0) || has_id q xs))
    by true d e ih = ap (λ r. (q == x.0) || r) ih ∙ over (q == x.0) (q == i.0) (has_id q xs)
    by false true e ih = rw (sym (eqb-true x.0 i.0 e)) (twice (q == x.0) (has_id q xs))
    by false false e ih = refl

pub has_id-without : (i : Id) (xs : List Id) (q : ℕ) → AreAscending xs → has_id q (without_id i xs) ≡ (has_id q xs && not (q == i.0))
has_id-without i [] q h = refl
has_id-without i (x ∷ xs) q h = by (x.0 == i.0) refl (has_id-without i xs q h.1)
  where
    gone : (b c : Bool) → (b ≡ true → c ≡ false) → c ≡ ((b || c) && not b)
    gone true c e = e refl
    gone false true e = refl
    gone false false e = refl

    stays : (b c d : Bool) → (b ≡ true → d ≡ false) → (b || (c && not d)) ≡ ((b || c) && not d)
    stays true c d e = rw (e refl) refl
    stays false c d e = refl

    by : (d : Bool) → (x.0 == i.0) ≡ d → has_id q (without_id i xs) ≡ (has_id q xs && not (q == i.0))
        → has_id q (if d then xs else x ∷ without_id i xs) ≡ (((q == x.0) || has_id q xs) && not (q == i.0))
    by true e ih = rw (sym (eqb-true x.0 i.0 e)) (gone (q == x.0) (has_id q xs) (λ s. ap (λ n. has_id n xs) (eqb-true q x.0 s) ∙ none_in x.0 xs h.0))
    by false e ih = ap (λ r. (q == x.0) || r) ih ∙ stays (q == x.0) (has_id q xs) (q == i.0) (λ s. ap (λ n. n == i.0) (eqb-true q x.0 s) ∙ e)

-- ascending lists with the same ids are the same
pub same_numbers : (xs ys : List Id) → AreAscending xs → AreAscending ys → ((q : ℕ) → has_id q xs ≡ has_id q ys) → xs ≡ ys
same_numbers [] [] a b h = refl
same_numbers [] (y ∷ ys) a b h = absurd (false≢true (h y.0 ∙ rw (eq-eqb y.0 y.0 refl) refl))
same_numbers (x ∷ xs) [] a b h = absurd (false≢true (sym (h x.0) ∙ rw (eq-eqb x.0 x.0 refl) refl))
same_numbers (x ∷ xs) (y ∷ ys) a b h = elim (cases_order x.0 y.0) [
  | inl e ↦
      let heads : x ≡ y = ap (λ n. record { 0 = n }) e in
      let tails : xs ≡ ys = same_numbers xs ys a.1 b.1 (λ q. rest (q == x.0) (has_id q xs) (has_id q ys)
      (λ s. ap (λ n. has_id n xs) (eqb-true q x.0 s) ∙ none_in x.0 xs a.0)
      (λ s. ap (λ n. has_id n ys) (eqb-true q x.0 s ∙ e) ∙ none_in y.0 ys b.0)
      (h q ∙ ap (λ n. (q == n) || has_id q ys) (sym e))) in
      cc
  | inr (inl e) ↦ absurd (false≢true (sym (none_in x.0 (y ∷ ys) (e, chained x.0 y.0 ys e b.0)) ∙ sym (h x.0) ∙ rw (eq-eqb x.0 x.0 refl) refl))
  | inr (inr e) ↦ absurd (false≢true (sym (none_in y.0 (x ∷ xs) (e, chained y.0 x.0 xs e a.0)) ∙ h y.0 ∙ rw (eq-eqb y.0 y.0 refl) refl))
]
  where
    rest : (s b c : Bool) → (s ≡ true → b ≡ false) → (s ≡ true → c ≡ false) → (s || b) ≡ (s || c) → b ≡ c
    rest true b c f g e = f refl ∙ sym (g refl)
    rest false b c f g e = e
