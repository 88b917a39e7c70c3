-- Ids at their indexes in sorted lists.
use Rattle.std.proofs.Common.{◌≡◌, ℕ, zero, suc, ◌||◌, ◌==◌, Bool, true, false, ◌<◌, ◌≤◌, List, [], ◌∷◌, ◌++◌, length, take, drop, get_or, refl, sym, ap, arith, eq-eqb, ne_eqb, lt-ltb, le-ltb}
use native.Mathlib.Numerals.{unary_clauses}
use Rattle.std.specs.List.{AllByRecursion, HoldsAt, remove, insert}
use Rattle.std.specs.List.Sorted.{IsBinarySearchResult, IsSearchInRange}
use Rattle.std.proofs.lemmas.List.Sorted.{searchable_from_sorted}
use Rattle.std.proofs.lemmas.Cmp.{ranked, nat_cmp_total}
use Rattle.std.specs.Ordering.{nat_cmp}
use Rattle.std.specs.Prelude.{Result, Ok, Err}
use Rattle.std.specs.Result.{is_ok}
use Rattle.std.specs.declared.cmp.Ordering.TheVariants.{Less, Equal, Greater}
use Rattle.ts_sample.specs.declared.sample.Id.{Id}
use Rattle.ts_index.specs.Numbers.{AreAscending, AreSorted, has_id, with_id, without_id}

-- what holds of each holds at each index
at : (P : Id → Type 0) (xs : List Id) (k : ℕ) (d : Id) → AllByRecursion P xs → k < length xs → P (get_or xs k d)
at P [] k d h l = absurd (omega arith)
at P (x ∷ xs) zero d h l = h.0
at P (x ∷ xs) (suc k) d h l = at P xs k d h.1 (omega arith)

-- ascending ids are sorted
pub sorted_numbers : (xs : List Id) → AreAscending xs → AreSorted xs
sorted_numbers [] h k d l m = absurd (omega arith)
sorted_numbers (x ∷ []) h k d l m = absurd (omega arith)
sorted_numbers (x ∷ y ∷ xs) h zero d l m =
    let less : x.0 < y.0 = h.0.0 in
    rw (le-ltb y.0 x.0 (omega arith), ne_eqb y.0 x.0 (λ e. absurd (omega arith))) refl
sorted_numbers (x ∷ y ∷ xs) h (suc k) d l m =
    let rest = simp unary_clauses at (sorted_numbers (y ∷ xs) h.1 k d (omega arith) (omega arith)) in
    simp unary_clauses rest

-- ---- where it is not there

-- those before an index are less, and those from it on greater
record Gap (xs : List Id) (p : ℕ) (i : Id) : Type 0 where
  pub below : (k : ℕ) (d : Id) → k < p → (get_or xs k d).0 < i.0
  pub above : (k : ℕ) (d : Id) → p ≤ k → k < length xs → i.0 < (get_or xs k d).0

Gap-rest : (x : Id) (xs : List Id) (p : ℕ) (i : Id) → Gap (x ∷ xs) (suc p) i → Gap xs p i
Gap-rest x xs p i h = record {
  below = λ k d l. h.below (suc k) d (omega arith);
  above = λ k d l m. h.above (suc k) d (omega arith) (omega arith);
}

Gap-searched : (xs : List Id) (p : ℕ) (i : Id) → AreSorted xs → IsBinarySearchResult (λ y. nat_cmp y.0 i.0) xs (Err p) → Gap xs p i
Gap-searched xs p i o found =
    let split = found (searchable_from_sorted nat_cmp_total (λ (x : Id). x.0) xs i.0 o) in
    record {
      below = λ k d l. ranked (get_or xs k d).0 i.0 Less (sym (split.0 k d (omega arith) l));
      above = λ k d l m. ranked (get_or xs k d).0 i.0 Greater (sym (split.1 k d l m));
    }

placed : (xs : List Id) (p : ℕ) (i : Id) → p ≤ length xs → Gap xs p i → take p xs ++ i ∷ drop p xs ≡ with_id i xs
placed [] zero i l h = refl
placed [] (suc p) i l h = absurd (omega arith)
placed (x ∷ xs) zero i l h =
    let less : i.0 < x.0 = h.above 0 i (omega arith) (omega arith) in
    rw (le-ltb x.0 i.0 (omega arith), ne_eqb x.0 i.0 (λ e. absurd (omega arith))) refl
placed (x ∷ xs) (suc p) i l h =
    let less : x.0 < i.0 = h.below 0 i (omega arith) in
    rw (lt-ltb x.0 i.0 less) (ap (λ r. x ∷ r) (placed xs p i (omega arith) (Gap-rest x xs p i h)))

pub inserted : (xs : List Id) (p : ℕ) (i : Id) → AreAscending xs → p ≤ length xs → IsBinarySearchResult (λ y. nat_cmp y.0 i.0) xs (Err p) → insert xs p i ≡ with_id i xs
inserted xs p i o l found = placed xs p i l (Gap-searched xs p i (sorted_numbers xs o) found)

none_there : (xs : List Id) (p : ℕ) (i : Id) → Gap xs p i → without_id i xs ≡ xs
none_there [] p i h = refl
none_there (x ∷ xs) zero i h =
    let less : i.0 < x.0 = h.above 0 i (omega arith) (omega arith) in
    rw (ne_eqb x.0 i.0 (λ e. absurd (omega arith))) (ap (λ r. x ∷ r) (none_there xs zero i (record { below = λ k d l. absurd (omega arith); above = λ k d l m. h.above (suc k) d (omega arith) (omega arith) })))
none_there (x ∷ xs) (suc p) i h =
    let less : x.0 < i.0 = h.below 0 i (omega arith) in
    rw (ne_eqb x.0 i.0 (λ e. absurd (omega arith))) (ap (λ r. x ∷ r) (none_there xs p i (Gap-rest x xs p i h)))

pub not_there : (xs : List Id) (p : ℕ) (i : Id) → AreAscending xs → IsBinarySearchResult (λ y. nat_cmp y.0 i.0) xs (Err p) → without_id i xs ≡ xs
not_there xs p i o found = none_there xs p i (Gap-searched xs p i (sorted_numbers xs o) found)

-- ---- where it is there

stays : (xs : List Id) (p : ℕ) (i : Id) → AreAscending xs → p < length xs → (get_or xs p i).0 ≡ i.0 → with_id i xs ≡ xs
stays [] p i o l e = absurd (omega arith)
stays (x ∷ xs) zero i o l e = rw (le-ltb x.0 i.0 (omega arith), eq-eqb x.0 i.0 e) refl
stays (x ∷ xs) (suc p) i o l e =
    let less : x.0 < (get_or xs p i).0 = at (λ y. x.0 < y.0) xs p i o.0 (omega arith) in
    rw (lt-ltb x.0 i.0 (omega arith)) (ap (λ r. x ∷ r) (stays xs p i o.1 (omega arith) e))

goes : (xs : List Id) (p : ℕ) (i : Id) → AreAscending xs → p < length xs → (get_or xs p i).0 ≡ i.0 → remove xs p ≡ without_id i xs
goes [] p i o l e = absurd (omega arith)
goes (x ∷ xs) zero i o l e = rw (eq-eqb x.0 i.0 e) refl
goes (x ∷ xs) (suc p) i o l e =
    let less : x.0 < (get_or xs p i).0 = at (λ y. x.0 < y.0) xs p i o.0 (omega arith) in
    rw (ne_eqb x.0 i.0 (λ d. absurd (omega arith))) (ap (λ r. x ∷ r) (goes xs p i o.1 (omega arith) e))

found_there : (xs : List Id) (p : ℕ) (i : Id) → HoldsAt (λ y. nat_cmp y.0 i.0 ≡ Equal) xs p → (get_or xs p i).0 ≡ i.0
found_there xs p i found = ranked (get_or xs p i).0 i.0 Equal (sym (found i))

pub already : (xs : List Id) (p : ℕ) (i : Id) → AreAscending xs → p < length xs → HoldsAt (λ y. nat_cmp y.0 i.0 ≡ Equal) xs p → with_id i xs ≡ xs
already xs p i o l found = stays xs p i o l (found_there xs p i found)

pub removed : (xs : List Id) (p : ℕ) (i : Id) → AreAscending xs → p < length xs → HoldsAt (λ y. nat_cmp y.0 i.0 ≡ Equal) xs p → remove xs p ≡ without_id i xs
removed xs p i o l found = goes xs p i o l (found_there xs p i found)

-- ---- whether it is there

gap-absent : (xs : List Id) (p : ℕ) (i : Id) → Gap xs p i → has_id i.0 xs ≡ false
gap-absent [] p i h = refl
gap-absent (x ∷ xs) zero i h =
    let less : i.0 < x.0 = h.above 0 i (omega arith) (omega arith) in
    rw (ne_eqb i.0 x.0 (λ e. absurd (omega arith))) (gap-absent xs zero i (record { below = λ k d l. absurd (omega arith); above = λ k d l m. h.above (suc k) d (omega arith) (omega arith) }))
gap-absent (x ∷ xs) (suc p) i h =
    let less : x.0 < i.0 = h.below 0 i (omega arith) in
    rw (ne_eqb i.0 x.0 (λ e. absurd (omega arith))) (gap-absent xs p i (Gap-rest x xs p i h))

-- an id that a search of sorted ids does not find
pub absent : (xs : List Id) (p : ℕ) (i : Id) → AreSorted xs → IsBinarySearchResult (λ y. nat_cmp y.0 i.0) xs (Err p) → has_id i.0 xs ≡ false
absent xs p i o found = gap-absent xs p i (Gap-searched xs p i o found)

or-right : (b c : Bool) → c ≡ true → (b || c) ≡ true
or-right true c e = refl
or-right false c e = e

-- the id at an index
pub has-at : (xs : List Id) (p : ℕ) (d i : Id) → p < length xs → (get_or xs p d).0 ≡ i.0 → has_id i.0 xs ≡ true
has-at [] p d i l e = absurd (omega arith)
has-at (x ∷ xs) zero d i l e = rw (eq-eqb i.0 x.0 (sym e)) refl
has-at (x ∷ xs) (suc p) d i l e = or-right (i.0 == x.0) (has_id i.0 xs) (has-at xs p d i (omega arith) e)

-- and one that it finds
pub present : (xs : List Id) (p : ℕ) (i : Id) → p < length xs → HoldsAt (λ y. nat_cmp y.0 i.0 ≡ Equal) xs p → has_id i.0 xs ≡ true
present xs p i l found = has-at xs p i i l (found_there xs p i found)

-- a search of sorted ids finds those that are there
pub searched : (xs : List Id) (i : Id) (r : Result ℕ ℕ) → AreSorted xs → IsSearchInRange r (length xs) → IsBinarySearchResult (λ y. nat_cmp y.0 i.0) xs r → is_ok r ≡ has_id i.0 xs
searched xs i (Ok p) o l found = sym (present xs p i l found)
searched xs i (Err p) o l found = sym (absent xs p i o found)
