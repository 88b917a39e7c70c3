-- Sorted lists without many ids.
use Rattle.std.proofs.Common.{◌≡◌, ℕ, ◌<◌, ◌==◌, ◌||◌, ◌&&◌, not, Bool, true, false, List, [], ◌∷◌, length, refl, sym, ◌∙◌, ap, subst, arith, if◌then◌else◌, eqb-true, eq-eqb}
use Rattle.std.proofs.lemmas.Bool.{false≢true}
use Rattle.std.specs.List.{AllByRecursion}
use Rattle.ts_sample.specs.declared.sample.Id.{Id}
use Rattle.ts_index.specs.Numbers.{AreAscending, AreSorted, has_id, without_id, without_all, cleared}
use Rattle.ts_index.proofs.MemberLemmas.{AreAscending-without, has_id-without, same_numbers}

-- one id is sorted
pub sorted-one : (i : Id) → AreSorted (i ∷ [])
sorted-one i k d l m = absurd (omega arith)

all-left : (n : ℕ) (gone xs : List Id) → AllByRecursion (λ j. n < j.0) xs → AllByRecursion (λ j. n < j.0) (without_all gone xs)
all-left n gone [] h = tt
all-left n gone (x ∷ xs) h = by (has_id x.0 gone) (all-left n gone xs h.1)
  where
    by : (b : Bool) → AllByRecursion (λ j. n < j.0) (without_all gone xs) → AllByRecursion (λ j. n < j.0) (if not b then x ∷ without_all gone xs else without_all gone xs)
    by true rest = rest
    by false rest = (h.0, rest)

pub ascending-left : (gone xs : List Id) → AreAscending xs → AreAscending (without_all gone xs)
ascending-left gone [] h = tt
ascending-left gone (x ∷ xs) h = by (has_id x.0 gone) (all-left x.0 gone xs h.0, ascending-left gone xs h.1)
  where
    by : (b : Bool) → AreAscending (x ∷ without_all gone xs) → AreAscending (if not b then x ∷ without_all gone xs else without_all gone xs)
    by true rest = rest.1
    by false rest = rest

none-and : (b : Bool) → (b && false) ≡ false
none-and true = refl
none-and false = refl

pub has_id-left : (gone xs : List Id) (q : ℕ) → has_id q (without_all gone xs) ≡ (has_id q xs && not (has_id q gone))
has_id-left gone [] q = refl
has_id-left gone (x ∷ xs) q = by (has_id x.0 gone) refl (q == x.0) refl (has_id-left gone xs q)
  where
    by : (b : Bool) → has_id x.0 gone ≡ b → (s : Bool) → (q == x.0) ≡ s → has_id q (without_all gone xs) ≡ (has_id q xs && not (has_id q gone))
        → has_id q (if not b then x ∷ without_all gone xs else without_all gone xs) ≡ ((s || has_id q xs) && not (has_id q gone))
    by true e true p ih =
        let there : has_id q gone ≡ true = ap (λ n. has_id n gone) (eqb-true q x.0 p) ∙ e in
        ih ∙ ap (λ b. has_id q xs && not b) there ∙ none-and (has_id q xs) ∙ sym (ap not there)
    by true e false p ih = ih
    by false e true p ih =
        let away : has_id q gone ≡ false = ap (λ n. has_id n gone) (eqb-true q x.0 p) ∙ e in
        ap (λ b. b || has_id q (without_all gone xs)) p ∙ sym (ap not away)
    by false e false p ih = ap (λ b. b || has_id q (without_all gone xs)) p ∙ ih

pub ascending-cleared : (i : Id) (gone xs : List Id) → AreAscending xs → AreAscending (cleared i gone xs)
ascending-cleared i gone xs h = by (has_id i.0 xs)
  where
    by : (b : Bool) → AreAscending (if b then without_all gone xs else xs)
    by true = ascending-left gone xs h
    by false = h

and-all : (b : Bool) → b ≡ (b && true)
and-all true = refl
and-all false = refl

pub has_id-cleared : (i : Id) (gone xs : List Id) (q : ℕ) → has_id q (cleared i gone xs) ≡ (has_id q xs && not (has_id i.0 xs && has_id q gone))
has_id-cleared i gone xs q = by (has_id i.0 xs)
  where
    by : (b : Bool) → has_id q (if b then without_all gone xs else xs) ≡ (has_id q xs && not (b && has_id q gone))
    by true = has_id-left gone xs q
    by false = and-all (has_id q xs)

-- one id alone
pub cleared-one : (i : Id) (xs : List Id) → AreAscending xs → cleared i (i ∷ []) xs ≡ without_id i xs
cleared-one i xs h = same_numbers (cleared i (i ∷ []) xs) (without_id i xs) (ascending-cleared i (i ∷ []) xs h) (AreAscending-without i xs h) (λ q.
    has_id-cleared i (i ∷ []) xs q ∙ by q (q == i.0) refl (has_id q xs) (has_id i.0 xs) refl refl ∙ sym (has_id-without i xs q h))
  where
    by : (q : ℕ) (s : Bool) → (q == i.0) ≡ s → (b d : Bool) → has_id q xs ≡ b → has_id i.0 xs ≡ d → (b && not (d && (s || false))) ≡ (b && not s)
    by q s p false d e f = refl
    by q s p true true e f = ap not (or-none s)
      where
        or-none : (c : Bool) → (c || false) ≡ c
        or-none true = refl
        or-none false = refl
    by q true p true false e f = absurd (false≢true (sym f ∙ ap (λ n. has_id n xs) (sym (eqb-true q i.0 p)) ∙ e))
    by q false p true false e f = refl

-- where one id alone goes from a list
pub cleared-alone : (i : Id) (b : Bool) (new old : List Id) → AreAscending old → new ≡ (if b then cleared i (i ∷ []) old else old) → new ≡ (if b then without_id i old else old)
cleared-alone i true new old h e = e ∙ cleared-one i old h
cleared-alone i false new old h e = e

-- an id is among itself
pub own-id : (i : Id) → has_id i.0 (i ∷ []) ≡ true
own-id i = rw (eq-eqb i.0 i.0 refl) refl

-- a list of one id that has this one
pub alone : (ids : List Id) (i : Id) → length ids ≡ 1 → has_id i.0 ids ≡ true → ids ≡ i ∷ []
alone [] i l h = absurd (false≢true h)
alone (x ∷ []) i l h = by (i.0 == x.0) refl h
  where
    by : (b : Bool) → (i.0 == x.0) ≡ b → (b || false) ≡ true → x ∷ [] ≡ i ∷ []
    by true e f = ap (λ n. record { 0 = n } ∷ []) (sym (eqb-true i.0 x.0 e))
    by false e f = absurd (false≢true f)
alone (x ∷ y ∷ xs) i l h = absurd (omega arith)

-- ---- one list that may have changed

module _ (i : Id) (gone : List Id) (old : List Id) where
  pub ascending-one : (b : Bool) (new : List Id) → new ≡ (if b then cleared i gone old else old) → AreAscending old → AreAscending new
  ascending-one true new e h = subst AreAscending (sym e) (ascending-cleared i gone old h)
  ascending-one false new e h = subst AreAscending (sym e) h

  left-part : (b c : Bool) → (b && c) ≡ true → b ≡ true
  left-part true c h = refl
  left-part false c h = h

  pub fewer-one : (b : Bool) (new : List Id) (q : ℕ) → new ≡ (if b then cleared i gone old else old) → has_id q new ≡ true → has_id q old ≡ true
  fewer-one true new q e h = left-part (has_id q old) (not (has_id i.0 old && has_id q gone)) (sym (has_id-cleared i gone old q) ∙ ap (has_id q) (sym e) ∙ h)
  fewer-one false new q e h = ap (has_id q) (sym e) ∙ h

  pub others-one : (b : Bool) (new : List Id) (q : ℕ) → new ≡ (if b then cleared i gone old else old) → has_id q gone ≡ false → has_id q new ≡ has_id q old
  others-one true new q e h =
      ap (has_id q) e ∙ has_id-cleared i gone old q ∙ ap (λ b. has_id q old && not (has_id i.0 old && b)) h
      ∙ ap (λ b. has_id q old && not b) (none-and (has_id i.0 old)) ∙ sym (and-all (has_id q old))
  others-one false new q e h = ap (has_id q) e

  pub gone-one : (b : Bool) (new : List Id) → new ≡ (if b then cleared i gone old else old) → has_id i.0 gone ≡ true → b ≡ true → has_id i.0 new ≡ false
  gone-one true new e h is = ap (has_id i.0) e ∙ has_id-cleared i gone old i.0 ∙ ap (λ b. has_id i.0 old && not (has_id i.0 old && b)) h ∙ both (has_id i.0 old)
    where
      both : (b : Bool) → (b && not (b && true)) ≡ false
      both true = refl
      both false = refl
  gone-one false new e h is = absurd (false≢true is)
