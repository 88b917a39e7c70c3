-- Filtering lists of samples.
use Rattle.std.proofs.Common.{◌≡◌, ℕ, suc, ◌<◌, ◌≤◌, Bool, true, false, not, ◌&&◌, cond, List, [], ◌∷◌, ◌++◌, map, length, refl, sym, ◌∙◌, ap, inl, inr, arith}
use Rattle.std.specs.Prelude.{filter}
use Rattle.std.specs.List.{All}
use Rattle.std.proofs.lemmas.Bool.{cases_Bool, false≢true}
use Rattle.std.proofs.lemmas.List.Elements.{All-nil, All-cons, All-head, All-tail, All-weaker, filter_agree}
use Rattle.ts_spec.specs.Sample.{Point, IsAfter, IsAscending, at_times}
use Rattle.ts_sample.proofs.Between.{filter-filter}

-- ---- any lists

module _ {X : Type 0} (p q : X → Bool) where
  -- tests that agree at each element keep the same ones
  pub filter-same : (xs : List X) → All (λ x. p x ≡ q x) xs → filter p xs ≡ filter q xs
  filter-same [] h = refl
  filter-same (x ∷ xs) h =
      rw (All-head (λ y. p y ≡ q y) x xs h)
      (ap (λ (l : List X). cond (q x) (x ∷ l) l) (filter-same xs (All-tail (λ y. p y ≡ q y) x xs h)))

  both : (a b : Bool) → (a && b) ≡ (b && a)
  both true true = refl
  both true false = refl
  both false true = refl
  both false false = refl

  -- one test after the other, in either order
  pub filter-swap : (xs : List X) → filter p (filter q xs) ≡ filter q (filter p xs)
  filter-swap xs =
      filter-filter p q xs ∙ filter_agree (λ x. q x && p x) (λ x. p x && q x) (λ x. both (q x) (p x)) xs ∙ sym (filter-filter q p xs)

module _ {X : Type 0} (p : X → Bool) where
  -- nothing passes
  pub filter-none : (xs : List X) → All (λ x. p x ≡ false) xs → filter p xs ≡ []
  filter-none [] h = refl
  filter-none (x ∷ xs) h = rw (All-head (λ y. p y ≡ false) x xs h) (filter-none xs (All-tail (λ y. p y ≡ false) x xs h))

  -- all pass
  pub filter-all : (xs : List X) → All (λ x. p x ≡ true) xs → filter p xs ≡ xs
  filter-all [] h = refl
  filter-all (x ∷ xs) h =
      rw (All-head (λ y. p y ≡ true) x xs h) (ap (λ (l : List X). x ∷ l) (filter-all xs (All-tail (λ y. p y ≡ true) x xs h)))

  -- no more pass than there are
  pub length-filter : (xs : List X) → length (filter p xs) ≤ length xs
  length-filter [] = omega arith
  length-filter (x ∷ xs) = go (p x) (length-filter xs)
    where
      go : (b : Bool) → length (filter p xs) ≤ length xs → length (cond b (x ∷ filter p xs) (filter p xs)) ≤ suc (length xs)
      go true ih = omega arith
      go false ih = omega arith

-- functions that agree at each element
pub map-same : {X Y : Type 0} (f h : X → Y) (xs : List X) → All (λ x. f x ≡ h x) xs → map f xs ≡ map h xs
map-same f h [] same = refl
map-same {X} {Y} f h (x ∷ xs) same =
    let first : f x ≡ h x = All-head (λ y. f y ≡ h y) x xs same in
    let rest : map f xs ≡ map h xs = map-same f h xs (All-tail (λ y. f y ≡ h y) x xs same) in
    (cc)

-- ---- ascending lists

pub after-all : (t : ℕ) (ps : List Point) → IsAfter t ps → All (λ p. t < p.time) ps
after-all t [] h = All-nil (λ p. t < p.time)
after-all t (p ∷ ps) h = All-cons (λ q. t < q.time) p ps h.0 (after-all t ps h.1)

-- a test that holds of a time holds of each earlier one
abbrev pub IsDown : (ℕ → Bool) → Type 0
IsDown test = (t u : ℕ) → t ≤ u → test u ≡ true → test t ≡ true

-- the samples at whose times it holds come first
pub parted : (test : ℕ → Bool) → IsDown test → (ps : List Point) → IsAscending ps → ps ≡ at_times test ps ++ at_times (λ t. not (test t)) ps
parted test down [] h = refl
parted test down (p ∷ ps) h = go (test p.time) refl (parted test down ps h.1)
  where
    fails : test p.time ≡ false → All (λ q. test q.time ≡ false) ps
    fails e = All-weaker (λ q. p.time < q.time) (λ q. test q.time ≡ false)
        (λ q less. elim (cases_Bool (test q.time)) [ inl x ↦ absurd (false≢true (sym e ∙ down p.time q.time (omega arith) x)) | inr x ↦ x ]) ps (after-all p.time ps h.0)

    go : (b : Bool) → test p.time ≡ b → ps ≡ at_times test ps ++ at_times (λ t. not (test t)) ps
        → p ∷ ps ≡ cond b (p ∷ at_times test ps) (at_times test ps) ++ cond (not b) (p ∷ at_times (λ t. not (test t)) ps) (at_times (λ t. not (test t)) ps)
    go true e ih = ap (λ (l : List Point). p ∷ l) ih
    go false e ih =
        let none : at_times test ps ≡ [] = filter-none (λ q. test q.time) ps (fails e) in
        let all : at_times (λ t. not (test t)) ps ≡ ps = filter-all (λ q. not (test q.time)) ps (All-weaker (λ q. test q.time ≡ false) (λ q. not (test q.time) ≡ true) (λ q x. ap not x) ps (fails e)) in
        rw (none, all) refl
