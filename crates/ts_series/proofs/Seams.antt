-- Splitting pieces at a time.
use Rattle.std.proofs.Common.{◌≡◌, ◌⊎◌, inl, inr, ℕ, zero, suc, ◌+◌, ◌≤◌, Bool, false, List, [], ◌∷◌, ◌++◌, length, get_or, take, drop, refl, sym, ◌∙◌, ap, subst, arith, append-nil, length-append, le-ltb}
use Rattle.std.specs.Prelude.{nat_lt, nat_le, Some}
use Rattle.std.proofs.lemmas.Bool.Decides.{nat_tests}
use Rattle.ts_spec.specs.Sample.{Point, IsAfter, IsAscending, at_times, is_within, between, first_of, last_of, later_or}
use Rattle.ts_sample.specs.Chunk.{joined}
use Rattle.ts_sample.proofs.Lists.{ascending-left, ascending-right}
use Rattle.ts_series.specs.Seams.{IsSeam}
use Rattle.ts_series.proofs.EarlyLate.{is_before, none-left, none-right, none-both, none-less, before-none, after-none, before-some, after-some, late-some}
use Rattle.ts_series.proofs.TimeFor.{up-to-last, up-to-later}
use Rattle.ts_series.proofs.TimeFrom.{first-fails, from-first-on, both-parts}
use Rattle.ts_series.proofs.Walking.{none-before-it, none-past-it}
use Rattle.ts_series.proofs.Counting.{times-length}

-- pieces before a place that are before a time, and pieces from the place on that are from it on
pub seam-at : (t i : ℕ) (pss : List (List Point)) → at_times (nat_le t) (joined (take i pss)) ≡ [] → at_times (λ u. nat_lt u t) (joined (drop i pss)) ≡ [] → IsSeam t pss
seam-at t zero [] n m = tt
seam-at t zero (ps ∷ pss) n m = (inr (none-left (λ u. nat_lt u t) ps (joined pss) m), seam-at t zero pss refl (none-right (λ u. nat_lt u t) ps (joined pss) m))
seam-at t (suc i) [] n m = tt
seam-at t (suc i) (ps ∷ pss) n m = (inl (none-left (nat_le t) ps (joined (take i pss)) n), seam-at t i pss (none-right (nat_le t) ps (joined (take i pss)) n) m)

upto-before : (t : ℕ) (ps : List Point) → at_times (λ u. nat_le u t) ps ≡ [] → at_times (λ u. nat_lt u (suc t)) ps ≡ []
upto-before t ps n = none-less (λ u. nat_le u t) (λ u. nat_lt u (suc t)) (λ u e. fails u e) ps n
  where
    fails : (u : ℕ) → nat_le u t ≡ false → nat_lt u (suc t) ≡ false
    fails u e = grind (arith, nat_tests)

before-upto : (t : ℕ) (ps : List Point) → at_times (λ u. nat_lt u (suc t)) ps ≡ [] → at_times (λ u. nat_le u t) ps ≡ []
before-upto t ps n = none-less (λ u. nat_lt u (suc t)) (λ u. nat_le u t) (λ u e. fails u e) ps n
  where
    fails : (u : ℕ) → nat_lt u (suc t) ≡ false → nat_le u t ≡ false
    fails u e = grind (arith, nat_tests)

-- where a test takes no sample, it does not take the first one of a piece
piece-fails : (test : ℕ → Bool) (k : ℕ) (pss : List (List Point)) (p : Point) → first_of (get_or pss k []) ≡ Some p → at_times test (joined pss) ≡ [] → test p.time ≡ false
piece-fails test k [] p is n = absurd (cc is)
piece-fails test zero (ps ∷ pss) p is n = first-fails test ps p is (none-left test ps (joined pss) n)
piece-fails test (suc k) (ps ∷ pss) p is n = piece-fails test k pss p is (none-right test ps (joined pss) n)

-- at the first sample of a piece
pub first-early : (k : ℕ) (p : Point) (pss : List (List Point)) → IsAscending (joined pss) → first_of (get_or pss k []) ≡ Some p → at_times (nat_le p.time) (joined (take k pss)) ≡ []
first-early zero p pss rises is = refl
first-early (suc k) p [] rises is = refl
first-early (suc k) p (ps ∷ pss) rises is =
    none-both (nat_le p.time) ps (joined (take k pss))
    (before-none p.time ps (before-some p.time ps (joined pss) rises (λ n. fails (piece-fails (λ u. nat_le u p.time) k pss p is n))))
    (first-early k p pss (ascending-right ps (joined pss) rises) is)
  where
    fails : nat_le p.time p.time ≡ false → ⊥
    fails e = absurd (grind (arith, nat_tests, e))

pub first-late : (k : ℕ) (p : Point) (pss : List (List Point)) → IsAscending (joined pss) → first_of (get_or pss k []) ≡ Some p → at_times (λ u. nat_lt u p.time) (joined (drop k pss)) ≡ []
first-late k p [] rises is = absurd (cc is)
first-late zero p (ps ∷ pss) rises is = from-first-on ps (joined pss) p rises is
first-late (suc k) p (ps ∷ pss) rises is = first-late k p pss (ascending-right ps (joined pss) rises) is

-- past the last sample of a piece
pub last-early : (k : ℕ) (p : Point) (pss : List (List Point)) → IsAscending (joined pss) → last_of (get_or pss k []) ≡ Some p → at_times (nat_le (suc p.time)) (joined (take (suc k) pss)) ≡ []
last-early k p [] rises is = absurd (cc is)
last-early zero p (ps ∷ pss) rises is =
    none-both (nat_le (suc p.time)) ps [] (before-none (suc p.time) ps (up-to-last 0 p ps (ascending-left ps (joined pss) rises) is)) refl
last-early (suc k) p (ps ∷ pss) rises is =
    none-both (nat_le (suc p.time)) ps (joined (take (suc k) pss)) (before-none (suc p.time) ps (up-to-later 0 p k ps pss rises is))
    (last-early k p pss (ascending-right ps (joined pss) rises) is)

pub last-late : (k : ℕ) (p : Point) (pss : List (List Point)) → IsAscending (joined pss) → last_of (get_or pss k []) ≡ Some p → at_times (λ u. nat_lt u (suc p.time)) (joined (drop (suc k) pss)) ≡ []
last-late k p [] rises is = absurd (cc is)
last-late zero p (ps ∷ pss) rises is =
    upto-before p.time (joined pss)
    (after-none p.time p.time (joined pss) (omega arith)
    (after-some p.time ps (joined pss) rises (late-some p.time ps (ap (is_before p.time) is ∙ le-ltb p.time p.time (omega arith)))))
last-late (suc k) p (ps ∷ pss) rises is = last-late k p pss (ascending-right ps (joined pss) rises) is

-- the samples in an interval are those of the pieces between two places at most
pub inner-few : (f l i j : ℕ) (pss : List (List Point)) → i ≤ j → at_times (nat_le f) (joined (take i pss)) ≡ [] → at_times (λ u. nat_lt u (suc l)) (joined (drop j pss)) ≡ []
    → length (between f l (joined pss)) + length (joined (take i pss)) ≤ length (joined (take j pss))
inner-few f l zero zero pss le n m = omega (arith, ap length (none-past-it f l (joined pss) (before-upto l (joined pss) m)))
inner-few f l (suc i) zero pss le n m = absurd (omega arith)
inner-few f l zero (suc j) [] le n m = omega arith
inner-few f l (suc i) (suc j) [] le n m = omega arith
inner-few f l zero (suc j) (ps ∷ pss) le n m =
    omega (arith, both-parts f l ps (joined pss), times-length (is_within f l) ps, length-append ps (joined (take j pss)), inner-few f l zero j pss (omega arith) refl m)
inner-few f l (suc i) (suc j) (ps ∷ pss) le n m =
    omega (
      arith,
      both-parts f l ps (joined pss),
      ap length (none-before-it f l ps (none-left (nat_le f) ps (joined (take i pss)) n)),
      length-append ps (joined (take j pss)),
      length-append ps (joined (take i pss)),
      inner-few f l i j pss (omega arith) (none-right (nat_le f) ps (joined (take i pss)) n) m,
    )

-- A time, no later than another that is past the front of a list, where the front ends before it and the rest begins
-- from it on.
pub record Parts (t : ℕ) (ps qs : List Point) : Type 0 where
  pub time : ℕ
  pub upto : time ≤ t
  pub early : at_times (nat_le time) ps ≡ []
  pub late : at_times (λ u. nat_lt u time) qs ≡ []

-- the same, no earlier than a time that is before the rest
pub record PartsPast (t : ℕ) (ps qs : List Point) : Type 0 where
  pub time : ℕ
  pub from : t ≤ time
  pub early : at_times (nat_le (suc time)) ps ≡ []
  pub late : at_times (λ u. nat_lt u (suc time)) qs ≡ []

pub both-orders : (i j : ℕ) → (i ≤ j) ⊎ (j ≤ i)
both-orders i j = grind arith

pub parted : (t : ℕ) (ps qs : List Point) → IsAscending (ps ++ qs) → at_times (nat_le t) ps ≡ [] → Parts t ps qs
parted t ps [] rises n = record { time = t; upto = omega arith; early = n; late = refl }
parted t ps (q ∷ qs) rises n = go (both-orders t q.time)
  where
    tail : IsAscending (q ∷ qs)
    tail = ascending-right ps (q ∷ qs) rises

    from : at_times (λ u. nat_lt u q.time) (q ∷ qs) ≡ []
    from = ap (at_times (λ u. nat_lt u q.time)) (sym (append-nil (q ∷ qs))) ∙ from-first-on (q ∷ qs) [] q (subst IsAscending (sym (append-nil (q ∷ qs))) tail) refl

    here : at_times (λ u. nat_le u q.time) (q ∷ qs) ≡ [] → ⊥
    here m = absurd (grind (arith, nat_tests, first-fails (λ u. nat_le u q.time) (q ∷ qs) q refl m))

    less : t ≤ q.time → (u : ℕ) → nat_lt u q.time ≡ false → nat_lt u t ≡ false
    less le u e = grind (arith, nat_tests)

    go : (t ≤ q.time) ⊎ (q.time ≤ t) → Parts t ps (q ∷ qs)
    go (inl le) = record { time = t; upto = omega arith; early = n; late = none-less (λ u. nat_lt u q.time) (λ u. nat_lt u t) (less le) (q ∷ qs) from }
    go (inr le) = record { time = q.time; upto = le; early = before-none q.time ps (before-some q.time ps (q ∷ qs) rises here); late = from }

pub parted-past : (t : ℕ) (ps qs : List Point) → IsAscending (ps ++ qs) → at_times (λ u. nat_le u t) qs ≡ [] → PartsPast t ps qs
parted-past t [] qs rises m = record { time = t; from = omega arith; early = refl; late = upto-before t qs m }
parted-past t (p ∷ ps) qs rises m = go (both-orders t q.time)
  where
    q : Point
    q = later_or p (last_of ps)

    upto : at_times (nat_le (suc q.time)) (p ∷ ps) ≡ []
    upto = before-none (suc q.time) (p ∷ ps) (up-to-last 0 q (p ∷ ps) (ascending-left (p ∷ ps) qs rises) refl)

    past : IsAfter q.time qs
    past = after-some q.time (p ∷ ps) qs rises (late-some q.time (p ∷ ps) (le-ltb q.time q.time (omega arith)))

    less : q.time ≤ t → (u : ℕ) → nat_le (suc q.time) u ≡ false → nat_le (suc t) u ≡ false
    less le u e = grind (arith, nat_tests)

    go : (t ≤ q.time) ⊎ (q.time ≤ t) → PartsPast t (p ∷ ps) qs
    go (inl le) = record { time = q.time; from = le; early = upto; late = upto-before q.time qs (after-none q.time q.time qs (omega arith) past) }
    go (inr le) = record { time = t; from = omega arith; early = none-less (nat_le (suc q.time)) (nat_le (suc t)) (less le) (p ∷ ps) upto; late = upto-before t qs m }
