-- The samples of pieces from a time to the last one of a piece.
use Rattle.std.proofs.Common.{◌≡◌, ◌⊎◌, inl, inr, ℕ, zero, suc, ◌-◌, ◌+◌, ◌<◌, ◌≤◌, Bool, false, List, [], ◌∷◌, ◌++◌, length, get_or, take, drop, refl, sym, ◌∙◌, ap, arith, length-append, ltb-false, lt-ltb}
use Rattle.std.specs.Prelude.{nat_lt, nat_le, min, Some}
use Rattle.std.proofs.lemmas.Bool.Decides.{nat_tests}
use Rattle.ts_spec.specs.Sample.{Point, IsAscending, at_times, is_within, between, last_of}
use Rattle.ts_spec.proofs.Samples.{IsBefore}
use Rattle.ts_sample.specs.Chunk.{joined}
use Rattle.ts_sample.proofs.Lists.{ascending-left, ascending-right}
use Rattle.ts_series.proofs.Counting.{times-fewer}
use Rattle.ts_series.proofs.EarlyLate.{is_before, none-cons, none-head, none-tail, none-left, none-right, none-less, last-before, before-some, before-none}
use Rattle.ts_series.proofs.TimeFrom.{all-between, both-parts}

-- no sample is before the time
abbrev AreFrom : ℕ → List Point → Type 0
AreFrom from ps = at_times (λ t. nat_lt t from) ps ≡ []

-- where a test takes no sample, it does not take the last one
last-fails : (test : ℕ → Bool) (ps : List Point) (p : Point) → last_of ps ≡ Some p → at_times test ps ≡ [] → test p.time ≡ false
last-fails test [] p is n = absurd (cc is)
last-fails test (q ∷ []) p is n = let same : q ≡ p = cc is in ap (λ (r : Point). test r.time) (sym same) ∙ none-head test q [] n
last-fails test (q ∷ r ∷ ps) p is n = last-fails test (r ∷ ps) p is (none-tail test q (r ∷ ps) n)

-- nor the last one of a piece
piece-fails : (test : ℕ → Bool) (k : ℕ) (pss : List (List Point)) (p : Point) → last_of (get_or pss k []) ≡ Some p → at_times test (joined pss) ≡ [] → test p.time ≡ false
piece-fails test k [] p is n = absurd (cc is)
piece-fails test zero (ps ∷ pss) p is n = last-fails test ps p is (none-left test ps (joined pss) n)
piece-fails test (suc k) (ps ∷ pss) p is n = piece-fails test k pss p is (none-right test ps (joined pss) n)

-- samples from one time up to another are all in the interval
all-within : (from to : ℕ) (ps : List Point) → AreFrom from ps → IsBefore (suc to) ps → length (between from to ps) ≡ length ps
all-within from to ps n h = all-between from to ps n (none-less (nat_le (suc to)) (nat_lt to) (λ t e. grind (arith, nat_tests)) ps (before-none (suc to) ps h))

module _ (from : ℕ) (p : Point) where
  -- a piece up to the last sample of it or of a later one
  front-between : (ps qs : List Point) → AreFrom from (ps ++ qs) → IsBefore (suc p.time) ps → length ps ≤ length (between from p.time (ps ++ qs))
  front-between ps qs n h = omega (arith, both-parts from p.time ps qs, all-within from p.time ps (none-left (λ t. nat_lt t from) ps qs n) h)

  pub up-to-last : (ps : List Point) → IsAscending ps → last_of ps ≡ Some p → IsBefore (suc p.time) ps
  up-to-last ps rises is = last-before (suc p.time) ps rises (ap (is_before (suc p.time)) is ∙ lt-ltb p.time (suc p.time) (omega arith))

  pub up-to-later : (k : ℕ) (ps : List Point) (pss : List (List Point)) → IsAscending (ps ++ joined pss) → last_of (get_or pss k []) ≡ Some p → IsBefore (suc p.time) ps
  up-to-later k ps pss rises is = before-some (suc p.time) ps (joined pss) rises (λ n.
      let fails : nat_le p.time (suc p.time) ≡ false = piece-fails (λ t. nat_le t (suc p.time)) k pss p is n in
      absurd (grind (arith, nat_tests, fails)))

  counted-all : (k : ℕ) (pss : List (List Point)) → IsAscending (joined pss) → AreFrom from (joined pss) → last_of (get_or pss k []) ≡ Some p
      → length (joined (take (suc k) pss)) ≤ length (between from p.time (joined pss))
  counted-all k [] rises n is = omega arith
  counted-all zero (ps ∷ pss) rises n is =
      omega (arith, length-append ps [], front-between ps (joined pss) n (up-to-last ps (ascending-left ps (joined pss) rises) is))
  counted-all (suc k) (ps ∷ pss) rises n is =
      omega (
        arith,
        length-append ps (joined (take (suc k) pss)),
        both-parts from p.time ps (joined pss),
        all-within from p.time ps (none-left (λ t. nat_lt t from) ps (joined pss) n) (up-to-later k ps pss rises is),
        counted-all k pss (ascending-right ps (joined pss) rises) (none-right (λ t. nat_lt t from) ps (joined pss) n) is,
      )

  -- no sample of the pieces from `start` on is before `from`, and `p` is the last sample of the piece at `k`
  pub counted-from : (start k : ℕ) (pss : List (List Point)) → start ≤ k → IsAscending (joined pss) → AreFrom from (joined (drop start pss)) → last_of (get_or pss k []) ≡ Some p
      → length (joined (take (suc k) pss)) ≤ length (joined (take start pss)) + length (between from p.time (joined pss))
  counted-from zero k pss le rises n is = omega (arith, counted-all k pss rises n is)
  counted-from (suc start) zero pss le rises n is = absurd (omega arith)
  counted-from (suc start) (suc k) [] le rises n is = omega arith
  counted-from (suc start) (suc k) (ps ∷ pss) le rises n is =
      omega (
        arith,
        length-append ps (joined (take (suc k) pss)),
        length-append ps (joined (take start pss)),
        both-parts from p.time ps (joined pss),
        counted-from start k pss (omega arith) (ascending-right ps (joined pss) rises) n is,
      )

  pub last-from : (start k : ℕ) (pss : List (List Point)) → start ≤ k → AreFrom from (joined (drop start pss)) → last_of (get_or pss k []) ≡ Some p → from ≤ p.time
  last-from zero k pss le n is = ltb-false p.time from (piece-fails (λ t. nat_lt t from) k pss p is n)
  last-from (suc start) zero pss le n is = absurd (omega arith)
  last-from (suc start) (suc k) [] le n is = absurd (cc is)
  last-from (suc start) (suc k) (ps ∷ pss) le n is = last-from start k pss (omega arith) n is

-- what is past the time before is not before the time
pub before-next : (time : ℕ) (ps : List Point) → 0 < time → at_times (λ t. nat_le t (time - 1)) ps ≡ [] → AreFrom time ps
before-next time ps some n = none-less (λ t. nat_le t (time - 1)) (λ t. nat_lt t time) (λ t e. fails t e) ps n
  where
    fails : (t : ℕ) → nat_le t (time - 1) ≡ false → nat_lt t time ≡ false
    fails t e = grind (arith, nat_tests)

-- nothing is before the first time
pub from-first : (time : ℕ) (ps : List Point) → time ≡ 0 → AreFrom time ps
from-first time [] is = refl
from-first time (p ∷ ps) is =
    none-cons (λ t. nat_lt t time) p ps (let fails : nat_lt p.time time ≡ false = grind (arith, nat_tests) in fails) (from-first time ps is)

-- up to a later time there are no fewer
pub between-longer : (from last end : ℕ) (ps : List Point) → last ≤ end → length (between from last ps) ≤ length (between from end ps)
between-longer from last end ps le = times-fewer (is_within from last) (is_within from end) ps (λ t e. grind (arith, nat_tests, e))

-- the end of the interval, or a time from the last one on
pub earlier-end : (from to last count end : ℕ) (ps : List Point) → min last to ≤ end → end ≤ to → count ≤ length (between from last ps) → (end ≡ to) ⊎ (count ≤ length (between from end ps))
earlier-end from to last count end ps least within enough = go (cases to last)
  where
    cases : (i j : ℕ) → (i ≤ j) ⊎ (j ≤ i)
    cases i j = grind arith

    go : (to ≤ last) ⊎ (last ≤ to) → (end ≡ to) ⊎ (count ≤ length (between from end ps))
    go (inl le) = inl (omega arith)
    go (inr le) = inr (omega (arith, enough, between-longer from last end ps (omega arith)))
