-- The index of a time in an ascending list of samples.
use Rattle.std.proofs.Common.{◌≡◌, ℕ, zero, suc, ◌-◌, ◌<◌, ◌≤◌, Bool, true, false, not, cond, List, [], ◌∷◌, length, get_or, take, drop, refl, ◌∙◌, ap, arith}
use Rattle.std.specs.Prelude.{nat_lt, nat_le, filter}
use Rattle.std.specs.List.Sorted.{IsPartitionPoint, IsNonDecreasingBy}
use Rattle.std.proofs.lemmas.Bool.Decides.{nat_tests}
use Rattle.ts_spec.specs.Sample.{Point, IsAfter, IsAscending, at_times}

-- a partition point cuts the list into what passes the test and what fails it
pub parted : {X : Type 0} (p : X → Bool) (xs : List X) (i : ℕ) → IsPartitionPoint (λ y. p y ≡ true) (λ y. p y ≡ false) xs i → i ≤ length xs
    → (take i xs ≡ filter p xs) × (drop i xs ≡ filter (λ x. not (p x)) xs)
parted p [] zero h le = (refl, refl)
parted p [] (suc i) h le = absurd (omega arith)
parted {X} p (x ∷ xs) zero h le =
    let fails : p x ≡ false = h.1 0 x (omega arith) (omega arith) in
    let rest = parted p xs zero ((λ k d low high. absurd (omega arith)), (λ k d low high. h.1 (suc k) d (omega arith) (omega arith))) (omega arith) in
    rw fails (rest.0, ap (λ (l : List X). x ∷ l) rest.1)
parted {X} p (x ∷ xs) (suc i) h le =
    let passes : p x ≡ true = h.0 0 x (omega arith) (omega arith) in
    let rest = parted p xs i ((λ k d low high. h.0 (suc k) d (omega arith) (omega arith)), (λ k d low high. h.1 (suc k) d (omega arith) (omega arith))) (omega arith) in
    rw passes (ap (λ (l : List X). x ∷ l) rest.0, rest.1)

pub after_each : (t : ℕ) (ps : List Point) (k : ℕ) (d : Point) → IsAfter t ps → k < length ps → t < (get_or ps k d).time
after_each t [] k d h lt = absurd (omega arith)
after_each t (p ∷ ps) zero d h lt = h.0
after_each t (p ∷ ps) (suc k) d h lt = after_each t ps k d h.1 (omega arith)

-- the times of an ascending list rise
pub rising : (ps : List Point) → IsAscending ps → IsNonDecreasingBy (λ p. p.time) ps
rising [] h i j d le lt = absurd (omega arith)
rising (p ∷ ps) h zero zero d le lt = omega arith
rising (p ∷ ps) h zero (suc j) d le lt = omega (arith, after_each p.time ps j d h.0 (omega arith))
rising (p ∷ ps) h (suc i) zero d le lt = absurd (omega arith)
rising (p ∷ ps) h (suc i) (suc j) d le lt = rising ps h.1 i j d (omega arith) (omega arith)

pub not_before : (t n : ℕ) → not (nat_lt n t) ≡ nat_le t n
not_before t n = grind (arith, nat_tests)

pub not_past : (t n : ℕ) → not (nat_le n t) ≡ nat_lt t n
not_past t n = grind (arith, nat_tests)

pub filter_alike : {X : Type 0} (p q : X → Bool) → ((x : X) → p x ≡ q x) → (xs : List X) → filter p xs ≡ filter q xs
filter_alike p q same [] = refl
filter_alike {X} p q same (x ∷ xs) = rw (same x) (ap (λ (l : List X). cond (q x) (x ∷ l) l) (filter_alike p q same xs))

-- the index where the times reach t splits off the samples before t
pub cut_at : (t : ℕ) (ps : List Point) (i : ℕ) → IsPartitionPoint (λ p. nat_lt p.time t ≡ true) (λ p. nat_lt p.time t ≡ false) ps i → i ≤ length ps
    → (take i ps ≡ at_times (λ n. nat_lt n t) ps) × (drop i ps ≡ at_times (nat_le t) ps)
cut_at t ps i h le =
    let both = parted (λ p. nat_lt p.time t) ps i h le in
    (both.0, both.1 ∙ filter_alike (λ p. not (nat_lt p.time t)) (λ p. nat_le t p.time) (λ p. not_before t p.time) ps)

-- the index where the times pass t splits off the samples up to t
pub cut_past : (t : ℕ) (ps : List Point) (i : ℕ) → IsPartitionPoint (λ p. nat_le p.time t ≡ true) (λ p. nat_le p.time t ≡ false) ps i → i ≤ length ps
    → (take i ps ≡ at_times (λ n. nat_le n t) ps) × (drop i ps ≡ at_times (nat_lt t) ps)
cut_past t ps i h le =
    let both = parted (λ p. nat_le p.time t) ps i h le in
    (both.0, both.1 ∙ filter_alike (λ p. not (nat_le p.time t)) (λ p. nat_lt t p.time) (λ p. not_past t p.time) ps)

-- a time past the last sample has the index at the end
pub past_all : (t : ℕ) (ps : List Point) → IsAscending ps → ((d : Point) → 0 < length ps → (get_or ps (length ps - 1) d).time < t)
    → IsPartitionPoint (λ p. nat_lt p.time t ≡ true) (λ p. nat_lt p.time t ≡ false) ps (length ps)
past_all t ps h last = (
  (λ k d low high.
      let below : (get_or ps k d).time < t = omega (arith, rising ps h k (length ps - 1) d (omega arith) (omega arith), last d (omega arith)) in
      grind (arith, nat_tests)),
  (λ k d low high. absurd (omega arith)),
)

-- the samples up to a time from the last sample on are all of them
pub upto_all : (t : ℕ) (ps : List Point) → IsAscending ps → ((d : Point) → 0 < length ps → (get_or ps (length ps - 1) d).time ≤ t)
    → IsPartitionPoint (λ p. nat_le p.time t ≡ true) (λ p. nat_le p.time t ≡ false) ps (length ps)
upto_all t ps h last = (
  (λ k d low high.
      let below : (get_or ps k d).time ≤ t = omega (arith, rising ps h k (length ps - 1) d (omega arith) (omega arith), last d (omega arith)) in
      grind (arith, nat_tests)),
  (λ k d low high. absurd (omega arith)),
)
