-- The starts of buckets: they are in the order of times, and each is in its own bucket.
use Rattle.std.proofs.Common.{◌≡◌, ℕ, zero, suc, ◌+◌, ◌-◌, ◌*◌, ◌/◌, ◌<◌, ◌≤◌, Bool, cond, pos, negsuc, neg_ℤ, ◌+ℤ◌, ◌*ℤ◌, refl, sym, ap, ◌∙◌, subst, arith, inl, inr, ◌⊎◌, lt-ltb, le-ltb, mul_comm, mul-le-mul_left, div-lt_iff_lt-mul, mul-suc, add-one}
use Rattle.std.proofs.lemmas.Bool.{cases_lt}
use Rattle.std.proofs.lemmas.Nat.{le-div}
use Rattle.std.proofs.Math.Nat.{eq-zero-or-pos, div-mul-le_self, mul-div-le, div-eq_of_lt-le, mul-div_cancel_left}
use Rattle.std.specs.Int.{int_div_euclid}
use Rattle.ts_spec.specs.Bucket.{Grid, from_zero, start}

-- at most 0 if the second number is greater
less : (a k : ℕ) → from_zero (pos a +ℤ neg_ℤ (pos k)) ≡ a - k
less a zero = omega arith
less a (suc k) = elim (cases_lt a (suc k)) [
  | inl h ↦ ap (λ (b : Bool). from_zero (cond b (negsuc (suc k - suc a)) (pos (a - suc k)))) (lt-ltb a (suc k) h) ∙ omega arith
  | inr h ↦ ap (λ (b : Bool). from_zero (cond b (negsuc (suc k - suc a)) (pos (a - suc k)))) (le-ltb a (suc k) h)
]

-- from the alignment on
pub start-late : (g : Grid) (t : ℕ) → g.align ≤ t → start g t ≡ g.align + g.duration * ((t - g.align) / g.duration)
start-late g t h = go g.align g.duration h
  where
    go : (a d : ℕ) → a ≤ t → start (record { align = a; duration = d }) t ≡ a + d * ((t - a) / d)
    go zero d h = let e : t + 0 ≡ t - 0 = omega arith in ap (λ (x : ℕ). 0 + d * (x / d)) e
    go (suc a) d h = ap (λ (b : Bool). from_zero (pos (suc a) +ℤ (pos d *ℤ int_div_euclid (cond b (negsuc (suc a - suc t)) (pos (t - suc a))) (pos d)))) (le-ltb t (suc a) h)

-- before it
pub start-early : (g : Grid) (t : ℕ) → t < g.align → start g t ≡ g.align - g.duration * suc ((g.align - suc t) / g.duration)
start-early g t h = go g.align g.duration h
  where
    go : (a d : ℕ) → t < a → start (record { align = a; duration = d }) t ≡ a - d * suc ((a - suc t) / d)
    go zero d h = absurd (omega arith)
    go (suc a) d h =
        ap (λ (b : Bool). from_zero (pos (suc a) +ℤ (pos d *ℤ int_div_euclid (cond b (negsuc (suc a - suc t)) (pos (t - suc a))) (pos d)))) (lt-ltb t (suc a) h)
        ∙ less (suc a) (d * suc ((suc a - suc t) / d))

div-mono : (x y d : ℕ) → 0 < d → x ≤ y → x / d ≤ y / d
div-mono x y d h l = le-div (x / d) y d h (let k : x / d * d ≤ x = div-mul-le_self x d in omega arith)

-- A later time has no earlier start.
pub start-mono : (g : Grid) (t u : ℕ) → 0 < g.duration → t ≤ u → start g t ≤ start g u
start-mono g t u h l = go (cases_lt t g.align) (cases_lt u g.align)
  where
    go : (t < g.align) ⊎ (g.align ≤ t) → (u < g.align) ⊎ (g.align ≤ u) → start g t ≤ start g u
    go (inl x) (inl y) =
        let q : (g.align - suc u) / g.duration ≤ (g.align - suc t) / g.duration = div-mono (g.align - suc u) (g.align - suc t) g.duration h (omega arith) in
        let k : g.duration * suc ((g.align - suc u) / g.duration) ≤ g.duration * suc ((g.align - suc t) / g.duration) = mul-le-mul_left g.duration (omega arith) in
        let s : start g t ≡ g.align - g.duration * suc ((g.align - suc t) / g.duration) = start-early g t x in
        let r : start g u ≡ g.align - g.duration * suc ((g.align - suc u) / g.duration) = start-early g u y in
        omega arith
    go (inl x) (inr y) =
        let s : start g t ≡ g.align - g.duration * suc ((g.align - suc t) / g.duration) = start-early g t x in
        let r : start g u ≡ g.align + g.duration * ((u - g.align) / g.duration) = start-late g u y in
        omega arith
    go (inr x) (inl y) = absurd (omega arith)
    go (inr x) (inr y) =
        let q : (t - g.align) / g.duration ≤ (u - g.align) / g.duration = div-mono (t - g.align) (u - g.align) g.duration h (omega arith) in
        let k : g.duration * ((t - g.align) / g.duration) ≤ g.duration * ((u - g.align) / g.duration) = mul-le-mul_left g.duration q in
        let s : start g t ≡ g.align + g.duration * ((t - g.align) / g.duration) = start-late g t x in
        let r : start g u ≡ g.align + g.duration * ((u - g.align) / g.duration) = start-late g u y in
        omega arith

-- buckets without length all start at the alignment
start-still : (g : Grid) (t : ℕ) → g.duration ≡ 0 → start g t ≡ g.align
start-still g t h = go (cases_lt t g.align)
  where
    go : (t < g.align) ⊎ (g.align ≤ t) → start g t ≡ g.align
    go (inl x) =
        let k : g.duration * suc ((g.align - suc t) / g.duration) ≡ 0 = ap (λ (d : ℕ). d * suc ((g.align - suc t) / g.duration)) h ∙ omega arith in
        start-early g t x ∙ omega arith
    go (inr x) =
        let k : g.duration * ((t - g.align) / g.duration) ≡ 0 = ap (λ (d : ℕ). d * ((t - g.align) / g.duration)) h ∙ omega arith in
        start-late g t x ∙ omega arith

-- A later time has no earlier start, whatever the grid.
pub start-order : (g : Grid) (t u : ℕ) → t ≤ u → start g t ≤ start g u
start-order g t u l = elim (eq-zero-or-pos g.duration) [
  | inl e ↦ (let s : start g t ≡ g.align = start-still g t e in let r : start g u ≡ g.align = start-still g u e in omega arith)
  | inr h ↦ start-mono g t u h l
]

-- the next multiple is past a number
pub past-div : (x d : ℕ) → 0 < d → x < d * suc (x / d)
past-div x d h =
    let k : x < suc (x / d) * d = (div-lt_iff_lt-mul {x = x} {y = suc (x / d)} h).0 (omega arith) in
    subst (λ (y : ℕ). x < y) (mul_comm (suc (x / d)) d) k

-- A start is not past the times of its bucket.
pub start-le : (g : Grid) (t : ℕ) → 0 < g.duration → start g t ≤ t
start-le g t h = go (cases_lt t g.align)
  where
    go : (t < g.align) ⊎ (g.align ≤ t) → start g t ≤ t
    go (inl x) =
        let k : g.align - suc t < g.duration * suc ((g.align - suc t) / g.duration) = past-div (g.align - suc t) g.duration h in
        let s : start g t ≡ g.align - g.duration * suc ((g.align - suc t) / g.duration) = start-early g t x in
        omega arith
    go (inr x) =
        let k : g.duration * ((t - g.align) / g.duration) ≤ t - g.align = mul-div-le (t - g.align) g.duration in
        let s : start g t ≡ g.align + g.duration * ((t - g.align) / g.duration) = start-late g t x in
        omega arith

-- the quotient of a number just below the next multiple
last-div : (d q : ℕ) → 0 < d → (d * suc q - 1) / d ≡ q
last-div d q h =
    let one : d * suc q ≡ d * q + d = mul-suc d q in
    let low : q * d ≡ d * q = mul_comm q d in
    let high : (q + 1) * d ≡ d * q + d = mul_comm (q + 1) d ∙ ap (λ (x : ℕ). d * x) (add-one q) ∙ mul-suc d q in
    div-eq_of_lt-le {k = q} d {m = d * suc q - 1} (omega arith) (omega arith)

-- A start is in its own bucket.
pub start-start : (g : Grid) (t : ℕ) → 0 < g.duration → start g (start g t) ≡ start g t
start-start g t h = go (cases_lt t g.align)
  where
    go : (t < g.align) ⊎ (g.align ≤ t) → start g (start g t) ≡ start g t
    go (inr x) =
        let s : start g t ≡ g.align + g.duration * ((t - g.align) / g.duration) = start-late g t x in
        let q : (g.align + g.duration * ((t - g.align) / g.duration) - g.align) / g.duration ≡ (t - g.align) / g.duration =
        ap (λ (y : ℕ). y / g.duration) (omega arith) ∙ mul-div_cancel_left ((t - g.align) / g.duration) h in
        ap (start g) s ∙ start-late g (g.align + g.duration * ((t - g.align) / g.duration)) (omega arith) ∙ ap (λ (y : ℕ). g.align + g.duration * y) q ∙ sym s
    go (inl x) =
        let s : start g t ≡ g.align - g.duration * suc ((g.align - suc t) / g.duration) = start-early g t x in
        let over : g.align - suc t < g.duration * suc ((g.align - suc t) / g.duration) = past-div (g.align - suc t) g.duration h in
        within (g.duration * suc ((g.align - suc t) / g.duration)) refl s over
      where
        within : (k : ℕ) → g.duration * suc ((g.align - suc t) / g.duration) ≡ k → start g t ≡ g.align - k → g.align - suc t < k → start g (start g t) ≡ start g t
        within k e s over = elim (cases_lt g.align k) [
          | inl y ↦
              (let none : start g t ≡ 0 = s ∙ omega arith in
              let past : g.align - 1 < g.duration * suc ((g.align - 1) / g.duration) = past-div (g.align - 1) g.duration h in
              ap (start g) none ∙ start-early g 0 (omega arith) ∙ omega arith)
          | inr y ↦
              (let back : g.align - suc (g.align - k) ≡ g.duration * suc ((g.align - suc t) / g.duration) - 1 = omega arith in
              let q : (g.align - suc (g.align - k)) / g.duration ≡ (g.align - suc t) / g.duration = ap (λ (z : ℕ). z / g.duration) back ∙ last-div g.duration ((g.align - suc t) / g.duration) h in
              ap (start g) s ∙ start-early g (g.align - k) (omega arith) ∙ ap (λ (z : ℕ). g.align - g.duration * suc z) q ∙ ap (λ (z : ℕ). g.align - z) e ∙ sym s)
        ]
