-- The buckets from a time to another.
use Rattle.std.proofs.Common.{◌≡◌, ℕ, zero, suc, ◌+◌, ◌-◌, ◌*◌, ◌/◌, ◌%◌, ◌<◌, ◌≤◌, inl, inr, [], ◌∷◌, map, refl, sym, ◌∙◌, ap, arith, mul-le-mul_left, mul-suc}
use Rattle.std.specs.List.{range_with_len}
use Rattle.std.proofs.lemmas.Bool.{cases_lt}
use Rattle.std.proofs.lemmas.Nat.{div-mul-add, div-add-mod', mod_below}
use Rattle.std.proofs.Math.Nat.{mul-div_cancel_left}
use Rattle.ts_spec.specs.Sample.{MAX_TIME}
use Rattle.ts_spec.specs.Bucket.{Grid, start}
use Rattle.ts_spec.specs.Answer.{starts_between}
use Rattle.ts_spec.proofs.Buckets.{start-le, start-start}
use Rattle.ts_bucket.specs.Grid.{IsNextOf, HasNoNext}
use Rattle.ts_bucket.proofs.Numbers.{number, start_number, reached, passed, apart, no_later}
use Rattle.ts_range.proofs.Line.{begin, number-mono, between-is}

module _ (g : Grid) (some : 1 ≤ g.duration) (lo : ℕ) where
  pub after-align : (k : ℕ) → number g lo < k → begin g k + (g.align * g.duration - g.align) ≡ g.duration * k
  after-align k less =
      let e = passed g some lo in
      let f : g.duration * suc (number g lo) ≤ g.duration * k = mul-le-mul_left g.duration less in
      let h : g.duration * suc (number g lo) ≡ g.duration * number g lo + g.duration = mul-suc g.duration (number g lo) in
      omega arith

  -- they begin past it
  pub begin-past : (k : ℕ) → number g lo < k → lo < begin g k
  begin-past k less =
      let e = passed g some lo in
      let f : g.duration * suc (number g lo) ≤ g.duration * k = mul-le-mul_left g.duration less in
      let h : g.duration * suc (number g lo) ≡ g.duration * number g lo + g.duration = mul-suc g.duration (number g lo) in
      omega arith

  pub number-begin : (k : ℕ) → number g lo < k → number g (begin g k) ≡ k
  number-begin k less = ap (λ (n : ℕ). n / g.duration) (after-align k less) ∙ mul-div_cancel_left k (omega arith)

  -- each begins where its bucket does
  pub begin-start : (k : ℕ) → number g lo ≤ k → start g (begin g k) ≡ begin g k
  begin-start k le = elim (cases_lt (number g lo) k) [
    | inl less ↦ start_number g some (begin g k) ∙ ap (begin g) (number-begin k less)
    | inr more ↦
        let here : begin g k ≡ start g lo = ap (begin g) (omega arith) ∙ sym (start_number g some lo) in
        ap (start g) here ∙ start-start g lo (omega arith) ∙ sym here
  ]

  -- and a later one later
  pub begin-later : (k m : ℕ) → number g lo ≤ k → k < m → begin g k < begin g m
  begin-later k m le less =
      let e = after-align m (omega arith) in
      let f : g.duration * suc k ≤ g.duration * m = mul-le-mul_left g.duration less in
      let h : g.duration * suc k ≡ g.duration * k + g.duration = mul-suc g.duration k in
      let p = begin-past m (omega arith) in
      omega arith

  -- the start of the next one
  next-is : (next : ℕ) → IsNextOf g lo next → next ≡ begin g (suc (number g lo))
  next-is next is =
      let w = begin g (suc (number g lo)) in
      let begins : start g w ≡ w = begin-start (suc (number g lo)) (omega arith) in
      let past : lo < w = begin-past (suc (number g lo)) (omega arith) in
      let low = start-le g lo (omega arith) in
      let upto : next ≤ start g w = is.least w (omega arith) in
      let later = is.later in
      let at = is.begins in
      let more : number g lo < number g next = elim (cases_lt (number g lo) (number g next)) [
        | inl x ↦ x
        | inr x ↦ (let e = no_later g some next lo x in absurd (omega arith))
      ] in
      let e = no_later g some w next (omega (arith, number-begin (suc (number g lo)) (omega arith))) in
      omega arith

  module _ (hi : ℕ) (le : lo ≤ hi) where
    -- where the bucket of the other time is that of the first one
    pub no-more : ((next : ℕ) → next ≡ begin g (suc (number g lo)) → hi < next) → number g hi ≡ number g lo
    no-more short =
        let mono = number-mono g some lo hi le in
        let before = short (begin g (suc (number g lo))) refl in
        elim (cases_lt (number g lo) (number g hi)) [
          | inl less ↦
              let e = after-align (number g hi) less in
              let f = reached g some hi in
              let h : g.duration * suc (number g lo) ≤ g.duration * number g hi = mul-le-mul_left g.duration less in
              let k = after-align (suc (number g lo)) (omega arith) in
              absurd (omega arith)
          | inr more ↦ omega arith
        ]

    -- and where it is a later one
    pub more : begin g (suc (number g lo)) ≤ hi → number g hi ≡ suc (number g lo) + (hi - begin g (suc (number g lo))) / g.duration
    more reaches =
        let m = suc (number g lo) in
        let w = begin g m in
        let q = (hi - w) / g.duration in
        let r = (hi - w) % g.duration in
        let whole : q * g.duration + r ≡ hi - w = div-add-mod' (hi - w) g.duration in
        let less : r < g.duration = mod_below (hi - w) g.duration (omega arith) in
        let at = after-align m (omega arith) in
        let sum : (m + q) * g.duration ≡ g.duration * m + q * g.duration = grind arith in
        let there : hi + (g.align * g.duration - g.align) ≡ (m + q) * g.duration + r = omega arith in
        ap (λ (n : ℕ). n / g.duration) there ∙ div-mul-add (m + q) g.duration r less

  -- the starts by even distances
  steps : (second : ℕ) (n a m : ℕ) → second + (g.align * g.duration - g.align) + a * g.duration ≡ g.duration * m
      → map (λ i. second + i * g.duration) (range_with_len a n) ≡ map (begin g) (range_with_len m n)
  steps second zero a m is = refl
  steps second (suc n) a m is =
      let next : (a + 1) * g.duration ≡ a * g.duration + g.duration = grind arith in
      let later : g.duration * (m + 1) ≡ g.duration * m + g.duration = grind arith in
      let rest = steps second n (a + 1) (m + 1) (omega arith) in
      let first : second + a * g.duration ≡ begin g m = omega arith in
      (cc)

  pub steps-are : (n : ℕ) → start g lo ∷ map (λ i. begin g (suc (number g lo)) + i * g.duration) (range_with_len 0 n) ≡ map (begin g) (range_with_len (number g lo) (suc n))
  steps-are n =
      let first : start g lo ≡ begin g (number g lo) = start_number g some lo in
      let rest = steps (begin g (suc (number g lo))) n 0 (number g lo + 1) (let e = after-align (suc (number g lo)) (omega arith) in let f : g.duration * (number g lo + 1) ≡ g.duration * suc (number g lo) = ap (λ (k : ℕ). g.duration * k) (omega arith) in omega arith) in
      (cc)

  -- ---- the line from this time to another

  module _ (hi : ℕ) (le : lo ≤ hi) where
    -- both lie in one bucket
    one-bucket : number g hi ≡ number g lo → start g lo ∷ [] ≡ starts_between g lo hi
    one-bucket same =
        let none : number g hi - number g lo ≡ 0 = omega arith in
        ap (λ (b : ℕ). b ∷ []) (start_number g some lo) ∙ ap (λ (n : ℕ). map (begin g) (range_with_len (number g lo) (suc n))) (sym none) ∙ sym (between-is g some lo hi le)

    -- no later bucket begins
    pub line-last : hi ≤ MAX_TIME → HasNoNext g lo → start g lo ∷ [] ≡ starts_between g lo hi
    line-last time last =
        let mono = number-mono g some lo hi le in
        let low = start-le g lo (omega arith) in
        one-bucket (elim (cases_lt (number g lo) (number g hi)) [
          | inl less ↦ (let e = apart g some lo hi less in let f = last hi time in absurd (omega arith))
          | inr more ↦ omega arith
        ])

    -- the next bucket begins past the other time
    pub line-short : (next : ℕ) → IsNextOf g lo next → hi < next → start g lo ∷ [] ≡ starts_between g lo hi
    line-short next is past = one-bucket (no-more hi le (λ n same. omega (arith, next-is next is)))

    -- the other time is in a later bucket
    pub line-many : (second d : ℕ) → IsNextOf g lo second → second ≤ hi → d ≡ g.duration
        → start g lo ∷ map (λ i. second + i * d) (range_with_len 0 ((hi - second) / d + 2 - 1)) ≡ starts_between g lo hi
    line-many second d is reaches same =
        let w = begin g (suc (number g lo)) in
        let there : second ≡ w = next-is second is in
        let count = more hi le (omega arith) in
        let after : (hi - w) / g.duration + 2 - 1 ≡ number g hi - number g lo = omega arith in
        ap (λ (k : ℕ). start g lo ∷ map (λ i. second + i * k) (range_with_len 0 ((hi - second) / k + 2 - 1))) same
        ∙ ap (λ (k : ℕ). start g lo ∷ map (λ i. k + i * g.duration) (range_with_len 0 ((hi - k) / g.duration + 2 - 1))) there
        ∙ steps-are ((hi - w) / g.duration + 2 - 1)
        ∙ ap (λ (n : ℕ). map (begin g) (range_with_len (number g lo) (suc n))) after
        ∙ sym (between-is g some lo hi le)
