-- From one chunk to the next.
use Rattle.std.proofs.Common.{◌≡◌, ◌⊎◌, inl, inr, ℕ, zero, suc, ◌+◌, ◌*◌, ◌<◌, ◌≤◌, false, List, [], ◌++◌, length, get_or, take, drop, refl, sym, ◌∙◌, ap, subst, arith, append-nil, length-append}
use Rattle.std.specs.Prelude.{nat_le, not}
use Rattle.std.proofs.lemmas.Bool.Decides.{nat_tests}
use Rattle.std.proofs.lemmas.List.Filters.{length-filter_both}
use Rattle.std.proofs.lemmas.List.Sums.{fold-append}
use Rattle.ts_spec.specs.Sample.{Point, at_times, is_within, between, outside}
use Rattle.ts_sample.specs.Chunk.{joined}
use Rattle.ts_sample.specs.Visit.{visited}
use Rattle.ts_sample.proofs.Visiting.{room_left}
use Rattle.ts_series.specs.Stored.{IsOverlapping, longest}
use Rattle.ts_series.proofs.Counting.{times-append}
use Rattle.ts_series.proofs.Joined.{joined-parts, longest-at, joined-at}
use Rattle.ts_series.proofs.EarlyLate.{none-less}
use Rattle.ts_series.proofs.PieceCounts.{more, length-more}

-- ---- the chunks of an interval

module _ (from to : ℕ) where
  within-more : (i j : ℕ) (pss : List (List Point)) → j ≡ suc i → between from to (joined (take j pss)) ≡ between from to (joined (take i pss)) ++ between from to (get_or pss i [])
  within-more i j pss is = ap (between from to) (more i j pss is) ∙ times-append (is_within from to) (joined (take i pss)) (get_or pss i [])

  pub counted-more : (i j : ℕ) (pss : List (List Point)) → j ≡ suc i
      → length (between from to (joined (take j pss))) ≡ length (between from to (joined (take i pss))) + length (between from to (get_or pss i []))
  counted-more i j pss is = ap length (within-more i j pss is) ∙ length-append (between from to (joined (take i pss))) (between from to (get_or pss i []))

  pub visited-more : {V : Type 0} (step : V → Point → V) (v w x : V) (i j : ℕ) (pss : List (List Point)) → j ≡ suc i
      → w ≡ visited step v (between from to (joined (take i pss))) → x ≡ visited step w (between from to (get_or pss i [])) → x ≡ visited step v (between from to (joined (take j pss)))
  visited-more {V} step v w x i j pss is sofar there =
      there ∙ ap (λ (y : V). visited step y (between from to (get_or pss i []))) sofar
      ∙ sym (fold-append step v (between from to (joined (take i pss))) (between from to (get_or pss i [])))
      ∙ ap (visited step v) (sym (within-more i j pss is))

  -- a visitor with room for the samples of the interval has room for those of the chunk that is next
  pub room-next : {V : Type 0} (step : V → Point → V) (room : V → ℕ) → ((v : V) (p : Point) → room v ≤ room (step v p) + 1) → (v w : V) (i : ℕ) (pss : List (List Point))
      → length (between from to (joined pss)) ≤ room v → w ≡ visited step v (between from to (joined (take i pss))) → length (between from to (get_or pss i [])) ≤ room w
  room-next step room lowers v w i pss enough sofar =
      let front = between from to (joined (take i pss)) in
      let piece = between from to (get_or pss i []) in
      let back = between from to (joined (drop (suc i) pss)) in
      let all : between from to (joined pss) ≡ front ++ (piece ++ back) =
      ap (between from to) (joined-at i pss) ∙ times-append (is_within from to) (joined (take i pss)) (get_or pss i [] ++ joined (drop (suc i) pss))
      ∙ ap (λ (l : List Point). front ++ l) (times-append (is_within from to) (get_or pss i []) (joined (drop (suc i) pss))) in
      let left : room v ≤ room w + length front = subst (λ y. room v ≤ room y + length front) (sym sofar) (room_left step room lowers v front) in
      omega (arith, ap length all, length-append front (piece ++ back), length-append piece back)

  pub none-before-it : (ps : List Point) → at_times (nat_le from) ps ≡ [] → between from to ps ≡ []
  none-before-it ps n = none-less (nat_le from) (is_within from to) (λ t e. fails t e) ps n
    where
      fails : (t : ℕ) → nat_le from t ≡ false → is_within from to t ≡ false
      fails t e = grind (arith, nat_tests)

  pub none-past-it : (ps : List Point) → at_times (λ t. nat_le t to) ps ≡ [] → between from to ps ≡ []
  none-past-it ps n = none-less (λ t. nat_le t to) (is_within from to) (λ t e. fails t e) ps n
    where
      fails : (t : ℕ) → nat_le t to ≡ false → is_within from to t ≡ false
      fails t e = grind (arith, nat_tests)

  both-length : (ps : List Point) → length (between from to ps) + length (outside from to ps) ≡ length ps
  both-length ps = length-filter_both (λ (p : Point). is_within from to p.time) (λ (p : Point). not (is_within from to p.time)) (λ p. refl) ps

  module _ (start end : ℕ) (pss : List (List Point)) (overlapping : IsOverlapping from to pss start end) where
    pub none-first : between from to (joined (take start pss)) ≡ []
    none-first = none-before-it (joined (take start pss)) overlapping.before

    pub all-taken : between from to (joined (take end pss)) ≡ between from to (joined pss)
    all-taken =
        sym (ap (between from to) (joined-parts end pss) ∙ times-append (is_within from to) (joined (take end pss)) (joined (drop end pss))
        ∙ ap (λ (l : List Point). between from to (joined (take end pss)) ++ l) (none-past-it (joined (drop end pss)) overlapping.past)
        ∙ append-nil (between from to (joined (take end pss))))

    -- up to the last chunk, only the first one may have samples that are not of the interval
    walked-upto : (d e : ℕ) → e ≡ start + d → e < end
        → length (joined (take e pss)) ≤ length (joined (take start pss)) + length (between from to (joined (take e pss))) + longest pss
    walked-upto zero e is less = let same : length (joined (take e pss)) ≡ length (joined (take start pss)) = ap (λ i. length (joined (take i pss))) (let here : e ≡ start = omega arith in here) in omega (arith, same)
    walked-upto (suc zero) e is less = omega (arith, length-more start e pss (omega arith), longest-at start pss)
    walked-upto (suc (suc d)) zero is less = absurd (omega arith)
    walked-upto (suc (suc d)) (suc e) is less =
        let sofar = walked-upto (suc d) e (omega arith) (omega arith) in
        let none : outside from to (get_or pss e []) ≡ [] = overlapping.inner e (omega arith) less in
        omega (arith, sofar, length-more e (suc e) pss refl, counted-more e (suc e) pss refl, both-length (get_or pss e []), ap length none)

    pub walked : length (joined (take end pss)) ≤ length (joined (take start pss)) + length (between from to (joined pss)) + 2 * longest pss
    walked = go (cases start end overlapping.ordered)
      where
        cases : (start end : ℕ) → start ≤ end → (end ≡ start) ⊎ ((d : ℕ) × (end ≡ suc (start + d)))
        cases start zero le = inl (omega arith)
        cases zero (suc end) le = inr (end, omega arith)
        cases (suc start) (suc end) le = elim (cases start end (omega arith)) [ inl e ↦ inl (omega arith) | inr x ↦ inr (x.0, let h : end ≡ suc (start + x.0) = x.1 in omega arith) ]

        go : (end ≡ start) ⊎ ((d : ℕ) × (end ≡ suc (start + d))) → length (joined (take end pss)) ≤ length (joined (take start pss)) + length (between from to (joined pss)) + 2 * longest pss
        go (inl same) = omega (arith, ap (λ i. length (joined (take i pss))) same)
        go (inr x) =
            let is : end ≡ suc (start + x.0) = x.1 in
            omega (
              arith,
              walked-upto x.0 (start + x.0) refl (omega arith),
              length-more (start + x.0) end pss is,
              longest-at (start + x.0) pss,
              counted-more (start + x.0) end pss is,
              ap length all-taken,
            )
