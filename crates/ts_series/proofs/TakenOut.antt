-- Deleting an interval from pieces.
use Rattle.std.proofs.Common.{◌*◌, ◌⊎◌, inl, inr, length-append, ◌≡◌, ℕ, zero, suc, ◌+◌, ◌-◌, ◌<◌, ◌≤◌, Bool, true, false, cond, List, [], ◌∷◌, ◌++◌, length, get_or, take, drop, refl, sym, ◌∙◌, ap, arith, append-nil}
use Rattle.std.specs.Prelude.{not, slice_range}
use Rattle.std.proofs.Math.Seq.{drop-cons}
use Rattle.std.proofs.lemmas.Bool.Decides.{nat_tests}
use Rattle.ts_spec.specs.Sample.{Point, IsAfter, at_times, is_within, between, outside}
use Rattle.ts_spec.proofs.Samples.{IsBefore}
use Rattle.ts_sample.specs.Chunk.{joined}
use Rattle.ts_series.specs.Stored.{longest, IsOverlapping, replaced}
use Rattle.ts_series.proofs.Counting.{times-append}
use Rattle.ts_series.proofs.Joined.{longest-at}
use Rattle.ts_series.proofs.PieceCounts.{three-parts, joined-replaced}
use Rattle.ts_series.proofs.PutBetween.{none-from, none-upto}

outside-before : (from to : ℕ) (ps : List Point) → IsBefore from ps → outside from to ps ≡ ps
outside-before from to [] h = refl
outside-before from to (p ∷ ps) h =
    let yes : not (is_within from to p.time) ≡ true = (let less : p.time < from = h.0 in grind (arith, nat_tests)) in
    ap (λ b. cond b (p ∷ outside from to ps) (outside from to ps)) yes ∙ ap (λ (l : List Point). p ∷ l) (outside-before from to ps h.1)

outside-after : (from to : ℕ) (ps : List Point) → IsAfter to ps → outside from to ps ≡ ps
outside-after from to [] h = refl
outside-after from to (p ∷ ps) h =
    let yes : not (is_within from to p.time) ≡ true = (let more : to < p.time = h.0 in grind (arith, nat_tests)) in
    ap (λ b. cond b (p ∷ outside from to ps) (outside from to ps)) yes ∙ ap (λ (l : List Point). p ∷ l) (outside-after from to ps h.1)

between-before : (from to : ℕ) (ps : List Point) → IsBefore from ps → between from to ps ≡ []
between-before from to [] h = refl
between-before from to (p ∷ ps) h =
    let no : is_within from to p.time ≡ false = (let less : p.time < from = h.0 in grind (arith, nat_tests)) in
    ap (λ b. cond b (p ∷ between from to ps) (between from to ps)) no ∙ between-before from to ps h.1

between-after : (from to : ℕ) (ps : List Point) → IsAfter to ps → between from to ps ≡ []
between-after from to [] h = refl
between-after from to (p ∷ ps) h =
    let no : is_within from to p.time ≡ false = (let more : to < p.time = h.0 in grind (arith, nat_tests)) in
    ap (λ b. cond b (p ∷ between from to ps) (between from to ps)) no ∙ between-after from to ps h.1

outside-parts : (from to : ℕ) (ps qs rs : List Point) → IsBefore from ps → IsAfter to rs → outside from to (ps ++ (qs ++ rs)) ≡ ps ++ (outside from to qs ++ rs)
outside-parts from to ps qs rs before after =
    times-append (λ t. not (is_within from to t)) ps (qs ++ rs)
    ∙ ap (λ (l : List Point). l ++ outside from to (qs ++ rs)) (outside-before from to ps before)
    ∙ ap (λ (l : List Point). ps ++ l)
    (times-append (λ t. not (is_within from to t)) qs rs ∙ ap (λ (l : List Point). outside from to qs ++ l) (outside-after from to rs after))

between-parts : (from to : ℕ) (ps qs rs : List Point) → IsBefore from ps → IsAfter to rs → between from to (ps ++ (qs ++ rs)) ≡ between from to qs
between-parts from to ps qs rs before after =
    times-append (is_within from to) ps (qs ++ rs)
    ∙ ap (λ (l : List Point). l ++ between from to (qs ++ rs)) (between-before from to ps before)
    ∙ times-append (is_within from to) qs rs
    ∙ ap (λ (l : List Point). between from to qs ++ l) (between-after from to rs after) ∙ append-nil (between from to qs)

length-sides : (test : ℕ → Bool) (ps : List Point) → length (at_times test ps) + length (at_times (λ t. not (test t)) ps) ≡ length ps
length-sides test [] = refl
length-sides test (p ∷ ps) = go (test p.time) (length-sides test ps)
  where
    go : (b : Bool) → length (at_times test ps) + length (at_times (λ t. not (test t)) ps) ≡ length ps
        → length (cond b (p ∷ at_times test ps) (at_times test ps)) + length (cond (not b) (p ∷ at_times (λ t. not (test t)) ps) (at_times (λ t. not (test t)) ps)) ≡ suc (length ps)
    go true ih = omega (arith, ih)
    go false ih = omega (arith, ih)

-- the places of an interval, and what is left in them
module _ (from to start end : ℕ) (pss : List (List Point)) (meets : IsOverlapping from to pss start end) where
  before-it : IsBefore from (joined (take start pss))
  before-it = none-from from (joined (take start pss)) meets.before

  after-it : IsAfter to (joined (drop end pss))
  after-it = none-upto to (joined (drop end pss)) meets.past

  pub joined-without : (new : List (List Point)) → joined new ≡ outside from to (joined (slice_range pss start end)) → joined (replaced start end new pss) ≡ outside from to (joined pss)
  joined-without new is =
      joined-replaced start end new pss
      ∙ ap (λ (l : List Point). joined (take start pss) ++ (l ++ joined (drop end pss))) is
      ∙ sym (ap (outside from to) (three-parts start end pss meets.ordered)
      ∙ outside-parts from to (joined (take start pss)) (joined (slice_range pss start end)) (joined (drop end pss)) before-it after-it)

  between-mid : between from to (joined pss) ≡ between from to (joined (slice_range pss start end))
  between-mid =
      ap (between from to) (three-parts start end pss meets.ordered)
      ∙ between-parts from to (joined (take start pss)) (joined (slice_range pss start end)) (joined (drop end pss)) before-it after-it

  pub count-removed : (kept : ℕ) → kept ≡ length (outside from to (joined (slice_range pss start end)))
      → length (joined (slice_range pss start end)) - kept ≡ length (between from to (joined pss))
  count-removed kept is = omega (arith, length-sides (is_within from to) (joined (slice_range pss start end)), ap length between-mid)

pub kept-less : (from to : ℕ) (ps : List Point) → length (outside from to ps) ≤ length ps
kept-less from to ps = omega (arith, length-sides (is_within from to) ps)

-- pieces of which only the last has samples that are not in the interval
outside-last : (from to m i : ℕ) (pss : List (List Point)) → i + m < length pss → ((k : ℕ) → i ≤ k → k < i + m → outside from to (get_or pss k []) ≡ [])
    → outside from to (joined (take (suc m) (drop i pss))) ≡ outside from to (get_or pss (i + m) [])
outside-last from to zero i pss within inner =
    ap (λ (l : List (List Point)). outside from to (joined (take 1 l))) (drop-cons pss i [] (omega arith))
    ∙ ap (outside from to) (append-nil (get_or pss i []))
    ∙ ap (λ n. outside from to (get_or pss n [])) (let same : i ≡ i + 0 = omega arith in same)
outside-last from to (suc m) i pss within inner =
    ap (λ (l : List (List Point)). outside from to (joined (take (suc (suc m)) l))) (drop-cons pss i [] (omega arith))
    ∙ times-append (λ t. not (is_within from to t)) (get_or pss i []) (joined (take (suc m) (drop (suc i) pss)))
    ∙ ap (λ (l : List Point). l ++ outside from to (joined (take (suc m) (drop (suc i) pss)))) (inner i (omega arith) (omega arith))
    ∙ outside-last from to m (suc i) pss (omega arith) (λ k low high. inner k (omega arith) (omega arith))
    ∙ ap (λ n. outside from to (get_or pss n [])) (let same : suc i + m ≡ i + suc m = omega arith in same)

pub left-none : (from to start end : ℕ) (pss : List (List Point)) → start ≡ end → outside from to (joined (slice_range pss start end)) ≡ []
left-none from to start end pss is = ap (λ n. outside from to (joined (take n (drop start pss)))) (let none : end - start ≡ 0 = omega arith in none)

pub left-one : (from to start end : ℕ) (pss : List (List Point)) → start + 1 ≡ end → end ≤ length pss → outside from to (joined (slice_range pss start end)) ≡ outside from to (get_or pss start [])
left-one from to start end pss is within =
    ap (λ n. outside from to (joined (take n (drop start pss)))) (let one : end - start ≡ 1 = omega arith in one)
    ∙ outside-last from to zero start pss (omega arith) (λ k low high. absurd (omega arith))
    ∙ ap (λ n. outside from to (get_or pss n [])) (let same : start + 0 ≡ start = omega arith in same)

pub left-two : (from to start end : ℕ) (pss : List (List Point)) → IsOverlapping from to pss start end → start + 1 < end
    → outside from to (joined (slice_range pss start end)) ≡ outside from to (get_or pss start []) ++ outside from to (get_or pss (end - 1) [])
left-two from to start end pss meets more =
    let m : ℕ = end - start - 2 in
    let size : end - start ≡ suc (suc m) = omega arith in
    let high : suc start + m ≡ end - 1 = omega arith in
    let within : end ≤ length pss = meets.within in
    ap (λ n. outside from to (joined (take n (drop start pss)))) size
    ∙ ap (λ (l : List (List Point)). outside from to (joined (take (suc (suc m)) l))) (drop-cons pss start [] (omega arith))
    ∙ times-append (λ t. not (is_within from to t)) (get_or pss start []) (joined (take (suc m) (drop (suc start) pss)))
    ∙ ap (λ (l : List Point). outside from to (get_or pss start []) ++ l)
    (outside-last from to m (suc start) pss (omega arith) (λ k low below. meets.inner k (omega arith) (omega arith)) ∙ ap (λ n. outside from to (get_or pss n [])) high)

-- at most two pieces have samples that are not in the interval
outside-short : (from to start end : ℕ) (pss : List (List Point)) → IsOverlapping from to pss start end → length (outside from to (joined (slice_range pss start end))) ≤ 2 * longest pss
outside-short from to start end pss meets = go (places start end meets.ordered)
  where
    places : (i j : ℕ) → i ≤ j → (i ≡ j) ⊎ ((i + 1 ≡ j) ⊎ (i + 1 < j))
    places i j le = grind arith

    go : (start ≡ end) ⊎ ((start + 1 ≡ end) ⊎ (start + 1 < end)) → length (outside from to (joined (slice_range pss start end))) ≤ 2 * longest pss
    go (inl none) = omega (arith, ap length (left-none from to start end pss none))
    go (inr (inl one)) = omega (arith, ap length (left-one from to start end pss one meets.within), kept-less from to (get_or pss start []), longest-at start pss)
    go (inr (inr more)) =
        omega (
          arith,
          ap length (left-two from to start end pss meets more),
          length-append (outside from to (get_or pss start [])) (outside from to (get_or pss (end - 1) [])),
          kept-less from to (get_or pss start []),
          kept-less from to (get_or pss (end - 1) []),
          longest-at start pss,
          longest-at (end - 1) pss,
        )

-- the pieces that an interval meets have its samples, and few others
pub near-least : (from to start end : ℕ) (pss : List (List Point)) → IsOverlapping from to pss start end → length (between from to (joined pss)) ≤ length (joined (slice_range pss start end))
near-least from to start end pss meets =
    omega (arith, length-sides (is_within from to) (joined (slice_range pss start end)), ap length (between-mid from to start end pss meets))

pub near-most : (from to start end : ℕ) (pss : List (List Point)) → IsOverlapping from to pss start end
    → length (joined (slice_range pss start end)) ≤ length (between from to (joined pss)) + 2 * longest pss
near-most from to start end pss meets =
    omega (
      arith,
      length-sides (is_within from to) (joined (slice_range pss start end)),
      ap length (between-mid from to start end pss meets),
      outside-short from to start end pss meets,
    )
