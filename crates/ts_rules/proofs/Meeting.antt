-- The number of samples at the starts of the buckets of others, counted by merging the two lists.
use Rattle.std.proofs.Common.{◌≡◌, ◌≢◌, ℕ, suc, ◌+◌, ◌<◌, ◌≤◌, Bool, true, false, ◌&&◌, ◌||◌, ◌==◌, cond, if◌then◌else◌, List, [], ◌∷◌, drop, length, None, Some, refl, sym, ap, ◌∙◌, subst, arith, eq-eqb, ne_eqb, eqb-true}
use Rattle.std.proofs.lemmas.Bool.{false≢true}
use Rattle.ts_spec.specs.Sample.{Point, IsAfter, IsAscending, at_times, first_of}
use Rattle.ts_spec.specs.Bucket.{Grid, start}
use Rattle.ts_spec.specs.StoredUpdates.{lies_in}
use Rattle.ts_spec.proofs.Buckets.{start-order}
use Rattle.ts_series.proofs.EarlyLate.{after-less}
use Rattle.ts_series.proofs.Counting.{one_if, length-cons_if}
use Rattle.ts_rules.proofs.Times.{and-false}

-- A time before the start of a bucket is the start of no later one.
pub lies-past : (g : Grid) (t : ℕ) (gone : List Point) (u : ℕ) → IsAfter u gone → t < start g u → lies_in g gone t ≡ false
lies-past g t [] u a less = refl
lies-past g t (p ∷ gone) u a less =
    let past : u < p.time = a.0 in
    let rises : start g u ≤ start g p.time = start-order g u p.time (omega (arith, past)) in
    ap (λ (x : Bool). x || lies_in g gone t) (ne_eqb (start g p.time) t (λ is. absurd (omega (arith, is, rises, less)))) ∙ lies-past g t gone u a.1 less

module _ (closed : ℕ → Bool) (g : Grid) where
  -- how many of these samples stand for a closed bucket with one of those that go
  abbrev pub met : (gone ps : List Point) → ℕ
  met gone ps = length (at_times (λ t. closed t && lies_in g gone t) ps)

  pub met-no_gone : (ps : List Point) → 0 ≡ met [] ps
  met-no_gone [] = refl
  met-no_gone (p ∷ ps) = met-no_gone ps ∙ ap (λ (x : Bool). length (cond x (p ∷ at_times (λ t. closed t && false) ps) (at_times (λ t. closed t && false) ps))) (sym (and-false (closed p.time)))

  pub met-ended_gone : (gone ps : List Point) → None ≡ first_of gone → 0 ≡ met gone ps
  met-ended_gone [] ps e = met-no_gone ps
  met-ended_gone (p ∷ gone) ps e = absurd (cc e)

  -- A bucket before all samples is that of none.
  none-here : (p : Point) (gone ps : List Point) → ((t : ℕ) → start g p.time < t → closed t && lies_in g (p ∷ gone) t ≡ (closed t && lies_in g gone t)) → IsAfter (start g p.time) ps → met (p ∷ gone) ps ≡ met gone ps
  none-here p gone [] same a = refl
  none-here p gone (q ∷ ps) same a = step (closed q.time && lies_in g (p ∷ gone) q.time) (closed q.time && lies_in g gone q.time) (same q.time a.0) (none-here p gone ps same a.1)
    where
      step : (x y : Bool) → x ≡ y → met (p ∷ gone) ps ≡ met gone ps →
          length (cond x (q ∷ at_times (λ t. closed t && lies_in g (p ∷ gone) t) ps) (at_times (λ t. closed t && lies_in g (p ∷ gone) t) ps))
          ≡ length (cond y (q ∷ at_times (λ t. closed t && lies_in g gone t) ps) (at_times (λ t. closed t && lies_in g gone t) ps))
      step true true e ih = ap suc ih
      step false false e ih = ih
      step true false e ih = absurd (cc e)
      step false true e ih = absurd (cc e)

  -- A start before the first sample counts for nothing.
  pub met-skip : (p q : Point) (gone ps : List Point) → IsAscending ps → Some p ≡ first_of gone → Some q ≡ first_of ps → start g p.time < q.time → met gone ps ≡ met (drop 1 gone) ps
  met-skip p q [] ps a e f less = absurd (cc e)
  met-skip p q (r ∷ gone) [] a e f less = absurd (cc f)
  met-skip p q (r ∷ gone) (s ∷ ps) a e f less =
      let one : p ≡ r = cc e in
      let two : q ≡ s = cc f in
      let before : start g r.time < s.time = subst (λ (x : Point × Point). start g x.0.time < x.1.time) (λ i. (one i, two i)) less in
      none-here r gone (s ∷ ps)
      (λ t past. ap (λ (x : Bool). closed t && (x || lies_in g gone t)) (ne_eqb (start g r.time) t (λ is. absurd (omega (arith, is, past)))))
      (before, after-less (start g r.time) s.time ps a.0 (omega (arith, before)))

  -- A sample at the first start counts, if its bucket is closed.
  pub met-here : (p q : Point) (gone ps : List Point) → Some p ≡ first_of gone → Some q ≡ first_of ps → start g p.time ≡ q.time → met gone ps ≡ one_if (closed q.time) + met gone (drop 1 ps)
  met-here p q [] ps e f same = absurd (cc e)
  met-here p q (r ∷ gone) [] e f same = absurd (cc f)
  met-here p q (r ∷ gone) (s ∷ ps) e f same =
      let first : p ≡ r = cc e in
      let two : q ≡ s = cc f in
      let here : start g r.time ≡ s.time = subst (λ (x : Point × Point). start g x.0.time ≡ x.1.time) (λ i. (first i, two i)) same in
      length-cons_if (closed s.time && lies_in g (r ∷ gone) s.time) s (at_times (λ t. closed t && lies_in g (r ∷ gone) t) ps)
      ∙ ap (λ (x : Bool). one_if x + met (r ∷ gone) ps)
      (ap (λ (x : Bool). closed s.time && (x || lies_in g gone s.time)) (eq-eqb (start g r.time) s.time here) ∙ and-all (closed s.time) ∙ ap (λ (x : Point). closed x.time) (sym two))
    where
      and-all : (x : Bool) → (x && true) ≡ x
      and-all true = refl
      and-all false = refl

  -- A sample before the first start does not count.
  pub met-past : (p q : Point) (gone ps : List Point) → IsAscending gone → Some p ≡ first_of gone → Some q ≡ first_of ps → q.time < start g p.time → met gone ps ≡ met gone (drop 1 ps)
  met-past p q [] ps a e f less = absurd (cc e)
  met-past p q (r ∷ gone) [] a e f less = absurd (cc f)
  met-past p q (r ∷ gone) (s ∷ ps) a e f less =
      let first : p ≡ r = cc e in
      let two : q ≡ s = cc f in
      let before : s.time < start g r.time = subst (λ (x : Point × Point). x.1.time < start g x.0.time) (λ i. (first i, two i)) less in
      ap (λ (x : Bool). length (cond x (s ∷ at_times (λ t. closed t && lies_in g (r ∷ gone) t) ps) (at_times (λ t. closed t && lies_in g (r ∷ gone) t) ps)))
      (ap (λ (x : Bool). closed s.time && (x || lies_in g gone s.time)) (ne_eqb (start g r.time) s.time (λ is. absurd (omega (arith, is, before))))
      ∙ ap (λ (x : Bool). closed s.time && x) (lies-past g s.time gone r.time a.0 before) ∙ and-false (closed s.time))

  -- ---- one step of the walk

  -- past a start that is before the first sample
  pub met-lost : (p q : Point) (gone ps new : List Point) (time b u : ℕ) → IsAscending ps → Some p ≡ first_of gone → Some q ≡ first_of ps → time ≡ p.time → b ≡ start g time → u ≡ q.time → b < u → new ≡ drop 1 gone →
      met new ps ≡ met gone ps
  met-lost p q gone ps new time b u a e f at begins here less is =
      let same : b ≡ start g p.time = begins ∙ ap (start g) at in
      ap (λ (rest : List Point). met rest ps) is ∙ sym (met-skip p q gone ps a e f (omega (arith, same, here, less)))

  -- past a sample, which counts if it stands at the first start
  pub met-shown : (p q : Point) (gone ps new : List Point) (time b u n : ℕ) → IsAscending gone → Some p ≡ first_of gone → Some q ≡ first_of ps → time ≡ p.time → b ≡ start g time → u ≡ q.time → u ≤ b → new ≡ drop 1 ps →
      n ≡ (if (b == u) && closed b then 1 else 0) → n + met gone new ≡ met gone ps
  met-shown p q gone ps new time b u n a e f at begins here upto is counts = go (b == u) refl
    where
      same : b ≡ start g p.time
      same = begins ∙ ap (start g) at

      one-is : (x : Bool) → (if x then 1 else 0) ≡ one_if x
      one-is true = refl
      one-is false = refl

      go : (x : Bool) → (b == u) ≡ x → n + met gone new ≡ met gone ps
      go true equal =
          let is_u : b ≡ u = eqb-true b u equal in
          let n_is : n ≡ one_if (closed q.time) = counts ∙ ap (λ (y : Bool). if y && closed b then 1 else 0) equal ∙ one-is (closed b) ∙ ap (λ t. one_if (closed t)) (is_u ∙ here) in
          let rest : met gone new ≡ met gone (drop 1 ps) = ap (met gone) is in
          omega (arith, n_is, rest, met-here p q gone ps e f (sym same ∙ is_u ∙ here))
      go false equal =
          let none : n ≡ 0 = counts ∙ ap (λ (y : Bool). if y && closed b then 1 else 0) equal in
          let rest : met gone new ≡ met gone (drop 1 ps) = ap (met gone) is in
          let other : b ≢ u = λ k. false≢true (sym equal ∙ eq-eqb b u k) in
          omega (arith, none, rest, met-past p q gone ps a e f (omega (arith, same, here, upto, other)))

  pub counts-one : (b u n : ℕ) → n ≡ (if (b == u) && closed b then 1 else 0) → n ≤ 1
  counts-one b u n e = let most : (if (b == u) && closed b then 1 else 0) ≤ 1 = go ((b == u) && closed b) in omega (arith, e, most)
    where
      go : (x : Bool) → (if x then 1 else 0) ≤ 1
      go true = omega arith
      go false = omega arith
