-- The number of samples that pass one of several exclusive tests.
use Rattle.std.proofs.Common.{◌≡◌, ◌≢◌, ℕ, ◌+◌, ◌≤◌, Bool, true, false, not, ◌&&◌, ◌==◌, List, [], ◌∷◌, length, refl, sym, ap, ◌∙◌, arith, eqb-true}
use Rattle.std.proofs.lemmas.Bool.{false≢true, and_parts}
use Rattle.ts_spec.specs.Sample.{Point, at_times, between, outside, is_within}
use Rattle.ts_spec.specs.Bucket.{Grid, start, members}
use Rattle.ts_spec.proofs.Buckets.{start-order}
use Rattle.ts_sample.proofs.Between.{times-both}
use Rattle.ts_series.proofs.Counting.{one_if, length-cons_if, times-fewer}
use Rattle.ts_rules.specs.Shares.{in_buckets}
use Rattle.ts_rules.proofs.Times.{not-true, within, within-from, within-to}

-- ---- tests

-- three tests of which no two pass at once, and where one does, the last test does
record AreApart (a b c d : ℕ → Bool) : Type 0 where
  first : (t : ℕ) → a t ≡ true → d t ≡ true
  second : (t : ℕ) → b t ≡ true → d t ≡ true
  third : (t : ℕ) → c t ≡ true → d t ≡ true
  first_second : (t : ℕ) → a t ≡ true → b t ≡ true → ⊥
  first_third : (t : ℕ) → a t ≡ true → c t ≡ true → ⊥
  second_third : (t : ℕ) → b t ≡ true → c t ≡ true → ⊥

at-most-one : (x y z w : Bool) → (x ≡ true → w ≡ true) → (y ≡ true → w ≡ true) → (z ≡ true → w ≡ true) → (x ≡ true → y ≡ true → ⊥) → (x ≡ true → z ≡ true → ⊥) → (y ≡ true → z ≡ true → ⊥) →
    one_if x + one_if y + one_if z ≤ one_if w
at-most-one true true z w f g h xy xz yz = absurd (xy refl refl)
at-most-one true false true w f g h xy xz yz = absurd (xz refl refl)
at-most-one true false false w f g h xy xz yz = let e : one_if w ≡ 1 = ap one_if (f refl) in omega (arith, e)
at-most-one false true true w f g h xy xz yz = absurd (yz refl refl)
at-most-one false true false w f g h xy xz yz = let e : one_if w ≡ 1 = ap one_if (g refl) in omega (arith, e)
at-most-one false false true w f g h xy xz yz = let e : one_if w ≡ 1 = ap one_if (h refl) in omega (arith, e)
at-most-one false false false w f g h xy xz yz = omega arith

three : (a b c d : ℕ → Bool) (ps : List Point) → AreApart a b c d → length (at_times a ps) + length (at_times b ps) + length (at_times c ps) ≤ length (at_times d ps)
three a b c d [] h = omega arith
three a b c d (p ∷ ps) h =
    let rest : length (at_times a ps) + length (at_times b ps) + length (at_times c ps) ≤ length (at_times d ps) = three a b c d ps h in
    let here : one_if (a p.time) + one_if (b p.time) + one_if (c p.time) ≤ one_if (d p.time) =
    at-most-one (a p.time) (b p.time) (c p.time) (d p.time) (h.first p.time) (h.second p.time) (h.third p.time) (h.first_second p.time) (h.first_third p.time) (h.second_third p.time) in
    omega (arith, rest, here, length-cons_if (a p.time) p (at_times a ps), length-cons_if (b p.time) p (at_times b ps), length-cons_if (c p.time) p (at_times c ps), length-cons_if (d p.time) p (at_times d ps))

-- ---- buckets

-- what a deletion leaves in the bucket that starts at b, by the times of the samples before it
members-outside : (g : Grid) (b from to : ℕ) (ps : List Point) → members g b (outside from to ps) ≡ at_times (λ u. not (is_within from to u) && (start g u == b)) ps
members-outside g b from to ps = times-both (λ u. start g u == b) (λ u. not (is_within from to u)) ps

module _ (g : Grid) (from to : ℕ) (ps : List Point) (order : from ≤ to) where
  outer : (b u : ℕ) → (not (is_within from to u) && (start g u == b)) ≡ true → (is_within from to u ≡ false) × (start g u ≡ b)
  outer b u e = let x = and_parts (not (is_within from to u)) (start g u == b) e in (not-true (is_within from to u) x.0, eqb-true (start g u) b x.1)

  starts-rise : start g from ≤ start g to
  starts-rise = start-order g from to order

  -- The samples of the buckets that meet an interval: those in it, and those that a deletion leaves in the first and in
  -- the last bucket.
  pub around-two : start g from ≢ start g to →
      length (members g (start g from) (outside from to ps)) + length (between from to ps) + length (members g (start g to) (outside from to ps)) ≤ length (in_buckets g from to ps)
  around-two other =
      let sum = three (left (start g from)) (is_within from to) (left (start g to)) (λ u. is_within (start g from) (start g to) (start g u)) ps (record {
        first = λ u e. (let same : start g u ≡ start g from = (outer (start g from) u e).1 in within (start g from) (start g to) (start g u) (omega (arith, same)) (omega (arith, same, starts-rise)));
        second = inner;
        third = λ u e. (let same : start g u ≡ start g to = (outer (start g to) u e).1 in within (start g from) (start g to) (start g u) (omega (arith, same, starts-rise)) (omega (arith, same)));
        first_second = λ u e f. false≢true (sym (outer (start g from) u e).0 ∙ f);
        first_third = λ u e f. other (sym (outer (start g from) u e).1 ∙ (outer (start g to) u f).1);
        second_third = λ u e f. false≢true (sym (outer (start g to) u f).0 ∙ e);
      }) in
      omega (arith, sum, ap length (members-outside g (start g from) from to ps), ap length (members-outside g (start g to) from to ps))
    where
      left : (b u : ℕ) → Bool
      left b u = not (is_within from to u) && (start g u == b)

      inner : (u : ℕ) → is_within from to u ≡ true → is_within (start g from) (start g to) (start g u) ≡ true
      inner u e = within (start g from) (start g to) (start g u) (start-order g from u (within-from from to u e)) (start-order g u to (within-to from to u e))

  -- The same with what is left in the first bucket alone.
  pub around-one : length (members g (start g from) (outside from to ps)) + length (between from to ps) ≤ length (in_buckets g from to ps)
  around-one =
      let sum = three (λ u. not (is_within from to u) && (start g u == start g from)) (is_within from to) (λ u. false) (λ u. is_within (start g from) (start g to) (start g u)) ps (record {
        first = λ u e. (let same : start g u ≡ start g from = (outer (start g from) u e).1 in within (start g from) (start g to) (start g u) (omega (arith, same)) (omega (arith, same, starts-rise)));
        second = λ u e. within (start g from) (start g to) (start g u) (start-order g from u (within-from from to u e)) (start-order g u to (within-to from to u e));
        third = λ u e. absurd (false≢true e);
        first_second = λ u e f. false≢true (sym (outer (start g from) u e).0 ∙ f);
        first_third = λ u e f. false≢true f;
        second_third = λ u e f. false≢true f;
      }) in
      omega (arith, sum, ap length (members-outside g (start g from) from to ps))

-- Up to an earlier time there are no more of them.
pub in_buckets-fewer : (g : Grid) (from upto to : ℕ) (ps : List Point) → upto ≤ to → length (in_buckets g from upto ps) ≤ length (in_buckets g from to ps)
in_buckets-fewer g from upto to ps less =
    times-fewer (λ u. is_within (start g from) (start g upto) (start g u)) (λ u. is_within (start g from) (start g to) (start g u)) ps
    (λ u e. (let up : start g upto ≤ start g to = start-order g upto to less in let here : start g u ≤ start g upto = within-to (start g from) (start g upto) (start g u) e in
    within (start g from) (start g to) (start g u) (within-from (start g from) (start g upto) (start g u) e) (omega arith)))

-- The samples of an interval are in the buckets that it meets.
pub between-in-buckets : (g : Grid) (from upto to : ℕ) (ps : List Point) → upto ≤ to → length (between from upto ps) ≤ length (in_buckets g from to ps)
between-in-buckets g from upto to ps less =
    times-fewer (is_within from upto) (λ u. is_within (start g from) (start g to) (start g u)) ps
    (λ u e. (let up : u ≤ upto = within-to from upto u e in
    within (start g from) (start g to) (start g u) (start-order g from u (within-from from upto u e)) (start-order g u to (omega (arith, up, less)))))
