-- The number of samples in an interval, from the numbers before its start and up to its end.
use Rattle.std.proofs.Common.{◌≡◌, ◌⊎◌, inl, inr, ℕ, ◌+◌, ◌-◌, ◌<◌, ◌≤◌, List, [], ◌∷◌, length, arith}
use Rattle.std.specs.Prelude.{nat_lt, min}
use Rattle.std.proofs.lemmas.Bool.Decides.{nat_tests}
use Rattle.ts_spec.specs.Sample.{Point, is_within, at_times, between}
use Rattle.ts_sample.specs.Chunk.{AreInBounds}
use Rattle.ts_series.proofs.Counting.{one_if, length-cons_if}

module _ (from to past : ℕ) (is : past ≡ min (to + 1) 18446744073709551615) where
  -- an interval with times
  both : (t : ℕ) → t ≤ 9223372036854775807 → from ≤ to → one_if (is_within from to t) + one_if (nat_lt t from) ≡ one_if (nat_lt t past)
  both t fine le = grind (arith, nat_tests, is)

  both-count : (ps : List Point) → AreInBounds ps → from ≤ to → length (between from to ps) + length (at_times (λ t. nat_lt t from) ps) ≡ length (at_times (λ t. nat_lt t past) ps)
  both-count [] fine le = omega arith
  both-count (p ∷ ps) fine le =
      omega (
        arith,
        both-count ps fine.1 le,
        both p.time fine.0.time le,
        length-cons_if (is_within from to p.time) p (between from to ps),
        length-cons_if (nat_lt p.time from) p (at_times (λ t. nat_lt t from) ps),
        length-cons_if (nat_lt p.time past) p (at_times (λ t. nat_lt t past) ps),
      )

  -- an interval without times
  outside-it : (t : ℕ) → to < from → one_if (is_within from to t) ≡ 0
  outside-it t more = grind (arith, nat_tests)

  earlier : (t : ℕ) → to < from → one_if (nat_lt t past) ≤ one_if (nat_lt t from)
  earlier t more = grind (arith, nat_tests, is)

  none-count : (ps : List Point) → to < from → length (between from to ps) ≡ 0
  none-count [] more = omega arith
  none-count (p ∷ ps) more = omega (arith, none-count ps more, outside-it p.time more, length-cons_if (is_within from to p.time) p (between from to ps))

  fewer : (ps : List Point) → to < from → length (at_times (λ t. nat_lt t past) ps) ≤ length (at_times (λ t. nat_lt t from) ps)
  fewer [] more = omega arith
  fewer (p ∷ ps) more =
      omega (
        arith,
        fewer ps more,
        earlier p.time more,
        length-cons_if (nat_lt p.time from) p (at_times (λ t. nat_lt t from) ps),
        length-cons_if (nat_lt p.time past) p (at_times (λ t. nat_lt t past) ps),
      )

  pub between-count : (ps : List Point) → AreInBounds ps → (upto before : ℕ) → upto ≡ length (at_times (λ t. nat_lt t past) ps) → before ≡ length (at_times (λ t. nat_lt t from) ps)
      → upto - before ≡ length (between from to ps)
  between-count ps fine upto before upto_is before_is = go (cases from to)
    where
      cases : (a b : ℕ) → (a ≤ b) ⊎ (b < a)
      cases a b = grind arith

      go : (from ≤ to) ⊎ (to < from) → upto - before ≡ length (between from to ps)
      go (inl le) = omega (arith, both-count ps fine le, upto_is, before_is)
      go (inr more) = omega (arith, none-count ps more, fewer ps more, upto_is, before_is)
