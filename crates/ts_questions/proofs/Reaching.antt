-- The first rows come from the first samples.
use Rattle.std.proofs.Common.{◌≡◌, ℕ, ◌≤◌, ◌⊎◌, inl, inr, Bool, true, false, not, ◌&&◌, List, ◌++◌, map, length, take, get_or, sym, ◌∙◌, ap, arith}
use Rattle.std.specs.Prelude.{nat_le, Option, None, Some}
use Rattle.std.proofs.lemmas.Bool.Decides.{nat_tests}
use Rattle.std.proofs.lemmas.List.{length-map, map-append, take-append-le}
use Rattle.ts_spec.specs.Answer.{row_of, passes_filters, passes_time_filter, passes_value_filter, rows, rows_of, in_requested_order, limit_rows}
use Rattle.ts_spec.specs.Command.{Query, Buckets, Span}
use Rattle.ts_spec.specs.Sample.{Point, IsAscending, at_times, is_within, between}
use Rattle.ts_spec.proofs.Samples.{ascending-times}
use Rattle.ts_sample.proofs.Between.{filter-filter}
use Rattle.ts_sample.proofs.Parted.{filter_alike}
use Rattle.ts_range.proofs.Filtered.{filter-all, parted}

up_to : (from to t u : ℕ) → t ≤ to → (is_within from to u && nat_le u t) ≡ is_within from t u
up_to from to t u upto = grind (arith, nat_tests)

down : (t u v : ℕ) → u ≤ v → nat_le v t ≡ true → nat_le u t ≡ true
down t u v le is = grind (arith, nat_tests)

-- the samples of an interval begin with those up to a time in it
pub parts : (from to t : ℕ) (l : List Point) → IsAscending l → t ≤ to → between from to l ≡ between from t l ++ at_times (λ u. not (nat_le u t)) (between from to l)
parts from to t l rises upto =
    let all = between from to l in
    let first : at_times (λ u. nat_le u t) all ≡ between from t l =
    filter-filter (λ (p : Point). nat_le p.time t) (λ (p : Point). is_within from to p.time) l
    ∙ filter_alike (λ (p : Point). is_within from to p.time && nat_le p.time t) (λ (p : Point). is_within from t p.time) (λ p. up_to from to t p.time upto) l in
    parted (λ u. nat_le u t) (λ u v le is. down t u v le is) all (ascending-times (is_within from to) l rises)
    ∙ ap (λ (ps : List Point). ps ++ at_times (λ u. not (nat_le u t)) all) first

module _ (q : Query) (l : List Point) (times : q.times ≡ None) (values : q.values ≡ None) (buckets : q.buckets ≡ None) (forward : q.reverse ≡ false)
    (n : ℕ) (count : q.count ≡ Some n) where
  lets : (p : Point) → passes_filters q p ≡ true
  lets p =
      ap (λ (o : Option (List ℕ)). passes_time_filter o p.time && passes_value_filter q.values p.value) times
      ∙ ap (λ (o : Option Span). true && passes_value_filter o p.value) values

  pub plain : (x : ℕ) → rows (record q { to = x }) l ≡ take n (map row_of (between q.from x l))
  plain x =
      ap (λ (c : Option ℕ). limit_rows c (in_requested_order q.reverse (rows_of q.buckets (record q { to = x }) l))) count
      ∙ ap (λ (r : Bool). take n (in_requested_order r (rows_of q.buckets (record q { to = x }) l))) forward
      ∙ ap (λ (o : Option Buckets). take n (rows_of o (record q { to = x }) l)) buckets
      ∙ ap (λ (ps : List Point). take n (map row_of ps)) (filter-all (passes_filters q) (between q.from x l) (λ k d within. lets (get_or (between q.from x l) k d)))

  -- so many of them are enough
  pub rows-upto : IsAscending l → (t : ℕ) → t ≤ q.to → (t ≡ q.to) ⊎ (n ≤ length (between q.from t l)) → rows (record q { to = t }) l ≡ rows q l
  rows-upto rises t upto (inl same) = ap (λ (x : ℕ). rows (record q { to = x }) l) same
  rows-upto rises t upto (inr few) =
      let front = map row_of (between q.from t l) in
      let back = map row_of (at_times (λ u. not (nat_le u t)) (between q.from q.to l)) in
      plain t
      ∙ sym (take-append-le n front back (omega (arith, few, length-map (between q.from t l) row_of)))
      ∙ ap (take n) (sym (map-append row_of (between q.from t l) (at_times (λ u. not (nat_le u t)) (between q.from q.to l))))
      ∙ ap (λ (ps : List Point). take n (map row_of ps)) (sym (parts q.from q.to t l rises upto))
      ∙ sym (plain q.to)
