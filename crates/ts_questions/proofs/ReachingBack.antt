-- The last rows come from the last samples.
use Rattle.std.proofs.Common.{◌≡◌, ℕ, ◌≤◌, ◌⊎◌, inl, inr, Bool, true, not, ◌&&◌, List, ◌++◌, map, length, take, get_or, sym, ◌∙◌, ap, arith}
use Rattle.std.specs.Prelude.{nat_lt, reverse, Option, None, Some}
use Rattle.std.proofs.lemmas.Bool.Decides.{nat_tests}
use Rattle.std.proofs.lemmas.List.{length-map, length-reverse, map-append, reverse-append, take-append-le}
use Rattle.ts_spec.specs.Answer.{row_of, passes_filters, passes_time_filter, passes_value_filter, rows, rows_of, in_requested_order, limit_rows}
use Rattle.ts_spec.specs.Command.{Query, Buckets, Span}
use Rattle.ts_spec.specs.Sample.{Point, IsAscending, at_times, is_within, between}
use Rattle.ts_spec.proofs.Samples.{ascending-times}
use Rattle.ts_sample.proofs.Between.{filter-filter}
use Rattle.ts_sample.proofs.Parted.{filter_alike}
use Rattle.ts_range.proofs.Filtered.{filter-all, parted}

from_on : (from to t u : ℕ) → from ≤ t → (is_within from to u && not (nat_lt u t)) ≡ is_within t to u
from_on from to t u le = grind (arith, nat_tests)

down : (t u v : ℕ) → u ≤ v → nat_lt v t ≡ true → nat_lt u t ≡ true
down t u v le is = grind (arith, nat_tests)

-- the samples of an interval end with those from a time in it on
pub parts : (from to t : ℕ) (l : List Point) → IsAscending l → from ≤ t → between from to l ≡ at_times (λ u. nat_lt u t) (between from to l) ++ between t to l
parts from to t l rises on =
    let all = between from to l in
    let last : at_times (λ u. not (nat_lt u t)) all ≡ between t to l =
    filter-filter (λ (p : Point). not (nat_lt p.time t)) (λ (p : Point). is_within from to p.time) l
    ∙ filter_alike (λ (p : Point). is_within from to p.time && not (nat_lt p.time t)) (λ (p : Point). is_within t to p.time) (λ p. from_on from to t p.time on) l in
    parted (λ u. nat_lt u t) (λ u v le is. down t u v le is) all (ascending-times (is_within from to) l rises)
    ∙ ap (λ (ps : List Point). at_times (λ u. nat_lt u t) all ++ ps) last

module _ (q : Query) (l : List Point) (times : q.times ≡ None) (values : q.values ≡ None) (buckets : q.buckets ≡ None) (backward : q.reverse ≡ true)
    (n : ℕ) (count : q.count ≡ Some n) where
  lets : (p : Point) → passes_filters q p ≡ true
  lets p =
      ap (λ (o : Option (List ℕ)). passes_time_filter o p.time && passes_value_filter q.values p.value) times
      ∙ ap (λ (o : Option Span). true && passes_value_filter o p.value) values

  pub plain : (x : ℕ) → rows (record q { from = x }) l ≡ take n (reverse (map row_of (between x q.to l)))
  plain x =
      ap (λ (c : Option ℕ). limit_rows c (in_requested_order q.reverse (rows_of q.buckets (record q { from = x }) l))) count
      ∙ ap (λ (r : Bool). take n (in_requested_order r (rows_of q.buckets (record q { from = x }) l))) backward
      ∙ ap (λ (o : Option Buckets). take n (reverse (rows_of o (record q { from = x }) l))) buckets
      ∙ ap (λ (ps : List Point). take n (reverse (map row_of ps))) (filter-all (passes_filters q) (between x q.to l) (λ k d within. lets (get_or (between x q.to l) k d)))

  -- so many of them are enough
  pub rows-from : IsAscending l → (t : ℕ) → q.from ≤ t → (t ≡ q.from) ⊎ (n ≤ length (between t q.to l)) → rows (record q { from = t }) l ≡ rows q l
  rows-from rises t on (inl same) = ap (λ (x : ℕ). rows (record q { from = x }) l) same
  rows-from rises t on (inr few) =
      let early = at_times (λ u. nat_lt u t) (between q.from q.to l) in
      let front = map row_of early in
      let back = map row_of (between t q.to l) in
      plain t
      ∙ sym (take-append-le n (reverse back) (reverse front) (omega (arith, few, length-reverse back, length-map (between t q.to l) row_of)))
      ∙ ap (take n) (sym (reverse-append front back))
      ∙ ap (λ rs. take n (reverse rs)) (sym (map-append row_of early (between t q.to l)))
      ∙ ap (λ (ps : List Point). take n (reverse (map row_of ps))) (sym (parts q.from q.to t l rises on))
      ∙ sym (plain q.from)
