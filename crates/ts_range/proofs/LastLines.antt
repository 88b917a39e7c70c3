-- The rows of a bucket range are its last values.
use Rattle.std.proofs.Common.{◌≡◌, ℕ, suc, ◌-◌, ◌≤◌, Bool, true, false, ◌==◌, List, [], ◌∷◌, map, refl, sym, ◌∙◌, ap, subst, arith, inl, inr, eq-eqb, ne_eqb}
use Rattle.std.specs.Prelude.{ℤ, filter, Option, None, Some}
use Rattle.std.specs.Option.{option_or}
use Rattle.std.specs.List.{All, range_with_len}
use Rattle.std.proofs.lemmas.Bool.{cases_lt}
use Rattle.std.proofs.lemmas.Bool.Decides.{nat_tests}
use Rattle.std.proofs.lemmas.List.Elements.{All-weaker, filter_passes}
use Rattle.ts_spec.specs.declared.bucket.Aggregator.{Aggregator}
use Rattle.ts_spec.specs.declared.bucket.Aggregator.TheVariants.{Last}
use Rattle.ts_spec.specs.Sample.{Point, IsAscending, is_within, between, first_of, last_of}
use Rattle.ts_spec.specs.Aggregate.{nothing}
use Rattle.ts_spec.specs.Bucket.{start, members}
use Rattle.ts_spec.specs.Answer.{Cell, Number, bucket_row, cell_of, passes_filters, last_value, rows, in_requested_order}
use Rattle.ts_spec.proofs.Buckets.{start-le}
use Rattle.ts_spec.proofs.Samples.{ascending-times}
use Rattle.ts_bucket.proofs.Numbers.{number, start_number}
use Rattle.ts_range.specs.declared.query.Buckets.{Buckets}
use Rattle.ts_range.specs.declared.query.Query.{Query}
use Rattle.ts_range.specs.declared.bucket_range.BucketRange.{BucketRange}
use Rattle.ts_range.specs.Empty.{empty_cell_of}
use Rattle.ts_range.specs.FillPlan.{FillPlan, row_at, value_or_fill}
use Rattle.ts_range.specs.LastValues.{LastValues, counts, value_of, is_first, fill_value_before, last_row, last_rows, IsLine}
use Rattle.ts_range.specs.Query.{buckets_of, query_of}
use Rattle.ts_range.specs.Starts.{starts_of}
use Rattle.ts_range.specs.BucketRanges.{IsKnownBefore, FillsGaps, IsBucketRangeOf, fill_plan_with}
use Rattle.ts_range.specs.AskedSamples.{times_of, last_before}
use Rattle.ts_range.proofs.AllRows.{all-within, bucket_range-told}
use Rattle.ts_range.proofs.Around.{before-is}
use Rattle.ts_range.proofs.Filtered.{map-same}
use Rattle.ts_range.proofs.Gaps.{begin-mono}
use Rattle.ts_range.proofs.Later.{begin-past}
use Rattle.ts_range.proofs.Line.{begin, between-is, number-mono}
use Rattle.ts_range.proofs.Saying.{last-pushed}

-- the last value before, of two lists
said-or : (o u : Option Point) → value_or_fill (last_value u) (value_of o) ≡ last_value (option_or o u)
said-or None u = refl
said-or (Some p) u = refl

-- the cell of a bucket with these samples
cell-is : (b : ℕ) (l ms : List Point) (said : Cell) → said ≡ last_value (last_before b l) → value_or_fill said (value_of (last_of ms)) ≡ cell_of Last b l ms
cell-is b l [] said is = is
cell-is b l (p ∷ ps) said is = sym (ap (λ v. Number v) (last-pushed nothing p ps))

module _ (q : Query) (l : List Point) (rises : IsAscending l) (ends : Option (ℕ × ℕ)) (bucket_range : BucketRange) (told : IsBucketRangeOf q bucket_range.buckets ends bucket_range)
    (ahead prior : Option Point) (known : IsKnownBefore bucket_range l ahead prior) (times : Option (List ℕ)) (values : Option (ℤ × ℤ)) where
  abbrev line : LastValues
  line = record { filling = fill_plan_with bucket_range ahead prior; times = times; values = values; seen = between bucket_range.from bucket_range.to l }

  within-both : All (λ p. is_within bucket_range.from bucket_range.to p.time ≡ true) (between bucket_range.from bucket_range.to l)
  within-both = filter_passes (λ (p : Point). is_within bucket_range.from bucket_range.to p.time) l

  -- its buckets and its samples
  pub is-line : IsLine bucket_range.from told.upto line
  is-line = record {
    some = told.some;
    ordered = told.part.ordered;
    are = told.starts;
    rises = ascending-times (is_within bucket_range.from bucket_range.to) l rises;
    from = All-weaker (λ (p : Point). is_within bucket_range.from bucket_range.to p.time ≡ true) (λ (p : Point). bucket_range.from ≤ p.time) (λ p here. grind (arith, nat_tests)) (between bucket_range.from bucket_range.to l) within-both;
    upto = All-weaker (λ (p : Point). is_within bucket_range.from bucket_range.to p.time ≡ true) (λ (p : Point). start bucket_range.buckets.grid p.time ≤ start bucket_range.buckets.grid told.upto)
        (λ p here. told.part.within p.time (let e : p.time ≤ bucket_range.to = grind (arith, nat_tests) in e)) (between bucket_range.from bucket_range.to l) within-both;
  }

  module _ (last : bucket_range.buckets.agg ≡ Last) where
    begins : start bucket_range.buckets.grid bucket_range.from ≡ begin bucket_range.buckets.grid (number bucket_range.buckets.grid bucket_range.from)
    begins = start_number bucket_range.buckets.grid told.some bucket_range.from

    said-first : (b : ℕ) → b ≡ start bucket_range.buckets.grid bucket_range.from → fill_value_before true line b ≡ last_value (last_before b l)
    said-first b is =
        ap (λ (a : Aggregator). empty_cell_of a ahead) last ∙ ap last_value (known.first ∙ ap (λ (t : ℕ). last_before t l) (sym is))

    said-later : (b : ℕ) → bucket_range.from ≤ b → b ≤ bucket_range.to → fill_value_before false line b ≡ last_value (last_before b l)
    said-later b low high =
        ap (λ (a : Aggregator). value_or_fill (empty_cell_of a prior) (value_of (last_before b (between bucket_range.from bucket_range.to l)))) last
        ∙ said-or (last_before b (between bucket_range.from bucket_range.to l)) prior
        ∙ ap (λ (o : Option Point). last_value (option_or (last_before b (between bucket_range.from bucket_range.to l)) o)) known.others
        ∙ ap last_value (before-is bucket_range.from bucket_range.to b l rises low high)

    starts-are : (n : ℕ) → number bucket_range.buckets.grid told.upto - number bucket_range.buckets.grid bucket_range.from ≡ n
        → line.filling.starts ≡ map (begin bucket_range.buckets.grid) (range_with_len (number bucket_range.buckets.grid bucket_range.from) (suc n))
    starts-are n long =
        told.starts ∙ between-is bucket_range.buckets.grid told.some bucket_range.from told.upto told.part.ordered
        ∙ ap (λ (k : ℕ). map (begin bucket_range.buckets.grid) (range_with_len (number bucket_range.buckets.grid bucket_range.from) (suc k))) long

    said-is : (m : ℕ) → number bucket_range.buckets.grid bucket_range.from ≤ m → m ≤ number bucket_range.buckets.grid told.upto
        → fill_value_before (is_first line.filling.starts (begin bucket_range.buckets.grid m)) line (begin bucket_range.buckets.grid m) ≡ last_value (last_before (begin bucket_range.buckets.grid m) l)
    said-is m low high =
        let g = bucket_range.buckets.grid in
        let b = begin g m in
        let first : is_first line.filling.starts b ≡ (b == begin g (number g bucket_range.from)) = ap (λ (xs : List ℕ). is_first xs b) (starts-are (number g told.upto - number g bucket_range.from) refl) in
        elim (cases_lt (number g bucket_range.from) m) [
          | inl less ↦
              let past = begin-past g told.some bucket_range.from m less in
              let at = begins in
              let low-start = start-le g bucket_range.from told.some in
              let e = begin-mono g told.some m (number g told.upto) high in
              let f = start_number g told.some told.upto in
              let h = start-le g told.upto told.some in
              let r = told.part.reached in
              ap (λ (x : Bool). fill_value_before x line b) (first ∙ ne_eqb b (begin g (number g bucket_range.from)) (λ same. absurd (omega arith)))
              ∙ said-later b (omega arith) (omega arith)
          | inr more ↦
              let same : b ≡ begin g (number g bucket_range.from) = ap (begin g) (let e : m ≡ number g bucket_range.from = omega arith in e) in
              ap (λ (x : Bool). fill_value_before x line b) (first ∙ eq-eqb b (begin g (number g bucket_range.from)) same)
              ∙ said-first b (same ∙ sym begins)
        ]

    row-is : (m : ℕ) → number bucket_range.buckets.grid bucket_range.from ≤ m → m ≤ number bucket_range.buckets.grid told.upto
        → last_row line (begin bucket_range.buckets.grid m) ≡ bucket_row (buckets_of bucket_range.buckets) l (filter (counts line) (between bucket_range.from bucket_range.to l)) (begin bucket_range.buckets.grid m)
    row-is m low high =
        let g = bucket_range.buckets.grid in
        let b = begin g m in
        let ms = members g b (filter (counts line) (between bucket_range.from bucket_range.to l)) in
        ap (row_at (buckets_of bucket_range.buckets) b)
        (cell-is b l ms (fill_value_before (is_first line.filling.starts b) line b) (said-is m low high) ∙ ap (λ (a : Aggregator). cell_of a b l ms) (sym last))

    lines-told : last_rows line ≡ map (bucket_row (buckets_of bucket_range.buckets) l (filter (counts line) (between bucket_range.from bucket_range.to l))) (starts_of bucket_range.starts)
    lines-told =
        let g = bucket_range.buckets.grid in
        let k = number g bucket_range.from in
        let n = number g told.upto - k in
        let f = bucket_row (buckets_of bucket_range.buckets) l (filter (counts line) (between bucket_range.from bucket_range.to l)) in
        let mono = number-mono g told.some bucket_range.from told.upto told.part.ordered in
        map-same (last_row line) f (starts_of bucket_range.starts)
        (subst (All (λ (b : ℕ). last_row line b ≡ f b)) (sym (starts-are n refl))
        (all-within g (λ (b : ℕ). last_row line b ≡ f b) (suc n) k (λ m low high. row-is m low (omega arith))))

    module _ (is : q.buckets ≡ Some bucket_range.buckets) (empty : bucket_range.buckets.empty ≡ true) (around : ends ≡ times_of (first_of l) (last_of l))
        (agree : (p : Point) → counts line p ≡ passes_filters (query_of q) p) where
      -- the rows that are wanted
      pub rows-told : in_requested_order q.reverse (last_rows line) ≡ rows (query_of q) l
      rows-told = ap (in_requested_order q.reverse) lines-told ∙ bucket_range-told q bucket_range.buckets is empty told.some l rises ends around bucket_range told (counts line) agree

-- what is wanted of a list, by the last values of its stretch
pub record IsToldBy (q : Query) (l : List Point) (v : LastValues) : Type 0 where
  pub lo : ℕ
  pub hi : ℕ
  pub line : IsLine lo hi v
  pub rows : in_requested_order q.reverse (last_rows v) ≡ rows (query_of q) l

pub told-by : (q : Query) (l : List Point) (bucket_range : BucketRange) (buckets : Buckets) (ends : Option (ℕ × ℕ)) → IsAscending l → FillsGaps q buckets → IsBucketRangeOf q buckets ends bucket_range → ends ≡ times_of (first_of l) (last_of l)
    → bucket_range.buckets.agg ≡ Last → (ahead prior : Option Point) → IsKnownBefore bucket_range l ahead prior
    → (v : LastValues) → v.filling ≡ fill_plan_with bucket_range ahead prior → v.seen ≡ between bucket_range.from bucket_range.to l → ((p : Point) → counts v p ≡ passes_filters (query_of q) p) → IsToldBy q l v
told-by q l bucket_range buckets ends rises fills told around last ahead prior known v filling seen agree =
    let told-here : IsBucketRangeOf q bucket_range.buckets ends bucket_range = subst (λ (b : Buckets). IsBucketRangeOf q b ends bucket_range) (sym told.buckets) told in
    let w : LastValues = record { filling = fill_plan_with bucket_range ahead prior; times = v.times; values = v.values; seen = between bucket_range.from bucket_range.to l } in
    let same : w ≡ v = sym (ap (λ (f : FillPlan). record { filling = f; times = v.times; values = v.values; seen = v.seen }) filling
    ∙ ap (λ (ps : List Point). record { filling = fill_plan_with bucket_range ahead prior; times = v.times; values = v.values; seen = ps }) seen) in
    subst (IsToldBy q l) same (record {
      lo = bucket_range.from;
      hi = told-here.upto;
      line = is-line q l rises ends bucket_range told-here ahead prior known v.times v.values;
      rows = rows-told q l rises ends bucket_range told-here ahead prior known v.times v.values last (fills.told ∙ ap Some (sym told.buckets)) (ap (λ (b : Buckets). b.empty) told.buckets ∙ fills.empty) around agree;
    })
