-- The rows of a bucket range are those of one scan over its samples, with the gaps filled.
use Rattle.std.proofs.Common.{◌≡◌, ℕ, zero, suc, ◌+◌, ◌-◌, ◌<◌, ◌≤◌, max, min, Bool, true, false, ◌&&◌, ◌==◌, List, [], ◌∷◌, map, refl, sym, ◌∙◌, ap, subst, arith, inl, inr, eqb-true}
use Rattle.std.specs.Prelude.{filter, Option, None, Some, option_map}
use Rattle.std.specs.List.{All, range_with_len}
use Rattle.std.proofs.lemmas.Bool.{cases_lt}
use Rattle.std.proofs.lemmas.Bool.Decides.{nat_tests}
use Rattle.std.proofs.lemmas.List.Elements.{All-nil, All-cons, All-head, All-tail, All-weaker, All-filter, filter_passes, filter_agree}
use Rattle.ts_spec.specs.declared.bucket.Aggregator.TheVariants.{Last}
use Rattle.ts_spec.specs.Sample.{Point, MAX_TIME, IsAscending, is_within, between, first_of, last_of}
use Rattle.ts_spec.specs.Bucket.{Grid, start, members}
use Rattle.ts_spec.specs.Answer.{Cell, Row, limit_rows, bucket_row, cell_of, passes_filters, selected, rows, starts_between, in_requested_order}
use Rattle.ts_spec.proofs.Buckets.{start-le}
use Rattle.ts_spec.proofs.Samples.{ascending-times, ascending-filter}
use Rattle.ts_sample.proofs.Between.{filter-filter}
use Rattle.ts_bucket.proofs.Numbers.{number, start_number, apart}
use Rattle.ts_range.specs.declared.query.Buckets.{Buckets}
use Rattle.ts_range.specs.declared.query.Query.{Query}
use Rattle.ts_range.specs.declared.bucket_range.BucketRange.{BucketRange}
use Rattle.ts_range.specs.Empty.{empty_cell_of}
use Rattle.ts_range.specs.FillPlan.{begun, filled, rows_with_gaps_filled, row_at}
use Rattle.ts_range.specs.Query.{buckets_of, query_of}
use Rattle.ts_range.specs.Starts.{starts_of, starts_within}
use Rattle.ts_range.specs.BucketRanges.{IsPart, IsKnownBefore, IsBucketRangeOf, IsBucketRangeIn, FillsGaps, fill_plan_with}
use Rattle.ts_range.specs.BucketRows.{bucket_rows}
use Rattle.ts_range.specs.AskedSamples.{times_of, last_before}
use Rattle.ts_range.proofs.Filtered.{filter-same, filter-swap, filter-all, map-same, after-all}
use Rattle.ts_range.proofs.Gaps.{begin-mono, IsOnLine}
use Rattle.ts_range.proofs.Later.{begin-past}
use Rattle.ts_range.proofs.Line.{begin, between-is, number-mono}
use Rattle.ts_range.proofs.Saying.{IsSaying, said-known, line-filled}
use Rattle.ts_range.proofs.Whole.{rows-all}

-- ---- the ends of a list

first-all : (l : List Point) (p : Point) → IsAscending l → first_of l ≡ Some p → All (λ r. p.time ≤ r.time) l
first-all [] p rises is = All-nil (λ r. p.time ≤ r.time)
first-all (q ∷ l) p rises is =
    let same : q.time ≡ p.time = (let e : q ≡ p = cc is in ap (λ (x : Point). x.time) e) in
    All-cons (λ r. p.time ≤ r.time) q l (omega arith) (All-weaker (λ r. q.time < r.time) (λ r. p.time ≤ r.time) (λ r less. omega arith) l (after-all q.time l rises.0))

last-all : (l : List Point) (p : Point) → IsAscending l → last_of l ≡ Some p → All (λ r. r.time ≤ p.time) l
last-all [] p rises is = All-nil (λ r. r.time ≤ p.time)
last-all (q ∷ []) p rises is =
    let same : q.time ≡ p.time = (let e : q ≡ p = cc is in ap (λ (x : Point). x.time) e) in
    All-cons (λ r. r.time ≤ p.time) q [] (omega arith) (All-nil (λ r. r.time ≤ p.time))
last-all (q ∷ r ∷ l) p rises is =
    let rest = last-all (r ∷ l) p rises.1 is in
    let next : r.time ≤ p.time = All-head (λ (x : Point). x.time ≤ p.time) r l rest in
    All-cons (λ x. x.time ≤ p.time) q (r ∷ l) (let less = rises.0.0 in omega arith) rest

-- a sample is between the ends
pub record IsInside (times : ℕ × ℕ) (p : Point) : Type 0 where
  pub from : times.0 ≤ p.time
  pub to : p.time ≤ times.1

all-inside : (l : List Point) (times : ℕ × ℕ) → IsAscending l → Some times ≡ times_of (first_of l) (last_of l) → All (IsInside times) l
all-inside [] times rises ends = All-nil (IsInside times)
all-inside (p ∷ l) times rises ends = go (last_of (p ∷ l)) refl ends
  where
    go : (o : Option Point) → last_of (p ∷ l) ≡ o → Some times ≡ times_of (Some p) o → All (IsInside times) (p ∷ l)
    go None is ends = absurd (cc ends)
    go (Some q) is ends =
        let same : times ≡ (p.time, q.time) = cc ends in
        let low = first-all (p ∷ l) p rises refl in
        let high = last-all (p ∷ l) q rises is in
        subst (λ (ts : ℕ × ℕ). All (IsInside ts) (p ∷ l)) (sym same) (both (p ∷ l) low high)
      where
        both : (ps : List Point) → All (λ r. p.time ≤ r.time) ps → All (λ r. r.time ≤ q.time) ps → All (IsInside (p.time, q.time)) ps
        both [] low high = All-nil (IsInside (p.time, q.time))
        both (r ∷ ps) low high =
            All-cons (IsInside (p.time, q.time)) r ps (record { from = All-head (λ (x : Point). p.time ≤ x.time) r ps low; to = All-head (λ (x : Point). x.time ≤ q.time) r ps high })
            (both ps (All-tail (λ (x : Point). p.time ≤ x.time) r ps low) (All-tail (λ (x : Point). x.time ≤ q.time) r ps high))

-- ---- a part of the times

-- a test that matters only where another one holds
where-both : (a b t : Bool) → (t ≡ true → a ≡ b) → (a && t) ≡ (b && t)
where-both a b true same = ap (λ (x : Bool). x && true) (same refl)
where-both a b false same = none a ∙ sym (none b)
  where
    none : (x : Bool) → (x && false) ≡ false
    none true = refl
    none false = refl

pub all-within : (g : Grid) (P : ℕ → Type 0) (n k : ℕ) → ((m : ℕ) → k ≤ m → m < k + n → P (begin g m)) → All P (map (begin g) (range_with_len k n))
all-within g P zero k h = All-nil P
all-within g P (suc n) k h = All-cons P (begin g k) (map (begin g) (range_with_len (k + 1) n)) (h k (omega arith) (omega arith)) (all-within g P n (k + 1) (λ m low high. h m (omega arith) (omega arith)))

module _ (g : Grid) (some : 1 ≤ g.duration) where
  number-upto : (t u : ℕ) → start g t ≤ start g u → number g t ≤ number g u
  number-upto t u le = elim (cases_lt (number g u) (number g t)) [
    | inl less ↦ (let e = apart g some u t less in let f = start-le g u some in absurd (omega arith))
    | inr more ↦ more
  ]

  module _ (from to : ℕ) (times : ℕ × ℕ) (low upto high : ℕ) (part : IsPart g (max from times.0) (min to times.1) low upto high) (l : List Point) (in-ends : All (IsInside times) l) (lets : Point → Bool) where
    -- a bucket of the part has the same samples there
    part-members : (m : ℕ) → number g low ≤ m → m ≤ number g upto → members g (begin g m) (filter lets (between low high l)) ≡ members g (begin g m) (filter lets (between from to l))
    part-members m least most =
        let c = begin g m in
        filter-swap (λ (p : Point). start g p.time == c) lets (between low high l)
        ∙ ap (filter lets)
        (filter-filter (λ (p : Point). start g p.time == c) (λ (p : Point). is_within low high p.time) l
        ∙ filter-same (λ (p : Point). is_within low high p.time && (start g p.time == c)) (λ (p : Point). is_within from to p.time && (start g p.time == c)) l
        (All-weaker (IsInside times) (λ (p : Point). (is_within low high p.time && (start g p.time == c)) ≡ (is_within from to p.time && (start g p.time == c)))
        (λ p at. where-both (is_within low high p.time) (is_within from to p.time) (start g p.time == c) (λ here. same-within p at (eqb-true (start g p.time) c here))) l in-ends)
        ∙ sym (filter-filter (λ (p : Point). start g p.time == c) (λ (p : Point). is_within from to p.time) l))
        ∙ sym (filter-swap (λ (p : Point). start g p.time == c) lets (between from to l))
      where
        same-within : (p : Point) → IsInside times p → start g p.time ≡ begin g m → is_within low high p.time ≡ is_within from to p.time
        same-within p at here =
            let early = part.early in
            let late = part.late in
            let after = at.from in
            let before = at.to in
            elim (cases_lt p.time (max from times.0)) [
              | inl less ↦ grind (arith, nat_tests)
              | inr enough ↦ elim (cases_lt (min to times.1) p.time) [
                | inl past ↦ grind (arith, nat_tests)
                | inr inside ↦
                    let e = begin-mono g some (number g low) m least in
                    let f = begin-mono g some m (number g upto) most in
                    let h = start_number g some low in
                    let k = start_number g some upto in
                    let both = part.whole p.time enough inside (omega arith) (omega arith) in
                    let one = both.0 in
                    let other = both.1 in
                    grind (arith, nat_tests)
              ]
            ]

    -- the samples of the part lie in its buckets
    part-on : to ≤ MAX_TIME → All (IsOnLine g (number g low) (number g upto)) (filter lets (between low high l))
    part-on time =
        All-filter lets (IsOnLine g (number g low) (number g upto)) (between low high l)
        (All-weaker (λ (p : Point). is_within low high p.time ≡ true) (IsOnLine g (number g low) (number g upto))
        (λ p is.
        let least : low ≤ p.time = grind (arith, nat_tests) in
        let most : p.time ≤ high = grind (arith, nat_tests) in
        let late = part.late in
        record {
          from = number-mono g some low p.time least;
          to = number-upto p.time upto (part.within p.time most);
          time = omega arith;
        }) (between low high l) (filter_passes (λ (p : Point). is_within low high p.time) l))

-- ---- the rows

lets-all : (lets : Point → Bool) → ((p : Point) → lets p ≡ true) → (ps : List Point) → filter lets ps ≡ ps
lets-all lets each ps = filter-all lets ps (all ps)
  where
    all : (ps : List Point) → All (λ p. lets p ≡ true) ps
    all [] = All-nil (λ p. lets p ≡ true)
    all (p ∷ ps) = All-cons (λ p. lets p ≡ true) p ps (each p) (all ps)

module _ (q : Query) (bs : Buckets) (is : q.buckets ≡ Some bs) (empty : bs.empty ≡ true) (some : 1 ≤ bs.grid.duration) (l : List Point) (rises : IsAscending l)
    (ends : Option (ℕ × ℕ)) (around : ends ≡ times_of (first_of l) (last_of l)) (bucket_range : BucketRange) (told : IsBucketRangeOf q bs ends bucket_range)
    (lets : Point → Bool) (agree : (p : Point) → lets p ≡ passes_filters (query_of q) p) where
  in-ends : All (IsInside told.times) l
  in-ends = all-inside l told.times rises (sym told.are ∙ around)

  same-rows : map (bucket_row (buckets_of bs) l (filter lets (between bucket_range.from bucket_range.to l))) (starts_between bs.grid bucket_range.from told.upto)
      ≡ map (bucket_row (buckets_of bs) l (selected (query_of q) l)) (starts_between bs.grid bucket_range.from told.upto)
  same-rows =
      let g = bs.grid in
      let k = number g bucket_range.from in
      let n = suc (number g told.upto - k) in
      let ps = filter lets (between bucket_range.from bucket_range.to l) in
      let ordered = told.part.ordered in
      let mono = number-mono g some bucket_range.from told.upto ordered in
      let line : starts_between g bucket_range.from told.upto ≡ map (begin g) (range_with_len k n) = between-is g some bucket_range.from told.upto ordered in
      let all : filter lets (between q.from q.to l) ≡ selected (query_of q) l = filter_agree lets (passes_filters (query_of q)) agree (between q.from q.to l) in
      map-same (bucket_row (buckets_of bs) l ps) (bucket_row (buckets_of bs) l (selected (query_of q) l)) (starts_between g bucket_range.from told.upto)
      (subst (All (λ (b : ℕ). bucket_row (buckets_of bs) l ps b ≡ bucket_row (buckets_of bs) l (selected (query_of q) l) b)) (sym line)
      (all-within g (λ (b : ℕ). bucket_row (buckets_of bs) l ps b ≡ bucket_row (buckets_of bs) l (selected (query_of q) l) b) n k
      (λ m low high. ap (λ (ms : List Point). row_at (buckets_of bs) (begin g m) (cell_of bs.agg (begin g m) l ms))
      (part-members g some q.from q.to told.times bucket_range.from told.upto bucket_range.to told.part l in-ends lets m low (omega arith) ∙ ap (members g (begin g m)) all))))

  -- those that are wanted, of the samples of the stretch
  pub bucket_range-told : in_requested_order q.reverse (map (bucket_row (buckets_of bs) l (filter lets (between bucket_range.from bucket_range.to l))) (starts_of bucket_range.starts)) ≡ rows (query_of q) l
  bucket_range-told =
      ap (λ (xs : List ℕ). in_requested_order q.reverse (map (bucket_row (buckets_of bs) l (filter lets (between bucket_range.from bucket_range.to l))) xs)) told.starts
      ∙ ap (in_requested_order q.reverse) (same-rows ∙ ap (map (bucket_row (buckets_of bs) l (selected (query_of q) l))) (sym told.starts))
      ∙ sym (told.rows (bucket_row (buckets_of bs) l (selected (query_of q) l)))
      ∙ sym (rows-all (query_of q) l (buckets_of bs) (ap (option_map buckets_of) is) empty ends around)

  module _ (shows : bs.agg ≡ Last → (p : Point) → lets p ≡ true)
      (first others : Cell) (says : first ≡ empty_cell_of bs.agg (last_before (start bs.grid bucket_range.from) l)) (say : others ≡ empty_cell_of bs.agg (last_before bucket_range.from l)) where
    begins : begin bs.grid (number bs.grid bucket_range.from) ≡ start bs.grid bucket_range.from
    begins = sym (start_number bs.grid some bucket_range.from)

    from-is : max bucket_range.from (begin bs.grid (number bs.grid bucket_range.from)) ≡ bucket_range.from
    from-is = let e = start-le bs.grid bucket_range.from some in let f = begins in omega arith

    saying : IsSaying (buckets_of bs) l bucket_range.from bucket_range.to (number bs.grid bucket_range.from) first others (filter lets (between bucket_range.from bucket_range.to l))
    saying = record {
      first = says ∙ ap (λ (t : ℕ). empty_cell_of bs.agg (last_before t l)) (sym begins);
      others = say ∙ ap (λ (t : ℕ). empty_cell_of bs.agg (last_before t l)) (sym from-is);
      all = λ last. lets-all lets (shows last) (between bucket_range.from bucket_range.to l) ∙ ap (λ (t : ℕ). between t bucket_range.to l) (sym from-is);
    }

    filled-part : filled (buckets_of bs) first others (starts_between bs.grid bucket_range.from told.upto) (bucket_rows (begun (buckets_of bs)) l (filter lets (between bucket_range.from bucket_range.to l)))
        ≡ map (bucket_row (buckets_of bs) l (filter lets (between bucket_range.from bucket_range.to l))) (starts_between bs.grid bucket_range.from told.upto)
    filled-part =
        let g = bs.grid in
        let k = number g bucket_range.from in
        let n = suc (number g told.upto - k) in
        let ps = filter lets (between bucket_range.from bucket_range.to l) in
        let ordered = told.part.ordered in
        let mono = number-mono g some bucket_range.from told.upto ordered in
        let line : starts_between g bucket_range.from told.upto ≡ map (begin g) (range_with_len k n) = between-is g some bucket_range.from told.upto ordered in
        let upto : begin g (number g told.upto) ≤ bucket_range.to = (let e = start_number g some told.upto in let f = start-le g told.upto some in let r = told.part.reached in omega arith) in
        ap (λ (xs : List ℕ). filled (buckets_of bs) first others xs (bucket_rows (begun (buckets_of bs)) l ps)) line
        ∙ line-filled (buckets_of bs) some l rises bucket_range.from bucket_range.to bucket_range.from k (number g told.upto) (omega arith) (begin-past g some bucket_range.from (suc k) (omega arith)) upto n first others ps (omega arith)
        (ascending-filter lets (between bucket_range.from bucket_range.to l) (ascending-times (is_within bucket_range.from bucket_range.to) l rises))
        (part-on g some q.from q.to told.times bucket_range.from told.upto bucket_range.to told.part l in-ends lets q.to_fits) saying
        ∙ ap (map (bucket_row (buckets_of bs) l ps)) (sym line)

    -- those of the buckets with samples, filled in
    pub all-rows : in_requested_order q.reverse (filled (buckets_of bs) first others (starts_of bucket_range.starts) (bucket_rows (begun (buckets_of bs)) l (filter lets (between bucket_range.from bucket_range.to l)))) ≡ rows (query_of q) l
    all-rows =
        ap (λ (xs : List ℕ). in_requested_order q.reverse (filled (buckets_of bs) first others xs (bucket_rows (begun (buckets_of bs)) l (filter lets (between bucket_range.from bucket_range.to l))))) told.starts
        ∙ ap (in_requested_order q.reverse) (filled-part ∙ ap (map (bucket_row (buckets_of bs) l (filter lets (between bucket_range.from bucket_range.to l)))) (sym told.starts))
        ∙ bucket_range-told

-- the same by the taker that is made for the stretch
pub bucket_range-rows : (q : Query) (bs : Buckets) → FillsGaps q bs → (l : List Point) → IsAscending l → (ends : Option (ℕ × ℕ)) → ends ≡ times_of (first_of l) (last_of l) → (bucket_range : BucketRange) → IsBucketRangeOf q bs ends bucket_range
    → (lets : Point → Bool) → ((p : Point) → lets p ≡ passes_filters (query_of q) p) → (bucket_range.buckets.agg ≡ Last → (p : Point) → lets p ≡ true)
    → (ahead prior : Option Point) → (bucket_range.buckets.agg ≡ Last → IsKnownBefore bucket_range l ahead prior)
    → in_requested_order q.reverse (rows_with_gaps_filled (fill_plan_with bucket_range ahead prior) (bucket_rows (begun (buckets_of bucket_range.buckets)) l (filter lets (between bucket_range.from bucket_range.to l)))) ≡ rows (query_of q) l
bucket_range-rows q bs fills l rises ends around bucket_range told lets agree shows ahead prior known =
    let shows-all : bs.agg ≡ Last → (p : Point) → lets p ≡ true = λ last. shows (ap (λ (b : Buckets). b.agg) told.buckets ∙ last) in
    let first : empty_cell_of bs.agg ahead ≡ empty_cell_of bs.agg (last_before (start bs.grid bucket_range.from) l) =
    said-known bs.agg ahead (last_before (start bs.grid bucket_range.from) l)
    (λ last. (known (ap (λ (b : Buckets). b.agg) told.buckets ∙ last)).first ∙ ap (λ (b : Buckets). last_before (start b.grid bucket_range.from) l) told.buckets) in
    let others : empty_cell_of bs.agg prior ≡ empty_cell_of bs.agg (last_before bucket_range.from l) =
    said-known bs.agg prior (last_before bucket_range.from l) (λ last. (known (ap (λ (b : Buckets). b.agg) told.buckets ∙ last)).others) in
    ap (λ (b : Buckets). in_requested_order q.reverse (filled (buckets_of b) (empty_cell_of b.agg ahead) (empty_cell_of b.agg prior) (starts_of bucket_range.starts) (bucket_rows (begun (buckets_of b)) l (filter lets (between bucket_range.from bucket_range.to l))))) told.buckets
    ∙ all-rows q bs fills.told fills.empty told.some l rises ends around bucket_range told lets agree shows-all (empty_cell_of bs.agg ahead) (empty_cell_of bs.agg prior) first others

-- no row is wanted
pub no-rows : (q : Query) (bs : Buckets) → FillsGaps q bs → (l : List Point) (ends : Option (ℕ × ℕ)) → ends ≡ times_of (first_of l) (last_of l)
    → ((f : ℕ → Row) → limit_rows q.count (in_requested_order q.reverse (map f (starts_within bs.grid q.from q.to ends))) ≡ []) → rows (query_of q) l ≡ []
no-rows q bs fills l ends around none =
    rows-all (query_of q) l (buckets_of bs) (ap (option_map buckets_of) fills.told) fills.empty ends around ∙ none (bucket_row (buckets_of bs) l (selected (query_of q) l))

-- what a walk hands on to that taker
pub walked-rows : (q : Query) (l : List Point) (bucket_range : BucketRange) → IsAscending l → IsBucketRangeIn q l bucket_range
    → (lets : Point → Bool) → ((p : Point) → lets p ≡ passes_filters (query_of q) p) → (bucket_range.buckets.agg ≡ Last → (p : Point) → lets p ≡ true)
    → (ahead prior : Option Point) → (bucket_range.buckets.agg ≡ Last → IsKnownBefore bucket_range l ahead prior)
    → in_requested_order q.reverse (rows_with_gaps_filled (fill_plan_with bucket_range ahead prior) (bucket_rows (begun (buckets_of bucket_range.buckets)) l (filter lets (between bucket_range.from bucket_range.to l)))) ≡ rows (query_of q) l
walked-rows q l bucket_range rises is lets agree shows ahead prior known =
    bucket_range-rows q is.buckets is.filled l rises (times_of (first_of l) (last_of l)) refl bucket_range is.is lets agree shows ahead prior known
