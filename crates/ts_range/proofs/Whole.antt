-- The rows of a query, by its kind of buckets.
use Rattle.std.proofs.Common.{◌≡◌, ℕ, Bool, true, false, if◌then◌else◌, List, map, refl, sym, ◌∙◌, ap}
use Rattle.std.specs.Prelude.{◌&&◌, nat_lt, length, filter, reverse, Option, None, Some, option_map}
use Rattle.std.proofs.lemmas.List.Elements.{filter_agree}
use Rattle.ts_spec.specs.Sample.{Point, between, first_of, last_of}
use Rattle.ts_spec.specs.Bucket.{Grid, starts}
use Rattle.ts_spec.specs.Command.{Query, Buckets}
use Rattle.ts_spec.specs.Answer.{row_of, passes_filters, selected, bucket_row, starts_with_empty, in_requested_order, limit_rows, rows, rows_of, includes_empty, answer}
use Rattle.ts_range.specs.declared.query.Buckets.{Buckets as Grouped}
use Rattle.ts_range.specs.declared.query.Query.{Query as Question}
use Rattle.ts_range.specs.Query.{buckets_of}
use Rattle.ts_range.specs.Starts.{starts_within}
use Rattle.ts_range.specs.BucketRanges.{FillsGaps}
use Rattle.ts_range.specs.BucketRows.{bucket_rows}
use Rattle.ts_range.specs.AskedSamples.{times_of}
use Rattle.ts_range.specs.RowScanState.{rows_passing}

-- where no buckets are filled in, no empty ones are told
pub none-filled : (q : Question) → ((bs : Grouped) → FillsGaps q bs → ⊥) → (o : Option Grouped) → q.buckets ≡ o → includes_empty (option_map buckets_of o) ≡ false
none-filled q none None is = refl
none-filled q none (Some bs) is = go bs.empty refl
  where
    go : (b : Bool) → bs.empty ≡ b → bs.empty ≡ false
    go true e = absurd (none bs (record { told = is; empty = e }))
    go false e = e

ends-within : (g : Grid) (from to : ℕ) (first last : Option Point) → starts_with_empty g from to first last ≡ starts_within g from to (times_of first last)
ends-within g from to None last = refl
ends-within g from to (Some p) None = refl
ends-within g from to (Some p) (Some q) = refl

module _ (q : Query) (l : List Point) where
  -- without buckets
  pub rows-single : q.buckets ≡ None → rows q l ≡ limit_rows q.count (in_requested_order q.reverse (map row_of (selected q l)))
  rows-single is = ap (λ (o : Option Buckets). limit_rows q.count (in_requested_order q.reverse (rows_of o q l))) is

  module _ (bs : Buckets) (is : q.buckets ≡ Some bs) where
    with-buckets : rows q l ≡ limit_rows q.count (in_requested_order q.reverse (rows_of (Some bs) q l))
    with-buckets = ap (λ (o : Option Buckets). limit_rows q.count (in_requested_order q.reverse (rows_of o q l))) is

    -- of the buckets with samples
    pub rows-told : bs.empty ≡ false → rows q l ≡ limit_rows q.count (in_requested_order q.reverse (bucket_rows bs l (selected q l)))
    rows-told full =
        with-buckets
        ∙ ap (λ (b : Bool). limit_rows q.count (in_requested_order q.reverse (map (bucket_row bs l (selected q l)) (if b then starts_with_empty bs.grid q.from q.to (first_of l) (last_of l) else starts bs.grid (selected q l))))) full

    -- of all buckets
    pub rows-all : bs.empty ≡ true → (ends : Option (ℕ × ℕ)) → ends ≡ times_of (first_of l) (last_of l)
        → rows q l ≡ limit_rows q.count (in_requested_order q.reverse (map (bucket_row bs l (selected q l)) (starts_within bs.grid q.from q.to ends)))
    rows-all empty ends around =
        with-buckets
        ∙ ap (λ (b : Bool). limit_rows q.count (in_requested_order q.reverse (map (bucket_row bs l (selected q l)) (if b then starts_with_empty bs.grid q.from q.to (first_of l) (last_of l) else starts bs.grid (selected q l))))) empty
        ∙ ap (λ (xs : List ℕ). limit_rows q.count (in_requested_order q.reverse (map (bucket_row bs l (selected q l)) xs)))
        (ends-within bs.grid q.from q.to (first_of l) (last_of l) ∙ ap (starts_within bs.grid q.from q.to) (sym around))

  -- of each sample, or of the buckets with samples
  pub chosen-rows : (o : Option Buckets) → q.buckets ≡ o → includes_empty o ≡ false → rows q l ≡ limit_rows q.count (in_requested_order q.reverse (rows_passing o l (selected q l)))
  chosen-rows None is full = rows-single is
  chosen-rows (Some bs) is full = rows-told bs is full

  -- what a walk hands on is the answer, where the first row comes first and empty buckets are not told
  pub walk-rows : (test : Point → Bool) → ((p : Point) → test p ≡ passes_filters q p) → q.reverse ≡ false → includes_empty q.buckets ≡ false
      → limit_rows q.count (rows_passing q.buckets l (filter test (between q.from q.to l))) ≡ rows q l
  walk-rows test lets forward full =
      ap (λ (ps : List Point). limit_rows q.count (rows_passing q.buckets l ps)) (filter_agree test (passes_filters q) lets (between q.from q.to l))
      ∙ ap (λ (b : Bool). limit_rows q.count (in_requested_order b (rows_passing q.buckets l (selected q l)))) (sym forward)
      ∙ sym (chosen-rows q.buckets refl full)

  -- the same where the last row comes first
  pub walk-rows-back : (test : Point → Bool) → ((p : Point) → test p ≡ passes_filters q p) → q.reverse ≡ true → includes_empty q.buckets ≡ false
      → limit_rows q.count (reverse (rows_passing q.buckets l (filter test (between q.from q.to l)))) ≡ rows q l
  walk-rows-back test lets backward full =
      ap (λ (ps : List Point). limit_rows q.count (reverse (rows_passing q.buckets l ps))) (filter_agree test (passes_filters q) lets (between q.from q.to l))
      ∙ ap (λ (b : Bool). limit_rows q.count (in_requested_order b (rows_passing q.buckets l (selected q l)))) (sym backward)
      ∙ sym (chosen-rows q.buckets refl full)

  pub no-limit : (limit : ℕ) → includes_empty q.buckets ≡ false → answer limit q l ≡ Some (rows q l)
  no-limit limit full = ap (λ (b : Bool). if b && nat_lt limit (length (rows q l)) then None else Some (rows q l)) full
