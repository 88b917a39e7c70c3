-- A scan that turns samples into rows.
use Rattle.std.specs.Prelude.{ℕ, ◌+◌, ◌-◌, ◌^◌, ◌≤◌, ℤ, Bool, ◌&&◌, List, [], ◌∷◌, ◌++◌, map, filter, length, Option, None, Some, option_map}
use Rattle.std.proofs.Common.{arith}
use Rattle.std.proofs.lemmas.List.{length-append}
use Rattle.std.specs.Option.{ForSome}
use Rattle.ts_spec.specs.Sample.{Point, IsAscending}
use Rattle.ts_spec.specs.Command as spec
use Rattle.ts_spec.specs.Answer.{Row, row_of, passes_time_filter, passes_value_filter}
use Rattle.ts_range.specs.declared.cutter.Cutter.{Cutter}
use Rattle.ts_range.specs.Query.{span_of}
use Rattle.ts_range.specs.SinkState.{Limit}
use Rattle.ts_range.specs.BucketRows.{bucket_rows}
use Rattle.ts_range.specs.Cutting.{IsCut, HasAtMost}

-- The filters, the buckets (none if it emits samples), what limits its sink, and the samples received so far.
pub record RowScanState : Type 0 where
  pub times : Option (List ℕ)
  pub values : Option (ℤ × ℤ)
  pub buckets : Option spec.Buckets
  pub limit : Limit
  pub seen : List Point

-- whether a sample passes the filters
abbrev pub lets : RowScanState → Point → Bool
lets w p = passes_time_filter w.times p.time && passes_value_filter (option_map span_of w.values) p.value

-- after one more sample
abbrev pub with_seen : RowScanState → Point → RowScanState
with_seen w p = record w { seen = w.seen ++ p ∷ [] }

-- the rows of the samples that pass: one for each, or one for each bucket
abbrev pub rows_passing : Option spec.Buckets → (asked chosen : List Point) → List Row
rows_passing None asked chosen = map row_of chosen
rows_passing (Some bs) asked chosen = bucket_rows bs asked chosen

-- the rows of the samples received so far
abbrev pub rows_of_scan : RowScanState → (asked : List Point) → List Row
rows_of_scan w asked = rows_passing w.buckets asked (filter (lets w) w.seen)

-- one sample uses at most one of the 10^14 that the scan accepts
pub lowered : (w : RowScanState) (p : Point) → 10 ^ 14 - length w.seen ≤ 10 ^ 14 - length (with_seen w p).seen + 1
lowered w p = omega (arith, length-append w.seen (p ∷ []))

-- ---- rows emitted so far

-- the sink has the rows of these samples, except that of the current bucket
abbrev pub AreScanned : (has : List Row → Type 0) → Option Cutter → List Point → Type 0
AreScanned has None ps = has (map row_of ps)
AreScanned has (Some c) ps = IsCut has c.buckets c.current ps

-- the current bucket has at most n samples
abbrev pub HasFew : ℕ → Option Cutter → Type 0
HasFew n cut = ForSome cut (λ c. HasAtMost n c.current)

-- if the samples ascend, the sink has the rows of those that pass
pub record IsRowScan (has : List Row → Type 0) (cut : Option Cutter) (seen chosen : List Point) : Type 0 where
  pub few : HasFew (length seen) cut
  pub walked : IsAscending seen → AreScanned has cut chosen
