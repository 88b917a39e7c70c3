-- The range of buckets that an answer with EMPTY covers.
use Rattle.std.specs.Prelude.{◌≡◌, ◌≤◌, ℕ, max, min, true, List, map, Option, Some}
use Rattle.ts_spec.specs.Sample.{Point, first_of, last_of}
use Rattle.ts_spec.specs.Bucket.{Grid, start}
use Rattle.ts_spec.specs.Answer.{Row, starts_between, limit_rows, in_requested_order}
use Rattle.ts_range.specs.declared.bucket_range.BucketRange.{BucketRange}
use Rattle.ts_range.specs.declared.query.Buckets.{Buckets}
use Rattle.ts_range.specs.declared.query.Query.{Query}
use Rattle.ts_range.specs.Empty.{empty_cell_of}
use Rattle.ts_range.specs.FillPlan.{FillPlan}
use Rattle.ts_range.specs.Query.{buckets_of}
use Rattle.ts_range.specs.Starts.{starts_of, starts_within}
use Rattle.ts_range.specs.AskedSamples.{times_of, last_before}

-- of the times from `first` to `last`, those from `from` to `to` are exactly those in the buckets from that of `from`
-- to that of `upto`
pub record IsPart (g : Grid) (first last from upto to : ℕ) : Type 0 where
  pub early : first ≤ from
  pub ordered : from ≤ upto
  pub reached : upto ≤ to
  pub late : to ≤ last
  pub within : (t : ℕ) → t ≤ to → start g t ≤ start g upto
  pub whole : (t : ℕ) → first ≤ t → t ≤ last → start g from ≤ start g t → start g t ≤ start g upto → (from ≤ t) × (t ≤ to)

-- these are the buckets that the query returns, and the times of its interval that lie in them
pub record IsBucketRangeOf (q : Query) (bs : Buckets) (ends : Option (ℕ × ℕ)) (bucket_range : BucketRange) : Type 0 where
  pub buckets : bucket_range.buckets ≡ bs
  pub some : 1 ≤ bs.grid.duration
  pub rows : (f : ℕ → Row) → limit_rows q.count (in_requested_order q.reverse (map f (starts_within bs.grid q.from q.to ends)))
      ≡ in_requested_order q.reverse (map f (starts_of bucket_range.starts))
  pub times : ℕ × ℕ
  pub are : ends ≡ Some times
  pub upto : ℕ
  pub starts : starts_of bucket_range.starts ≡ starts_between bs.grid bucket_range.from upto
  pub part : IsPart bs.grid (max q.from times.0) (min q.to times.1) bucket_range.from upto bucket_range.to

-- how to fill the gaps: an empty first bucket takes its value from `ahead`, other empty ones from `prior`
abbrev pub fill_plan_with : BucketRange → (ahead prior : Option Point) → FillPlan
fill_plan_with bucket_range ahead prior = record {
  buckets = buckets_of bucket_range.buckets;
  starts = starts_of bucket_range.starts;
  first = empty_cell_of bucket_range.buckets.agg ahead;
  others = empty_cell_of bucket_range.buckets.agg prior;
}

-- these are the last samples of the list before the first bucket, and before the first time
pub record IsKnownBefore (bucket_range : BucketRange) (ps : List Point) (ahead prior : Option Point) : Type 0 where
  pub first : ahead ≡ last_before (start bucket_range.buckets.grid bucket_range.from) ps
  pub others : prior ≡ last_before bucket_range.from ps

-- the query returns these buckets, empty ones included
pub record FillsGaps (q : Query) (bs : Buckets) : Type 0 where
  pub told : q.buckets ≡ Some bs
  pub empty : bs.empty ≡ true

-- the query with EMPTY returns this range of buckets of the list
pub record IsBucketRangeIn (q : Query) (ps : List Point) (bucket_range : BucketRange) : Type 0 where
  pub buckets : Buckets
  pub filled : FillsGaps q buckets
  pub is : IsBucketRangeOf q buckets (times_of (first_of ps) (last_of ps)) bucket_range
