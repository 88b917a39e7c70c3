-- Grouping ascending samples into buckets.
use Rattle.std.specs.Prelude.{◌≡◌, ◌<◌, ◌≤◌, ℕ, List, [], ◌∷◌, ◌++◌, Option, None, Some}
use Rattle.std.specs.List.{All}
use Rattle.std.specs.Option.{ForSome}
use Rattle.ts_spec.specs.Sample.{Point}
use Rattle.ts_spec.specs.Bucket.{start}
use Rattle.ts_spec.specs.Answer.{Row}
use Rattle.ts_agg.specs.Tally.{IsTallyOf, counted}
use Rattle.ts_range.specs.declared.query.Buckets.{Buckets}
use Rattle.ts_range.specs.declared.bucket.Bucket.{Bucket}
use Rattle.ts_range.specs.Query.{buckets_of}
use Rattle.ts_range.specs.Spans.{IsSpan}
use Rattle.ts_range.specs.BucketRows.{bucket_rows}

-- There is a current bucket: it has the last of these samples, and the sink has the rows of all earlier buckets.
pub record IsOpenAt (has : List Row → Type 0) (bs : Buckets) (o : Bucket) (ps : List Point) : Type 0 where
  pub early : List Point
  pub here : List Point
  pub parts : ps ≡ early ++ here
  pub span : IsSpan bs.grid o.start o.last
  pub before : All (λ p. start bs.grid p.time < o.start) early
  pub inside : All (λ p. start bs.grid p.time ≡ o.start) here
  pub tells : IsTallyOf bs.agg o.tally here
  pub taken : (asked : List Point) → has (bucket_rows (buckets_of bs) asked early)

-- the current bucket is that of the last sample; with no samples there is none
abbrev pub IsCut : (has : List Row → Type 0) → Buckets → Option Bucket → List Point → Type 0
IsCut has bs None ps = (ps ≡ []) × has []
IsCut has bs (Some o) ps = IsOpenAt has bs o ps

-- the current bucket has at most n samples
abbrev pub HasAtMost : ℕ → Option Bucket → Type 0
HasAtMost n current = ForSome current (λ o. counted o.tally ≤ n)

-- the current bucket has just started, with this one sample
pub record HasBegun (bs : Buckets) (current : Option Bucket) (p : Point) : Type 0 where
  pub bucket : Bucket
  pub is : current ≡ Some bucket
  pub span : IsSpan bs.grid bucket.start bucket.last
  pub begins : bucket.start ≡ start bs.grid p.time
  pub tells : IsTallyOf bs.agg bucket.tally (p ∷ [])
  pub one : counted bucket.tally ≤ 1
