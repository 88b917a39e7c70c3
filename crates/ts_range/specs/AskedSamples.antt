-- The samples of a list that a query needs.
use Rattle.std.specs.Prelude.{◌≡◌, ℕ, max, min, nat_lt, IsTrue, List, Option, None, Some}
use Rattle.std.specs.Option.{ForSome}
use Rattle.ts_spec.specs.Sample.{Point, at_times, between, first_of, last_of}
use Rattle.ts_spec.specs.Bucket.{Grid, start}
use Rattle.ts_range.specs.declared.query.Query.{Query}
use Rattle.ts_range.specs.declared.query.Asked.{Asked}

-- the times of two samples, if both exist
abbrev pub times_of : Option Point → Option Point → Option (ℕ × ℕ)
times_of None last = None
times_of (Some p) None = None
times_of (Some p) (Some q) = Some (p.time, q.time)

-- the last sample before t
abbrev pub last_before : ℕ → List Point → Option Point
last_before t ps = last_of (at_times (λ u. nat_lt u t) ps)

-- what the list has around the interval: its last sample before the interval and before the first bucket, and the times
-- of its first and last sample
pub record IsAroundOf (q : Query) (g : Grid) (asked : Asked) (ps : List Point) : Type 0 where
  pub prior : asked.prior ≡ last_before q.from ps
  pub ahead : ForSome (first_of ps) (λ first. asked.ahead ≡ last_before (start g (max q.from first.time)) ps)
  pub ends : asked.ends ≡ times_of (first_of ps) (last_of ps)

-- what the list has for the query: the samples in the interval, and those around it for a query with EMPTY
pub record IsAskedOf (q : Query) (asked : Asked) (ps : List Point) : Type 0 where
  pub rows : between q.from q.to ps ≡ asked.rows.items
  pub around : ForSome q.buckets (λ bs. IsTrue bs.empty → IsAroundOf q bs.grid asked ps)

-- the number of rows for this many samples, at most the count
abbrev pub most_of : Option ℕ → ℕ → ℕ
most_of None samples = samples
most_of (Some count) samples = min samples count
