-- Valid grids, and the ends of their buckets.
use Rattle.std.specs.Prelude.{◌≡◌, ℕ, ◌^◌, ◌<◌, ◌≤◌}
use Rattle.ts_spec.specs.Sample.{MAX_TIME}
use Rattle.ts_spec.specs.Bucket.{Grid, start}

-- the alignment is at most MAX_TIME, and the duration is 1 to 10^14 milliseconds
pub record IsGrid (g : Grid) : Type 0 where
  pub align : g.align ≤ MAX_TIME
  pub some : 1 ≤ g.duration
  pub short : g.duration ≤ 10 ^ 14

-- the last time in the bucket of t
pub record IsLastOf (g : Grid) (t last : ℕ) : Type 0 where
  pub within : last ≤ MAX_TIME
  pub same : start g last ≡ start g t
  pub latest : (u : ℕ) → u ≤ MAX_TIME → start g u ≡ start g t → u ≤ last

-- the start of the bucket after that of t
pub record IsNextOf (g : Grid) (t next : ℕ) : Type 0 where
  pub begins : start g next ≡ next
  pub later : start g t < next
  pub least : (u : ℕ) → start g t < start g u → next ≤ start g u

-- no time is in a later bucket than t
abbrev pub HasNoNext : Grid → ℕ → Type 0
HasNoNext g t = (u : ℕ) → u ≤ MAX_TIME → start g u ≤ start g t
