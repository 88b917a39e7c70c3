-- The first and last times of buckets.
use Rattle.std.specs.Prelude.{◌≡◌, ℕ}
use Rattle.ts_spec.specs.Bucket.{Grid, start}
use Rattle.ts_bucket.specs.Grid.{IsGrid, IsLastOf}

-- a bucket of the grid begins at b and ends at `last`
pub record IsSpan (g : Grid) (b last : ℕ) : Type 0 where
  pub grid : IsGrid g
  pub begins : start g b ≡ b
  pub ends : IsLastOf g b last
