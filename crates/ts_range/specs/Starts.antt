-- The starts of consecutive buckets.
use Rattle.std.specs.Prelude.{ℕ, ◌+◌, ◌-◌, ◌*◌, max, min, List, [], ◌∷◌, map, Option, None, Some}
use Rattle.std.specs.List.{range_with_len}
use Rattle.ts_spec.specs.Bucket.{Grid}
use Rattle.ts_spec.specs.Answer.{starts_between}
use Rattle.ts_range.specs.declared.starts.Starts.{Starts}

-- the starts, in ascending order
abbrev pub starts_of : Starts → List ℕ
starts_of s = s.first ∷ map (λ i. s.second + i * s.duration) (range_with_len 0 (s.count - 1))

-- the starts, or none
abbrev pub starts_if : Option Starts → List ℕ
starts_if None = []
starts_if (Some s) = starts_of s

-- the starts of a query's buckets, where the series has its first and last sample at these times
abbrev pub starts_within : Grid → (from to : ℕ) → Option (ℕ × ℕ) → List ℕ
starts_within g from to None = []
starts_within g from to (Some ends) = starts_between g (max from ends.0) (min to ends.1)
