-- The number of samples in a database.
use Rattle.std.specs.Prelude.{ℕ, ◌+◌, List, [], ◌∷◌, length}
use Rattle.ts_spec.specs.Keyed.{Entry}
use Rattle.ts_spec.specs.StoredSeries.{StoredSeries, StoredKeys}

-- the number of samples of these series
abbrev pub samples_in : List (Entry StoredSeries) → ℕ
samples_in [] = 0
samples_in (e ∷ es) = length e.value.list + samples_in es

-- the number of samples of all keys
abbrev pub total_of : StoredKeys → ℕ
total_of keys = samples_in keys.entries
