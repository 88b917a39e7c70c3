-- How many ids a selection looks at, and how often it tests a filter.
use Rattle.std.specs.Prelude.{ℕ, ◌*◌, min, if◌then◌else◌, List, [], ◌∷◌, length}
use Rattle.ts_spec.specs.Filter.{Filter, holds, is_positive}
use Rattle.ts_index.specs.Index.{Labelled, ids_where}

-- the number of candidates of a filter: the series that pass it
abbrev pub candidates : Labelled → Filter → ℕ
candidates es f = length (ids_where (holds f) es)

-- the fewest candidates of a filter that requires a value, or the number of series if no filter does
abbrev pub fewest : Labelled → List Filter → ℕ
fewest es [] = length es
fewest es (f ∷ fs) = if is_positive f then min (candidates es f) (fewest es fs) else fewest es fs

-- the most filter tests of a selection: each filter once for each candidate
abbrev pub selection_steps : Labelled → List Filter → ℕ
selection_steps es fs = length fs * fewest es fs
