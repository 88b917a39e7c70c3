-- The number of samples that a state shows.
use Rattle.std.specs.Prelude.{ℕ, ◌+◌, List, [], ◌∷◌, length}
use Rattle.ts_spec.specs.Keyed.{Entry}
use Rattle.ts_spec.specs.State.{Record, State}
use Rattle.ts_spec.specs.ShownSamples.{shown}

-- the samples that these keys show, added up
abbrev pub shown_in : State → List (Entry Record) → ℕ
shown_in m [] = 0
shown_in m (e ∷ es) = length (shown m e.key) + shown_in m es

-- the samples that all keys show
abbrev pub total_shown : State → ℕ
total_shown m = shown_in m m.entries
