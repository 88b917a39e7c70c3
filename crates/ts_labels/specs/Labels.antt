-- The labels of a series as ts_spec defines them.
use Rattle.std.specs.Prelude.{◌≡◌, ⊤, ℕ, List, [], ◌∷◌, Option, None, Some, map}
use Rattle.ts_spec.specs.State.{Label}
use Rattle.ts_spec.specs.Filter.{value_of}

-- a label with its value
abbrev pub labelled : (name value : List ℕ) → Label
labelled name value = record { name = name; value = value }

-- the labels in the entries of a map
abbrev pub labels_in : List (List ℕ × List ℕ) → List Label
labels_in entries = map (λ e. labelled e.0 e.1) entries

-- the labels, or none
abbrev pub labels_there : Option (List Label) → List Label
labels_there None = []
labels_there (Some labels) = labels

-- all label names differ
abbrev pub AreDistinct : List Label → Type 0
AreDistinct [] = ⊤
AreDistinct (l ∷ ls) = (value_of l.name ls ≡ None) × AreDistinct ls
