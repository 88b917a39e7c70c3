-- The labels of a series, without duplicates.
use Rattle.std.specs.Prelude.{if◌then◌else◌, List, [], ◌∷◌}
use Rattle.ts_spec.specs.Key.{same}
use Rattle.ts_spec.specs.State.{Label}

-- adds a label at the end, or replaces the value of the label with this name
abbrev pub with_label : Label → List Label → List Label
with_label l [] = l ∷ []
with_label l (k ∷ ks) = if same k.name l.name then l ∷ ks else k ∷ with_label l ks
