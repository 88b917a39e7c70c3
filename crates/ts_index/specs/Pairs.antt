-- Pairs of label and value that one series has and another has not.
use Rattle.std.specs.Prelude.{ℕ, ◌&&◌, not, Bool, List}
use Rattle.ts_spec.specs.State.{Label}
use Rattle.ts_index.specs.Index.{has_pair}

-- whether `labels` has the pair and `others` does not
abbrev pub is_own : (name value : List ℕ) → (labels others : List Label) → Bool
is_own name value labels others = has_pair name value labels && not (has_pair name value others)
