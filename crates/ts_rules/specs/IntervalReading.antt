-- The samples of a list up to a time, read one after another.
use Rattle.std.specs.Prelude.{ℕ, nat_le, if◌then◌else◌, List, [], ◌∷◌, Option, None, Some}
use Rattle.ts_spec.specs.Sample.{Point, at_times}

-- the first sample, unless it is after `to`
abbrev pub first_up_to : (to : ℕ) → List Point → Option Point
first_up_to to [] = None
first_up_to to (p ∷ ps) = if nat_le p.time to then Some p else None

-- the remaining samples: the head, and those after it up to `to`; none without a head
abbrev pub remaining_up_to : (to : ℕ) → Option Point → (rest : List Point) → List Point
remaining_up_to to None rest = []
remaining_up_to to (Some p) rest = p ∷ at_times (λ t. nat_le t to) rest
