-- Samples with given values, one per millisecond.
use Rattle.std.specs.Prelude.{ℕ, suc, ℤ, List, [], ◌∷◌}
use Rattle.ts_spec.specs.Sample.{Point}

-- samples with these values from a time on
abbrev pub laid : (from made : ℕ) → List ℤ → List Point
laid from made [] = []
laid from made (v ∷ vs) = record { time = from; value = v; made = made } ∷ laid (suc from) made vs
