-- What bytes start with.
use Rattle.std.specs.Prelude.{◌≡◌, ℕ, ◌<◌, ◌≤◌, ⊤, List, [], ◌∷◌, ◌++◌}
use Rattle.ts_spec.specs.Sample.{Point}
use Rattle.ts_sample.specs.Sample.{IsInBounds}
use Rattle.ts_chunk_packed.specs.Packed.{State, number, coded}

-- the bytes start with a number below a limit
pub record Begins (limit : ℕ) (bytes : List ℕ) : Type 0 where
  pub value : ℕ
  pub rest : List ℕ
  pub is : bytes ≡ number value ++ rest
  pub below : value < limit

-- the bytes start with a sample that is within its bounds and no earlier than the last one
pub record Follows (s : State) (bytes : List ℕ) : Type 0 where
  pub sample : Point
  pub rest : List ℕ
  pub is : bytes ≡ coded s sample ++ rest
  pub fine : IsInBounds sample
  pub later : s.before.time ≤ sample.time

-- the first of the samples is no earlier than t
abbrev pub StartsFrom : ℕ → List Point → Type 0
StartsFrom t [] = ⊤
StartsFrom t (p ∷ ps) = t ≤ p.time
