-- Seams: times that split no chunk, and the number of samples between them.
use Rattle.std.specs.Prelude.{◌≡◌, ◌⊎◌, ℕ, suc, ◌+◌, ◌≤◌, nat_lt, nat_le, ⊤, List, [], ◌∷◌, length}
use Rattle.ts_spec.specs.Sample.{Point, at_times, between}
use Rattle.ts_sample.specs.Chunk.{joined}

-- no piece has samples both before this time and at or after it
abbrev pub IsSeam : (time : ℕ) → List (List Point) → Type 0
IsSeam t [] = ⊤
IsSeam t (ps ∷ pss) = ((at_times (nat_le t) ps ≡ []) ⊎ (at_times (λ u. nat_lt u t) ps ≡ [])) × IsSeam t pss

-- the steps are at most the number of samples between any seam before the interval and any seam after it
abbrev pub IsSeamed : (pieces : List (List Point)) → (from to old new : ℕ) → Type 0
IsSeamed pieces from to old new =
    (s e : ℕ) → IsSeam s pieces → IsSeam (suc e) pieces → s ≤ from → to ≤ e → new ≤ old + length (between s e (joined pieces))

-- there are seams before and after the interval with at most n samples between them
pub record Around (from to n : ℕ) (pieces : List (List Point)) : Type 0 where
  pub first : ℕ
  pub last : ℕ
  pub starts : IsSeam first pieces
  pub ends : IsSeam (suc last) pieces
  pub before : first ≤ from
  pub past : to ≤ last
  pub few : length (between first last (joined pieces)) ≤ n
