-- The samples that remain when pieces are read one after another.
use Rattle.std.specs.Prelude.{ℕ, ◌≤◌, List, [], drop, get_or, length}
use Rattle.ts_spec.specs.Sample.{Point}
use Rattle.ts_sample.specs.Chunk.{joined}

-- the samples left after all pieces before index `at` and `read` samples of that piece
abbrev pub left_at : (at read : ℕ) → List (List Point) → List Point
left_at at read pieces = drop read (joined (drop at pieces))

-- the current piece is one of these or past them, no more of its samples are read than it has, and the position is
-- valid in it
pub record IsReading (IsPlace : List Point → Type 0) (pieces : List (List Point)) (at read : ℕ) : Type 0 where
  pub within : at ≤ length pieces
  pub few : read ≤ length (get_or pieces at [])
  pub place : IsPlace (get_or pieces at [])
