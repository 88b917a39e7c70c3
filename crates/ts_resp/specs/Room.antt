-- The reply buffer as contracts see it.
use Rattle.std.specs.Prelude.{ℕ, List}

-- the bytes written, and how many more fit without allocating
pub record Room : Type 0 where
  pub bytes : List ℕ
  pub spare : ℕ
