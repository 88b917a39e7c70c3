-- The state of a source in memory.
use Rattle.std.specs.Prelude.{ℕ, List}
use Rattle.ts_io.specs.Calls.{Calls}

-- the bytes still to come, the most that one call gives, and the calls
pub record MemSourceState : Type 0 where
  pub left : List ℕ
  pub piece : ℕ
  pub calls : Calls
