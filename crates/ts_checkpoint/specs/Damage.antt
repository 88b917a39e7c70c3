-- Damage to a record.
use Rattle.std.specs.Prelude.{◌≡◌, ◌≢◌, ℕ, ◌<◌, List, ◌∷◌, ◌++◌}
use Rattle.ts_spec.specs.Wire.{Request}

-- the two requests differ in one byte of one word
pub record DiffersInByte (one other : Request) : Type 0 where
  pub before : Request
  pub after : Request
  pub front : List ℕ
  pub back : List ℕ
  pub old : ℕ
  pub new : ℕ
  pub old_byte : old < 256
  pub new_byte : new < 256
  pub differ : old ≢ new
  pub one_is : one ≡ before ++ (front ++ old ∷ back) ∷ after
  pub other_is : other ≡ before ++ (front ++ new ∷ back) ∷ after
