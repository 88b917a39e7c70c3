-- The words of a record under construction.
use Rattle.std.specs.Prelude.{◌≡◌, ◌++◌}
use Rattle.ts_spec.specs.Wire.{Request}

-- these words were appended
pub record Appends (old new words : Request) : Type 0 where
  pub all : new ≡ old ++ words
