-- How many samples a call decodes.
use Rattle.std.specs.Prelude.{ℕ, ◌+◌, ◌≤◌}

-- between the two counts, at most `most` steps were taken
pub record Takes (old new most : ℕ) : Type 0 where
  pub counted : old ≤ new
  pub bounded : new ≤ old + most
