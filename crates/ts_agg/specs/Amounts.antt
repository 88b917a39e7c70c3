-- The running count and sum.
use Rattle.std.specs.Prelude.{ℕ, ◌+◌, ◌<◌, ℤ, ◌+ℤ◌}
use Rattle.ts_agg.specs.Running.{IsSmall}

-- the count and the sum of values
pub record Totals : Type 0 where
  pub count : ℕ
  pub sum : ℤ

-- after one more value
abbrev pub added : Totals → ℤ → Totals
added t v = record { count = t.count + 1; sum = t.sum +ℤ v }

-- at least one value, and no more than a total can count
pub record IsTotal (count : ℕ) (sum : ℤ) : Type 0 where
  pub some : 0 < count
  pub small : IsSmall count sum
