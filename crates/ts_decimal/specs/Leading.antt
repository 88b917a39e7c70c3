-- A whole number by its leading digits.
use Rattle.std.specs.Prelude.{◌≡◌, ℕ, ◌+◌, ◌*◌, ◌^◌, ◌<◌, ◌≤◌, ◌⊎◌}

-- n consists of the digits of `first` and `dropped` more digits. No digit is dropped until `first` has 30.
pub record Leads (first dropped n : ℕ) : Type 0 where
  pub low : first * 10 ^ dropped ≤ n
  pub high : n < (first + 1) * 10 ^ dropped
  pub kept : (dropped ≡ 0) ⊎ (10 ^ 29 ≤ first)
  pub small : first < 10 ^ 30
