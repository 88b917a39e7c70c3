-- When a device call may return an error: exactly if the device's count of faults rose during the call.
use Rattle.std.specs.Prelude.{◌≡◌, ℕ, ◌+◌, ◌-◌, ◌^◌, ◌≤◌, min, Result, OnOk, OnErr}

-- one more, in a count that stops at the greatest u64
abbrev pub saturating_succ : ℕ → ℕ
saturating_succ n = min (n + 1) (2 ^ 64 - 1)

-- the count is greater than before, or is the greatest u64
abbrev pub Rose : ℕ → ℕ → Type 0
Rose before now = saturating_succ before ≤ now

-- the count of faults never falls: an error comes only if it rose, and `Ok` only if it is unchanged
pub record HasCause {T E : Type 0} (before now : ℕ) (result : Result T E) : Type 0 where
  pub later : before ≤ now
  pub failed : OnErr result (Rose before now)
  pub fine : OnOk result (now ≡ before)
