-- How a write merges with the value that its time already has.
use Rattle.std.specs.Prelude.{◌+ℤ◌, nat_le, if◌then◌else◌, ℤ, int_lt, unsigned_abs, Option, Some, None}
use Rattle.ts_spec.specs.declared.series.Policy.{Policy}
use Rattle.ts_spec.specs.declared.series.Policy.TheVariants.{Block, First, Last, Min, Max, Sum}
use Rattle.ts_spec.specs.declared.series.Merge.{Merge}
use Rattle.ts_spec.specs.declared.series.Merge.TheVariants.{By, Set}
use Rattle.ts_spec.specs.Value.{bound}
use Rattle.ts_spec.specs.Refusal.{Refusal, Duplicate, OutOfRange}

-- The result of a merge.
pub data Merged : Type 0 where
  Refuse : Refusal → Merged
  -- the old value stays
  KeepOld : Merged
  -- this value is written
  To : ℤ → Merged

-- the value, or a refusal if its magnitude is out of range
abbrev pub within_bound : ℤ → Merged
within_bound v = if nat_le (unsigned_abs v) bound then To v else Refuse OutOfRange

-- merges two values by a policy
abbrev pub merge_by : Policy → (old new : ℤ) → Merged
merge_by Block old new = Refuse Duplicate
merge_by First old new = KeepOld
merge_by Last old new = To new
merge_by Min old new = if int_lt new old then To new else KeepOld
merge_by Max old new = if int_lt old new then To new else KeepOld
merge_by Sum old new = within_bound (old +ℤ new)

-- merges a new value with the old one, if there is one
abbrev pub merge : Merge → Option ℤ → ℤ → Merged
merge how None new = To new
merge Set (Some old) new = To new
merge (By policy) (Some old) new = merge_by policy old new
