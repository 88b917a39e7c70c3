-- TS.INCRBY values, and ignored samples.
use Rattle.std.specs.Prelude.{◌≡◌, ℕ, ℤ, if◌then◌else◌, Option, None, Some, is_some}
use Rattle.ts_spec.specs.Sample.{last_of}
use Rattle.ts_spec.specs.Rules.{Merged, To}
use Rattle.ts_spec.specs.Ignoring.{ignored_after}
use Rattle.ts_series.specs.History.{list_of}
use Rattle.ts_db.specs.declared.node.Node.{Node}

-- the time of the last sample, if the series ignores this sample for being close to it; a destination of a rule
-- ignores nothing
abbrev pub ignored_by : Node → (time : ℕ) → (value : ℤ) → Option ℕ
ignored_by n t v = if is_some n.source then None else ignored_after n.series.options (last_of (list_of n.series)) t v

-- the value is in range, or there is none
abbrev pub IsChanged : Merged → Option ℤ → Type 0
IsChanged (To v) value = value ≡ Some v
IsChanged other value = value ≡ None
