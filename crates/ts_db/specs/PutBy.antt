-- A write to an existing key with its own duplicate policy.
use Rattle.std.specs.Prelude.{ℕ, ℤ, Option, None, Some, unwrap_or}
use Rattle.ts_spec.specs.declared.limits.Limits.{Limits}
use Rattle.ts_spec.specs.declared.series.Policy.{Policy}
use Rattle.ts_spec.specs.declared.series.Merge.{Merge}
use Rattle.ts_spec.specs.declared.series.Merge.TheVariants.{By}
use Rattle.ts_spec.specs.Key.{Key}
use Rattle.ts_spec.specs.Keyed.{get}
use Rattle.ts_spec.specs.State.{Record, State}
use Rattle.ts_spec.specs.Refusal.{NoKey}
use Rattle.ts_spec.specs.Step.{Outcome, refused, write}
use Rattle.ts_spec.specs.StoredSeries.{StoredSeries, StoredKeys}
use Rattle.ts_spec.specs.StoredStep.{StoredOutcome, stored_refused, stored_write}

-- the write to a record, with this policy or else the record's own
abbrev pub put_with_policy_at : Limits → State → Key → ℕ → ℤ → Option Policy → Option Record → Outcome
put_with_policy_at limits m key t v on None = refused m NoKey
put_with_policy_at limits m key t v on (Some d) = write limits m key d (By (unwrap_or on d.options.policy)) t v

-- the write to a key, with this policy or else the key's own
abbrev pub put_with_policy : Limits → State → Key → ℕ → ℤ → Option Policy → Outcome
put_with_policy limits m key t v on = put_with_policy_at limits m key t v on (get key m)

-- the same write in terms of stored data
abbrev pub stored_put_with_policy_at : Limits → StoredKeys → Key → ℕ → ℤ → Option Policy → Option StoredSeries → StoredOutcome
stored_put_with_policy_at limits m key t v on None = stored_refused m NoKey
stored_put_with_policy_at limits m key t v on (Some d) = stored_write limits m key d (By (unwrap_or on d.options.policy)) t v

-- the write to a key in terms of stored data, with this policy or else the key's own
abbrev pub stored_put_with_policy : Limits → StoredKeys → Key → ℕ → ℤ → Option Policy → StoredOutcome
stored_put_with_policy limits m key t v on = stored_put_with_policy_at limits m key t v on (get key m)

-- the write in terms of stored data, with this merge or else the key's own policy
abbrev pub stored_merge_at : Limits → StoredKeys → Key → ℕ → ℤ → Option Merge → Option StoredSeries → StoredOutcome
stored_merge_at limits m key t v how None = stored_refused m NoKey
stored_merge_at limits m key t v how (Some d) = stored_write limits m key d (unwrap_or how (By d.options.policy)) t v

-- the same write to a key
abbrev pub stored_merge : Limits → StoredKeys → Key → ℕ → ℤ → Option Merge → StoredOutcome
stored_merge limits m key t v how = stored_merge_at limits m key t v how (get key m)
