-- Updates of the destinations of rules, one after another.
use Rattle.std.specs.Prelude.{ℕ, Bool, List, [], ◌∷◌}
use Rattle.ts_spec.specs.Sample.{Point}
use Rattle.ts_spec.specs.StoredSeries.{StoredRule, StoredKeys}
use Rattle.ts_spec.specs.StoredKeys.{keys_changed}
use Rattle.ts_spec.specs.StoredUpdates.{updated_series}

-- the rows that a rule writes to a destination with `born` rules made so far
abbrev pub Rows : Type 0
Rows = (born : ℕ) → StoredRule → List Point

-- the times at which a destination's samples are removed for the rows of a rule
abbrev pub RemovedTimes : Type 0
RemovedTimes = StoredRule → ℕ → Bool

-- the stored data after the destination of each rule is updated
abbrev pub keys_destinations_updated : Rows → RemovedTimes → List StoredRule → StoredKeys → StoredKeys
keys_destinations_updated rows gone [] m = m
keys_destinations_updated rows gone (q ∷ qs) m = keys_destinations_updated rows gone qs (keys_changed q.dest (λ d. updated_series (gone q) (rows d.born q) d) m)
