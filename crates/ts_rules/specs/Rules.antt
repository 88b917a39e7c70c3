-- A rule and its open bucket, as contracts see them.
use Rattle.std.specs.Prelude.{◌≡◌, ℕ, ◌^◌, ◌<◌, true, List, [], ◌∷◌, Option, None, Some}
use Rattle.ts_spec.specs.Sample.{Point}
use Rattle.ts_spec.specs.Bucket.{start}
use Rattle.ts_spec.specs.Aggregate.{Summary}
use Rattle.ts_spec.specs.Key.{Key}
use Rattle.ts_spec.specs.Rules.{is_append}
use Rattle.ts_spec.specs.StoredSeries.{StoredRule}
use Rattle.ts_spec.specs.StoredUpdates.{closing_row}
use Rattle.ts_series.specs.History.{History}
use Rattle.ts_rules.specs.declared.rule.Rule.{Rule}

-- the stored form of a rule whose destination has this key
abbrev pub stored_rule_for : Key → Rule → StoredRule
stored_rule_for k r = record { dest = k; agg = r.agg; grid = r.grid; made = r.made; current = r.current; running = r.running }

-- the new rule is the old one with its stored form changed by `change`, and the same destination
pub record IsChanged (change : StoredRule → StoredRule) (old new : Rule) : Type 0 where
  pub dest : new.dest ≡ old.dest
  pub kept : (k : Key) → stored_rule_for k new ≡ change (stored_rule_for k old)

-- the new rule has this open bucket
abbrev pub IsOpenAt : (current : Option ℕ) → (running : Summary) → (old new : Rule) → Type 0
IsOpenAt current running old new = IsChanged (λ q. record q { current = current; running = running }) old new

-- an optional sample as a list
abbrev pub one_of : Option Point → List Point
one_of None = []
one_of (Some p) = p ∷ []

-- the row of the open bucket, none if it is empty; `born` is the destination's rule count
abbrev pub open_row : (born : ℕ) → Rule → List Point
open_row born r = closing_row born (stored_rule_for [] r) r.current

-- the open bucket can count one more sample if the write appends to it
abbrev pub TakesAppended : Rule → History → Point → Type 0
TakesAppended r source p = is_append p.time source.high ≡ true → r.current ≡ Some (start r.grid p.time) → r.running.count < 10 ^ 14
