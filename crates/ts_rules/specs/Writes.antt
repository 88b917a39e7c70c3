-- The effect of a write on a rule of the source, from the source as it was before the write.
use Rattle.std.specs.Prelude.{ℕ, List, []}
use Rattle.ts_spec.specs.Sample.{Point, put}
use Rattle.ts_spec.specs.Rules.{is_append}
use Rattle.ts_spec.specs.StoredSeries.{StoredRule}
use Rattle.ts_spec.specs.StoredUpdates.{written_rule, written_row}
use Rattle.ts_series.specs.History.{History, list_of}
use Rattle.ts_rules.specs.declared.rule.Rule.{Rule}
use Rattle.ts_rules.specs.Rules.{stored_rule_for}

-- the rule after the write
abbrev pub rule_after : (source : History) → Point → StoredRule → StoredRule
rule_after source p q = written_rule (is_append p.time source.high) p (put p (list_of source)) q

-- the row that the destination gets; `born` is its rule count
abbrev pub row_for_dest : (source : History) → Point → (born : ℕ) → Rule → List Point
row_for_dest source p born r = written_row p (put p (list_of source)) born (stored_rule_for [] r)
