-- The effect of a deletion on a rule of the source, from the source as it was before the deletion.
use Rattle.std.specs.Prelude.{ℕ, Bool, not, ◌==◌, if◌then◌else◌, List, [], ◌++◌}
use Rattle.ts_spec.specs.Sample.{Point, at_times, between, outside}
use Rattle.ts_spec.specs.StoredSeries.{StoredRule}
use Rattle.ts_spec.specs.StoredUpdates.{bucket_row, recounted_bucket, deleted_rule, loses, deleted_rows}
use Rattle.ts_series.specs.History.{History, list_of}
use Rattle.ts_rules.specs.declared.rule.Rule.{Rule}
use Rattle.ts_rules.specs.Rules.{stored_rule_for}

-- the deleted samples, and the remaining ones
abbrev pub gone_of : (source : History) → (from to : ℕ) → List Point
gone_of source from to = between from to (list_of source)

abbrev pub left_of : (source : History) → (from to : ℕ) → List Point
left_of source from to = outside from to (list_of source)

-- the rule after the deletion
abbrev pub rule_left : (source : History) → (from to : ℕ) → StoredRule → StoredRule
rule_left source from to q = deleted_rule (gone_of source from to) (left_of source from to) q

-- whether the bucket that starts at b is closed and loses a sample
abbrev pub is_lost : Rule → (source : History) → (from to : ℕ) → ℕ → Bool
is_lost r source from to b = loses (gone_of source from to) (stored_rule_for [] r) b

-- the rows that the destination gets; `born` is its rule count
abbrev pub rows_left : Rule → (source : History) → (from to : ℕ) → (born : ℕ) → List Point
rows_left r source from to born = deleted_rows (gone_of source from to) (left_of source from to) born (stored_rule_for [] r)

-- the row of one bucket, if it is closed and lost a sample
abbrev pub row_left : Rule → (source : History) → (from to : ℕ) → (born b : ℕ) → List Point
row_left r source from to born b =
    if is_lost r source from to b then bucket_row r.agg born b (recounted_bucket (stored_rule_for [] r) b (left_of source from to)) else []

-- the destination's samples between two bucket starts after the deletion: the first bucket's row, the samples that
-- stay, the last bucket's row
abbrev pub span_left : Rule → (source : History) → (from to : ℕ) → (born first last : ℕ) → List Point → List Point
span_left r source from to born first last ps =
    (row_left r source from to born first ++ at_times (λ t. not (is_lost r source from to t)) (between first last ps))
    ++ (if first == last then [] else row_left r source from to born last)
