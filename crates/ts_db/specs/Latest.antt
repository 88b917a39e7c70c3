-- The rule to a series.
use Rattle.std.specs.Prelude.{ℕ, ◌==◌, if◌then◌else◌, List, [], ◌∷◌, Option, None, Some}
use Rattle.ts_rules.specs.declared.rule.Rule.{Rule}

-- the first of these rules whose destination has this id
abbrev pub rule_among : ℕ → List Rule → Option Rule
rule_among i [] = None
rule_among i (r ∷ rs) = if r.dest.0 == i then Some r else rule_among i rs
