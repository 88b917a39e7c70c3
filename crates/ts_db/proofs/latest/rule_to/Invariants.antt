use Rattle.std.proofs.Common.{◌≡◌, drop}
use Rattle.ts_db.specs.Latest.{rule_among}
use Rattle.ts_db.proofs.latest.rule_to.Given as goal

-- the rule is among all exactly if it is among the remaining ones
abbrev pub invariant-loop-rule : goal.invariant-loop-rule
invariant-loop-rule l = rule_among l.id.0 (drop l.rule-index l.rules) ≡ rule_among l.id.0 l.rules
