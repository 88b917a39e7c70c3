-- The facts about a series that TS.INFO reports.
use Rattle.std.proofs.Common.{◌≡◌, ◌+◌, ℕ, List, [], ◌∷◌, ◌++◌, map, take, refl, sym, ◌∙◌, ap}
use Rattle.ts_spec.specs.Key.{Key}
use Rattle.ts_spec.specs.Response as response
use Rattle.ts_spec.specs.StoredQueries.{stored_rule_info}
use Rattle.ts_sample.specs.declared.sample.Id.{Id}
use Rattle.ts_rules.specs.declared.rule.Rule.{Rule}
use Rattle.ts_rules.specs.Rules.{stored_rule_for}
use Rattle.ts_db.specs.declared.info.RuleInfo.{RuleInfo}
use Rattle.ts_db.specs.Information.{rule_info_of}
use Rattle.ts_db.specs.Store.{rules_by}

-- one rule more is told
pub told-more : (names : Id → Key) (rs : List Rule) (told : List RuleInfo) (i : ℕ) (r : Rule) (x : RuleInfo) → take (i + 1) rs ≡ take i rs ++ r ∷ []
    → map rule_info_of told ≡ map stored_rule_info (rules_by names (take i rs)) → rule_info_of x ≡ stored_rule_info (stored_rule_for (names r.dest) r)
    → map rule_info_of (told ++ x ∷ []) ≡ map stored_rule_info (rules_by names (take (i + 1) rs))
told-more names rs told i r x more so_far one =
    each told (x ∷ []) ∙ (λ j. so_far j ++ one j ∷ []) ∙ sym (ap (λ (l : List Rule). map stored_rule_info (rules_by names l)) more ∙ all (take i rs))
  where
    each : (xs ys : List RuleInfo) → map rule_info_of (xs ++ ys) ≡ map rule_info_of xs ++ map rule_info_of ys
    each [] ys = refl
    each (y ∷ xs) ys = ap (λ (l : List response.RuleInfo). rule_info_of y ∷ l) (each xs ys)

    all : (ps : List Rule) → map stored_rule_info (rules_by names (ps ++ r ∷ [])) ≡ map stored_rule_info (rules_by names ps) ++ stored_rule_info (stored_rule_for (names r.dest) r) ∷ []
    all [] = refl
    all (p ∷ ps) = ap (λ (l : List response.RuleInfo). stored_rule_info (stored_rule_for (names p.dest) p) ∷ l) (all ps)
