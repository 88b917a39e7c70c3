-- A sample is counted in the open buckets of rules, one rule after another.
use Rattle.std.proofs.Common.{◌≡◌, ◌+◌, ◌<◌, ℕ, List, [], ◌∷◌, ◌++◌, length, take, drop, get_or, slice_set, sym, ◌∙◌, subst, arith}
use Rattle.std.proofs.lemmas.List.{take_more, take_more_set, drop_more, drop-set-lt}
use Rattle.std.proofs.lemmas.Grind.{drop_more_same}
use Rattle.ts_spec.specs.StoredSeries.{StoredRule}
use Rattle.ts_rules.specs.declared.rule.Rule.{Rule}
use Rattle.ts_rules.specs.Rules.{IsChanged}
use Rattle.ts_db.specs.Planning.{AreChanged}
use Rattle.ts_db.proofs.Plans.{changed-more}

-- the rule at a place changes, and those after it are unchanged
same-rule : (all now : List Rule) (i : ℕ) (d : Rule) → i < length all → i < length now → drop i now ≡ drop i all → get_or now i d ≡ get_or all i d
same-rule all now i d a b same =
    let heads : get_or now i d ∷ drop (i + 1) now ≡ get_or all i d ∷ drop (i + 1) all = sym (drop_more now i d b) ∙ same ∙ drop_more all i d a in
    cc heads

pub one-more : (change : StoredRule → StoredRule) (all now : List Rule) (i : ℕ) (d y : Rule) → i < length all → i < length now → drop i now ≡ drop i all
    → AreChanged change (take i all) (take i now) → IsChanged change (get_or now i d) y → AreChanged change (take (i + 1) all) (take (i + 1) (slice_set now i y))
one-more change all now i d y a b same done one =
    subst (λ (rs : List Rule). AreChanged change rs (take (i + 1) (slice_set now i y))) (sym (take_more all i d a))
    (subst (λ (xs : List Rule). AreChanged change (take i all ++ get_or all i d ∷ []) xs) (sym (take_more_set now i y b))
    (changed-more change (take i all) (take i now) (get_or all i d) y done (subst (λ (r : Rule). IsChanged change r y) (same-rule all now i d a b same) one)))

pub others-same : (all now : List Rule) (i : ℕ) (y : Rule) → drop i now ≡ drop i all → drop (i + 1) (slice_set now i y) ≡ drop (i + 1) all
others-same all now i y same = drop-set-lt (i + 1) now i y (omega arith) ∙ drop_more_same now all i same
