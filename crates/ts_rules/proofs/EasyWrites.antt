-- The row of an easy write comes after all samples of the destination.
use Rattle.std.proofs.Common.{◌≡◌, ℕ, ◌<◌, ◌≤◌, Bool, true, false, ◌==◌, if◌then◌else◌, List, [], ◌∷◌, ◌⊎◌, inl, inr, Option, None, Some, refl, sym, ap, ◌∙◌, subst, arith}
use Rattle.std.proofs.lemmas.Bool.{cases_lt}
use Rattle.ts_spec.specs.Sample.{Point, put}
use Rattle.ts_spec.specs.Bucket.{start}
use Rattle.ts_spec.specs.Aggregate.{result_of}
use Rattle.ts_spec.specs.Rules.{is_append}
use Rattle.ts_spec.specs.StoredUpdates.{closing_row}
use Rattle.ts_series.specs.History.{History, list_of}
use Rattle.ts_rules.specs.declared.rule.Rule.{Rule}
use Rattle.ts_rules.specs.Rules.{stored_rule_for}
use Rattle.ts_rules.specs.Writes.{row_for_dest}
use Rattle.ts_rules.specs.Shares.{IsPastAll, IsEasyWrite}
use Rattle.ts_rules.proofs.Written.{row-none, row-here, row-past}

-- the time of the first sample, if there is one
time_of_first : List Point → ℕ
time_of_first [] = 0
time_of_first (p ∷ ps) = p.time

pub easy-row : (limit : ℕ) (r : Rule) (source : History) (p : Point) (dest : History) (born : ℕ) (row : Point) → IsEasyWrite limit r source p dest → row ∷ [] ≡ row_for_dest source p born r → IsPastAll limit dest row.time
unfolding time_of_first
easy-row limit r source p dest born row h told = go r.current refl
  where
    ps : List Point
    ps = put p (list_of source)

    append : Bool
    append = is_append p.time source.high

    no-row : row ∷ [] ≡ [] → ⊥
    no-row e = absurd (cc e)

    go : (o : Option ℕ) → r.current ≡ o → IsPastAll limit dest row.time
    go None e = absurd (no-row (told ∙ row-none append p ps born (stored_rule_for [] r) e))
    go (Some o) e = by-place (cases_lt o (start r.grid p.time))
      where
        closes : (x : Bool) → row ∷ [] ≡ (if x then [] else record { time = o; value = result_of r.agg r.running; made = born } ∷ []) → o < start r.grid p.time → IsPastAll limit dest row.time
        closes true f past = absurd (no-row f)
        closes false f past = subst (IsPastAll limit dest) (sym (ap time_of_first f)) (h.closes o e past)

        by-place : (o < start r.grid p.time) ⊎ (start r.grid p.time ≤ o) → IsPastAll limit dest row.time
        by-place (inl past) = closes (r.running.count == 0) (told ∙ row-past append p ps born (stored_rule_for [] r) o e past ∙ ap (closing_row born (stored_rule_for [] r)) e) past
        by-place (inr upto) = let low : o ≤ start r.grid p.time = h.not_closed o e in absurd (no-row (told ∙ row-here append p ps born (stored_rule_for [] r) o e (omega arith)))
