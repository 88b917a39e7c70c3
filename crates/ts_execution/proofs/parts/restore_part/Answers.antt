use Rattle.std.proofs.Common.{◌≡◌, sym, ◌∙◌, refl, ap, subst, inl, inr, None, Some}
use Rattle.std.specs.Prelude.{Option}
use Rattle.ts_db.specs.DbState.{DbState}
use Rattle.ts_checkpoint.specs.Loading.{OpenSeries, with_open, restore_by}
use Rattle.ts_checkpoint.specs.Parts.{value_of}
use Rattle.ts_checkpoint.specs.declared.part.Part.{Part}
use Rattle.ts_execution.specs.Stages.{GivesRestored, TakesPart}
use Rattle.ts_execution.specs.declared.parts.PartResult.{PartResult}
use Rattle.ts_execution.proofs.Carried.{carries_none, carries_as}
use Rattle.ts_execution.proofs.parts.restore_part.Goals as goal

-- the same for equal values
takes-same : (result : PartResult) (was was' : Option OpenSeries) (p p' : Part) (from to : DbState) → was ≡ was' → p ≡ p'
    → TakesPart result was' (Some (value_of p')) from to → TakesPart result was (Some (value_of p)) from to
takes-same result was was' p p' from to current part is =
    subst (λ (o : Option OpenSeries). TakesPart result o (Some (value_of p)) from to) (sym current)
    (subst (λ (q : Part). TakesPart result was' (Some (value_of q)) from to) (sym part) is)

refused-same : (was was' : Option OpenSeries) (p p' : Part) (from : DbState) → was ≡ was' → p ≡ p' → restore_by from.limits from.state was' (value_of p') ≡ None
    → restore_by from.limits from.state was (value_of p) ≡ None
refused-same was was' p p' from current part none =
    ap (λ (o : Option OpenSeries). restore_by from.limits from.state o (value_of p)) current ∙ ap (λ (q : Part). restore_by from.limits from.state was' (value_of q)) part ∙ none

pub returns-in-Series : goal.returns-in-Series
returns-in-Series g c =
    carries_as _ _ _ _
    (λ from to is. takes-same c.go_on.result c.args.current None c.args.part _ from to c.in-None.is c.in-Series.is
    (subst (λ (o : OpenSeries). GivesRestored c.go_on.result (with_open from.limits from.state o) from to) c.new.ensures is))
    c.go_on.ensures

pub returns-in-Rule : goal.returns-in-Rule
returns-in-Rule g c = carries_as _ _ _ _ (λ from to is. takes-same c.restore_rule.result c.args.current None c.args.part _ from to c.in-None.is c.in-Rule.is is) c.restore_rule.ensures

pub returns-in-None : goal.returns-in-None
returns-in-None g c =
    carries_none _ _
    (λ from stands. (
      elim c.in-Head.is [
        | inl head ↦ refused-same c.args.current None c.args.part _ from c.in-None.is head.1 refl
        | inr samples ↦ refused-same c.args.current None c.args.part _ from c.in-None.is samples.1 refl
      ],
      refl,
    ))

pub returns-in-Samples : goal.returns-in-Samples
returns-in-Samples g c =
    carries_as _ _ _ _ (λ from to is. takes-same c.restore_samples.result c.args.current (Some c.in-Some.series) c.args.part _ from to c.in-Some.is c.in-Samples.is is) c.restore_samples.ensures

pub returns : goal.returns
returns g c =
    carries_none _ _
    (λ from stands. (
      elim c.in-Head-part.is [
        | inl head ↦ refused-same c.args.current (Some c.in-Some.series) c.args.part _ from c.in-Some.is head.1 refl
        | inr (inl series) ↦ refused-same c.args.current (Some c.in-Some.series) c.args.part _ from c.in-Some.is series.1 refl
        | inr (inr rule) ↦ refused-same c.args.current (Some c.in-Some.series) c.args.part _ from c.in-Some.is rule.1 refl
      ],
      refl,
    ))
