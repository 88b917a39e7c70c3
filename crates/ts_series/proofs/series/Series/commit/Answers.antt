use Rattle.std.proofs.Common.{sym, ◌∙◌, ap, subst}
use Rattle.std.specs.Option.{unwrap_or}
use Rattle.ts_series.specs.Encoded.{history_in, plan_in, HasEncoding}
use Rattle.ts_series.specs.History.{History}
use Rattle.ts_series.specs.Plan.{Plan}
use Rattle.ts_series.proofs.series.Series.commit.Goals as goal

pub invariant_of-self : goal.invariant_of-self
invariant_of-self c =
    let line = c.in-Plain.line in
    let plan = c.in-Plain-plans.plan-is ∙ sym (ap plan_in c.in-Plain-plans.is) ∙ c.plan.view_is in
    let series = sym (ap history_in c.in-Plain.is) ∙ c.self.view_is in
    ap (λ (h : History). h.options.encoding) c.commit.ensures.done
    ∙ ap (λ (p : Plan). (unwrap_or p.options line.options).encoding) plan
    ∙ ap (λ (h : History). (unwrap_or c.args.plan.options h.options).encoding) series
    ∙ c.requires.stays
    ∙ ap (λ (h : History). h.options.encoding) (sym series)
    ∙ subst HasEncoding c.in-Plain.is c.self.invariant

pub invariant_of-self-in-Packed-plans : goal.invariant_of-self-in-Packed-plans
invariant_of-self-in-Packed-plans c =
    let line = c.in-Packed.line in
    let plan = c.in-Packed-plans.plan-is ∙ sym (ap plan_in c.in-Packed-plans.is) ∙ c.plan.view_is in
    let series = sym (ap history_in c.in-Packed.is) ∙ c.self.view_is in
    ap (λ (h : History). h.options.encoding) c.commit-in-Packed-plans.ensures.done
    ∙ ap (λ (p : Plan). (unwrap_or p.options line.options).encoding) plan
    ∙ ap (λ (h : History). (unwrap_or c.args.plan.options h.options).encoding) series
    ∙ c.requires.stays
    ∙ ap (λ (h : History). h.options.encoding) (sym series)
    ∙ subst HasEncoding c.in-Packed.is c.self.invariant
