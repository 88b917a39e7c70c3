use Rattle.std.proofs.Common.{◌≡◌, Bool, take, sym, ◌∙◌, ap}
use Rattle.std.specs.Prelude.{nat_lt, Option}
use Rattle.std.specs.Option.{option_or}
use Rattle.ts_spec.specs.Sample.{Point, at_times, last_of}
use Rattle.ts_range.specs.Empty.{known_before}
use Rattle.ts_range.specs.AskedSamples.{last_before}
use Rattle.ts_range.proofs.Around.{last-at}
use Rattle.ts_range.proofs.fill_plan.before.Goals as goal
use Rattle.ts_range.proofs.fill_plan.before.Goals.{After-last}

-- the last one of the samples before the start
last_one : (c : After-last) → last_of (take c.lower_bound.result c.as_slice-samples.result.now) ≡ last_before c.args.start c.args.asked.now.rows.items
last_one c = ap last_of (c.lower_bound.ensures.before ∙ ap (at_times (λ t. nat_lt t c.args.start)) c.as_slice-samples.ensures.value)

pub returns-in-Some : goal.returns-in-Some
returns-in-Some c =
    let front = take c.lower_bound.result c.as_slice-samples.result.now in
    let asked = c.args.asked.now in
    ap (λ (o : Option Point). option_or o asked.prior) (c.in-Some.ensures.value ∙ sym (last-at front) ∙ last_one (goal.at.returns-in-Some c).After-last)
    ∙ ap (λ (b : Bool). known_before b c.args.start asked) (sym c.if-first.false)

pub returns-in-None : goal.returns-in-None
returns-in-None c =
    let front = take c.lower_bound.result c.as_slice-samples.result.now in
    let asked = c.args.asked.now in
    ap (λ (o : Option Point). option_or o asked.prior) (c.in-None.ensures.value ∙ sym (last-at front) ∙ last_one (goal.at.returns-in-None c).After-last)
    ∙ ap (λ (b : Bool). known_before b c.args.start asked) (sym c.if-first.false)
