use Rattle.std.proofs.Common.{ℕ, ◌∙◌, ap, sym, subst, List, Option, Vec, Global, option_map}
use Rattle.std.specs.List.Sorted.{IsNonDecreasing}
use Rattle.ts_spec.specs.Answer.{contains_time, passes_time_filter}
use Rattle.ts_sample.proofs.Listed.{listed-by-search}
use Rattle.ts_range.proofs.filters.Filters.passes_time.Goals as goal

pub returns-in-Some : goal.returns-in-Some
returns-in-Some c =
    let rising : IsNonDecreasing c.in-Some.times.items = c.args.self.now.times_rise c.in-Some.times c.in-Some.is in
    let items = c.deref.ensures.value in
    c.is_ok.ensures.value
    ∙ listed-by-search c.deref.result.now c.args.time c.binary_search.result (subst IsNonDecreasing (sym items) rising) c.binary_search.ensures.position
    ∙ ap (λ (us : List ℕ). contains_time us c.args.time) items
    ∙ ap (λ (o : Option (Vec ℕ Global)). passes_time_filter (option_map (λ times. times.items) o) c.args.time) (sym c.in-Some.is)
