use Rattle.std.proofs.Common.{ℕ, ◌≡◌, ◌∙◌, ap, List}
use Rattle.std.proofs.lemmas.List.Sorted.{IsNonDecreasingBy-from_sort}
use Rattle.ts_spec.specs.Answer.{contains_time}
use Rattle.ts_range.proofs.Listed.{listed_alike}
use Rattle.ts_range.proofs.filters.sorted.Goals as goal

pub returns-clause-rising : goal.returns-clause-rising
returns-clause-rising c = IsNonDecreasingBy-from_sort (λ t. t) _ c.sort_unstable.ensures.sorted

pub returns-clause-same : goal.returns-clause-same
returns-clause-same c = λ t.
    let copied : c.in_ok-sorted.sorted.items ≡ c.args.times.now = c.in_ok-sorted.ensures.items_if_clones_equal (λ x y h. h) in
    listed_alike c.in_ok-sorted.sorted.items _ t c.sort_unstable.ensures.permutation ∙ ap (λ (us : List ℕ). contains_time us t) copied
