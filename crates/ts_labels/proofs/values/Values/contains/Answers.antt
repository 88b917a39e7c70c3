use Rattle.std.proofs.Common.{◌∙◌, List, ℕ, ap, sym, subst}
use Rattle.std.specs.Cmp.Lexicographic.{slice_cmp}
use Rattle.std.specs.List.Sorted.{IsStrictlySortedBy}
use Rattle.std.specs.Ordering.{nat_cmp}
use Rattle.ts_spec.specs.Filter.{is_one_of}
use Rattle.ts_labels.proofs.ValueLemmas.{searched}
use Rattle.ts_labels.proofs.values.Values.contains.Goals as goal

pub returns : goal.returns
returns c =
    let value = c.args.value.now in
    c.is_ok.ensures.value
    ∙ searched c.deref.result.now value c.binary_search.result (subst (λ (values : List (List ℕ)). IsStrictlySortedBy (slice_cmp nat_cmp) values) (sym c.deref.ensures.value) c.self.invariant.ascending)
    c.binary_search.ensures.bound c.binary_search.ensures.position
    ∙ ap (λ (values : List (List ℕ)). is_one_of values value) c.deref.ensures.value
    ∙ c.self.invariant.alike value
    ∙ ap (λ (values : List (List ℕ)). is_one_of values value) c.self.view_is
