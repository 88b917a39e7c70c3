use Rattle.std.proofs.Common.{◌∙◌, List, ap, sym}
use Rattle.std.specs.Borrow.{Bor}
use Rattle.ts_spec.specs.Filter.{Filter, all_hold}
use Rattle.ts_index.specs.Selecting.{lent}
use Rattle.ts_index.proofs.DistinctLemmas.{last-asked}
use Rattle.ts_index.proofs.distinct.repeats_last.Goals as goal

pub returns-in-Equal : goal.returns-in-Equal
returns-in-Equal c = λ is labels all.
    sym (c.compare.ensures c.in-Equal.is labels)
    ∙ last-asked c.in-Some.field-0-1.now c.in-Some.last.now labels (ap (λ (bs : List (Bor Filter)). all_hold (lent bs) labels) (sym c.in-Some.ensures.cases.0) ∙ all)
