use Rattle.std.proofs.Common.{◌∙◌, List, ap}
use Rattle.std.specs.Borrow.{Bor}
use Rattle.ts_spec.specs.Filter.{Filter, all_hold}
use Rattle.ts_index.specs.Selecting.{lent}
use Rattle.ts_index.proofs.DistinctLemmas.{all-push, all-repeated}
use Rattle.ts_index.proofs.distinct.add.Goals as goal

pub returns-then-repeats_last-clause-same : goal.returns-then-repeats_last-clause-same
returns-then-repeats_last-clause-same c = rw c.as_slice.ensures.value at (all-repeated c.as_slice.result.now c.args.filter.now (c.repeats_last.ensures c.if-repeats_last.true))

pub returns-clause-same : goal.returns-clause-same
returns-clause-same c = λ labels. ap (λ (bs : List (Bor Filter)). all_hold (lent bs) labels) c.in_ok-push.ensures.items ∙ all-push c.args.kept.now.items c.args.filter labels
