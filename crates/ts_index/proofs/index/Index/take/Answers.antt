use Rattle.ts_index.specs.Selecting.{lent}
use Rattle.ts_index.proofs.SelectLemmas.{only-asked}
use Rattle.ts_index.proofs.index.Index.take.Goals as goal

pub collect_matching-requires-clause-same : goal.collect_matching-requires-clause-same
collect_matching-requires-clause-same g c = only-asked (lent c.args.tests.now) c.args.filters.now c.in-Some.filter.now c.in-Some.ensures.alone c.requires.same
