use Rattle.std.proofs.Common.{arith}
use Rattle.ts_index.proofs.DistinctLemmas.{kept-next}
use Rattle.ts_index.proofs.distinct.distinct.Goals as goal

pub loop-filter-preserved : goal.loop-filter-preserved
loop-filter-preserved c = record {
  same = kept-next c.add.new.kept.items c.loop-filter.kept.items c.as_slice-filter-items.result.now c.loop-filter.filter-index c.filter-item.result c.loop-filter-test.true c.filter-item.is
      c.in_ok-add.ensures.same c.loop-filter.invariant.same;
  few = omega (arith, c.in_ok-add.ensures.few, c.loop-filter.invariant.few);
}
