use Rattle.std.proofs.Common.{arith}
use Rattle.ts_range.specs.LastValues.{values_of}
use Rattle.ts_range.proofs.LastRow.{none-seen, first-by}
use Rattle.ts_range.proofs.last_values.LastValues.new.Goals as goal

pub invariant_of-result : goal.invariant_of-result
invariant_of-result g c =
    let v = values_of c.args.filters.now c.args.filling c.new.result.points in
    record {
      within = omega arith;
      known = λ lo hi line b is. none-seen (g.T.RowSink.has c.args.row_sink) v c.new.ensures c.requires b;
      begun = λ lo hi t line low upto b is. first-by lo hi v line t low b is;
    }
