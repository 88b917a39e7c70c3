use Rattle.std.proofs.Common.{◌<◌, ◌+◌, length, sym, arith, subst}
use Rattle.ts_range.specs.FillPlan.{FillPlan}
use Rattle.ts_range.proofs.LastRow.{opened, there}
use Rattle.ts_range.proofs.last_values.open_next.Goals as goal

pub returns-clause-current : goal.returns-clause-current
returns-clause-current g c = λ v lo hi same line is next at.
    let current = c.args.current.now in
    let few : current.place.told + 1 < length v.filling.starts = subst (λ (f : FillPlan). current.place.told + 1 < length f.starts) (sym same) c.requires.next in
    let here = there lo hi v line current.place.told (omega arith) in
    opened lo hi v line (g.T.RowSink.has c.args.row_sink.now) (g.T.RowSink.has c.emit_row.new.row_sink) current here.0 next here.1 at (is here.0 here.1) (c.emit_row.ensures v lo hi same line is)
