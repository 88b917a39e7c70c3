use Rattle.std.proofs.Common.{[]}
use Rattle.ts_group.proofs.rows.GroupRows.collect_rows.Goals as goal

pub returns : goal.returns
returns c = c.into_rows.ensures c.args.self (c.emit_rows.ensures.taken [] c.in_ok-row_sink.ensures)
