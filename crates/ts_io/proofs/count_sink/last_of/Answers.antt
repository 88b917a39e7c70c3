use Rattle.std.proofs.Common.{sym, arith}
use Rattle.ts_io.proofs.Counting.{last_is}
use Rattle.ts_io.proofs.count_sink.last_of.Goals as goal

pub returns-in-len1-up : goal.returns-in-len1-up
returns-in-len1-up c = sym (last_is c.args.before c.args.bytes.now (omega arith))
