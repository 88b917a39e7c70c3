use Rattle.std.proofs.Common.{[], length, sym, subst, arith}
use Rattle.std.proofs.lemmas.List.{take_all}
use Rattle.ts_io.specs.Batches.{Holds}
use Rattle.ts_io.specs.Sinks.{Grows}
use Rattle.ts_io.proofs.Batching.{holds_gathered}
use Rattle.ts_io.proofs.Growth.{grows_twice}
use Rattle.ts_io.proofs.batches.Batches.enqueue.Goals as goal

pub returns-in-Ok-clause-bytes : goal.returns-in-Ok-clause-bytes
returns-in-Ok-clause-bytes g c = subst (Grows (Holds (g.C.Connection.has c.args.self.now.connection) c.args.self.now.waiting) (Holds (g.C.Connection.has c.loop-self.self.connection) c.push.new.self))
    (sym (take_all (length c.args.bytes.now) c.args.bytes.now (omega arith)))
    (grows_twice _ _ _ [] c.args.bytes.now c.loop-self.invariant.has (holds_gathered _ _ _ _ c.in-Ok.ensures.all))
