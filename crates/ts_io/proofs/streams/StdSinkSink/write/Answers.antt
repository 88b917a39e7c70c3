use Rattle.std.proofs.Common.{ℕ, [], sym, subst}
use Rattle.ts_io.specs.Adapters.{HoldsAcknowledged}
use Rattle.ts_io.specs.Sinks.{Grows}
use Rattle.ts_io.proofs.Holding.{holds_flushed, holds_unflushed}
use Rattle.ts_io.proofs.streams.StdSinkSink.write.Goals as goal

pub returns-in-Ok-clause-bytes : goal.returns-in-Ok-clause-bytes
returns-in-Ok-clause-bytes g c = holds_flushed _ _ _ _ c.in-Ok.ensures.flushed

pub returns-in-Err-clause-bytes : goal.returns-in-Err-clause-bytes
returns-in-Err-clause-bytes g c =
    let old = g.W.Write.contents c.args.self.now.inner in
    let new = g.W.Write.contents c.write_and_flush.new.writer in
    let grown = holds_unflushed old new c.args.self.now.unacknowledged c.in-Err.unflushed c.args.bytes.now c.in-Err.ensures.unflushed.0 c.in-Err.ensures.unflushed.1 in
    subst (λ (k : ℕ). Grows (HoldsAcknowledged old c.args.self.now.unacknowledged) (HoldsAcknowledged new k) []) (sym c.saturating_add-self.ensures) grown
