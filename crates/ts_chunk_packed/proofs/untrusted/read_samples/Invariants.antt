use Rattle.std.proofs.Common.{length}
use Rattle.ts_chunk_packed.proofs.Restoring.{HasReadTo}
use Rattle.ts_chunk_packed.proofs.untrusted.read_samples.Given as goal

abbrev pub invariant-loop-rest : goal.invariant-loop-rest
invariant-loop-rest l = record { read : HasReadTo l.bytes l.rest l.first l.context l.count l.made }

abbrev pub decreases-loop-rest : goal.decreases-loop-rest
decreases-loop-rest l = length l.rest
