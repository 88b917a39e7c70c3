use Rattle.std.proofs.Common.{◌≡◌, subst}
use Rattle.std.specs.Prelude.{IfSome}
use Rattle.ts_chunk_packed.specs.Packed.{packed}
use Rattle.ts_series.proofs.Restoring.{refuses}
use Rattle.ts_series.proofs.series_restoring.restore_packed.Goals as goal

pub returns-clause-refused : goal.returns-clause-refused
returns-clause-refused c = λ is.
    let coded = subst (λ o. IfSome o (λ k. packed k.chunk.list ≡ c.args.bytes.now)) c.in-Some.is c.in_ok-restored.ensures.bytes in
    refuses c.args.line.now c.args.limit c.args.bytes.now c.in-Some.restored.chunk.list coded (c.restore_chunk.ensures.refused is)
