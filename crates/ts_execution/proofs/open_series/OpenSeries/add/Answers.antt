use Rattle.std.proofs.Common.{◌≡◌, subst, None}
use Rattle.ts_checkpoint.specs.Loading.{OpenSeries, with_open, with_samples}
use Rattle.ts_checkpoint.specs.Unpacked.{unpacked}
use Rattle.ts_execution.specs.SeriesChunks.{open_series}
use Rattle.ts_execution.proofs.OpenChunks.{chunk-added, chunk-refused, restored-after}
use Rattle.ts_execution.proofs.open_series.OpenSeries.add.Goals as goal

pub invariant_of-self : goal.invariant_of-self
invariant_of-self c =
    let made = c.restore_chunk.ensures in
    restored-after c.self.inside.series c.restore_chunk.new.self c.args.piece.now.limit c.bytes.result.now c.restore_chunk.result c.self.invariant made.restored made.unchanged made.kept

pub returns-clause-added : goal.returns-clause-added
returns-clause-added c = λ done limits m.
    let s = c.self.inside in
    let limit = c.args.piece.now.limit in
    let its : with_samples limits m (open_series s.key s.labels s.pieces s.series) limit (unpacked c.bytes.result.now) ≡ with_open limits m (open_series s.key s.labels s.pieces c.restore_chunk.new.self) =
    chunk-added s.key s.labels s.pieces s.series c.self.invariant (c.checks_are_exact.ensures.chunk _ _) c.packed_chunks_unpack.ensures.packed c.packed_chunks_unpack.ensures.unpacked
    limit c.bytes.result.now c.restore_chunk.new.self (c.restore_chunk.ensures.restored done) limits m in
    subst (λ (o : OpenSeries). with_samples limits m o limit (unpacked c.args.piece.now.samples) ≡ with_open limits m (open_series s.key s.labels s.pieces c.restore_chunk.new.self)) c.self.view_is
    (rw c.bytes.ensures at its)

pub returns-clause-refused : goal.returns-clause-refused
returns-clause-refused c = λ none limits m.
    let s = c.self.inside in
    let limit = c.args.piece.now.limit in
    let its : with_samples limits m (open_series s.key s.labels s.pieces s.series) limit (unpacked c.bytes.result.now) ≡ None =
    chunk-refused s.key s.labels s.pieces s.series c.self.invariant (c.checks_are_exact.ensures.chunk _ _) c.packed_chunks_unpack.ensures.packed c.packed_chunks_unpack.ensures.unpacked
    limit c.bytes.result.now (c.restore_chunk.ensures.refused none) limits m in
    subst (λ (o : OpenSeries). with_samples limits m o limit (unpacked c.args.piece.now.samples) ≡ None) c.self.view_is (rw c.bytes.ensures at its)
