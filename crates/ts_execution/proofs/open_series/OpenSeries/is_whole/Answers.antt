use Rattle.std.proofs.Common.{◌==◌, ◌∙◌, sym, ap, length}
use Rattle.ts_checkpoint.specs.Loading.{OpenSeries}
use Rattle.ts_execution.proofs.OpenChunks.{chunk-count}
use Rattle.ts_execution.proofs.open_series.OpenSeries.is_whole.Goals as goal

pub returns : goal.returns
returns c =
    let s = c.self.inside in
    ap (λ n. n == s.pieces) (c.chunk_count.ensures.count ∙ sym (chunk-count s.key s.labels s.pieces s.series c.self.invariant))
    ∙ ap (λ (o : OpenSeries). length o.chunks == o.head.pieces) c.self.view_is
