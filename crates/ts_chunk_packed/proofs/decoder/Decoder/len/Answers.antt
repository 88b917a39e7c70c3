use Rattle.std.proofs.Common.{sym, ap, length, ◌∙◌}
use Rattle.ts_chunk_packed.specs.Decoder.{UndecodedList}
use Rattle.ts_chunk_packed.proofs.Resting.{length-samples_from}
use Rattle.ts_chunk_packed.proofs.decoder.Decoder.len.Goals as goal

pub returns : goal.returns
returns c =
    let f = c.self.inside in
    sym (length-samples_from f.context f.count f.bytes.now) ∙ ap (λ (l : UndecodedList). length l.list) c.self.view_is
