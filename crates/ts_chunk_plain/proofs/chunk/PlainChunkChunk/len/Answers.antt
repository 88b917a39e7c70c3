use Rattle.std.proofs.Common.{◌≡◌, ◌/◌, ◌∙◌, ap, length, rules}
use Rattle.ts_chunk_plain.specs.Chunk.{Samples}
use Rattle.ts_chunk_plain.proofs.Pushing.{count_of}
use Rattle.ts_chunk_plain.proofs.chunk.PlainChunkChunk.len.Goals as goal

pub returns : goal.returns
returns c =
    let written = c.self.inside.bytes.items in
    let len : c.len.result ≡ length written = search rules in
    ap (λ n. n / 28) len ∙ count_of written c.self.invariant.bytes ∙ ap (λ (x : Samples). length x.list) c.self.view_is
