use Rattle.std.proofs.Common.{◌≡◌, ◌+◌, ◌∙◌, ap, length, nat_le, rules}
use Rattle.ts_chunk_plain.proofs.Pushing.{fits_more}
use Rattle.ts_chunk_plain.proofs.chunk.PlainChunkChunk.fits.Goals as goal

pub returns : goal.returns
returns c =
    let written = c.self.inside.bytes.items in
    let len : c.len.result ≡ length written = search rules in
    ap (λ n. nat_le (n + 28) c.self.inside.limit) len ∙ fits_more written c.self.invariant.bytes c.self.view_is c.args._sample.now
