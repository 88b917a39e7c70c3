use Rattle.std.proofs.Common.{◌≡◌, ◌∙◌, ap, length, nat_le, rules, arith}
use Rattle.std.specs.Prelude.{◌-◌}
use Rattle.ts_chunk_packed.specs.Packed.{State, coded}
use Rattle.ts_chunk_packed.proofs.Pushing.{surely_fits, fits_more, later}
use Rattle.ts_chunk_packed.proofs.chunk.PackedChunkChunk.fits.Goals as goal

pub returns-then-room-ge-MAX_SAMPLE_BYTES : goal.returns-then-room-ge-MAX_SAMPLE_BYTES
returns-then-room-ge-MAX_SAMPLE_BYTES c =
    let f = c.self.inside in
    let len : c.len.result ≡ length f.bytes.items = search rules in
    surely_fits c.self.invariant.packed c.self.view_is c.args.sample.now c.known.ensures c.requires.past (omega arith)

pub width_of-requires : goal.width_of-requires
width_of-requires c =
    let f = c.self.inside in
    omega (
      arith,
      ap (λ (s : State). s.before.time) c.context.ensures,
      later c.self.invariant.packed c.self.view_is c.args.sample.now.time c.requires.past,
    )

pub returns : goal.returns
returns c =
    let f = c.self.inside in
    let len : c.len.result ≡ length f.bytes.items = search rules in
    let width = c.width_of.ensures ∙ ap (λ (s : State). length (coded s c.args.sample.now)) c.context.ensures in
    ap (λ n. nat_le c.width_of.result (f.limit - n)) len
    ∙ fits_more c.self.invariant.packed c.self.view_is c.args.sample.now c.width_of.result width
