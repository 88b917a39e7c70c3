use Rattle.std.proofs.Common.{◌≡◌, length, rules, arith}
use Rattle.std.specs.Prelude.{vec_len}
use Rattle.ts_chunk_packed.proofs.Joining.{bytes_within, front_length, front_count}
use Rattle.ts_chunk_packed.proofs.chunk.PackedChunk.place_of.Goals as goal

pub overflow_sub-result : goal.overflow_sub-result
overflow_sub-result c =
    let len : vec_len c.self.inside.bytes ≡ length c.self.inside.bytes.items = search rules in
    omega (arith, bytes_within c.self.invariant.packed c.self.view_is c.requires c.bytes.ensures, c.len.ensures, len)

pub returns : goal.returns
returns c = λ of.
    let len : vec_len c.self.inside.bytes ≡ length c.self.inside.bytes.items = search rules in
    record {
      bytes = omega (arith, len, c.len.ensures, front_length c.self.invariant.packed c.self.view_is of c.bytes.ensures);
      samples = omega (arith, c.len-2.ensures, front_count c.self.invariant.packed c.self.view_is of c.bytes.ensures);
    }
