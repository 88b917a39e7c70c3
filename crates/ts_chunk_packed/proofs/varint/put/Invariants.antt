use Rattle.std.proofs.Common.{◌≡◌, ◌+◌, ◌≤◌, ◌++◌, length, vec_len, vec_capacity}
use Rattle.ts_chunk_packed.specs.Packed.{number}
use Rattle.ts_chunk_packed.proofs.varint.put.Given as goal

abbrev pub invariant-loop-rest : goal.invariant-loop-rest
invariant-loop-rest l = record {
  items : l.bytes.items ++ number l.rest ≡ l.fn.bytes.items ++ number l.natural;
  len : vec_len l.bytes + length (number l.rest) ≡ vec_len l.fn.bytes + length (number l.natural);
  room : vec_len l.bytes + length (number l.rest) ≤ vec_capacity l.bytes;
  capacity : vec_capacity l.bytes ≡ vec_capacity l.fn.bytes;
}

abbrev pub decreases-loop-rest : goal.decreases-loop-rest
decreases-loop-rest l = l.rest
