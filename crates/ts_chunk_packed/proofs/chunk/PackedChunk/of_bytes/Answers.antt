use Rattle.std.proofs.Common.{◌≡◌, ◌<◌, ◌≤◌, ◌++◌, ◌∙◌, ap, length, rules, arith}
use Rattle.std.specs.Prelude.{vec_capacity}
use Rattle.ts_chunk_packed.specs.Packed.{samples_of}
use Rattle.ts_chunk_packed.proofs.Restoring.{chunk_of, bytes_read, made_by, no_samples, some_coded}
use Rattle.ts_chunk_packed.proofs.chunk.PackedChunk.of_bytes.Goals.{After-new, then-is_empty-via-then-is_empty, then-is_empty-via-else-is_empty+then-bytes-limit}
use Rattle.ts_chunk_packed.proofs.chunk.PackedChunk.of_bytes.Goals as goal

-- the copy has these bytes
same : (c : After-new) → c.extend_from_slice.new.self.items ≡ c.args.bytes.now
same c = c.in_ok-extend_from_slice.ensures.items ∙ ap (λ l. l ++ c.args.bytes.now) c.in_ok-copy.ensures.items

pub invariant_of-chunk : goal.invariant_of-chunk
invariant_of-chunk c =
    let copy = c.extend_from_slice.new.self in
    let room : c.args.limit ≤ vec_capacity copy = omega (arith, c.in_ok-copy.ensures.capacity, c.extend_from_slice.ensures.capacity) in
    record {
      packed = chunk_of c.in-Some.ensures.some c.args.limit (vec_capacity copy) copy.items c.step.result c.last.result c.requires room (omega arith) (same (goal.at.invariant_of-chunk c).After-new) c.step.ensures c.last.ensures;
      marks = c.new.ensures (samples_of c.in-Some.read.count copy.items);
    }

pub returns-then-is_empty-clause-none : goal.returns-then-is_empty-clause-none
returns-then-is_empty-clause-none c =
    λ ps chunk some is.
    elim c.then-is_empty.branch [
      | then-is_empty-via-then-is_empty w ↦ (let none : length c.args.bytes.now ≡ 0 = search rules in no_samples ps c.args.bytes.now some is none)
      | then-is_empty-via-else-is_empty+then-bytes-limit w ↦ absurd (omega (arith, chunk.fits, ap length is))
    ]

pub returns-in_default-clause-none : goal.returns-in_default-clause-none
returns-in_default-clause-none c = λ ps chunk some is. c.in_default.ensures.none ps (record { is = is; fine = chunk.fine; ascending = chunk.ascending })

pub returns-clause-some : goal.returns-clause-some
returns-clause-some c =
    let now = (goal.at.returns-clause-some c).After-new in
    let some : 0 < length c.args.bytes.now = search rules in
    some_coded _ c.args.bytes.now (bytes_read c.in-Some.ensures.some c.extend_from_slice.new.self.items (same now)) some

pub returns-clause-bytes : goal.returns-clause-bytes
returns-clause-bytes c = bytes_read c.in-Some.ensures.some c.extend_from_slice.new.self.items (same (goal.at.returns-clause-bytes c).After-new)

pub returns-clause-made : goal.returns-clause-made
returns-clause-made c = made_by c.in-Some.ensures.some c.extend_from_slice.new.self.items (same (goal.at.returns-clause-made c).After-new)
