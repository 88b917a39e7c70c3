use Rattle.std.proofs.Common.{◌≡◌, ◌-◌, ◌==◌, ◌++◌, ◌∙◌, ap, sym, subst, length, take, if◌then◌else◌, rules, arith}
use Rattle.std.specs.Prelude.{None, Some, vec_capacity, vec_len}
use Rattle.ts_chunk_packed.specs.Chunk.{IsPacked}
use Rattle.ts_chunk_packed.specs.Marks.{AreMarks}
use Rattle.ts_chunk_packed.specs.Packed.{State, begin, state_from, samples_of}
use Rattle.ts_chunk_packed.proofs.Joining.{bytes_within, count_within, front_chunk, front_list}
use Rattle.ts_chunk_packed.proofs.chunk.PackedChunk.all_before.Goals as goal
use Rattle.ts_chunk_packed.proofs.chunk.PackedChunk.all_before.Goals.{After-last}

-- the bytes that are copied, and the samples in them
bytes_before : (c : After-last) → c.extend_from_slice.new.self.items ≡ take (length c.self.inside.bytes.items - length c.bytes.result.now) c.self.inside.bytes.items
bytes_before c =
    let f = c.self.inside in
    let len : vec_len f.bytes ≡ length f.bytes.items = search rules in
    c.in_ok-extend_from_slice.ensures.items
    ∙ (λ i. c.in_ok-bytes.ensures.items i ++ (c.split_at.ensures.front ∙ (λ j. take ((c.len.ensures ∙ len) j - length c.bytes.result.now) (c.deref.ensures.value j))) i)

list_before : (c : After-last) → samples_of (c.self.inside.count - c.len-2.result) c.extend_from_slice.new.self.items ≡ c.requires.rest.front
list_before c =
    ap (λ n. samples_of (c.self.inside.count - n) c.extend_from_slice.new.self.items) c.len-2.ensures
    ∙ front_list c.self.invariant.packed c.self.view_is c.requires.rest c.bytes.ensures (bytes_before c)

pub overflow_sub-len : goal.overflow_sub-len
overflow_sub-len c = omega (arith, bytes_within c.self.invariant.packed c.self.view_is c.requires.rest c.bytes.ensures, c.len.ensures)

pub overflow_sub-count : goal.overflow_sub-count
overflow_sub-count c = omega (arith, count_within c.self.invariant.packed c.self.view_is c.requires.rest c.bytes.ensures, c.len-2.ensures)

pub invariant_of-result : goal.invariant_of-result
invariant_of-result c =
    let f = c.self.inside in
    let now = (goal.at.invariant_of-result c).After-last in
    let grown = c.extend_from_slice.new.self in
    let packed : IsPacked f.limit (vec_capacity grown) grown.items (f.count - c.len-2.result) c.step.result c.kept_first.result c.last.result =
    subst (λ n. IsPacked f.limit (vec_capacity grown) grown.items (f.count - n) c.step.result c.kept_first.result c.last.result) (sym c.len-2.ensures)
    (front_chunk c.self.invariant.packed c.self.view_is c.requires.rest c.bytes.ensures (omega (arith, c.in_ok-bytes.ensures.capacity, c.extend_from_slice.ensures.capacity)) (bytes_before now)
    (c.step.ensures ∙ ap (λ (s : State). s.step) c.context-context.ensures)
    (c.kept_first.ensures ∙ ap (λ n. if f.count - n == 0 then None else f.first) c.len-2.ensures)
    (c.last.ensures ∙ ap (λ (s : State). if s.begun then Some s.before else None) c.context-context.ensures)) in
    record { packed = packed; marks = subst (λ l. AreMarks l c.args.marks) (sym (list_before now)) (c.requires.marks c.requires.rest) }

pub returns-clause-whole : goal.returns-clause-whole
returns-clause-whole c = ap (λ l. l ++ c.args.rest.now.list) (list_before (goal.at.returns-clause-whole c).After-last) ∙ sym c.requires.rest.whole

pub returns-clause-state : goal.returns-clause-state
returns-clause-state c = c.requires.rest.state ∙ ap (state_from begin) (sym (list_before (goal.at.returns-clause-state c).After-last))
