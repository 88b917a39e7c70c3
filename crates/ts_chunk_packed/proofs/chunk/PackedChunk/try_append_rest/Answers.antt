use Rattle.std.proofs.Common.{◌≡◌, ◌+◌, ◌<◌, ◌≤◌, ◌++◌, ◌∙◌, ap, sym, subst, cond, length, rules, arith}
use Rattle.std.specs.Prelude.{vec_capacity, vec_len, is_ok}
use Rattle.ts_spec.specs.Sample.{last_of}
use Rattle.ts_chunk_packed.specs.Chunk.{Samples}
use Rattle.ts_chunk_packed.specs.Marks.{AreMarks, EndsAt}
use Rattle.ts_chunk_packed.specs.Packed.{begin, state_from}
use Rattle.ts_chunk_packed.proofs.Marking.{marks_on}
use Rattle.ts_chunk_packed.proofs.Starting.{marks_are, end_known}
use Rattle.ts_chunk_packed.proofs.Pushing.{written_within}
use Rattle.ts_chunk_packed.proofs.Joining.{written_is, count_is, some_left, last-known, same_list, same_fits, does_not_fit, does_fit, few_more, joined_chunk, joined_list}
use Rattle.ts_chunk_packed.proofs.chunk.PackedChunk.try_append_rest.Goals as goal
use Rattle.ts_chunk_packed.proofs.chunk.PackedChunk.try_append_rest.Goals.{After-place_of-from, After-unwrap}

pub returns-then-is_empty-clause-fits : goal.returns-then-is_empty-clause-fits
returns-then-is_empty-clause-fits c =
    let none : length c.bytes-bytes.result.now ≡ 0 = search rules in
    same_fits c.self.invariant.packed c.self.view_is c.requires.some c.args.rest.now c.requires.ascending c.known.ensures c.bytes-bytes.ensures none

pub returns-then-is_empty-clause-list : goal.returns-then-is_empty-clause-list
returns-then-is_empty-clause-list c =
    let none : length c.bytes-bytes.result.now ≡ 0 = search rules in
    same_list c.self.invariant.packed c.self.view_is c.requires.some c.args.rest.now c.requires.ascending c.known.ensures c.bytes-bytes.ensures none

pub returns-then-bytes-room-clause-fits : goal.returns-then-bytes-room-clause-fits
returns-then-bytes-room-clause-fits c =
    let any : 0 < length c.bytes-bytes.result.now = search rules in
    let len : c.len.result ≡ length c.self.inside.bytes.items = search rules in
    does_not_fit c.self.invariant.packed c.self.view_is c.requires.some c.args.rest.now c.requires.ascending c.known.ensures c.bytes-bytes.ensures c.requires.alike any
    (omega (arith, len, c.if-bytes-room.true, written_within c.self.invariant.packed))

-- there is something to append, and it fits
any : (c : After-place_of-from) → 0 < length c.bytes-bytes.result.now
any c = search rules

fits : (c : After-place_of-from) → length c.self.inside.bytes.items + length c.bytes-bytes.result.now ≤ c.self.inside.limit
fits c =
    let len : c.len.result ≡ length c.self.inside.bytes.items = search rules in
    omega (arith, len, c.if-bytes-room.false, written_within c.self.invariant.packed)

pub unwrap-requires : goal.unwrap-requires
unwrap-requires c =
    let room : vec_len c.self.inside.bytes ≡ length c.self.inside.bytes.items = search rules in
    c.extend_from_slice.ensures.succeeds (omega (arith, room, fits (goal.at.unwrap-requires c).After-place_of-from, c.self.invariant.packed.room))

pub overflow_add-self : goal.overflow_add-self
overflow_add-self c =
    let at = (goal.at.overflow_add-self c).After-place_of-from in
    let few = few_more c.self.invariant.packed c.self.view_is c.requires.some c.args.rest.now c.requires.ascending c.known.ensures c.bytes-bytes.ensures c.requires.alike (any at) (fits at) in
    omega (arith, few, c.len-3.ensures)

grown : (c : After-unwrap) → c.extend_from_slice.new.self.items ≡ c.self.inside.bytes.items ++ c.bytes-bytes.result.now
grown c =
    let old = c.self.inside.bytes.items in
    c.extend_from_slice.ensures.items ∙ ap (λ r. cond (is_ok r) (old ++ c.bytes-bytes.result.now) old) c.unwrap.ensures

pub invariant_of-self : goal.invariant_of-self
invariant_of-self c =
    let f = c.self.inside in
    let at = goal.at.invariant_of-self c in
    let more = any at.After-place_of-from in
    let items = grown at.After-unwrap in
    let len : c.len-2.result ≡ length f.bytes.items = search rules in
    let now = c.args.self.now in
    let other = c.args.other.now in
    let rest = c.args.rest.now in
    let of = c.requires.of in
    let was = c.self.invariant.packed in
    let some = some_left was c.self.view_is c.requires.some rest c.requires.ascending c.known.ensures c.bytes-bytes.ensures c.requires.alike more in
    let list = joined_list was c.self.view_is c.requires.some rest c.requires.ascending c.known.ensures c.bytes-bytes.ensures c.requires.alike more c.len-3.result
    c.extend_from_slice.new.self.items c.len-3.ensures items in
    let ends : EndsAt now.list c.len-2.result f.count = record { bytes = omega (arith, len, ap length (written_is was c.self.view_is)); samples = count_is was c.self.view_is } in
    let old = subst (λ l. AreMarks l c.other.inside.marks) of.whole (marks_are c.other.invariant c.other.view_is) in
    let own = marks_on now.list rest.list f.marks (marks_are c.self.invariant c.self.view_is) in
    let moved = c.keep_moved.ensures of.front now.list rest.list (c.place_of-from.ensures of) ends (sym of.state ∙ sym (c.requires.alike some)) old own in
    record {
      packed = joined_chunk was c.self.view_is c.requires.some rest c.requires.ascending c.known.ensures c.bytes-bytes.ensures c.requires.alike more
          (vec_capacity c.extend_from_slice.new.self) c.extend_from_slice.new.self.items c.len-3.result c.other.inside.step c.other.inside.last (state_from begin other.list)
          c.extend_from_slice.ensures.capacity items c.len-3.ensures (end_known other.list rest rest of)
          (c.other.invariant.packed.step ∙ ap (λ (x : Samples). (state_from begin x.list).step) c.other.view_is)
          (c.other.invariant.packed.last ∙ ap (λ (x : Samples). last_of x.list) c.other.view_is ∙ sym (last-known other.list))
          (fits at.After-place_of-from);
      marks = subst (λ l. AreMarks l c.keep_moved.new.self) (sym list) moved;
    }

pub returns-clause-fits : goal.returns-clause-fits
returns-clause-fits c =
    let at = (goal.at.returns-clause-fits c).After-place_of-from in
    does_fit c.self.invariant.packed c.self.view_is c.requires.some c.args.rest.now c.requires.ascending c.known.ensures c.bytes-bytes.ensures c.requires.alike (any at) (fits at)

pub returns-clause-list : goal.returns-clause-list
returns-clause-list c =
    let at = goal.at.returns-clause-list c in
    joined_list c.self.invariant.packed c.self.view_is c.requires.some c.args.rest.now c.requires.ascending c.known.ensures c.bytes-bytes.ensures c.requires.alike
    (any at.After-place_of-from) c.len-3.result c.extend_from_slice.new.self.items c.len-3.ensures (grown at.After-unwrap)
