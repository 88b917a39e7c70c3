use Rattle.std.proofs.Common.{Bor, sym, subst, arith}
use Rattle.std.specs.Prelude.{Option, IfSome}
use Rattle.ts_chunk_packed.specs.Marks.{MarkState, IsMark}
use Rattle.ts_chunk_packed.specs.Decoder.{IsUndecodedPast}
use Rattle.ts_chunk_packed.proofs.Starting.{mark_at, mark_count, mark_left, mark_rest, first_left, first_rest, where_none}
use Rattle.ts_chunk_packed.proofs.chunk.PackedChunk.rest_at.Goals as goal
use Rattle.ts_chunk_packed.proofs.chunk.PackedChunk.rest_at.Goals.{In-Some}

pub new-requires-in_default : goal.new-requires-in_default
new-requires-in_default c = first_left c.self.invariant c.self.view_is c.new.result c.new.ensures c.deref.result.now c.deref.ensures.value

pub returns-in_default-clause-all : goal.returns-in_default-clause-all
returns-in_default-clause-all c =
    where_none c.args.mark
    (first_rest c.self.invariant c.self.view_is c.new.result c.new.ensures c.deref.result.now c.deref.ensures.value c.new-in_default.result c.new-in_default.ensures.state c.new-in_default.ensures.list)

mark : (c : In-Some) → IsMark c.args.self.now.list c.in-Some.mark.now
mark c = subst (λ (o : Option (Bor MarkState)). IfSome o (λ b. IsMark c.args.self.now.list b.now)) c.in-Some.is c.requires

pub slice_bounds-bytes-count : goal.slice_bounds-bytes-count
slice_bounds-bytes-count c =
    mark_at c.self.invariant c.self.view_is c.in-Some.mark.now (mark (goal.at.slice_bounds-bytes-count c).In-Some) c.deref-2.result.now c.deref-2.ensures.value c.at.result c.at.ensures

pub slice_bounds-bytes-start : goal.slice_bounds-bytes-start
slice_bounds-bytes-start c =
    mark_at c.self.invariant c.self.view_is c.in-Some.mark.now (mark (goal.at.slice_bounds-bytes-start c).In-Some) c.deref-2.result.now c.deref-2.ensures.value c.at.result c.at.ensures

pub overflow_sub-self-inside : goal.overflow_sub-self-inside
overflow_sub-self-inside c =
    omega (arith, c.count.ensures, mark_count c.self.invariant c.self.view_is c.in-Some.mark.now (mark (goal.at.overflow_sub-self-inside c).In-Some))

pub new-requires-2 : goal.new-requires-2
new-requires-2 c =
    mark_left c.self.invariant c.self.view_is c.in-Some.mark.now (mark (goal.at.new-requires-2 c).In-Some)
    c.deref-2.result.now c.deref-2.ensures.value c.at.result c.at.ensures c.count.result c.count.ensures c.context.result c.context.ensures

pub returns-clause-past : goal.returns-clause-past
returns-clause-past c =
    subst (λ (o : Option (Bor MarkState)). IfSome o (λ b. IsUndecodedPast b.now.count c.args.self.now.list c.new-2.result)) (sym c.in-Some.is)
    (mark_rest c.self.invariant c.self.view_is c.in-Some.mark.now (mark (goal.at.returns-clause-past c).In-Some)
    c.deref-2.result.now c.deref-2.ensures.value c.at.result c.at.ensures c.count.result c.count.ensures c.context.result c.context.ensures
    c.new-2.result c.new-2.ensures.state c.new-2.ensures.list)
