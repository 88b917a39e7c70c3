use Rattle.std.proofs.Common.{Bor}
use Rattle.ts_chunk_packed.specs.Marks.{MarkState}
use Rattle.ts_chunk_packed.proofs.Starting.{marks_are, list_rises, rest_either}
use Rattle.ts_chunk_packed.proofs.chunk.PackedChunk.rest_from.Goals as goal

pub rest_at-requires : goal.rest_at-requires
rest_at-requires c =
    let f = c.self.inside in
    c.before-2.ensures.mark c.args.self.now.list (marks_are c.self.invariant c.self.view_is)

pub returns : goal.returns
returns c =
    let f = c.self.inside in
    let marks = marks_are c.self.invariant c.self.view_is in
    let rises = list_rises c.self.invariant c.self.view_is in
    rest_either (λ (b : Bor MarkState). b.now) c.args.time c.args.self.now.list c.rest_at.result rises c.before-2.result (c.before-2.ensures.mark c.args.self.now.list marks) c.before-2.ensures.early c.rest_at.ensures.all c.rest_at.ensures.past
