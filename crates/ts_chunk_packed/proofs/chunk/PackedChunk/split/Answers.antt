use Rattle.std.proofs.Common.{◌++◌, ◌∙◌, ap, take}
use Rattle.std.proofs.lemmas.List.{take-append-drop}
use Rattle.ts_chunk_packed.proofs.Starting.{some_passed}
use Rattle.ts_chunk_packed.proofs.chunk.PackedChunk.split.Goals as goal

pub append_remaining-requires-clause-of : goal.append_remaining-requires-clause-of
append_remaining-requires-clause-of c =
    let rest = c.args.rest in
    let first = take 1 rest.list in
    some_passed c.args.self.now.list rest c.next.new.self c.requires.rest first (ap (λ others. first ++ others) c.next.ensures.list ∙ take-append-drop 1 rest.list) c.next.ensures.state
