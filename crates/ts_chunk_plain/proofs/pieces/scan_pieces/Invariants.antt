use Rattle.std.proofs.Common.{map, drop}
use Rattle.ts_chunk_plain.specs.Plain.{sample_of}
use Rattle.ts_chunk_plain.proofs.Walking.{Walked}
use Rattle.ts_chunk_plain.proofs.pieces.scan_pieces.Given as goal

abbrev pub invariant-loop-piece : goal.invariant-loop-piece
invariant-loop-piece g l =
    Walked g.V.Visit.step g.V.Visit.room l.to l.initial.visit l.visit (map sample_of l.pieces) (map sample_of (drop l.piece-index l.pieces)) l.initial.steps l.steps l.piece-index
