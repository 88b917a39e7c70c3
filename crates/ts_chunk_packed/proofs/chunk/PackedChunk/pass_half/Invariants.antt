use Rattle.ts_chunk_packed.specs.Marks.{AreMarks}
use Rattle.ts_chunk_packed.specs.Decoder.{IsUndecodedOf}
use Rattle.ts_chunk_packed.proofs.chunk.PackedChunk.pass_half.Given as goal

-- what is left are the last of the samples, and the marks stand past those before them
abbrev pub invariant-loop : goal.invariant-loop
invariant-loop l = record {
  rest : IsUndecodedOf l.self.list l.rest;
  marks : (of : IsUndecodedOf l.self.list l.rest) → AreMarks of.front l.marks;
}
