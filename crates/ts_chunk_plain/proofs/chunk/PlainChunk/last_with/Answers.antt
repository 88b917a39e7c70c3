use Rattle.std.proofs.Common.{arith}
use Rattle.ts_chunk_plain.proofs.Splicing.{last-kept}
use Rattle.ts_chunk_plain.proofs.chunk.PlainChunk.last_with.Goals as goal

pub returns-else-count-len : goal.returns-else-count-len
returns-else-count-len c = last-kept c.self.invariant c.self.view_is c.args.count c.args.sample.now (omega (arith, c.requires, c.len.ensures))
