use Rattle.std.proofs.Common.{refl}
use Rattle.ts_sample.proofs.Fitting.{cut-whole}
use Rattle.ts_sample.proofs.changed.alone.Goals as goal

pub returns-clause-cut : goal.returns-clause-cut
returns-clause-cut g c =
    cut-whole g.C.Chunk.format g.C.Chunk.list (g.C.Chunk.most c.args.chunk) (g.C.Chunk.list c.args.chunk) c.args.chunk c.new-chunks.result.items c.push.new.self.items
    c.requires refl c.known.ensures.fits c.new-chunks.ensures.items c.in_ok-push.ensures.items
