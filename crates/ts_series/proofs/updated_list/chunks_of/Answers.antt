use Rattle.std.proofs.Common.{◌/◌, length}
use Rattle.ts_sample.proofs.Lists.{ascending-take}
use Rattle.ts_series.proofs.FilledChunks.{rest-rises, halves-list, halves-limits}
use Rattle.ts_series.proofs.PlannedPieces.{both-chunks}
use Rattle.ts_series.proofs.updated_list.chunks_of.Goals as goal

pub filled-requires-2-clause-ascending : goal.filled-requires-2-clause-ascending
filled-requires-2-clause-ascending g c = ascending-take (length c.args.samples.now / 2) c.args.samples.now c.requires.ascending

pub filled-requires-3-clause-ascending : goal.filled-requires-3-clause-ascending
filled-requires-3-clause-ascending g c = rest-rises (length c.args.samples.now / 2) c.args.samples.now c.requires.ascending

pub returns-clause-list : goal.returns-clause-list
returns-clause-list g c =
    halves-list g.C.Chunk.list g.C.Chunk.most c.in_ok-firsts.firsts.items c.in_ok-lasts.lasts.items c.append.new.self.items (length c.args.samples.now / 2) c.args.samples.now
    c.in_ok-append.ensures.items c.in_ok-firsts.ensures.list c.in_ok-lasts.ensures.list

pub returns-clause-chunks : goal.returns-clause-chunks
returns-clause-chunks g c =
    both-chunks g.C.Chunk.list g.C.Chunk.most c.in_ok-firsts.firsts.items c.in_ok-lasts.lasts.items c.append.new.self.items c.in_ok-append.ensures.items g.C.Chunk.format
    c.in_ok-firsts.ensures.chunks c.in_ok-lasts.ensures.chunks

pub returns-clause-limits : goal.returns-clause-limits
returns-clause-limits g c =
    halves-limits g.C.Chunk.most c.args.limit c.in_ok-firsts.firsts.items c.in_ok-lasts.lasts.items c.append.new.self.items c.in_ok-append.ensures.items
    c.in_ok-firsts.ensures.limits c.in_ok-lasts.ensures.limits
