use Rattle.std.proofs.Common.{refl}
use Rattle.ts_db.proofs.Indexing.{turned}
use Rattle.ts_db.proofs.nodes.Nodes.set_source.Goals as goal

pub returns : goal.returns
returns c = turned c.self.inside.slab c.args.self.now c.args.id c.index_mut-node.result.now (record c.index_mut-node.result.now { source = c.args.source }) c.self.view_is c.index_mut-node.ensures.value refl
