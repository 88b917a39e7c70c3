use Rattle.std.proofs.Common.{refl}
use Rattle.ts_db.proofs.Indexing.{turned}
use Rattle.ts_db.proofs.nodes.Nodes.append_open.Goals as goal

pub returns : goal.returns
returns c =
    turned c.self.inside.slab c.args.self.now c.args.id c.index_mut-node.result.now (record c.index_mut-node.result.now { series = c.commit_append.new.self; rules = c.count_in_all.new.rules }) c.self.view_is c.index_mut-node.ensures.value
    (record { kept = c.commit_append.ensures.kept; done = c.commit_append.ensures.done; rules = c.count_in_all.ensures; rest = refl })
