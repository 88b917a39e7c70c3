use Rattle.std.specs.Prelude.{None}
use Rattle.ts_db.proofs.Indexing.{turned, is-after}
use Rattle.ts_db.proofs.nodes.Nodes.apply.Goals as goal

pub returns : goal.returns
returns c =
    turned c.self.inside.slab c.args.self.now c.args.id c.index_mut-node.result.now c.change.new.self c.self.view_is c.index_mut-node.ensures.value
    (is-after c.args.plan None c.args.rules c.index_mut-node.result.now c.change.new.self c.commit.new.self c.commit.ensures.kept c.commit.ensures.done c.change.ensures)
