use Rattle.ts_db.proofs.Indexing.{turned}
use Rattle.ts_db.proofs.nodes.Nodes.take_rules.Goals as goal

pub returns : goal.returns
returns c =
    turned c.self.inside.slab c.args.self.now c.args.id c.index_mut-node.result.now c.take_rules.new.self c.self.view_is c.index_mut-node.ensures.value (c.take_rules.ensures.rules, c.take_rules.ensures.none)
