use Rattle.ts_db.proofs.Indexing.{turned}
use Rattle.ts_db.proofs.nodes.Nodes.push_rule.Goals as goal

pub returns : goal.returns
returns c =
    turned c.self.inside.slab c.args.self.now c.args.id c.index_mut-node.result.now c.push_rule.new.self c.self.view_is c.index_mut-node.ensures.value
    (record { added = c.push_rule.ensures.added; unchanged = c.push_rule.ensures.unchanged })
