use Rattle.ts_db.proofs.Indexing.{turned}
use Rattle.ts_db.proofs.nodes.Nodes.remove_rule.Goals as goal

pub returns : goal.returns
returns c = turned c.self.inside.slab c.args.self.now c.args.id c.index_mut-node.result.now c.remove_rule.new.self c.self.view_is c.index_mut-node.ensures.value c.remove_rule.ensures
