use Rattle.std.proofs.Common.{◌∙◌, ap}
use Rattle.ts_db.specs.Dropping.{all_unlabelled}
use Rattle.ts_db.specs.Store.{Nodes}
use Rattle.ts_db.proofs.Unlabelling.{indexed-cleared}
use Rattle.ts_db.proofs.nodes.Nodes.clear_labels.Goals as goal

pub invariant_of-self : goal.invariant_of-self
invariant_of-self c =
    indexed-cleared c.args.ids.now c.self.inside.slab c.clear_nodes.new.nodes c.self.inside.index c.clear_labels.new.self c.clear_nodes.ensures c.clear_labels.ensures c.self.invariant

pub returns : goal.returns
returns c = c.clear_nodes.ensures ∙ ap (λ (s : Nodes). all_unlabelled c.args.ids.now s) c.self.view_is
