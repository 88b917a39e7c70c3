use Rattle.std.proofs.Common.{◌≡◌, List, sym, ◌∙◌, ap, subst}
use Rattle.std.specs.Prelude.{None, Some}
use Rattle.std.specs.Option.{unwrap_or}
use Rattle.ts_spec.specs.State.{Label}
use Rattle.ts_spec.proofs.Tidy.{some-same}
use Rattle.ts_index.specs.Index.{Relabels}
use Rattle.ts_db.specs.declared.node.Node.{Node}
use Rattle.ts_db.proofs.Indexing.{turned, is-after, indexed-altered}
use Rattle.ts_db.proofs.nodes.Nodes.alter.Goals as goal

pub invariant_of-self-2 : goal.invariant_of-self-2
invariant_of-self-2 c =
    let one : c.index.result.now ≡ c.index_mut-node.result.now = some-same c.index.result.now c.index_mut-node.result.now (sym c.index.ensures ∙ c.index_mut-node.ensures.value) in
    let labels : unwrap_or c.args.labels c.index.result.now.labels ≡ c.change.new.self.labels =
    ap (λ (n : Node). unwrap_or c.args.labels n.labels) one ∙ sym (ap (λ (n : Node). n.labels) c.change.ensures) in
    indexed-altered c.self.inside.slab c.self.inside.index c.replace_labels.new.index c.args.id c.index_mut-node.result.now c.change.new.self (c.index_mut-node.ensures.value)
    (subst (λ (ls : List Label). Relabels c.args.id (Some ls) c.self.inside.index c.replace_labels.new.index) labels c.in_ok-replace_labels.ensures.ok) c.self.invariant

pub returns-clause-altered : goal.returns-clause-altered
returns-clause-altered c =
    turned c.self.inside.slab c.args.self.now c.args.id c.index_mut-node.result.now c.change.new.self c.self.view_is c.index_mut-node.ensures.value
    (is-after c.args.plan c.args.labels None c.index_mut-node.result.now c.change.new.self c.commit.new.self c.commit.ensures.kept c.commit.ensures.done c.change.ensures)
