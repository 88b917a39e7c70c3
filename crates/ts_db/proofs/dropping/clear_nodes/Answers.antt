use Rattle.std.proofs.Common.{◌+◌, List, drop, sym, ◌∙◌, ap}
use Rattle.std.proofs.lemmas.List.{drop_more, drop_all}
use Rattle.ts_sample.specs.declared.sample.Id.{Id}
use Rattle.ts_db.specs.Dropping.{all_unlabelled}
use Rattle.ts_db.specs.Store.{Nodes}
use Rattle.ts_db.proofs.dropping.clear_nodes.Goals as goal

pub loop-id-preserved : goal.loop-id-preserved
loop-id-preserved c =
    ap (λ (s : Nodes). all_unlabelled (drop (c.loop-id.id-index + 1) c.args.ids.now) s) c.clear_node.ensures
    ∙ sym (ap (λ (is : List Id). all_unlabelled is c.loop-id.nodes) (drop_more c.args.ids.now c.loop-id.id-index (record { 0 = 0 }) c.loop-id-test.true))
    ∙ c.loop-id.invariant

pub returns : goal.returns
returns c =
    sym (ap (λ (is : List Id). all_unlabelled is c.loop-id.nodes) (drop_all c.loop-id.id-index c.args.ids.now c.loop-id-test.false))
    ∙ c.loop-id.invariant
