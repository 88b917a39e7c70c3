use Rattle.std.proofs.Common.{List, ◌∙◌, ap}
use Rattle.ts_sample.specs.declared.sample.Id.{Id}
use Rattle.ts_db.specs.Dropping.{all_unlabelled}
use Rattle.ts_db.proofs.Unlabelling.{cleared-nodes}
use Rattle.ts_db.proofs.store.Store.clear_labels.Goals as goal

pub returns-in-Ok-clause-db : goal.returns-in-Ok-clause-db
returns-in-Ok-clause-db c =
    (cleared-nodes c.args.keys.now c.in-Ok.ids.items c.args.self.now c.requires c.in-Ok.ensures.known c.clear_labels.new.self
    (c.clear_labels.ensures ∙ ap (λ (is : List Id). all_unlabelled is c.args.self.now.nodes) c.deref.ensures.value)).db

pub returns-in-Ok-clause-same : goal.returns-in-Ok-clause-same
returns-in-Ok-clause-same c =
    (cleared-nodes c.args.keys.now c.in-Ok.ids.items c.args.self.now c.requires c.in-Ok.ensures.known c.clear_labels.new.self
    (c.clear_labels.ensures ∙ ap (λ (is : List Id). all_unlabelled is c.args.self.now.nodes) c.deref.ensures.value)).same
