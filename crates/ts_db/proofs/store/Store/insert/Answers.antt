use Rattle.std.proofs.Common.{◌≡◌, ◌<◌, length, refl, sym, ◌∙◌, ap, subst}
use Rattle.std.specs.Prelude.{None}
use Rattle.ts_spec.specs.Keyed.{with_key}
use Rattle.ts_spec.specs.StoredSeries.{StoredSeries}
use Rattle.ts_sample.specs.declared.sample.Id.{Id}
use Rattle.ts_db.specs.declared.node.Node.{Node}
use Rattle.ts_db.specs.Store.{Nodes, Numbers, stored_by_key, ids_of, of_each_node, node_reach, node_pieces, node_sizes, HaveGrids, IsStore, id_for_key}
use Rattle.ts_db.proofs.Storing.{store-slots, store-added, others-added, number-none}
use Rattle.ts_db.proofs.Collecting.{stored_by_key-added, bare-kept}
use Rattle.ts_db.proofs.Reaches.{db_view-slots}
use Rattle.ts_db.proofs.store.Store.insert.Goals as goal

pub insert-requires : goal.insert-requires
insert-requires c = number-none c.args.self.now.limits c.args.self.now.nodes c.args.self.now.keys.entries c.requires.store c.args.key c.requires.absent

pub returns-in-Err-insert-clause-store : goal.returns-in-Err-insert-clause-store
returns-in-Err-insert-clause-store c =
    subst (λ (es : Numbers). IsStore c.args.self.now.limits c.insert.new.self es) (sym c.in-Err-insert.ensures.entries)
    (store-slots c.args.self.now.limits c.args.self.now.nodes c.args.self.now.keys.entries c.requires.store c.insert.new.self c.in-Err-insert.ensures.unchanged)

pub returns-in-Err-insert-clause-unchanged : goal.returns-in-Err-insert-clause-unchanged
returns-in-Err-insert-clause-unchanged c =
    let nodes : Nodes = c.insert.new.self in
    ap (λ (es : Numbers). record { limits = c.args.self.now.limits; keys = stored_by_key nodes es; ids = ids_of es; reaches = of_each_node node_reach nodes es; pieces = of_each_node node_pieces nodes es; sizes = of_each_node node_sizes nodes es }) c.in-Err-insert.ensures.entries
    ∙ db_view-slots c.args.self.now nodes c.in-Err-insert.ensures.unchanged

pub returns-in-Ok-insert-clause-store : goal.returns-in-Ok-insert-clause-store
returns-in-Ok-insert-clause-store c =
    let s = c.args.self.now in
    let node : Node = record { key = c.in-Ok.name; series = c.args.series; labels = c.args.labels; rules = c.new.result; source = None } in
    let none : id_for_key c.args.key s.keys.entries ≡ None = number-none s.limits s.nodes s.keys.entries c.requires.store c.args.key c.requires.absent in
    let added = c.in-Ok-insert.ensures.added in
    let room : length s.keys.entries < s.limits.keys = subst (λ n. n < s.limits.keys) c.requires.store.counted c.requires.room in
    store-added s.limits s.nodes s.keys.entries c.requires.store c.insert.new.self c.insert.new.keys.entries c.args.key c.in-Ok-insert.field-0 node none added.vacant added.updates
    c.in-Ok-insert.ensures.numbered added.one_more c.in-Ok-insert.ensures.len room c.in-Ok.ensures.bytes (c.new.ensures.items, refl)
    (record { kept = c.requires.kept; within = c.requires.within; born = c.requires.born; labels = c.requires.labels; grids = subst HaveGrids (sym c.new.ensures.items) tt })

pub returns-in-Ok-insert-clause-added : goal.returns-in-Ok-insert-clause-added
returns-in-Ok-insert-clause-added c =
    let s = c.args.self.now in
    let id : Id = c.in-Ok-insert.field-0 in
    let node : Node = record { key = c.in-Ok.name; series = c.args.series; labels = c.args.labels; rules = c.new.result; source = None } in
    let added = c.in-Ok-insert.ensures.added in
    stored_by_key-added s.nodes c.insert.new.self s.keys.entries c.insert.new.keys.entries c.args.key id node c.requires.store.stored added.vacant added.updates
    (others-added s.limits s.nodes s.keys.entries c.requires.store c.insert.new.self id node added.vacant added.updates) c.in-Ok-insert.ensures.numbered
    ∙ ap (λ (d : StoredSeries). with_key c.args.key d (stored_by_key s.nodes s.keys.entries)) (bare-kept c.insert.new.self node c.new.ensures.items refl)
