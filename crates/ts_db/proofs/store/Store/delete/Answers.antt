use Rattle.std.proofs.Common.{◌≡◌, ◌≤◌, length, arith, refl, sym, ◌∙◌, ap, subst}
use Rattle.std.specs.Prelude.{None, Some}
use Rattle.ts_spec.specs.Sample.{between}
use Rattle.ts_spec.proofs.Tidy.{some-same}
use Rattle.ts_series.specs.History.{list_of}
use Rattle.ts_series.specs.Plan.{cuts, with_change}
use Rattle.ts_series.proofs.Effects.{cuts-is}
use Rattle.ts_db.specs.declared.node.Node.{Node}
use Rattle.ts_db.specs.declared.planning.SourceChange.TheVariants.{Delete}
use Rattle.ts_db.specs.Planning.{changed_by, gone_by, rows_by_change, shares_of}
use Rattle.ts_db.specs.Store.{key_in, stored_node, contents_of, Contents, IsNode}
use Rattle.ts_db.specs.Answering.{node_after}
use Rattle.ts_db.proofs.Known.{distinct, links}
use Rattle.ts_db.proofs.Destinations.{key-holds, destination-own}
use Rattle.ts_db.proofs.Working.{ArePlanned, planned-for, plan_fault-for, changed-live, changed-grids, takes-deleted, for-destinations, still-update_dest, worked}
use Rattle.ts_db.proofs.Deleting.{cut-within, deleted-few, deleted-answers, undeleted-answers}
use Rattle.ts_db.proofs.EasyWrites.{deletion-total}
use Rattle.ts_db.proofs.store.Store.delete.Goals as goal

pub plan_rules-requires-clause-room : goal.plan_rules-requires-clause-room
plan_rules-requires-clause-room g c = takes-deleted c.args.from c.args.to c.node-node.result.now.series c.deref-2.result.now

pub plan_fault-requires-clause-room : goal.plan_fault-requires-clause-room
plan_fault-requires-clause-room g c = takes-deleted c.args.from c.args.to c.node-node.result.now.series c.deref.result.now

pub returns-in-Err-clause-deleted : goal.returns-in-Err-clause-deleted
returns-in-Err-clause-deleted g c key n holds =
    let it : c.node-node.result.now ≡ n = some-same c.node-node.result.now n (sym c.node-node.ensures ∙ holds.node) in
    let work = Delete c.args.from c.args.to in (
      undeleted-answers c.args.self.now c.requires.db key c.args.id n holds c.args.from c.args.to c.plan_fault.result
          (plan_fault-for c.args.self.now work work c.node-node.result.now n c.deref.result.now c.plan_fault.result refl it c.deref.ensures.value c.plan_fault.ensures.refused),
      refl,
    )

pub returns-in-Err-clause-own : goal.returns-in-Err-clause-own
returns-in-Err-clause-own g c key is =
    let node : Node = c.node-node.result.now in
    let work = Delete c.args.from c.args.to in
    destination-own c.args.self.now c.requires.db.store node.rules.items (rows_by_change work node.series) (gone_by work node.series) (c.requires.db.store.live c.args.id.0 node c.node-node.ensures).rules key c.plan_fault.result
    (plan_fault-for c.args.self.now work work node node c.deref.result.now c.plan_fault.result refl refl c.deref.ensures.value c.plan_fault.ensures.refused)

pub returns-in-Err-plan_rules-clause-deleted : goal.returns-in-Err-plan_rules-clause-deleted
returns-in-Err-plan_rules-clause-deleted g c key n holds =
    let it : c.node-node.result.now ≡ n = some-same c.node-node.result.now n (sym c.node-node.ensures ∙ holds.node) in
    let work = Delete c.args.from c.args.to in (
      undeleted-answers c.args.self.now c.requires.db key c.args.id n holds c.args.from c.args.to c.in-Err-plan_rules.fault
          (plan_fault-for c.args.self.now work work c.node-node.result.now n c.deref-2.result.now c.in-Err-plan_rules.fault refl it c.deref-2.ensures.value c.in-Err-plan_rules.ensures.refused),
      refl,
    )

pub returns-in-Err-plan_rules-clause-own : goal.returns-in-Err-plan_rules-clause-own
returns-in-Err-plan_rules-clause-own g c key is =
    let node : Node = c.node-node.result.now in
    let work = Delete c.args.from c.args.to in
    destination-own c.args.self.now c.requires.db.store node.rules.items (rows_by_change work node.series) (gone_by work node.series) (c.requires.db.store.live c.args.id.0 node c.node-node.ensures).rules key c.in-Err-plan_rules.fault
    (plan_fault-for c.args.self.now work work node node c.deref-2.result.now c.in-Err-plan_rules.fault refl refl c.deref-2.ensures.value c.in-Err-plan_rules.ensures.refused)

pub apply-requires-clause-ready : goal.apply-requires-clause-ready
apply-requires-clause-ready g c =
    let node : Node = c.node-node.result.now in
    let work = Delete c.args.from c.args.to in
    let fits : IsNode c.args.self.now.limits node = c.requires.db.store.each c.args.id.0 node c.node-node.ensures in
    let planned : ArePlanned c.args.self.now work node.series node.rules.items c.in-Ok-plan_rules.planned.rules.items c.in-Ok-plan_rules.planned.plans.items =
    planned-for c.args.self.now work work node node c.deref-2.result.now c.in-Ok-plan_rules.planned.rules.items c.in-Ok-plan_rules.planned.plans.items refl refl c.deref-2.ensures.value
    (record { changed = c.in-Ok-plan_rules.ensures.rules; update_dest = c.in-Ok-plan_rules.ensures.update_dest; fit = c.in-Ok-plan_rules.ensures.fit }) in
    record {
      key = c.requires.there.key;
      node = node;
      holds = record { number = c.requires.there.holds.number; node = c.node-node.ensures };
      ready = c.in-Ok.ensures.planned;
      within = cut-within node.series c.in-Ok.plan c.args.from c.args.to (length (between c.args.from c.args.to (list_of node.series))) c.args.self.now.limits.samples fits.kept (cuts-is c.args.from c.args.to (length (between c.args.from c.args.to (list_of node.series))) c.in-Ok.plan c.in-Ok.ensures.cut) fits.within;
      few = fits.labels;
      live = changed-live c.args.self.now (changed_by work node.series) node.rules.items c.in-Ok-plan_rules.planned.rules.items planned.changed
          (c.requires.db.store.live c.args.id.0 node c.node-node.ensures).rules;
      grids = changed-grids work node.series node.rules.items c.in-Ok-plan_rules.planned.rules.items planned.changed fits.grids;
    }

pub update_destinations-requires-clause-planned : goal.update_destinations-requires-clause-planned
update_destinations-requires-clause-planned g c =
    let node : Node = c.node-node.result.now in
    let work = Delete c.args.from c.args.to in
    let planned : ArePlanned c.args.self.now work node.series node.rules.items c.in-Ok-plan_rules.planned.rules.items c.in-Ok-plan_rules.planned.plans.items =
    planned-for c.args.self.now work work node node c.deref-2.result.now c.in-Ok-plan_rules.planned.rules.items c.in-Ok-plan_rules.planned.plans.items refl refl c.deref-2.ensures.value
    (record { changed = c.in-Ok-plan_rules.ensures.rules; update_dest = c.in-Ok-plan_rules.ensures.update_dest; fit = c.in-Ok-plan_rules.ensures.fit }) in
    for-destinations c.args.self.now c.requires.db c.requires.there.key c.args.id node (record { number = c.requires.there.holds.number; node = c.node-node.ensures }) c.apply.new.self c.apply.ensures.elsewhere
    (rows_by_change work node.series) (gone_by work node.series) c.in-Ok-plan_rules.planned.plans.items planned.update_dest

pub returns-clause-deleted : goal.returns-clause-deleted
returns-clause-deleted g c key n holds =
    let it : c.node-node.result.now ≡ n = some-same c.node-node.result.now n (sym c.node-node.ensures ∙ holds.node) in
    let work = Delete c.args.from c.args.to in
    let planned : ArePlanned c.args.self.now work n.series n.rules.items c.in-Ok-plan_rules.planned.rules.items c.in-Ok-plan_rules.planned.plans.items =
    planned-for c.args.self.now work work c.node-node.result.now n c.deref-2.result.now c.in-Ok-plan_rules.planned.rules.items c.in-Ok-plan_rules.planned.plans.items refl it c.deref-2.ensures.value
    (record { changed = c.in-Ok-plan_rules.ensures.rules; update_dest = c.in-Ok-plan_rules.ensures.update_dest; fit = c.in-Ok-plan_rules.ensures.fit }) in
    let cut : c.in-Ok.plan ≡ with_change c.in-Ok.plan (cuts c.args.from c.args.to (length (between c.args.from c.args.to (list_of n.series)))) =
    subst (λ (x : Node). c.in-Ok.plan ≡ with_change c.in-Ok.plan (cuts c.args.from c.args.to (length (between c.args.from c.args.to (list_of x.series))))) it
    (cuts-is c.args.from c.args.to (length (between c.args.from c.args.to (list_of c.node-node.result.now.series))) c.in-Ok.plan c.in-Ok.ensures.cut) in
    let done = worked c.args.self.now c.requires.db key c.args.id n holds c.apply.new.self c.apply.ensures.elsewhere (rows_by_change work n.series) (gone_by work n.series)
    (stored_node c.args.self.now.nodes (node_after c.in-Ok.plan None (Some c.in-Ok-plan_rules.planned.rules) n)) (contents_of c.update_destinations.new.self) (c.apply.ensures.applied key n holds)
    (c.update_destinations.ensures.update_dest (rows_by_change work n.series) (gone_by work n.series) n.rules.items
    (still-update_dest c.args.self.now c.requires.db key c.args.id n holds c.apply.new.self c.apply.ensures.elsewhere (rows_by_change work n.series) (gone_by work n.series) c.in-Ok-plan_rules.planned.plans.items planned.update_dest)
    (distinct c.args.self.now n.rules.items (links c.args.self.now c.requires.db key c.args.id n holds).apart)) in (
      deleted-answers c.args.self.now c.requires.db key c.args.id n holds c.args.from c.args.to c.in-Ok.plan c.in-Ok-plan_rules.planned.rules c.removed-removed.result (contents_of c.update_destinations.new.self) cut c.removed-removed.ensures planned.changed planned.fit done,
      ap (λ (x : Contents). x.limits) done,
    )

pub returns-clause-bounded : goal.returns-clause-bounded
returns-clause-bounded g c =
    let fits : IsNode c.args.self.now.limits c.node-node.result.now = c.requires.db.store.each c.args.id.0 c.node-node.result.now c.node-node.ensures in
    let few : c.removed-removed.result ≤ c.args.self.now.limits.samples =
    deleted-few c.node-node.result.now.series c.in-Ok.plan c.args.from c.args.to c.removed-removed.result c.args.self.now.limits.samples
    (cuts-is c.args.from c.args.to (length (between c.args.from c.args.to (list_of c.node-node.result.now.series))) c.in-Ok.plan c.in-Ok.ensures.cut) c.removed-removed.ensures fits.within in
    omega (arith, few, c.requires.db.store.bounded)

-- ---- how much is decoded

pub returns-in-Err-clause-steps : goal.returns-in-Err-clause-steps
returns-in-Err-clause-steps g c =
    let key = key_in c.args.self.now.nodes c.args.id in
    let holds = key-holds c.args.self.now c.requires.db.store c.args.id (record { node = c.node-node.result.now; there = c.node-node.ensures }) in
    let rules = ap (shares_of c.args.self.now.nodes (Delete c.args.from c.args.to) c.node-node.result.now.series) c.deref.ensures.value in
    record {
      counted = omega (arith, c.cut.ensures.steps.counted, c.plan_fault.ensures.steps.counted);
      bounded = omega (arith, c.cut.ensures.steps.bounded, c.plan_fault.ensures.steps.bounded, rules, deletion-total c.args.self.now c.requires.db key c.args.id c.node-node.result.now holds c.args.from c.args.to);
    }

pub returns-in-Err-plan_rules-clause-steps : goal.returns-in-Err-plan_rules-clause-steps
returns-in-Err-plan_rules-clause-steps g c =
    let key = key_in c.args.self.now.nodes c.args.id in
    let holds = key-holds c.args.self.now c.requires.db.store c.args.id (record { node = c.node-node.result.now; there = c.node-node.ensures }) in
    let rules = ap (shares_of c.args.self.now.nodes (Delete c.args.from c.args.to) c.node-node.result.now.series) c.deref-2.ensures.value in
    record {
      counted = omega (arith, c.cut.ensures.steps.counted, c.plan_rules.ensures.steps.counted);
      bounded = omega (arith, c.cut.ensures.steps.bounded, c.plan_rules.ensures.steps.bounded, rules, deletion-total c.args.self.now c.requires.db key c.args.id c.node-node.result.now holds c.args.from c.args.to);
    }

pub returns-clause-steps : goal.returns-clause-steps
returns-clause-steps g c =
    let key = key_in c.args.self.now.nodes c.args.id in
    let holds = key-holds c.args.self.now c.requires.db.store c.args.id (record { node = c.node-node.result.now; there = c.node-node.ensures }) in
    let rules = ap (shares_of c.args.self.now.nodes (Delete c.args.from c.args.to) c.node-node.result.now.series) c.deref-2.ensures.value in
    record {
      counted = omega (arith, c.cut.ensures.steps.counted, c.plan_rules.ensures.steps.counted);
      bounded = omega (arith, c.cut.ensures.steps.bounded, c.plan_rules.ensures.steps.bounded, rules, deletion-total c.args.self.now c.requires.db key c.args.id c.node-node.result.now holds c.args.from c.args.to);
    }
