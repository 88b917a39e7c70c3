use Rattle.std.proofs.Common.{true, false, refl, sym, ◌∙◌, ap, subst, lt-ltb, le-ltb}
use Rattle.ts_spec.specs.StoredStep.{StoredOutcome, stored_delete_at}
use Rattle.ts_spec.specs.Key.{Key}
use Rattle.ts_sample.specs.Steps.{Takes}
use Rattle.ts_db.specs.Store.{db_view_of, Holds}
use Rattle.ts_db.specs.Answering.{StoredCount}
use Rattle.ts_db.specs.Bounds.{deletion_steps}
use Rattle.ts_db.proofs.Destinations.{only-key}
use Rattle.ts_db.proofs.Storing.{missing}
use Rattle.ts_db.proofs.Deleting.{expired-at, delete-crossed, delete-expired, delete-done}
use Rattle.ts_db.proofs.store.Store.delete_range.Goals as goal

pub returns-in_default-clause-deleted : goal.returns-in_default-clause-deleted
returns-in_default-clause-deleted g c = (
  ap (stored_delete_at c.args.self.now.limits (db_view_of c.args.self.now).keys c.args.key.now c.args.from c.args.to) (missing c.args.self.now.limits c.args.self.now.nodes c.args.self.now.keys.entries c.requires.db.store c.args.key.now (sym (c.in_default.ensures ∙ c.get.ensures.value))),
  refl,
)

pub returns-then-to-from-clause-deleted : goal.returns-then-to-from-clause-deleted
returns-then-to-from-clause-deleted g c =
    let is = sym (c.in-Some.ensures ∙ c.get.ensures.value) in
    let of = c.requires.db.store.stored c.args.key.now c.in-Some.id is in
    let holds : Holds c.args.self.now c.args.key.now c.in-Some.id of.0 = record { number = is; node = of.1 } in
    (delete-crossed c.args.self.now c.requires.db.store c.args.key.now c.in-Some.id of.0 holds c.args.from c.args.to (lt-ltb c.args.to c.args.from c.if-to-from.true), refl)

pub returns-then-meet_expired-clause-deleted : goal.returns-then-meet_expired-clause-deleted
returns-then-meet_expired-clause-deleted g c =
    let n = c.node-node.result.now in
    let holds : Holds c.args.self.now c.args.key.now c.in-Some.id n = record { number = sym (c.in-Some.ensures ∙ c.get.ensures.value); node = c.node-node.ensures } in (
      delete-expired c.args.self.now c.requires.db.store c.args.key.now c.in-Some.id n holds c.args.from c.args.to (le-ltb c.args.to c.args.from c.if-to-from.false)
          (expired-at c.args.self.now n c.args.from c.edge.result c.deref.result.now c.meet_expired.result true c.edge.ensures c.deref.ensures.value c.meet_expired.ensures c.if-meet_expired.true),
      refl,
    )

pub delete-requires-clause-there : goal.delete-requires-clause-there
delete-requires-clause-there g c =
    record { key = c.args.key.now; node = c.node-node.result.now; holds = record { number = sym (c.in-Some.ensures ∙ c.get.ensures.value); node = c.node-node.ensures } }

pub returns-clause-deleted : goal.returns-clause-deleted
returns-clause-deleted g c =
    let n = c.node-node.result.now in
    let holds : Holds c.args.self.now c.args.key.now c.in-Some.id n = record { number = sym (c.in-Some.ensures ∙ c.get.ensures.value); node = c.node-node.ensures } in
    subst (λ (step : StoredOutcome). StoredCount (db_view_of c.args.self.now) step c.delete.result (db_view_of c.delete.new.self))
    (sym (delete-done c.args.self.now c.requires.db.store c.args.key.now c.in-Some.id n holds c.args.from c.args.to (le-ltb c.args.to c.args.from c.if-to-from.false)
    (expired-at c.args.self.now n c.args.from c.edge.result c.deref.result.now c.meet_expired.result false c.edge.ensures c.deref.ensures.value c.meet_expired.ensures c.if-meet_expired.false)))
    (c.delete.ensures.deleted c.args.key.now n holds)

pub returns-clause-steps : goal.returns-clause-steps
returns-clause-steps g c =
    subst (λ (key : Key). Takes c.args.steps.now c.delete.new.steps (deletion_steps (db_view_of c.args.self.now) key c.args.from c.args.to))
    (only-key c.args.self.now c.requires.db.store c.in-Some.id (record { node = c.node-node.result.now; there = c.node-node.ensures }) c.args.key.now (sym (c.in-Some.ensures ∙ c.get.ensures.value))) c.delete.ensures.steps
