use Rattle.std.proofs.Common.{sym, ◌∙◌, subst}
use Rattle.std.specs.Prelude.{Option}
use Rattle.ts_spec.specs.Key.{Key}
use Rattle.ts_spec.specs.Keyed.{get}
use Rattle.ts_spec.specs.StoredSeries.{StoredSeries}
use Rattle.ts_spec.specs.StoredStep.{StoredOutcome, stored_add_at}
use Rattle.ts_sample.specs.Steps.{Takes}
use Rattle.ts_labels.specs.Spec.{spec_of}
use Rattle.ts_db.specs.Store.{db_view_of, Holds}
use Rattle.ts_db.specs.Answering.{StoredCount}
use Rattle.ts_db.specs.PutBy.{stored_put_with_policy_at}
use Rattle.ts_db.specs.Bounds.{write_steps}
use Rattle.ts_db.proofs.Destinations.{only-key}
use Rattle.ts_db.proofs.Applying.{there}
use Rattle.ts_db.proofs.PutBy.{put-merges}
use Rattle.ts_db.proofs.Storing.{missing}
use Rattle.ts_db.proofs.store.Store.add.Goals as goal

pub create_with_sample-requires-clause-absent : goal.create_with_sample-requires-clause-absent
create_with_sample-requires-clause-absent g c = missing c.args.self.now.limits c.args.self.now.nodes c.args.self.now.keys.entries c.requires.db.store c.args.key (sym (c.in_default.ensures ∙ c.get.ensures.value))

pub returns-in_default-clause-added : goal.returns-in_default-clause-added
returns-in_default-clause-added g c =
    subst (λ (o : Option StoredSeries). StoredCount (db_view_of c.args.self.now) (stored_add_at c.args.self.now.limits (db_view_of c.args.self.now).keys c.args.key c.args.time c.args.value c.args.on (spec_of c.args.spec) o) c.create_with_sample.result (db_view_of c.create_with_sample.new.self))
    (sym (missing c.args.self.now.limits c.args.self.now.nodes c.args.self.now.keys.entries c.requires.db.store c.args.key (sym (c.in_default.ensures ∙ c.get.ensures.value)))) c.create_with_sample.ensures.begun

pub write-requires-clause-there : goal.write-requires-clause-there
write-requires-clause-there g c =
    let number = sym (c.in-Some.ensures ∙ c.get.ensures.value) in
    let found = c.requires.db.store.stored c.args.key c.in-Some.id number in
    record { key = c.args.key; node = found.0; holds = record { number = number; node = found.1 } }

pub returns-clause-added : goal.returns-clause-added
returns-clause-added g c =
    let number = sym (c.in-Some.ensures ∙ c.get.ensures.value) in
    let found = c.requires.db.store.stored c.args.key c.in-Some.id number in
    let holds : Holds c.args.self.now c.args.key c.in-Some.id found.0 = record { number = number; node = found.1 } in
    let is = there c.args.self.now c.requires.db.store c.args.key c.in-Some.id found.0 holds in
    subst (λ (o : Option StoredSeries). StoredCount (db_view_of c.args.self.now) (stored_add_at c.args.self.now.limits (db_view_of c.args.self.now).keys c.args.key c.args.time c.args.value c.args.on (spec_of c.args.spec) o) c.write.result (db_view_of c.write.new.self))
    (sym is)
    (subst (λ (o : Option StoredSeries). StoredCount (db_view_of c.args.self.now) (stored_put_with_policy_at c.args.self.now.limits (db_view_of c.args.self.now).keys c.args.key c.args.time c.args.value c.args.on o) c.write.result (db_view_of c.write.new.self))
    is
    (subst (λ (step : StoredOutcome). StoredCount (db_view_of c.args.self.now) step c.write.result (db_view_of c.write.new.self))
    (put-merges c.args.self.now.limits (db_view_of c.args.self.now).keys c.args.key c.args.time c.args.value c.args.on c.merge_by.result c.merge_by.ensures (get c.args.key (db_view_of c.args.self.now).keys))
    (c.write.ensures.written c.args.key number)))

pub returns-clause-own : goal.returns-clause-own
returns-clause-own g c = c.write.ensures.own c.args.key (sym (c.in-Some.ensures ∙ c.get.ensures.value))

pub returns-clause-steps : goal.returns-clause-steps
returns-clause-steps g c =
    let number = sym (c.in-Some.ensures ∙ c.get.ensures.value) in
    let found = c.requires.db.store.stored c.args.key c.in-Some.id number in
    subst (λ (key : Key). Takes c.args.steps.now c.write.new.steps (write_steps (db_view_of c.args.self.now) key c.args.time))
    (only-key c.args.self.now c.requires.db.store c.in-Some.id (record { node = found.0; there = found.1 }) c.args.key number) c.write.ensures.steps

pub returns-clause-easy : goal.returns-clause-easy
returns-clause-easy g c = c.write.ensures.easy c.args.key (sym (c.in-Some.ensures ∙ c.get.ensures.value))

pub returns-clause-spared : goal.returns-clause-spared
returns-clause-spared g c = c.write.ensures.spared c.args.key (sym (c.in-Some.ensures ∙ c.get.ensures.value))
