use Rattle.std.proofs.Common.{◌≡◌, false, refl, sym, ◌∙◌, ap, subst, lt-ltb, le-ltb}
use Rattle.std.specs.Prelude.{nat_lt, Option}
use Rattle.ts_spec.specs.Key.{Key}
use Rattle.ts_spec.specs.StoredSeries.{StoredSeries}
use Rattle.ts_spec.specs.StoredStep.{StoredOutcome, stored_incr_at}
use Rattle.ts_sample.specs.Steps.{Takes}
use Rattle.ts_labels.specs.Spec.{spec_of}
use Rattle.ts_series.specs.History.{low}
use Rattle.ts_db.specs.Store.{db_view_of, Holds}
use Rattle.ts_db.specs.Answering.{StoredCount}
use Rattle.ts_db.specs.Bounds.{write_steps}
use Rattle.ts_db.proofs.Destinations.{only-key}
use Rattle.ts_db.proofs.Storing.{missing}
use Rattle.ts_db.proofs.Increasing.{incr-before, incr-old, incr-out, incr-merges, change-ignored}
use Rattle.ts_db.proofs.store.Store.incr.Goals as goal

pub create_with_sample-requires-clause-absent : goal.create_with_sample-requires-clause-absent
create_with_sample-requires-clause-absent g c = missing c.args.self.now.limits c.args.self.now.nodes c.args.self.now.keys.entries c.requires.db.store c.args.key (sym (c.in_default.ensures ∙ c.get.ensures.value))

pub returns-in_default-clause-changed : goal.returns-in_default-clause-changed
returns-in_default-clause-changed g c =
    subst (λ (o : Option StoredSeries). StoredCount (db_view_of c.args.self.now) (stored_incr_at c.args.self.now.limits (db_view_of c.args.self.now).keys c.args.key c.args.change c.args.time (spec_of c.args.spec) o) c.create_with_sample.result (db_view_of c.create_with_sample.new.self))
    (sym (missing c.args.self.now.limits c.args.self.now.nodes c.args.self.now.keys.entries c.requires.db.store c.args.key (sym (c.in_default.ensures ∙ c.get.ensures.value)))) c.create_with_sample.ensures.begun

pub returns-then-is_before-clause-changed : goal.returns-then-is_before-clause-changed
returns-then-is_before-clause-changed g c =
    let holds : Holds c.args.self.now c.args.key c.in-Some.id c.node-node.result.now = record { number = sym (c.in-Some.ensures ∙ c.get.ensures.value); node = c.node-node.ensures } in
    (incr-before c.args.self.now c.requires.db.store c.args.key c.in-Some.id c.node-node.result.now holds c.args.change c.args.time (spec_of c.args.spec) (sym c.is_before.ensures ∙ c.if-is_before.true), refl)

pub returns-then-time-edge-clause-changed : goal.returns-then-time-edge-clause-changed
returns-then-time-edge-clause-changed g c =
    let holds : Holds c.args.self.now c.args.key c.in-Some.id c.node-node.result.now = record { number = sym (c.in-Some.ensures ∙ c.get.ensures.value); node = c.node-node.ensures } in
    (incr-old c.args.self.now c.requires.db.store c.args.key c.in-Some.id c.node-node.result.now holds c.args.change c.args.time (spec_of c.args.spec) (sym c.is_before.ensures ∙ c.if-is_before.false) (ap (nat_lt c.args.time) (sym c.edge.ensures) ∙ lt-ltb c.args.time c.edge.result c.if-time-edge.true), refl)

pub returns-clause-changed : goal.returns-clause-changed
returns-clause-changed g c =
    let number = sym (c.in-Some.ensures ∙ c.get.ensures.value) in
    let holds : Holds c.args.self.now c.args.key c.in-Some.id c.node-node.result.now = record { number = number; node = c.node-node.ensures } in
    let late : nat_lt c.args.time (low c.node-node.result.now.series) ≡ false = ap (nat_lt c.args.time) (sym c.edge.ensures) ∙ le-ltb c.args.time c.edge.result c.if-time-edge.false in
    subst (λ (step : StoredOutcome). StoredCount (db_view_of c.args.self.now) step c.write.result (db_view_of c.write.new.self))
    (sym (incr-merges c.args.self.now c.requires.db.store c.args.key c.in-Some.id c.node-node.result.now holds c.args.change c.args.time (spec_of c.args.spec) c.in-Some-changed.value (sym c.is_before.ensures ∙ c.if-is_before.false) late c.in-Some-changed.ensures))
    (c.write.ensures.written c.args.key number)

pub returns-in_default-changed-clause-changed : goal.returns-in_default-changed-clause-changed
returns-in_default-changed-clause-changed g c =
    let holds : Holds c.args.self.now c.args.key c.in-Some.id c.node-node.result.now = record { number = sym (c.in-Some.ensures ∙ c.get.ensures.value); node = c.node-node.ensures } in
    let late : nat_lt c.args.time (low c.node-node.result.now.series) ≡ false = ap (nat_lt c.args.time) (sym c.edge.ensures) ∙ le-ltb c.args.time c.edge.result c.if-time-edge.false in
    (incr-out c.args.self.now c.requires.db.store c.args.key c.in-Some.id c.node-node.result.now holds c.args.change c.args.time (spec_of c.args.spec) (sym c.is_before.ensures ∙ c.if-is_before.false) late c.in_default-changed.ensures, refl)

pub write-requires-clause-there : goal.write-requires-clause-there
write-requires-clause-there g c =
    record { key = c.args.key; node = c.node-node.result.now; holds = record { number = sym (c.in-Some.ensures ∙ c.get.ensures.value); node = c.node-node.ensures } }

pub returns-clause-steps : goal.returns-clause-steps
returns-clause-steps g c =
    subst (λ (key : Key). Takes c.args.steps.now c.write.new.steps (write_steps (db_view_of c.args.self.now) key c.args.time))
    (only-key c.args.self.now c.requires.db.store c.in-Some.id (record { node = c.node-node.result.now; there = c.node-node.ensures }) c.args.key (sym (c.in-Some.ensures ∙ c.get.ensures.value))) c.write.ensures.steps

pub returns-clause-easy : goal.returns-clause-easy
returns-clause-easy g c = c.write.ensures.easy c.args.key (sym (c.in-Some.ensures ∙ c.get.ensures.value))

pub returns-clause-spared : goal.returns-clause-spared
returns-clause-spared g c told =
    let number = sym (c.in-Some.ensures ∙ c.get.ensures.value) in
    let holds : Holds c.args.self.now c.args.key c.in-Some.id c.node-node.result.now = record { number = number; node = c.node-node.ensures } in
    c.write.ensures.spared c.args.key number
    (change-ignored c.args.self.now c.requires.db.store c.args.key c.in-Some.id c.node-node.result.now holds c.args.change c.args.time (spec_of c.args.spec) c.in-Some-changed.value c.in-Some-changed.ensures told)
