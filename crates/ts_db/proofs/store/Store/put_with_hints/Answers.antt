use Rattle.std.proofs.Common.{refl, sym, ap, subst}
use Rattle.ts_spec.specs.Key.{Key}
use Rattle.ts_spec.specs.Keyed.{get}
use Rattle.ts_spec.specs.StoredStep.{StoredOutcome}
use Rattle.ts_sample.specs.Steps.{Takes}
use Rattle.ts_db.specs.Store.{db_view_of}
use Rattle.ts_db.specs.Answering.{StoredCount}
use Rattle.ts_db.specs.PutBy.{stored_put_with_policy_at}
use Rattle.ts_db.specs.Bounds.{write_steps}
use Rattle.ts_db.proofs.Destinations.{only-key}
use Rattle.ts_db.proofs.PutBy.{put-merges}
use Rattle.ts_db.proofs.Storing.{missing}
use Rattle.ts_db.proofs.store.Store.put_with_hints.Goals as goal

pub returns-in_default-clause-put : goal.returns-in_default-clause-put
returns-in_default-clause-put g c = (
  ap (stored_put_with_policy_at c.args.self.now.limits (db_view_of c.args.self.now).keys c.args.key.now c.args.time c.args.value c.args.on) (missing c.args.self.now.limits c.args.self.now.nodes c.args.self.now.keys.entries c.requires.db.store c.args.key.now (sym c.in_default.ensures)),
  refl,
)

pub write-answer-requires-clause-there : goal.write-answer-requires-clause-there
write-answer-requires-clause-there g c =
    let number = sym c.in-Some.ensures in
    let found = c.requires.db.store.stored c.args.key.now c.in-Some.id number in
    record { key = c.args.key.now; node = found.0; holds = record { number = number; node = found.1 } }

pub returns-clause-put : goal.returns-clause-put
returns-clause-put g c =
    subst (λ (step : StoredOutcome). StoredCount (db_view_of c.args.self.now) step c.write-answer.result (db_view_of c.write-answer.new.self))
    (put-merges c.args.self.now.limits (db_view_of c.args.self.now).keys c.args.key.now c.args.time c.args.value c.args.on c.merge_by.result c.merge_by.ensures (get c.args.key.now (db_view_of c.args.self.now).keys))
    (c.write-answer.ensures.written c.args.key.now (sym c.in-Some.ensures))

pub returns-clause-own : goal.returns-clause-own
returns-clause-own g c = c.write-answer.ensures.own c.args.key.now (sym c.in-Some.ensures)

pub returns-clause-steps : goal.returns-clause-steps
returns-clause-steps g c =
    let number = sym c.in-Some.ensures in
    let found = c.requires.db.store.stored c.args.key.now c.in-Some.id number in
    subst (λ (key : Key). Takes c.args.steps.now c.write-answer.new.steps (write_steps (db_view_of c.args.self.now) key c.args.time))
    (only-key c.args.self.now c.requires.db.store c.in-Some.id (record { node = found.0; there = found.1 }) c.args.key.now number) c.write-answer.ensures.steps

pub returns-clause-easy : goal.returns-clause-easy
returns-clause-easy g c = c.write-answer.ensures.easy c.args.key.now (sym c.in-Some.ensures)

pub returns-clause-spared : goal.returns-clause-spared
returns-clause-spared g c = c.write-answer.ensures.spared c.args.key.now (sym c.in-Some.ensures)
