use Rattle.std.proofs.Common.{◌≤◌, refl, sym, ◌∙◌, ap, subst, arith}
use Rattle.std.proofs.lemmas.Bool.{false≢true}
use Rattle.std.specs.Prelude.{Option, Ok}
use Rattle.std.specs.Option.{unwrap_or}
use Rattle.ts_spec.specs.declared.series.Policy.{Policy}
use Rattle.ts_spec.specs.declared.series.Merge.{Merge}
use Rattle.ts_spec.specs.declared.series.Merge.TheVariants.{By}
use Rattle.ts_spec.specs.Sample.{first_of}
use Rattle.ts_spec.specs.StoredSeries.{StoredSeries}
use Rattle.ts_spec.specs.StoredStep.{StoredOutcome, stored_write}
use Rattle.ts_series.specs.Plan.{Plan}
use Rattle.ts_series.specs.Put.{met}
use Rattle.ts_db.specs.declared.node.Node.{Node}
use Rattle.ts_db.specs.Store.{stored_node, db_view_of, Holds}
use Rattle.ts_db.specs.Answering.{StoredCount}
use Rattle.ts_db.specs.PutBy.{stored_merge_at}
use Rattle.ts_db.proofs.Applying.{there}
use Rattle.ts_db.proofs.Ignoring.{not-ignored, ignored-upto, write-ignored, write-unignored}
use Rattle.ts_db.proofs.SamplesWritten.{IsWritten, written-sample}
use Rattle.ts_db.proofs.WriteDone.{open_room, grows, counted_once_more}
use Rattle.ts_db.proofs.WriteEnds.{at_once}
use Rattle.ts_db.proofs.store.Store.write.Goals as goal
use Rattle.ts_db.proofs.store.Store.write.Goals.{After-stays_open}

-- how a sample is written to a series: so, or by its own policy
abbrev how_in : Option Merge → Node → Merge
how_in how n = unwrap_or how (By n.series.options.policy)

-- ---- a sample that is ignored

pub returns-in-Some-clause-written : goal.returns-in-Some-clause-written
returns-in-Some-clause-written g c key is =
    let holds : Holds c.args.self.now key c.args.id c.node-node.result.now = record { number = is; node = c.node-node.ensures } in (
      ap (stored_merge_at c.args.self.now.limits (db_view_of c.args.self.now).keys key c.args.time c.args.value c.args.how) (there c.args.self.now c.requires.db.store key c.args.id c.node-node.result.now holds)
          ∙ write-ignored c.args.self.now c.requires.db.store key c.args.id c.node-node.result.now holds c.args.time c.args.value
          (how_in c.args.how c.node-node.result.now) c.in-Some.last c.in-Some.ensures,
      refl,
    )

pub returns-in-Some-clause-bounded : goal.returns-in-Some-clause-bounded
returns-in-Some-clause-bounded g c =
    let holds : Holds c.args.self.now c.requires.there.key c.args.id c.node-node.result.now = record { number = c.requires.there.holds.number; node = c.node-node.ensures } in
    let upto : c.in-Some.last ≤ c.args.time =
    ignored-upto c.args.self.now c.requires.db.store c.requires.there.key c.args.id c.node-node.result.now holds c.args.time c.args.value c.in-Some.last c.in-Some.ensures in
    omega (arith, c.requires.time)

-- ---- an append that stays in all open buckets

appended : (g : _) (c : After-stays_open g) → IsWritten c.args.self.now.limits.samples (met (how_in c.args.how c.node-node.result.now) c.args.time c.args.value c.node-node.result.now.series) c.args.time c.node-node.result.now.series c.sample-wrote.result c.in-Some-plan_append.plan
appended g c =
    written-sample c.in-Some-plan_append.plan (met (how_in c.args.how c.node-node.result.now) c.args.time c.args.value c.node-node.result.now.series) c.args.self.now.limits.samples c.args.time c.node-node.result.now.series c.sample-wrote.result
    (c.in-Some-plan_append.ensures.answer (how_in c.args.how c.node-node.result.now)) (sym (ap (λ (q : Plan). first_of q.wrote) c.sample-wrote.ensures))

pub append_open-requires-clause-ready : goal.append_open-requires-clause-ready
append_open-requires-clause-ready g c =
    grows c.args.self.now c.requires.db c.args.id c.node-node.result.now c.node-node.ensures (how_in c.args.how c.node-node.result.now) c.args.time c.args.value c.in-Some-plan_append.plan c.sample-wrote.result
    (appended g (goal.at.append_open-requires-clause-ready g c).After-stays_open) c.in-Some-plan_append.ensures.planned

pub append_open-requires-clause-room : goal.append_open-requires-clause-room
append_open-requires-clause-room g c = open_room c.args.self.now c.requires.db c.args.id c.node-node.result.now c.node-node.ensures c.sample-wrote.result c.deref.result.now c.deref.ensures.value (c.stays_open.ensures c.if-stays_open.true)

pub returns-then-stays_open-clause-written : goal.returns-then-stays_open-clause-written
returns-then-stays_open-clause-written g c key is =
    let p = appended g (goal.at.returns-then-stays_open-clause-written g c).After-stays_open in
    let how : Merge = how_in c.args.how c.node-node.result.now in
    let holds : Holds c.args.self.now key c.args.id c.node-node.result.now = record { number = is; node = c.node-node.ensures } in
    subst (λ (o : Option StoredSeries). StoredCount (db_view_of c.args.self.now) (stored_merge_at c.args.self.now.limits (db_view_of c.args.self.now).keys key c.args.time c.args.value c.args.how o) (Ok c.args.time) (db_view_of c.append_open.new.self))
    (sym (there c.args.self.now c.requires.db.store key c.args.id c.node-node.result.now holds))
    (subst (λ (step : StoredOutcome). StoredCount (db_view_of c.args.self.now) step (Ok c.args.time) (db_view_of c.append_open.new.self))
    (sym (write-unignored c.args.self.now c.requires.db.store key c.args.id c.node-node.result.now holds c.args.time c.args.value how c.in_default.ensures))
    ((at_once c.args.self.now c.requires.db c.args.id c.node-node.result.now c.node-node.ensures how c.args.time c.args.value (db_view_of c.append_open.new.self)
    (counted_once_more c.args.self.now c.requires.db c.args.id c.node-node.result.now c.node-node.ensures how c.args.time c.args.value c.in-Some-plan_append.plan c.sample-wrote.result p c.deref.result.now c.deref.ensures.value (c.stays_open.ensures c.if-stays_open.true)
    c.append_open.new.self c.append_open.ensures.elsewhere c.append_open.ensures.store c.append_open.ensures.counted_once_more) c.args.steps.now).written key c.node-node.result.now holds))

pub returns-then-stays_open-clause-spared : goal.returns-then-stays_open-clause-spared
returns-then-stays_open-clause-spared g c key is told =
    let holds : Holds c.args.self.now key c.args.id c.node-node.result.now = record { number = is; node = c.node-node.ensures } in
    absurd (false≢true (not-ignored c.args.self.now c.requires.db.store key c.args.id c.node-node.result.now holds c.args.time c.args.value c.in_default.ensures told))

-- ---- any other sample

pub returns-clause-written : goal.returns-clause-written
returns-clause-written g c key is =
    let holds : Holds c.args.self.now key c.args.id c.node-node.result.now = record { number = is; node = c.node-node.ensures } in
    subst (λ (o : Option StoredSeries). StoredCount (db_view_of c.args.self.now) (stored_merge_at c.args.self.now.limits (db_view_of c.args.self.now).keys key c.args.time c.args.value c.args.how o) c.write_planned.result (db_view_of c.write_planned.new.self))
    (sym (there c.args.self.now c.requires.db.store key c.args.id c.node-node.result.now holds))
    (subst (λ (how : Merge). StoredCount (db_view_of c.args.self.now) (stored_write c.args.self.now.limits (db_view_of c.args.self.now).keys key (stored_node c.args.self.now.nodes c.node-node.result.now) how c.args.time c.args.value) c.write_planned.result (db_view_of c.write_planned.new.self))
    (c.unwrap_or-how.ensures ∙ ap (λ (policy : Policy). unwrap_or c.args.how (By policy)) c.policy.ensures)
    (subst (λ (step : StoredOutcome). StoredCount (db_view_of c.args.self.now) step c.write_planned.result (db_view_of c.write_planned.new.self))
    (sym (write-unignored c.args.self.now c.requires.db.store key c.args.id c.node-node.result.now holds c.args.time c.args.value c.unwrap_or-how.result c.in_default.ensures))
    (c.write_planned.ensures.written key c.node-node.result.now holds)))

pub returns-clause-spared : goal.returns-clause-spared
returns-clause-spared g c key is told =
    let holds : Holds c.args.self.now key c.args.id c.node-node.result.now = record { number = is; node = c.node-node.ensures } in
    absurd (false≢true (not-ignored c.args.self.now c.requires.db.store key c.args.id c.node-node.result.now holds c.args.time c.args.value c.in_default.ensures told))
