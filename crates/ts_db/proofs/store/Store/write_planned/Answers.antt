use Rattle.std.proofs.Common.{sym}
use Rattle.std.specs.Prelude.{Ok, Err}
use Rattle.ts_series.specs.Put.{met}
use Rattle.ts_db.specs.declared.fault.DbFault.{DbFault}
use Rattle.ts_db.specs.declared.planning.SourceChange.TheVariants.{Write}
use Rattle.ts_db.specs.Planning.{gone_by, rows_by_change, first_full, IsPlanFault}
use Rattle.ts_db.specs.Store.{db_view_of}
use Rattle.ts_db.proofs.SamplesWritten.{IsWritten, IsUnwritten, written-sample, unwritten-sample, fits-written}
use Rattle.ts_db.proofs.WriteDone.{room, ready, destinations, done}
use Rattle.ts_db.proofs.WriteEnds.{Ends, refused, unwritten, plan_fault, finished}
use Rattle.ts_db.proofs.store.Store.write_planned.Goals as goal
use Rattle.ts_db.proofs.store.Store.write_planned.Goals.{After-fault_at, After-drop, After-plan_fault, After-plan_rules, After-update_destinations}

-- ---- refused

refusal : (g : _) (c : After-fault_at g) → Ends c.args.self.now c.args.id c.args.how c.args.time c.args.value (Err c.fault_at.result) (db_view_of c.args.self.now) c.args.steps.now c.put.new.steps
refusal g c =
    refused c.args.self.now c.requires.db c.args.id c.node-node.result.now c.node-node.ensures c.args.how c.args.time c.args.value c.args.steps.now c.put.new.steps c.put.ensures.steps c.put.ensures.easy
    c.in-Err.fault c.fault_at.result c.in-Err.ensures.answer c.in_default.ensures (c.fault_at.ensures.refusal (db_view_of c.args.self.now).ids) c.fault_at.ensures.own

pub returns-in_default-clause-written : goal.returns-in_default-clause-written
returns-in_default-clause-written g c = (refusal g (goal.at.returns-in_default-clause-written g c).After-fault_at).written

pub returns-in_default-clause-own : goal.returns-in_default-clause-own
returns-in_default-clause-own g c = (refusal g (goal.at.returns-in_default-clause-own g c).After-fault_at).own

pub returns-in_default-clause-steps : goal.returns-in_default-clause-steps
returns-in_default-clause-steps g c = (refusal g (goal.at.returns-in_default-clause-steps g c).After-fault_at).steps

pub returns-in_default-clause-easy : goal.returns-in_default-clause-easy
returns-in_default-clause-easy g c = (refusal g (goal.at.returns-in_default-clause-easy g c).After-fault_at).easy

-- ---- memory ran out for a sample

pub plan_fault-requires-clause-room : goal.plan_fault-requires-clause-room
plan_fault-requires-clause-room g c = room c.args.self.now c.requires.db c.args.id c.node-node.result.now c.node-node.ensures c.in-Some.lost c.deref.result.now c.deref.ensures.value

lost : (g : _) (c : After-plan_fault g) → Ends c.args.self.now c.args.id c.args.how c.args.time c.args.value (Err c.plan_fault.result) (db_view_of c.args.self.now) c.args.steps.now c.plan_fault.new.steps
lost g c =
    plan_fault c.args.self.now c.requires.db c.args.id c.node-node.result.now c.node-node.ensures c.args.how c.args.time c.args.value c.args.steps.now c.put.new.steps c.put.ensures.steps c.put.ensures.easy c.in-Some.lost
    (unwritten-sample c.in-Err.fault (met c.args.how c.args.time c.args.value c.node-node.result.now.series) c.args.self.now.limits.samples c.args.time c.node-node.result.now.series c.in-Some.lost c.in-Err.ensures.answer (sym c.in-Some.ensures))
    c.deref.result.now c.deref.ensures.value c.plan_fault.new.steps c.plan_fault.ensures.steps c.plan_fault.ensures.easy c.plan_fault.result c.plan_fault.ensures.refused

pub returns-in-Err-clause-written : goal.returns-in-Err-clause-written
returns-in-Err-clause-written g c = (lost g (goal.at.returns-in-Err-clause-written g c).After-plan_fault).written

pub returns-in-Err-clause-own : goal.returns-in-Err-clause-own
returns-in-Err-clause-own g c = (lost g (goal.at.returns-in-Err-clause-own g c).After-plan_fault).own

pub returns-in-Err-clause-steps : goal.returns-in-Err-clause-steps
returns-in-Err-clause-steps g c = (lost g (goal.at.returns-in-Err-clause-steps g c).After-plan_fault).steps

pub returns-in-Err-clause-easy : goal.returns-in-Err-clause-easy
returns-in-Err-clause-easy g c = (lost g (goal.at.returns-in-Err-clause-easy g c).After-plan_fault).easy

-- ---- nothing is to be written

nothing : (g : _) (c : After-drop g) → Ends c.args.self.now c.args.id c.args.how c.args.time c.args.value (Ok c.args.time) (db_view_of c.args.self.now) c.args.steps.now c.put.new.steps
nothing g c = unwritten c.args.self.now c.requires.db c.args.id c.node-node.result.now c.node-node.ensures c.args.how c.args.time c.args.value c.args.steps.now c.put.new.steps c.put.ensures.steps c.put.ensures.easy c.in-Ok.plan c.in-Ok.ensures.answer c.in_default-wrote.ensures

pub returns-in_default-wrote-clause-written : goal.returns-in_default-wrote-clause-written
returns-in_default-wrote-clause-written g c = (nothing g (goal.at.returns-in_default-wrote-clause-written g c).After-drop).written

pub returns-in_default-wrote-clause-steps : goal.returns-in_default-wrote-clause-steps
returns-in_default-wrote-clause-steps g c = (nothing g (goal.at.returns-in_default-wrote-clause-steps g c).After-drop).steps

pub returns-in_default-wrote-clause-easy : goal.returns-in_default-wrote-clause-easy
returns-in_default-wrote-clause-easy g c = (nothing g (goal.at.returns-in_default-wrote-clause-easy g c).After-drop).easy

-- ---- the rules are planned for

pub plan_rules-requires-clause-room : goal.plan_rules-requires-clause-room
plan_rules-requires-clause-room g c = room c.args.self.now c.requires.db c.args.id c.node-node.result.now c.node-node.ensures c.in-Some-wrote.wrote c.deref-2.result.now c.deref-2.ensures.value

-- the sample that the plan writes
sample : (g : _) (c : After-plan_rules g) → IsWritten c.args.self.now.limits.samples (met c.args.how c.args.time c.args.value c.node-node.result.now.series) c.args.time c.node-node.result.now.series c.in-Some-wrote.wrote c.in-Ok.plan
sample g c = written-sample c.in-Ok.plan (met c.args.how c.args.time c.args.value c.node-node.result.now.series) c.args.self.now.limits.samples c.args.time c.node-node.result.now.series c.in-Some-wrote.wrote c.in-Ok.ensures.answer c.in-Some-wrote.ensures

fitting : (g : _) (c : After-plan_rules g) → IsUnwritten c.args.self.now.limits.samples (met c.args.how c.args.time c.args.value c.node-node.result.now.series) c.args.time c.node-node.result.now.series c.in-Some-wrote.wrote
fitting g c = fits-written c.args.self.now.limits.samples (met c.args.how c.args.time c.args.value c.node-node.result.now.series) c.args.time c.node-node.result.now.series c.in-Some-wrote.wrote c.in-Ok.plan (sample g c)

-- a destination refuses, or memory runs out
rule_conflict : (g : _) (c : After-plan_rules g) (fault : DbFault) → IsPlanFault (first_full c.args.self.now.limits.samples c.args.self.now.nodes (rows_by_change (Write c.in-Some-wrote.wrote) c.node-node.result.now.series) (gone_by (Write c.in-Some-wrote.wrote) c.node-node.result.now.series) c.deref-2.result.now) fault
    → Ends c.args.self.now c.args.id c.args.how c.args.time c.args.value (Err fault) (db_view_of c.args.self.now) c.args.steps.now c.plan_rules.new.steps
rule_conflict g c = plan_fault c.args.self.now c.requires.db c.args.id c.node-node.result.now c.node-node.ensures c.args.how c.args.time c.args.value c.args.steps.now c.put.new.steps c.put.ensures.steps c.put.ensures.easy c.in-Some-wrote.wrote (fitting g c) c.deref-2.result.now c.deref-2.ensures.value c.plan_rules.new.steps c.plan_rules.ensures.steps c.plan_rules.ensures.easy

pub returns-in-Err-plan_rules-clause-written : goal.returns-in-Err-plan_rules-clause-written
returns-in-Err-plan_rules-clause-written g c = (rule_conflict g (goal.at.returns-in-Err-plan_rules-clause-written g c).After-plan_rules c.in-Err-plan_rules.fault c.in-Err-plan_rules.ensures.refused).written

pub returns-in-Err-plan_rules-clause-own : goal.returns-in-Err-plan_rules-clause-own
returns-in-Err-plan_rules-clause-own g c = (rule_conflict g (goal.at.returns-in-Err-plan_rules-clause-own g c).After-plan_rules c.in-Err-plan_rules.fault c.in-Err-plan_rules.ensures.refused).own

pub returns-in-Err-plan_rules-clause-steps : goal.returns-in-Err-plan_rules-clause-steps
returns-in-Err-plan_rules-clause-steps g c = (rule_conflict g (goal.at.returns-in-Err-plan_rules-clause-steps g c).After-plan_rules c.in-Err-plan_rules.fault c.in-Err-plan_rules.ensures.refused).steps

pub returns-in-Err-plan_rules-clause-easy : goal.returns-in-Err-plan_rules-clause-easy
returns-in-Err-plan_rules-clause-easy g c = (rule_conflict g (goal.at.returns-in-Err-plan_rules-clause-easy g c).After-plan_rules c.in-Err-plan_rules.fault c.in-Err-plan_rules.ensures.refused).easy

-- ---- it is done

pub apply-requires-clause-ready : goal.apply-requires-clause-ready
apply-requires-clause-ready g c =
    ready c.args.self.now c.requires.db c.args.id c.node-node.result.now c.node-node.ensures c.args.how c.args.time c.args.value c.in-Ok.plan c.in-Some-wrote.wrote (sample g (goal.at.apply-requires-clause-ready g c).After-plan_rules) c.deref-2.result.now c.deref-2.ensures.value
    c.in-Ok-plan_rules.planned.rules c.in-Ok-plan_rules.planned.plans.items (record { changed = c.in-Ok-plan_rules.ensures.rules; update_dest = c.in-Ok-plan_rules.ensures.update_dest; fit = c.in-Ok-plan_rules.ensures.fit }) c.in-Ok.ensures.planned

pub update_destinations-requires-clause-planned : goal.update_destinations-requires-clause-planned
update_destinations-requires-clause-planned g c =
    destinations c.args.self.now c.requires.db c.args.id c.node-node.result.now c.node-node.ensures c.args.how c.args.time c.args.value c.in-Ok.plan c.in-Some-wrote.wrote (sample g (goal.at.update_destinations-requires-clause-planned g c).After-plan_rules) c.deref-2.result.now c.deref-2.ensures.value
    c.in-Ok-plan_rules.planned.rules c.in-Ok-plan_rules.planned.plans.items (record { changed = c.in-Ok-plan_rules.ensures.rules; update_dest = c.in-Ok-plan_rules.ensures.update_dest; fit = c.in-Ok-plan_rules.ensures.fit }) c.apply.new.self c.apply.ensures.elsewhere

complete : (g : _) (c : After-update_destinations g) → Ends c.args.self.now c.args.id c.args.how c.args.time c.args.value (Ok c.args.time) (db_view_of c.update_destinations.new.self) c.args.steps.now c.plan_rules.new.steps
complete g c =
    let p : IsWritten c.args.self.now.limits.samples (met c.args.how c.args.time c.args.value c.node-node.result.now.series) c.args.time c.node-node.result.now.series c.in-Some-wrote.wrote c.in-Ok.plan =
    written-sample c.in-Ok.plan (met c.args.how c.args.time c.args.value c.node-node.result.now.series) c.args.self.now.limits.samples c.args.time c.node-node.result.now.series c.in-Some-wrote.wrote c.in-Ok.ensures.answer c.in-Some-wrote.ensures in
    finished c.args.self.now c.requires.db c.args.id c.node-node.result.now c.node-node.ensures c.args.how c.args.time c.args.value c.args.steps.now c.put.new.steps c.put.ensures.steps c.put.ensures.easy c.in-Some-wrote.wrote (fits-written c.args.self.now.limits.samples (met c.args.how c.args.time c.args.value c.node-node.result.now.series) c.args.time c.node-node.result.now.series c.in-Some-wrote.wrote c.in-Ok.plan p) c.deref-2.result.now c.deref-2.ensures.value c.plan_rules.new.steps c.plan_rules.ensures.steps c.plan_rules.ensures.easy (db_view_of c.update_destinations.new.self)
    (done c.args.self.now c.requires.db c.args.id c.node-node.result.now c.node-node.ensures c.args.how c.args.time c.args.value c.in-Ok.plan c.in-Some-wrote.wrote p c.deref-2.result.now c.deref-2.ensures.value c.in-Ok-plan_rules.planned.rules c.in-Ok-plan_rules.planned.plans.items
    (record { changed = c.in-Ok-plan_rules.ensures.rules; update_dest = c.in-Ok-plan_rules.ensures.update_dest; fit = c.in-Ok-plan_rules.ensures.fit }) c.apply.new.self c.apply.ensures.elsewhere c.update_destinations.new.self c.apply.ensures.applied c.update_destinations.ensures.update_dest)

pub returns-clause-written : goal.returns-clause-written
returns-clause-written g c = (complete g (goal.at.returns-clause-written g c).After-update_destinations).written

pub returns-clause-steps : goal.returns-clause-steps
returns-clause-steps g c = (complete g (goal.at.returns-clause-steps g c).After-update_destinations).steps

pub returns-clause-easy : goal.returns-clause-easy
returns-clause-easy g c = (complete g (goal.at.returns-clause-easy g c).After-update_destinations).easy
