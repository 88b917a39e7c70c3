use Rattle.std.proofs.Common.{Some, arith}
use Rattle.ts_mux.proofs.ClosedLinks.{open_still, below_any}
use Rattle.ts_mux.proofs.Starting.{started_own, started_streams, started_fed, started_indexes}
use Rattle.ts_mux.proofs.open_connections.OpenConnections.start.Goals as goal

-- ---- it gets one

pub invariant_of-self-in-Ok-clause-below : goal.invariant_of-self-in-Ok-clause-below
invariant_of-self-in-Ok-clause-below c =
    let s = c.args.self.now in
    below_any s.reached s.indexes c.insert.new.self c.args.link s.reached (Some (Some c.vacant_key-index.result)) c.in-Ok.ensures.updates c.requires.reached (omega arith) s.below

pub invariant_of-self-in-Ok-clause-own : goal.invariant_of-self-in-Ok-clause-own
invariant_of-self-in-Ok-clause-own c =
    let s = c.args.self.now in
    started_own s.indexes c.insert.new.self c.args.link c.vacant_key-index.result c.insert_reserved.result c.requires.open c.in-Ok.ensures.updates s.readers c.reserve.new.self c.insert_reserved.new.self c.new.result
    c.reserve.ensures.rest_kept c.vacant_key-index.ensures.vacant c.vacant_key-index.ensures.value c.insert_reserved.ensures.key c.insert_reserved.ensures.updates s.own

pub returns-in-Ok-clause-index : goal.returns-in-Ok-clause-index
returns-in-Ok-clause-index c = c.in-Ok.ensures.updates.1

pub returns-in-Ok-clause-same : goal.returns-in-Ok-clause-same
returns-in-Ok-clause-same c = λ at.
    let s = c.args.self.now in
    open_still c.args.link s.reached (Some c.vacant_key-index.result) s.indexes c.insert.new.self c.requires.open c.in-Ok.ensures.updates at

pub returns-in-Ok-clause-streams : goal.returns-in-Ok-clause-streams
returns-in-Ok-clause-streams c =
    let s = c.args.self.now in
    started_streams s.indexes c.insert.new.self c.args.link c.vacant_key-index.result c.insert_reserved.result c.requires.open c.in-Ok.ensures.updates s.readers c.reserve.new.self c.insert_reserved.new.self c.new.result
    c.reserve.ensures.rest_kept c.vacant_key-index.ensures.vacant c.vacant_key-index.ensures.value c.insert_reserved.ensures.key c.insert_reserved.ensures.updates s.own c.args.limits c.new.ensures.stream

pub returns-in-Ok-clause-fed : goal.returns-in-Ok-clause-fed
returns-in-Ok-clause-fed c =
    let s = c.args.self.now in
    started_fed s.indexes c.insert.new.self c.args.link c.vacant_key-index.result c.insert_reserved.result c.requires.open c.in-Ok.ensures.updates s.readers c.reserve.new.self c.insert_reserved.new.self c.new.result
    c.reserve.ensures.rest_kept c.vacant_key-index.ensures.vacant c.vacant_key-index.ensures.value c.insert_reserved.ensures.key c.insert_reserved.ensures.updates s.own c.new.ensures.fed

pub returns-in-Ok-clause-indexes : goal.returns-in-Ok-clause-indexes
returns-in-Ok-clause-indexes c =
    let s = c.args.self.now in
    started_indexes s.indexes c.insert.new.self c.args.link c.vacant_key-index.result c.insert_reserved.result c.requires.open c.in-Ok.ensures.updates s.readers c.reserve.new.self c.insert_reserved.new.self c.new.result
    c.reserve.ensures.rest_kept c.vacant_key-index.ensures.vacant c.vacant_key-index.ensures.value c.insert_reserved.ensures.key c.insert_reserved.ensures.updates s.own

pub invariant_of-self-in-Ok-clause-recent_indexes : goal.invariant_of-self-in-Ok-clause-recent_indexes
invariant_of-self-in-Ok-clause-recent_indexes c = λ link index e.
    let s = c.args.self.now in
    started_indexes s.indexes c.insert.new.self c.args.link c.vacant_key-index.result c.insert_reserved.result c.requires.open c.in-Ok.ensures.updates s.readers c.reserve.new.self c.insert_reserved.new.self c.new.result
    c.reserve.ensures.rest_kept c.vacant_key-index.ensures.vacant c.vacant_key-index.ensures.value c.insert_reserved.ensures.key c.insert_reserved.ensures.updates s.own
    link index (s.recent_indexes link index e)
