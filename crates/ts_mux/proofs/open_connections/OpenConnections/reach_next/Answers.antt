use Rattle.std.proofs.Common.{◌+◌, refl, ap, ◌∙◌, arith}
use Rattle.ts_mux.specs.OwnReaders.{index_in, reader_at}
use Rattle.ts_mux.proofs.ClosedLinks.{reached_next, index_next, below_any, below_same}
use Rattle.ts_mux.proofs.OwnReaders.{own_same}
use Rattle.ts_mux.proofs.Starting.{same_indexes}
use Rattle.ts_mux.proofs.open_connections.OpenConnections.reach_next.Goals as goal

pub invariant_of-self-clause-below : goal.invariant_of-self-clause-below
invariant_of-self-clause-below c =
    let s = c.args.self.now in
    below_any s.reached s.indexes c.insert.new.self _ (s.reached + 1) _ c.in-Ok.ensures.updates (omega arith) (omega arith) s.below

pub invariant_of-self-clause-own : goal.invariant_of-self-clause-own
invariant_of-self-clause-own c =
    let s = c.args.self.now in
    own_same (index_in s.indexes) (index_in c.insert.new.self) s.readers s.readers (index_next s.reached s.indexes c.insert.new.self c.in-Ok.ensures.updates s.below) (λ at. refl) s.own

pub returns-in-Ok-clause-same : goal.returns-in-Ok-clause-same
returns-in-Ok-clause-same c = λ at. reached_next c.args.self.now.reached c.args.self.now.indexes c.insert.new.self c.in-Ok.ensures.updates at

pub returns-in-Ok-clause-indexes : goal.returns-in-Ok-clause-indexes
returns-in-Ok-clause-indexes c = λ at. index_next c.args.self.now.reached c.args.self.now.indexes c.insert.new.self c.in-Ok.ensures.updates c.args.self.now.below at

pub returns-in-Ok-clause-readers : goal.returns-in-Ok-clause-readers
returns-in-Ok-clause-readers c = λ at.
    let s = c.args.self.now in
    ap (reader_at s.readers) (index_next s.reached s.indexes c.insert.new.self c.in-Ok.ensures.updates s.below at)

pub invariant_of-self-in-Err-clause-below : goal.invariant_of-self-in-Err-clause-below
invariant_of-self-in-Err-clause-below c = below_same c.args.self.now.reached c.args.self.now.indexes c.insert.new.self c.in-Err.ensures.err c.args.self.now.below

pub invariant_of-self-in-Err-clause-own : goal.invariant_of-self-in-Err-clause-own
invariant_of-self-in-Err-clause-own c =
    let s = c.args.self.now in
    own_same (index_in s.indexes) (index_in c.insert.new.self) s.readers s.readers (same_indexes s.indexes c.insert.new.self c.in-Err.ensures.err) (λ at. refl) s.own

pub returns-in-Err-clause-indexes : goal.returns-in-Err-clause-indexes
returns-in-Err-clause-indexes c = λ at. same_indexes c.args.self.now.indexes c.insert.new.self c.in-Err.ensures.err at

pub returns-in-Err-clause-readers : goal.returns-in-Err-clause-readers
returns-in-Err-clause-readers c = λ at. ap (reader_at c.args.self.now.readers) (same_indexes c.args.self.now.indexes c.insert.new.self c.in-Err.ensures.err at)

pub invariant_of-self-clause-recent_indexes : goal.invariant_of-self-clause-recent_indexes
invariant_of-self-clause-recent_indexes c = λ link index e.
    let s = c.args.self.now in
    index_next s.reached s.indexes c.insert.new.self c.in-Ok.ensures.updates s.below link ∙ s.recent_indexes link index e

pub invariant_of-self-in-Err-clause-recent_indexes : goal.invariant_of-self-in-Err-clause-recent_indexes
invariant_of-self-in-Err-clause-recent_indexes c = λ link index e.
    let s = c.args.self.now in
    same_indexes s.indexes c.insert.new.self c.in-Err.ensures.err link ∙ s.recent_indexes link index e
