use Rattle.std.proofs.Common.{None, subst, ap, ◌∙◌}
use Rattle.std.specs.Option.{unwrap_or}
use Rattle.ts_mux.specs.OwnReaders.{index_in, reader_at, RemovesReader}
use Rattle.ts_mux.proofs.ClosedLinks.{closed_now, below_without, index_here, index_other}
use Rattle.ts_mux.proofs.OwnReaders.{close_own, close_others}
use Rattle.ts_mux.proofs.open_connections.OpenConnections.close.Goals as goal

pub invariant_of-self-clause-below : goal.invariant_of-self-clause-below
invariant_of-self-clause-below c =
    let s = c.args.self.now in
    below_without s.reached s.indexes c.remove.new.self _ c.remove.ensures.updates s.below

pub invariant_of-self-clause-own : goal.invariant_of-self-clause-own
invariant_of-self-clause-own c =
    let s = c.args.self.now in
    close_own (index_in s.indexes) (index_in c.remove.new.self) _ (index_here _ None s.indexes c.remove.new.self c.remove.ensures.updates)
    (index_other _ None s.indexes c.remove.new.self c.remove.ensures.updates) s.readers c.remove_reader.new.readers
    (subst (RemovesReader s.readers c.remove_reader.new.readers) (c.unwrap_or-index.ensures ∙ ap (λ o. unwrap_or o None) c.remove.ensures.value) c.remove_reader.ensures) s.own

pub returns-clause-marks : goal.returns-clause-marks
returns-clause-marks c = λ at. closed_now c.args.link c.args.self.now.reached c.args.self.now.indexes c.remove.new.self c.requires c.remove.ensures.updates at

pub returns-clause-indexes : goal.returns-clause-indexes
returns-clause-indexes c = index_other c.args.link None c.args.self.now.indexes c.remove.new.self c.remove.ensures.updates

pub returns-clause-readers : goal.returns-clause-readers
returns-clause-readers c =
    let s = c.args.self.now in
    close_others (index_in s.indexes) (index_in c.remove.new.self) c.args.link (index_here c.args.link None s.indexes c.remove.new.self c.remove.ensures.updates)
    (index_other c.args.link None s.indexes c.remove.new.self c.remove.ensures.updates) s.readers c.remove_reader.new.readers
    (subst (RemovesReader s.readers c.remove_reader.new.readers) (c.unwrap_or-index.ensures ∙ ap (λ o. unwrap_or o None) c.remove.ensures.value) c.remove_reader.ensures) s.own

pub returns-clause-gone : goal.returns-clause-gone
returns-clause-gone c =
    ap (reader_at c.remove_reader.new.readers) (index_here c.args.link None c.args.self.now.indexes c.remove.new.self c.remove.ensures.updates)

pub invariant_of-self-clause-recent_indexes : goal.invariant_of-self-clause-recent_indexes
invariant_of-self-clause-recent_indexes c = λ link index e.
    let s = c.args.self.now in
    let before = c.clear.ensures link index e in
    index_other c.args.link None s.indexes c.remove.new.self c.remove.ensures.updates link before.1 ∙ s.recent_indexes link index before.0
