use Rattle.std.proofs.Common.{Some, refl, sym, subst}
use Rattle.ts_mux.specs.ClosedLinks.{is_closed, index_of, stream_of_link}
use Rattle.ts_mux.specs.Links.{pending_items_of}
use Rattle.ts_mux.specs.Turns.{IsNextTurn}
use Rattle.ts_mux.proofs.Changes.{stream_before, stream_after, stream_others, drained_others, within_next, index_equal, index_kept, closed_same}
use Rattle.ts_mux.proofs.Closing.{gives}
use Rattle.ts_mux.proofs.mux.Mux.ask.Goals as goal

pub next-requires : goal.next-requires
next-requires c = c.args.self.now.index c.in-Some.at c.in-Some.is

pub invariant_of-self-clause-drained : goal.invariant_of-self-clause-drained
invariant_of-self-clause-drained c =
    let m = c.args.self.now in
    drained_others m.limits m.open_connections c.next.new.self c.in-Some.at.link c.next.ensures.changed m.current_connection c.in-Some.at c.in-Some.is refl m.drained

pub invariant_of-self-clause-within : goal.invariant_of-self-clause-within
invariant_of-self-clause-within c =
    let m = c.args.self.now in
    within_next m.limits m.open_connections c.next.new.self c.in-Some.at.link c.next.ensures.changed m.delivered c.next.ensures.changed.so.1 m.within

pub invariant_of-self-clause-index : goal.invariant_of-self-clause-index
invariant_of-self-clause-index c =
    let m = c.args.self.now in
    index_equal (index_of m.open_connections) (index_of c.next.new.self) m.current_connection (index_kept m.open_connections c.next.new.self c.next.ensures.changed.indexes) m.index

pub returns-in-Some-clause-gives : goal.returns-in-Some-clause-gives
returns-in-Some-clause-gives c =
    let m = c.args.self.now in
    let at = c.in-Some.at in
    let next = c.next.new.self in
    let old = stream_of_link m.limits m.open_connections in
    let new = stream_of_link m.limits next in
    let changed = c.next.ensures.changed in
    subst (λ current. IsNextTurn c.next.result (pending_items_of (is_closed m.open_connections) old current) (pending_items_of (is_closed next) new current)) (sym c.in-Some.is)
    (subst (λ closed. IsNextTurn c.next.result (pending_items_of (is_closed m.open_connections) old (Some at)) (pending_items_of closed new (Some at)))
    (sym (closed_same m.open_connections next changed.indexes changed.reached))
    (gives (is_closed m.open_connections) old new at changed.was changed.now (stream_before m.limits m.open_connections next at.link changed)
    (stream_after m.limits m.open_connections next at.link changed) (stream_others m.limits m.open_connections next at.link changed) c.next.result changed.so.0))
