use Rattle.std.proofs.Common.{◌≡◌, sym, subst}
use Rattle.ts_mux.specs.ClosedLinks.{is_closed, index_of, stream_of_link}
use Rattle.ts_mux.specs.Links.{pending_items_of, AreDrained, HasIndex}
use Rattle.ts_mux.specs.Order.{without}
use Rattle.ts_mux.proofs.Changes.{closed_others, closed_drained, closed_within, closed_index}
use Rattle.ts_mux.proofs.Closing.{ahead_closed}
use Rattle.ts_mux.proofs.mux.Mux.close.Goals as goal

pub invariant_of-self-clause-drained : goal.invariant_of-self-clause-drained
invariant_of-self-clause-drained c =
    let m = c.args.self.now in
    let next = c.close.new.self in
    subst (λ current. AreDrained current (stream_of_link m.limits next)) (sym c.drop_current.ensures)
    (closed_drained m.limits m.open_connections next c.args.link c.close.ensures.gone c.close.ensures.readers m.current_connection m.drained)

pub invariant_of-self-clause-within : goal.invariant_of-self-clause-within
invariant_of-self-clause-within c =
    let m = c.args.self.now in
    closed_within m.limits m.open_connections c.close.new.self c.args.link c.close.ensures.gone c.close.ensures.readers m.delivered m.within

pub invariant_of-self-clause-index : goal.invariant_of-self-clause-index
invariant_of-self-clause-index c =
    let m = c.args.self.now in
    subst (λ current. HasIndex (index_of c.close.new.self) current) (sym c.drop_current.ensures)
    (closed_index (index_of m.open_connections) (index_of c.close.new.self) c.args.link m.current_connection c.close.ensures.indexes m.index)

pub returns-clause-others : goal.returns-clause-others
returns-clause-others c = λ frames.
    let m = c.args.self.now in
    let next = c.close.new.self in
    let old = stream_of_link m.limits m.open_connections in
    let new = stream_of_link m.limits next in
    subst (λ current. pending_items_of (is_closed next) new current frames ≡ without c.args.link (pending_items_of (is_closed m.open_connections) old m.current_connection frames))
    (sym c.drop_current.ensures)
    (ahead_closed (is_closed m.open_connections) (is_closed next) old new m.current_connection c.args.link c.close.ensures.marks
    (closed_others m.limits m.open_connections next c.args.link c.close.ensures.gone c.close.ensures.readers) frames)
