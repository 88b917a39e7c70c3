use Rattle.ts_mux.specs.ClosedLinks.{index_of, stream_of_link, fed_to_link}
use Rattle.ts_mux.proofs.Changes.{streams_same, fed_same, within_same, index_equal, index_kept, same_if}
use Rattle.ts_mux.proofs.Feeding.{ahead_kept}
use Rattle.ts_mux.proofs.Streams.{drained_same}
use Rattle.ts_mux.proofs.mux.Mux.give_back.Goals as goal

pub give_back-requires : goal.give_back-requires
give_back-requires c = c.args.self.now.index c.in-Some.at c.in-Some.is

pub invariant_of-self-clause-drained : goal.invariant_of-self-clause-drained
invariant_of-self-clause-drained c =
    let m = c.args.self.now in
    let next = c.give_back.new.self in
    drained_same (stream_of_link m.limits m.open_connections) (stream_of_link m.limits next) m.current_connection
    (streams_same m.limits m.open_connections next (same_if m.limits m.open_connections next c.in-Some.at.link c.give_back.ensures c.give_back.ensures.so)) m.drained

pub invariant_of-self-clause-within : goal.invariant_of-self-clause-within
invariant_of-self-clause-within c =
    let m = c.args.self.now in
    let next = c.give_back.new.self in
    within_same m.delivered (fed_to_link m.open_connections) (fed_to_link next)
    (fed_same m.open_connections next (same_if m.limits m.open_connections next c.in-Some.at.link c.give_back.ensures c.give_back.ensures.so)) m.within

pub invariant_of-self-clause-index : goal.invariant_of-self-clause-index
invariant_of-self-clause-index c =
    let m = c.args.self.now in
    index_equal (index_of m.open_connections) (index_of c.give_back.new.self) m.current_connection (index_kept m.open_connections c.give_back.new.self c.give_back.ensures.indexes) m.index

pub returns-in-Some-clause-same : goal.returns-in-Some-clause-same
returns-in-Some-clause-same c = λ frames.
    let m = c.args.self.now in
    ahead_kept m.limits m.open_connections c.give_back.new.self c.in-Some.at c.give_back.ensures m.current_connection c.give_back.ensures.so frames
