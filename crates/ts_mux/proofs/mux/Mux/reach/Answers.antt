use Rattle.ts_mux.specs.ClosedLinks.{index_of, stream_of_link, fed_to_link}
use Rattle.ts_mux.proofs.Changes.{streams_same, fed_same, within_same, index_equal}
use Rattle.ts_mux.proofs.Feeding.{ahead_quiet}
use Rattle.ts_mux.proofs.Streams.{drained_same}
use Rattle.ts_mux.proofs.mux.Mux.reach.Goals as goal

pub invariant_of-self-clause-drained : goal.invariant_of-self-clause-drained
invariant_of-self-clause-drained c =
    let m = c.args.self.now in
    let next = c.reach.new.self in
    drained_same (stream_of_link m.limits m.open_connections) (stream_of_link m.limits next) m.current_connection
    (streams_same m.limits m.open_connections next c.reach.ensures.readers) m.drained

pub invariant_of-self-clause-within : goal.invariant_of-self-clause-within
invariant_of-self-clause-within c =
    let m = c.args.self.now in
    let next = c.reach.new.self in
    within_same m.delivered (fed_to_link m.open_connections) (fed_to_link next) (fed_same m.open_connections next c.reach.ensures.readers) m.within

pub invariant_of-self-clause-index : goal.invariant_of-self-clause-index
invariant_of-self-clause-index c =
    let m = c.args.self.now in
    index_equal (index_of m.open_connections) (index_of c.reach.new.self) m.current_connection c.reach.ensures.indexes m.index

pub returns-clause-same : goal.returns-clause-same
returns-clause-same c = λ frames.
    let m = c.args.self.now in
    let next = c.reach.new.self in
    ahead_quiet m.limits m.open_connections next m.current_connection c.reach.ensures.same (streams_same m.limits m.open_connections next c.reach.ensures.readers) frames
