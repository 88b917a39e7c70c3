use Rattle.std.proofs.Common.{refl, ap, arith}
use Rattle.ts_resp.specs.Reading.{fed}
use Rattle.ts_mux.specs.ClosedLinks.{index_of}
use Rattle.ts_mux.proofs.Changes.{drained_others, within_fed, within_next, index_equal, index_kept}
use Rattle.ts_mux.proofs.Feeding.{ahead_kept, fed_ahead}
use Rattle.ts_mux.proofs.mux.Mux.feed.Goals as goal

pub feed-requires-clause-index : goal.feed-requires-clause-index
feed-requires-clause-index c = c.args.self.now.index c.args.at c.requires.current_connection

pub feed-requires-clause-bound : goal.feed-requires-clause-bound
feed-requires-clause-bound c =
    let m = c.args.self.now in
    let most = m.within c.args.at.link in
    omega (arith, most, c.requires.bound)

-- ---- the bytes are fed

pub invariant_of-self-clause-drained : goal.invariant_of-self-clause-drained
invariant_of-self-clause-drained c =
    let m = c.args.self.now in
    drained_others m.limits m.open_connections c.feed.new.self c.args.at.link c.in-Ok.ensures m.current_connection c.args.at c.requires.current_connection refl m.drained

pub invariant_of-self-clause-within : goal.invariant_of-self-clause-within
invariant_of-self-clause-within c =
    let m = c.args.self.now in
    within_fed m.limits m.open_connections c.feed.new.self c.args.at.link c.in-Ok.ensures m.delivered _ c.in-Ok.ensures.so.count m.within

pub invariant_of-self-clause-index : goal.invariant_of-self-clause-index
invariant_of-self-clause-index c =
    let m = c.args.self.now in
    index_equal (index_of m.open_connections) (index_of c.feed.new.self) m.current_connection (index_kept m.open_connections c.feed.new.self c.in-Ok.ensures.indexes) m.index

pub returns-in-Ok-clause-ok : goal.returns-in-Ok-clause-ok
returns-in-Ok-clause-ok c = λ frames.
    let m = c.args.self.now in
    fed_ahead m.limits m.open_connections c.feed.new.self c.args.at c.in-Ok.ensures m.current_connection c.args.bytes.now c.in-Ok.ensures.so.stream
    c.requires.current_connection c.requires.some c.requires.open c.requires.asked frames

-- ---- there is no memory

pub invariant_of-self-in-Err-1 : goal.invariant_of-self-in-Err-1
invariant_of-self-in-Err-1 c =
    let m = c.args.self.now in
    let next = c.feed.new.self in
    record {
      words = m.words;
      word_bytes = m.word_bytes;
      request_bytes = m.request_bytes;
      line_bytes = m.line_bytes;
      drained = drained_others m.limits m.open_connections next c.args.at.link c.in-Err.ensures m.current_connection c.args.at c.requires.current_connection refl m.drained;
      within = within_next m.limits m.open_connections next c.args.at.link c.in-Err.ensures m.delivered (ap fed c.in-Err.ensures.so.err) m.within;
      index = index_equal (index_of m.open_connections) (index_of next) m.current_connection (index_kept m.open_connections next c.in-Err.ensures.indexes) m.index;
    }

pub returns-in-Err-clause-err : goal.returns-in-Err-clause-err
returns-in-Err-clause-err c =
    let m = c.args.self.now in
    ahead_kept m.limits m.open_connections c.feed.new.self c.args.at c.in-Err.ensures m.current_connection c.in-Err.ensures.so.err
