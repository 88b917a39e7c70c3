use Rattle.std.proofs.Common.{Some, ◌∙◌}
use Rattle.ts_mux.specs.ClosedLinks.{is_closed, index_of, stream_of_link, fed_to_link}
use Rattle.ts_mux.specs.declared.current_connection.CurrentConnection.{CurrentConnection}
use Rattle.ts_mux.proofs.Changes.{drained_all, left_none, within_same, index_same, index_at}
use Rattle.ts_mux.proofs.Feeding.{ahead_quiet}
use Rattle.ts_mux.proofs.Streams.{ahead_same, drained_same}
use Rattle.ts_mux.proofs.mux.Mux.switch_to.Goals as goal

-- ---- there is no memory

pub invariant_of-self-in-Err-1 : goal.invariant_of-self-in-Err-1
invariant_of-self-in-Err-1 c =
    let m = c.args.self.now in
    let next = c.find.new.self in
    record {
      words = m.words;
      word_bytes = m.word_bytes;
      request_bytes = m.request_bytes;
      line_bytes = m.line_bytes;
      drained = drained_same (stream_of_link m.limits m.open_connections) (stream_of_link m.limits next) m.current_connection c.in-Err.ensures.streams m.drained;
      within = within_same m.delivered (fed_to_link m.open_connections) (fed_to_link next) c.in-Err.ensures.fed m.within;
      index = index_same (index_of m.open_connections) (index_of next) m.current_connection c.in-Err.ensures.indexes m.index;
    }

pub returns-in-Err-clause-same : goal.returns-in-Err-clause-same
returns-in-Err-clause-same c =
    let m = c.args.self.now in
    ahead_quiet m.limits m.open_connections c.find.new.self m.current_connection c.in-Err.ensures.same c.in-Err.ensures.streams

-- ---- it is closed

pub invariant_of-self : goal.invariant_of-self
invariant_of-self c =
    let m = c.args.self.now in
    let next = c.find.new.self in
    record {
      words = m.words;
      word_bytes = m.word_bytes;
      request_bytes = m.request_bytes;
      line_bytes = m.line_bytes;
      drained = drained_same (stream_of_link m.limits m.open_connections) (stream_of_link m.limits next) m.current_connection c.find.ensures.streams m.drained;
      within = within_same m.delivered (fed_to_link m.open_connections) (fed_to_link next) c.find.ensures.fed m.within;
      index = index_same (index_of m.open_connections) (index_of next) m.current_connection c.find.ensures.indexes m.index;
    }

pub returns-in-Ok-None-clause-same : goal.returns-in-Ok-None-clause-same
returns-in-Ok-None-clause-same c =
    let m = c.args.self.now in
    ahead_quiet m.limits m.open_connections c.find.new.self m.current_connection c.find.ensures.same c.find.ensures.streams

-- ---- it is open

pub invariant_of-self-in-Ok-Some : goal.invariant_of-self-in-Ok-Some
invariant_of-self-in-Ok-Some c =
    let m = c.args.self.now in
    let next = c.find.new.self in
    let at : CurrentConnection = record { link = c.args.link; index = c.in-Ok-Some.index } in
    record {
      words = m.words;
      word_bytes = m.word_bytes;
      request_bytes = m.request_bytes;
      line_bytes = m.line_bytes;
      drained = drained_all (stream_of_link m.limits m.open_connections) (stream_of_link m.limits next) m.current_connection (Some at) c.find.ensures.streams c.requires.asked m.drained;
      within = within_same m.delivered (fed_to_link m.open_connections) (fed_to_link next) c.find.ensures.fed m.within;
      index = index_at (index_of next) at (c.in-Ok-Some.ensures.index ∙ c.in-Ok-Some.field-0-is);
    }

pub returns-in-Ok-Some-clause-same : goal.returns-in-Ok-Some-clause-same
returns-in-Ok-Some-clause-same c = λ frames.
    let m = c.args.self.now in
    let next = c.find.new.self in
    let at : CurrentConnection = record { link = c.args.link; index = c.in-Ok-Some.index } in
    ahead_same (is_closed m.open_connections) (is_closed next) (stream_of_link m.limits m.open_connections) (stream_of_link m.limits next) m.current_connection (Some at)
    c.find.ensures.same c.find.ensures.streams
    (left_none (stream_of_link m.limits m.open_connections) (stream_of_link m.limits next) m.current_connection at c.find.ensures.streams c.requires.asked m.drained) frames
