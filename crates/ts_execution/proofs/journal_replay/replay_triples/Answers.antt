use Rattle.std.proofs.Common.{◌≡◌, [], ap, arith, rules}
use Rattle.std.specs.Vec.Iter.{into_iter_items}
use Rattle.ts_command.specs.Reading.{triple_of, triples_of}
use Rattle.ts_execution.proofs.Items.{no_items}
use Rattle.ts_execution.proofs.ReplayedTriples.{writes-none, writes-more, writes-refused, writes-no_memory, writes-all}
use Rattle.ts_execution.proofs.journal_replay.replay_triples.Goals as goal

pub loop-triple-init : goal.loop-triple-init
loop-triple-init g c =
    let gives : into_iter_items c.into_iter-triple-iterator.result ≡ c.args.triples.items = search rules in
    writes-none (triples_of c.args.triples.items) (triples_of (into_iter_items c.into_iter-triple-iterator.result)) c.args.db.now (ap triples_of gives)

pub loop-triple-preserved : goal.loop-triple-preserved
loop-triple-preserved g c =
    writes-more (triples_of c.args.triples.items) (triples_of (into_iter_items c.loop-triple.triple-iterator)) (triples_of (into_iter_items c.next.new.self)) (triple_of c.in-Some.triple)
    c.args.db.now c.loop-triple.db c.replay_triple.new.db (ap triples_of c.in-Some.ensures.steps.0) c.loop-triple.invariant c.in-Accepted.ensures.replay_matches

pub returns-in-Refused : goal.returns-in-Refused
returns-in-Refused g c = record {
  replay_matches = writes-refused (triples_of c.args.triples.items) (triples_of (into_iter_items c.loop-triple.triple-iterator)) (triples_of (into_iter_items c.next.new.self)) (triple_of c.in-Some.triple)
      c.args.db.now c.loop-triple.db c.replay_triple.new.db (ap triples_of c.in-Some.ensures.steps.0) c.loop-triple.invariant c.requires.clock c.in-Refused.ensures.replay_matches;
}

pub returns-in-Memory : goal.returns-in-Memory
returns-in-Memory g c = record {
  replay_matches = writes-no_memory (triples_of c.args.triples.items) c.args.db.now c.loop-triple.db c.replay_triple.new.db _ _ c.loop-triple.invariant c.in-Memory.ensures.replay_matches;
}

pub returns : goal.returns
returns g c =
    let none : into_iter_items c.loop-triple.triple-iterator ≡ [] = no_items (into_iter_items c.loop-triple.triple-iterator) (omega (arith, c.in-None.ensures.steps.0, c.loop-triple.triple-iterator.rest.ok.0)) in
    record {
      replay_matches = writes-all (triples_of c.args.triples.items) (triples_of (into_iter_items c.loop-triple.triple-iterator)) c.args.db.now c.loop-triple.db (ap triples_of none) c.requires.clock c.loop-triple.invariant;
    }
