use Rattle.std.proofs.Common.{take, sym, ap, ◌∙◌, arith}
use Rattle.ts_execution.proofs.Carried.{carries_as}
use Rattle.ts_execution.proofs.Loadings.{loads-done}
use Rattle.ts_execution.specs.JournalReplay.{still_record}
use Rattle.ts_execution.proofs.journal_piece.read_piece.Goals as goal

pub returns-then-replay_piece-clause-takes : goal.returns-then-replay_piece-clause-takes
returns-then-replay_piece-clause-takes g c = record {
  bytes = take c.in-Ok.count c.read.new.buf;
  took = c.in-Ok.ensures.bytes.0;
  count = sym c.in-Ok.ensures.bound.1;
  goes = loads-done c.replay_piece.result _ _ (take c.in-Ok.count c.read.new.buf) _ _ c.if-replay_piece.true c.replay_piece.ensures.loads;
  current = c.replay_piece.ensures.current c.if-replay_piece.true;
  within = omega (arith, c.replay_piece.ensures.fed, c.in-Ok.ensures.bound.1);
  starts = c.still_record.ensures ∙ ap (λ o. still_record c.args.is_record.now o c.args.taken (take c.in-Ok.count c.read.new.buf)) c.place-begin.ensures;
}

pub returns-then-replay_piece-clause-carries : goal.returns-then-replay_piece-clause-carries
returns-then-replay_piece-clause-carries g c = carries_as _ _ _ _ (λ from to done. tt) c.replay_piece.ensures.loads
