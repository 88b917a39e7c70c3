use Rattle.std.proofs.Common.{ℕ, List, subst}
use Rattle.ts_io.specs.Sinks.{Grows, GrowsByPrefix}
use Rattle.ts_execution.proofs.Carried.{carries_as}
use Rattle.ts_execution.proofs.handler.PlainHandler.answer.Goals as goal

pub returns-in-Ok-clause-answered : goal.returns-in-Ok-clause-answered
returns-in-Ok-clause-answered g c =
    carries_as _ _ _ _ (λ from to turned. (
      turned,
      subst (λ (l : List ℕ). Grows (g.K.Sink.has c.args.out.now) (g.K.Sink.has c.write_all_counted.new.sink) l) c.bytes.ensures c.in-Ok.ensures.all,
    )) c.handle_request-quits.ensures.handles

pub returns-in-Err-clause-answered : goal.returns-in-Err-clause-answered
returns-in-Err-clause-answered g c =
    let front : GrowsByPrefix (g.K.Sink.has c.args.out.now) (g.K.Sink.has c.write_all_counted.new.sink) c.handle_request-quits.new.room.bytes =
    subst (λ (l : List ℕ). GrowsByPrefix (g.K.Sink.has c.args.out.now) (g.K.Sink.has c.write_all_counted.new.sink) l) c.bytes.ensures c.in-Err.ensures.front in
    carries_as _ _ _ _ (λ from to turned. record { kept = front.len; cut = turned; grown = front.grows }) c.handle_request-quits.ensures.handles
