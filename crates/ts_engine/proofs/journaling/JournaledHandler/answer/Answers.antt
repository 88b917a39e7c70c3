use Rattle.std.proofs.Common.{ℕ, List, subst}
use Rattle.ts_io.specs.Sinks.{Grows, GrowsByPrefix}
use Rattle.ts_execution.specs.Journaling.{kept}
use Rattle.ts_engine.proofs.JournaledTurnLemmas.{reply-whole, reply-cut, no-reply}
use Rattle.ts_engine.proofs.journaling.JournaledHandler.answer.Goals as goal

pub returns-in-Err-clause-answered : goal.returns-in-Err-clause-answered
returns-in-Err-clause-answered g c =
    no-reply c.args.words.now.items c.execute_and_append.new.room.bytes c.args.db.now c.execute_and_append.new.db
    (kept (g.C.Clock.readings c.args.clock.now) (g.J.Log.content c.args.self.now.log.now) c.args.self.now.failed)
    (kept (g.C.Clock.readings c.execute_and_append.new.clock) (g.J.Log.content c.execute_and_append.new.self.log.now) c.execute_and_append.new.self.failed)
    (g.K.Sink.has c.args.out.now) c.in-Err.ensures.appended

pub returns-in-Ok-write_all_counted-clause-answered : goal.returns-in-Ok-write_all_counted-clause-answered
returns-in-Ok-write_all_counted-clause-answered g c =
    reply-whole c.args.words.now.items c.execute_and_append.new.room.bytes c.args.db.now c.execute_and_append.new.db
    (kept (g.C.Clock.readings c.args.clock.now) (g.J.Log.content c.args.self.now.log.now) c.args.self.now.failed)
    (kept (g.C.Clock.readings c.execute_and_append.new.clock) (g.J.Log.content c.execute_and_append.new.self.log.now) c.execute_and_append.new.self.failed)
    (g.K.Sink.has c.args.out.now) (g.K.Sink.has c.write_all_counted.new.sink) c.in-Ok.ensures.appended
    (subst (λ (l : List ℕ). Grows (g.K.Sink.has c.args.out.now) (g.K.Sink.has c.write_all_counted.new.sink) l) c.bytes.ensures c.in-Ok-write_all_counted.ensures.all)

pub returns-in-Err-write_all_counted-clause-answered : goal.returns-in-Err-write_all_counted-clause-answered
returns-in-Err-write_all_counted-clause-answered g c =
    reply-cut c.args.words.now.items c.execute_and_append.new.room.bytes c.args.db.now c.execute_and_append.new.db
    (kept (g.C.Clock.readings c.args.clock.now) (g.J.Log.content c.args.self.now.log.now) c.args.self.now.failed)
    (kept (g.C.Clock.readings c.execute_and_append.new.clock) (g.J.Log.content c.execute_and_append.new.self.log.now) c.execute_and_append.new.self.failed)
    (g.K.Sink.has c.args.out.now) (g.K.Sink.has c.write_all_counted.new.sink) c.in-Ok.ensures.appended
    (subst (λ (l : List ℕ). GrowsByPrefix (g.K.Sink.has c.args.out.now) (g.K.Sink.has c.write_all_counted.new.sink) l) c.bytes.ensures c.in-Err-write_all_counted.ensures.front)
