use Rattle.std.proofs.Common.{◌≡◌, Bool, true, false, ap, sym, subst, rules}
use Rattle.ts_db.specs.DbState.{Simulates}
use Rattle.ts_execution.specs.Journaling.{journal_handler, kept}
use Rattle.ts_engine.specs.Piping.{PipedWith, HasCausesWith}
use Rattle.ts_engine.proofs.JournaledInputs.{end-by, counts, input-answered}
use Rattle.ts_engine.proofs.keep.answer_input.Goals as goal

pub returns-then-handler-clause-answered : goal.returns-then-handler-clause-answered
returns-then-handler-clause-answered g c =
    let failed : c.pipe_with-outcome.new.handler.failed ≡ true = search rules in
    let same : c.log-1.given.0 ≡ c.pipe_with-outcome.new.handler.log.now = search rules in
    input-answered c.args.db.now c.pipe_with-outcome.new.db c.args.limits.wire c.args.limits.budget c.pipe_with-outcome.result _ _ _ _ _ _ _ _ c.pipe_with-outcome.new.handler.failed _ _ _ _ _ _
    (subst (λ x. Simulates c.args.db.now c.pipe_with-outcome.new.db (λ from to. PipedWith journal_handler c.args.limits.wire c.args.limits.budget c.pipe_with-outcome.result
    (kept (g.C.Clock.readings c.args.clock.now) (g.J.Log.content c.args.log.now) false from)
    (kept (g.C.Clock.readings c.pipe_with-outcome.new.clock) (g.J.Log.content x) c.pipe_with-outcome.new.handler.failed to)
    (g.S.Source.left c.args.input.now) (g.S.Source.left c.pipe_with-outcome.new.input) (g.K.Sink.has c.args.out.now) (g.K.Sink.has c.pipe_with-outcome.new.out)))
    (sym same) c.pipe_with-outcome.ensures.piped)
    (subst (λ x. HasCausesWith journal_handler c.pipe_with-outcome.result.end (g.S.Source.faults c.args.input.now) (g.S.Source.faults c.pipe_with-outcome.new.input)
    (g.K.Sink.faults c.args.out.now) (g.K.Sink.faults c.pipe_with-outcome.new.out) (counts false (g.J.Log.faults c.args.log.now)) (counts c.pipe_with-outcome.new.handler.failed (g.J.Log.faults x)))
    (sym same) c.pipe_with-outcome.ensures.causes)
    _ (sym (ap (λ (b : Bool). end-by b c.pipe_with-outcome.result.end) failed))

pub returns-else-handler-clause-answered : goal.returns-else-handler-clause-answered
returns-else-handler-clause-answered g c =
    let failed : c.pipe_with-outcome.new.handler.failed ≡ false = search rules in
    let same : c.log-1.given.0 ≡ c.pipe_with-outcome.new.handler.log.now = search rules in
    input-answered c.args.db.now c.pipe_with-outcome.new.db c.args.limits.wire c.args.limits.budget c.pipe_with-outcome.result _ _ _ _ _ _ _ _ c.pipe_with-outcome.new.handler.failed _ _ _ _ _ _
    (subst (λ x. Simulates c.args.db.now c.pipe_with-outcome.new.db (λ from to. PipedWith journal_handler c.args.limits.wire c.args.limits.budget c.pipe_with-outcome.result
    (kept (g.C.Clock.readings c.args.clock.now) (g.J.Log.content c.args.log.now) false from)
    (kept (g.C.Clock.readings c.pipe_with-outcome.new.clock) (g.J.Log.content x) c.pipe_with-outcome.new.handler.failed to)
    (g.S.Source.left c.args.input.now) (g.S.Source.left c.pipe_with-outcome.new.input) (g.K.Sink.has c.args.out.now) (g.K.Sink.has c.pipe_with-outcome.new.out)))
    (sym same) c.pipe_with-outcome.ensures.piped)
    (subst (λ x. HasCausesWith journal_handler c.pipe_with-outcome.result.end (g.S.Source.faults c.args.input.now) (g.S.Source.faults c.pipe_with-outcome.new.input)
    (g.K.Sink.faults c.args.out.now) (g.K.Sink.faults c.pipe_with-outcome.new.out) (counts false (g.J.Log.faults c.args.log.now)) (counts c.pipe_with-outcome.new.handler.failed (g.J.Log.faults x)))
    (sym same) c.pipe_with-outcome.ensures.causes)
    _ (sym (ap (λ (b : Bool). end-by b c.pipe_with-outcome.result.end) failed))
