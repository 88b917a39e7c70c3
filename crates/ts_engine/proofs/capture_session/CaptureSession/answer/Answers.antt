use Rattle.std.proofs.Common.{◌≤◌, if◌then◌else◌, [], length, ◌∙◌, sym, ap, subst}
use Rattle.ts_spec.specs.Run.{is_quit}
use Rattle.ts_mux.specs.Capture.{framed}
use Rattle.ts_mux.specs.Muxing.{pending_items}
use Rattle.ts_mux.specs.Order.{without, closing}
use Rattle.ts_execution.proofs.Carried.{carries_as}
use Rattle.ts_engine.specs.CaptureSteps.{Wrote}
use Rattle.ts_engine.specs.CaptureView.{coming, waiting}
use Rattle.ts_engine.proofs.capture_session.CaptureSession.answer.Goals as goal

pub returns-clause-replied : goal.returns-clause-replied
returns-clause-replied g c = carries_as _ _ _ _ (λ from to turned. record {
  text = c.handle_request-quits.new.room.bytes;
  reply = turned;
  wrote = subst (λ room. Wrote c.write.result (g.K.Sink.has c.args.out.now) (g.K.Sink.has c.write.new.out) (framed (record { link = c.args.link; bytes = room.bytes })))
      c.recycle.ensures.room c.write.ensures.wrote;
}) c.handle_request-quits.ensures.handles

pub returns-clause-coming : goal.returns-clause-coming
returns-clause-coming g c = λ frames.
    ap (λ mux. closing is_quit (pending_items mux frames)) c.write.ensures.mux
    ∙ c.recycle.ensures.coming frames
    ∙ ap (λ test. if test then without c.args.link (coming c.args.self.now frames) else coming c.args.self.now frames) c.handle_request-quits.ensures.quits

pub returns-clause-waiting : goal.returns-clause-waiting
returns-clause-waiting g c = subst (λ mux. length (pending_items mux []) ≤ waiting c.args.self.now) (sym c.write.ensures.mux) c.recycle.ensures.waiting
