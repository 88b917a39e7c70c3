use Rattle.std.proofs.Common.{◌∷◌, refl, sym, ◌∙◌, ap}
use Rattle.ts_spec.specs.Run.{is_quit}
use Rattle.ts_spec.specs.Text.{protocol_error_text}
use Rattle.ts_mux.specs.Capture.{frames_of, ending_of}
use Rattle.ts_mux.specs.Framing.{capture_of}
use Rattle.ts_mux.specs.Order.{Asked, Failed, closing}
use Rattle.ts_mux.specs.Muxing.{pending_items}
use Rattle.ts_execution.proofs.Carried.{carries_none, carries_as}
use Rattle.ts_engine.specs.CaptureView.{coming}
use Rattle.ts_engine.proofs.CapturesOn.{went_none, not_answered, answered_item}
use Rattle.ts_engine.proofs.CaptureItems.{asked_next, failed_next}
use Rattle.ts_engine.proofs.capture_session.CaptureSession.answer_item.Goals as goal

pub returns-in-Request-clause-goes : goal.returns-in-Request-clause-goes
returns-in-Request-clause-goes g c =
    carries_as _ _ _ _ (λ from to replied. answered_item c.answer.result (record { link = c.in-Request.link; event = Asked c.in-Request.words.items }) _ _ _ _
    (λ more.
    asked_next c.in-Request.link c.in-Request.words.items (pending_items c.args.self.now.mux) (pending_items c.next.new.self) (coming c.answer.new.self) c.in-Request.ensures.item c.answer.ensures.coming
    (frames_of (capture_of c.args.self.now.frames more))
    ∙ ap (λ frames. record { link = c.in-Request.link; event = Asked c.in-Request.words.items } ∷ coming c.answer.new.self (frames_of (capture_of frames more))) (sym c.answer.ensures.frames))
    (λ more. ap (λ frames. ending_of (capture_of frames more)) (sym c.answer.ensures.frames)) replied)
    c.answer.ensures.replied

pub returns-in-Request-clause-asked : goal.returns-in-Request-clause-asked
returns-in-Request-clause-asked g c = λ is. absurd (c.answer.ensures.ends is)

pub returns-in-Fault-clause-goes : goal.returns-in-Fault-clause-goes
returns-in-Fault-clause-goes g c =
    carries_none _ _ (λ from stands. answered_item c.reply_fault.result (record { link = c.in-Fault.link; event = Failed c.in-Fault.fault }) _ _ _ _
    (λ more.
    failed_next c.in-Fault.link c.in-Fault.fault (pending_items c.args.self.now.mux) (pending_items c.next.new.self) c.in-Fault.ensures.item c.in-Fault.ensures.closed
    (frames_of (capture_of c.args.self.now.frames more))
    ∙ ap (λ mux. record { link = c.in-Fault.link; event = Failed c.in-Fault.fault } ∷ closing is_quit (pending_items mux (frames_of (capture_of c.args.self.now.frames more)))) (sym c.reply_fault.ensures.mux)
    ∙ ap (λ frames. record { link = c.in-Fault.link; event = Failed c.in-Fault.fault } ∷ coming c.reply_fault.new.self (frames_of (capture_of frames more))) (sym c.reply_fault.ensures.frames))
    (λ more. ap (λ frames. ending_of (capture_of frames more)) (sym c.reply_fault.ensures.frames))
    (record { text = protocol_error_text c.in-Fault.fault.kind; reply = (refl, refl); wrote = c.reply_fault.ensures.wrote }))

pub returns-in-Fault-clause-asked : goal.returns-in-Fault-clause-asked
returns-in-Fault-clause-asked g c = λ is. absurd (c.reply_fault.ensures.ends is)

pub returns-in-NotYet-clause-goes : goal.returns-in-NotYet-clause-goes
returns-in-NotYet-clause-goes g c =
    carries_none _ _ (λ from stands. went_none _ _ _ _
    (λ more. ap (closing is_quit) (sym (c.in-NotYet.ensures.same (frames_of (capture_of c.args.self.now.frames more))))) (λ more. refl) refl)

pub returns-in-Memory-clause-goes : goal.returns-in-Memory-clause-goes
returns-in-Memory-clause-goes g c = carries_none _ _ (λ from stands. not_answered _ _ _ _ refl)
