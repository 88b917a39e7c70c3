use Rattle.std.proofs.Common.{refl, sym, ap}
use Rattle.ts_spec.specs.Run.{is_quit}
use Rattle.ts_mux.specs.Capture.{frames_of, ending_of}
use Rattle.ts_mux.specs.Order.{closing}
use Rattle.ts_mux.specs.Muxing.{pending_items}
use Rattle.ts_execution.proofs.Carried.{carries_none, carries_as}
use Rattle.ts_engine.proofs.CapturesOn.{went_none, not_answered, answers_then}
use Rattle.ts_engine.proofs.capture_session.CaptureSession.piece.Goals as goal

pub returns-in-Ok-clause-goes : goal.returns-in-Ok-clause-goes
returns-in-Ok-clause-goes g c =
    carries_as _ _ _ _ (λ from to answers. answers_then _ _ _ _ c.args.bytes.now
    (went_none _ _ _ c.args.bytes.now
    (λ more. ap (λ capture. closing is_quit (pending_items c.args.self.now.mux (frames_of capture))) (sym (c.in-Ok.ensures.ok more)))
    (λ more. ap ending_of (sym (c.in-Ok.ensures.ok more))) refl)
    c.answer_all.result _ _ answers) c.answer_all.ensures.goes

pub returns-in-Err-clause-goes : goal.returns-in-Err-clause-goes
returns-in-Err-clause-goes g c = carries_none _ _ (λ from stands. not_answered _ _ _ _ refl)
