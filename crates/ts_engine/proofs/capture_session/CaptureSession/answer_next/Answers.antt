use Rattle.std.proofs.Common.{[], refl, ◌∙◌, ap}
use Rattle.ts_spec.specs.Run.{is_quit}
use Rattle.ts_mux.specs.Capture.{frames_of, ending_of}
use Rattle.ts_mux.specs.Order.{closing}
use Rattle.ts_mux.specs.Muxing.{pending_items}
use Rattle.ts_execution.proofs.Carried.{carries_none, carries_as}
use Rattle.ts_engine.proofs.CapturesOn.{went_none, not_answered, answers_then, goes_on, goes_by}
use Rattle.ts_engine.proofs.capture_session.CaptureSession.answer_next.Goals as goal

pub deliver-requires-clause-stands : goal.deliver-requires-clause-stands
deliver-requires-clause-stands g c = c.in-Whole.ensures.found

pub deliver-requires-clause-bound : goal.deliver-requires-clause-bound
deliver-requires-clause-bound g c = c.in-Whole.ensures.bound

-- a frame was delivered, and the items that it completes were answered
pub returns-in-Ok-clause-goes : goal.returns-in-Ok-clause-goes
returns-in-Ok-clause-goes g c =
    carries_as _ _ _ _ (λ from to answers. rw c.end.ensures
    (goes_on c.answer_items.result _ _ _ _
    (answers_then _ _ _ _ []
    (went_none _ _ _ [] c.in-Ok.ensures.items c.in-Ok.ensures.ending refl)
    c.answer_items.result _ _ answers))) c.answer_items.ensures.goes

pub returns-in-Ok-clause-asked : goal.returns-in-Ok-clause-asked
returns-in-Ok-clause-asked g c = λ none. c.answer_items.ensures.asked (goes_by c.answer_items.result c.end.result c.end.ensures none)

pub returns-in-Err-clause-goes : goal.returns-in-Err-clause-goes
returns-in-Err-clause-goes g c = carries_none _ _ (λ from stands. not_answered _ _ _ _ refl)

pub returns-in-NotYet-clause-goes : goal.returns-in-NotYet-clause-goes
returns-in-NotYet-clause-goes g c = carries_none _ _ (λ from stands. went_none _ _ _ [] (λ more. refl) (λ more. refl) refl)

pub returns-in-NotYet-clause-answered : goal.returns-in-NotYet-clause-answered
returns-in-NotYet-clause-answered g c = λ is. record { asked = c.requires.asked; rest = c.in-NotYet.ensures.found }

pub returns-in-Broken-clause-goes : goal.returns-in-Broken-clause-goes
returns-in-Broken-clause-goes g c =
    carries_none _ _ (λ from stands. (
      went_none _ _ _ [] (λ more. refl) (λ more. refl) refl,
      record {
        ending = λ more. ap ending_of (c.in-Broken.ensures.found more);
        items = λ more. ap (λ capture. closing is_quit (pending_items c.args.self.now.mux (frames_of capture))) (c.in-Broken.ensures.found more) ∙ ap (closing is_quit) c.requires.asked;
      },
    ))
