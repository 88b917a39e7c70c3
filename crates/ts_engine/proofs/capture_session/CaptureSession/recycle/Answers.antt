use Rattle.std.proofs.Common.{◌≤◌, if◌then◌else◌, [], length, sym, ◌∙◌, ap, subst, arith}
use Rattle.ts_spec.specs.Run.{is_quit}
use Rattle.ts_mux.specs.Muxing.{pending_items}
use Rattle.ts_mux.specs.Order.{without, closing}
use Rattle.ts_mux.proofs.Closings.{closing-without}
use Rattle.ts_engine.specs.CaptureView.{coming}
use Rattle.ts_engine.proofs.CaptureItems.{without-shorter}
use Rattle.ts_engine.proofs.capture_session.CaptureSession.recycle.Goals as goal

pub returns-then-quits-clause-coming : goal.returns-then-quits-clause-coming
returns-then-quits-clause-coming c = λ frames.
    ap (closing is_quit) (c.close.ensures.others frames) ∙ closing-without is_quit c.args.link (pending_items c.give_back.new.self frames)
    ∙ ap (λ items. without c.args.link (closing is_quit items)) (c.give_back.ensures.same frames)
    ∙ sym (ap (λ test. if test then without c.args.link (coming c.args.self.now frames) else coming c.args.self.now frames) c.if-quits.true)

pub returns-then-quits-clause-waiting : goal.returns-then-quits-clause-waiting
returns-then-quits-clause-waiting c =
    subst (λ items. length items ≤ length (pending_items c.args.self.now.mux [])) (sym (c.close.ensures.others []))
    (subst (λ items. length (without c.args.link (pending_items c.give_back.new.self [])) ≤ length items) (c.give_back.ensures.same [])
    (without-shorter c.args.link (pending_items c.give_back.new.self [])))

pub returns-else-quits-clause-waiting : goal.returns-else-quits-clause-waiting
returns-else-quits-clause-waiting c = omega (arith, ap length (c.give_back.ensures.same []))
