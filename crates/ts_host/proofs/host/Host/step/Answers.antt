use Rattle.std.proofs.Common.{◌+◌, ◌≤◌, false, List, [], ◌∷◌, refl, sym, ap, ◌∙◌, subst}
use Rattle.std.specs.Prelude.{Option}
use Rattle.ts_io.specs.Gathering.{pending_of}
use Rattle.ts_io.specs.declared.hub.Step.{Step}
use Rattle.ts_io.specs.declared.hub.Step.TheVariants.{Comes, Pauses}
use Rattle.ts_io.proofs.Growth.{grows_none}
use Rattle.ts_execution.specs.Journaling.{kept}
use Rattle.ts_execution.proofs.Carried.{carries_as, carries_none}
use Rattle.ts_host.specs.Recorder.{gathered_of}
use Rattle.ts_host.specs.Serving.{Handled}
use Rattle.ts_host.specs.Settling.{stored_by, whole_by}
use Rattle.ts_host.specs.Shown.{connections_of, recorder_of, shown, taken_by}
use Rattle.ts_host.specs.Steps.{Takes}
use Rattle.ts_host.proofs.AnsweredItems.{view_in}
use Rattle.ts_host.proofs.Contents.{extends_none}
use Rattle.ts_host.proofs.Stepping.{halted_quiet, link_closed, over_now, pause_settled, step_after_asking, taken_after, takes_none, went_quiet}
use Rattle.ts_host.proofs.host.Host.step.Goals as goal

pub returns-in-Ok-Bytes-clause-stepped : goal.returns-in-Ok-Bytes-clause-stepped
returns-in-Ok-Bytes-clause-stepped g c =
    let brings = rw c.in-Ok-Bytes.field-0-is at c.in-Ok-Bytes.ensures.brings in
    let step : Step = Comes (record { link = c.in-Ok-Bytes.link; bytes = g.H.Hub.hand c.next.new.self }) in
    carries_as _ _ _ _ (λ from to handled.
    rw c.step_after.ensures
    (step_after_asking c.receive.result
    (shown g.J.Log.content c.args.self.now from (g.C.Clock.readings c.args.clock.now) (g.H.Hub.out c.args.hub.now) (g.K.Sink.has c.args.out.now))
    (shown g.J.Log.content c.receive.new.self to (g.C.Clock.readings c.receive.new.clock) (g.H.Hub.out c.receive.new.hub) (g.K.Sink.has c.receive.new.out))
    (g.H.Hub.out c.next.new.self) (g.H.Hub.coming c.args.hub.now) (g.H.Hub.coming c.receive.new.hub) (taken_by (connections_of c.args.self.now)) (taken_by (connections_of c.receive.new.self)) step
    c.in-Ok-Bytes.ensures.out (subst (λ (o : Option (List Step)). Takes (g.H.Hub.coming c.args.hub.now) o (step ∷ [])) (sym c.receive.ensures.coming) brings)
    c.receive.ensures.bound handled)) c.receive.ensures.handled

pub returns-in-Ok-Bytes-clause-asked : goal.returns-in-Ok-Bytes-clause-asked
returns-in-Ok-Bytes-clause-asked g c = λ is. c.receive.ensures.asked (taken_after c.receive.result c.step_after.result c.step_after.ensures is)

pub returns-in-Ok-Closed-clause-stepped : goal.returns-in-Ok-Closed-clause-stepped
returns-in-Ok-Closed-clause-stepped g c =
    let content = g.J.Log.content in
    let brings = rw c.in-Ok-Closed.field-0-is at c.in-Ok-Closed.ensures.brings in
    let step : Step = Comes (record { link = c.in-Ok-Closed.link; bytes = [] }) in
    let old = connections_of c.args.self.now in
    let new = connections_of c.close_link.new.self in
    carries_none _ _ (λ from stands.
    rw c.step_after-in-Ok-Closed.ensures
    (step_after_asking c.close_link.result
    (shown content c.args.self.now from (g.C.Clock.readings c.args.clock.now) (g.H.Hub.out c.args.hub.now) (g.K.Sink.has c.args.out.now))
    (shown content c.close_link.new.self from (g.C.Clock.readings c.args.clock.now) (g.H.Hub.out c.next.new.self) (g.K.Sink.has c.close_link.new.out))
    (g.H.Hub.out c.next.new.self) (g.H.Hub.coming c.args.hub.now) (g.H.Hub.coming c.next.new.self) (taken_by old) (taken_by new) step
    c.in-Ok-Closed.ensures.out brings c.close_link.ensures.bound
    (subst
    (λ r. Handled c.close_link.result (view_in old (kept (g.C.Clock.readings c.args.clock.now) (whole_by content (recorder_of c.args.self.now)) false from) (stored_by content (recorder_of c.args.self.now)) (g.H.Hub.out c.next.new.self) (g.K.Sink.has c.args.out.now))
    (view_in new (kept (g.C.Clock.readings c.args.clock.now) (whole_by content r) false from) (stored_by content r) (g.H.Hub.out c.next.new.self) (g.K.Sink.has c.close_link.new.out)) (step ∷ []))
    (sym c.close_link.ensures.recorder)
    (link_closed c.close_link.result c.in-Ok-Closed.link c.in-Ok-Closed.way old new (kept (g.C.Clock.readings c.args.clock.now) (whole_by content (recorder_of c.args.self.now)) false from)
    (stored_by content (recorder_of c.args.self.now)) (g.H.Hub.out c.next.new.self) (g.K.Sink.has c.args.out.now) (g.K.Sink.has c.close_link.new.out)
    (pending_of (gathered_of (recorder_of c.args.self.now)), refl) c.close_link.ensures.leaves c.close_link.ensures.line))))

pub returns-in-Ok-Closed-clause-asked : goal.returns-in-Ok-Closed-clause-asked
returns-in-Ok-Closed-clause-asked g c = λ is. c.close_link.ensures.asked (taken_after c.close_link.result c.step_after-in-Ok-Closed.result c.step_after-in-Ok-Closed.ensures is)

pub returns-in-Ok-Pause-clause-stepped : goal.returns-in-Ok-Pause-clause-stepped
returns-in-Ok-Pause-clause-stepped g c =
    let content = g.J.Log.content in
    let brings = rw c.in-Ok-Pause.field-0-is at c.in-Ok-Pause.ensures.brings in
    let old = connections_of c.args.self.now in
    let new = connections_of c.settle.new.self in
    let bound : taken_by new ≤ taken_by old + 1 = subst (λ r. taken_by r ≤ taken_by old + 1) (sym c.settle.ensures.connections) c.take.ensures.bound in
    carries_none _ _ (λ from stands.
    rw c.step_after-in-Ok-Pause.ensures
    (pause_settled c.settle.result content (recorder_of c.args.self.now) (recorder_of c.settle.new.self) old new from (g.C.Clock.readings c.args.clock.now)
    (g.H.Hub.out c.args.hub.now) (g.H.Hub.out c.next.new.self) (g.H.Hub.out c.settle.new.hub) (g.K.Sink.has c.args.out.now)
    (g.H.Hub.coming c.args.hub.now) (g.H.Hub.coming c.settle.new.hub) (taken_by old) (taken_by new)
    (subst (λ (o : Option (List Step)). Takes (g.H.Hub.coming c.args.hub.now) o (Pauses ∷ [])) (sym c.settle.ensures.coming) brings) bound
    (ap (λ r. r.mux) c.settle.ensures.connections ∙ c.take.ensures.mux) (ap (λ r. r.counts) c.settle.ensures.connections ∙ c.take.ensures.counts)
    c.in-Ok-Pause.ensures.out c.settle.ensures.settles))

pub returns-in-Ok-End-clause-stepped : goal.returns-in-Ok-End-clause-stepped
returns-in-Ok-End-clause-stepped g c =
    let brings = rw c.in-Ok-End.field-0-is at c.in-Ok-End.ensures.brings in
    carries_none _ _ (λ from stands. (
      went_quiet (shown g.J.Log.content c.args.self.now from (g.C.Clock.readings c.args.clock.now) (g.H.Hub.out c.args.hub.now) (g.K.Sink.has c.args.out.now)) (g.H.Hub.out c.next.new.self) c.in-Ok-End.ensures.out,
      brings.0,
      over_now (g.H.Hub.coming c.args.hub.now) (g.H.Hub.coming c.next.new.self) brings.0 brings.1,
      refl,
    ))

pub returns-in-Err-clause-stepped : goal.returns-in-Err-clause-stepped
returns-in-Err-clause-stepped g c =
    carries_none _ _ (λ from stands. record {
      steps = [];
      takes = takes_none (g.H.Hub.coming c.args.hub.now) (g.H.Hub.coming c.next.new.self) c.in-Err.ensures.brings;
      halted = halted_quiet _ _ [] refl refl (extends_none _ _ refl) (pending_of (gathered_of (recorder_of c.args.self.now)), refl) c.in-Err.ensures.out (grows_none (g.K.Sink.has c.args.out.now));
    })
