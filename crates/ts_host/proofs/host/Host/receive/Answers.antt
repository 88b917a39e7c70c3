use Rattle.std.proofs.Common.{ℕ, false, List, [], ◌∷◌, refl, sym, ap, ◌∙◌, subst}
use Rattle.ts_io.specs.Gathering.{pending_of}
use Rattle.ts_io.specs.declared.hub.Step.TheVariants.{Comes}
use Rattle.ts_io.proofs.Growth.{grows_none}
use Rattle.ts_mux.specs.Muxing.{pending_items}
use Rattle.ts_mux.specs.Order.{closing, without}
use Rattle.ts_mux.proofs.Closings.{closing-without}
use Rattle.ts_execution.specs.Journaling.{kept}
use Rattle.ts_execution.proofs.Carried.{carries_as, carries_none}
use Rattle.ts_words.specs.declared.lines.LinkEnd.TheVariants as how
use Rattle.ts_host.specs.Http.{closes}
use Rattle.ts_host.specs.Recorder.{gathered_of}
use Rattle.ts_host.specs.Serving.{Handled}
use Rattle.ts_host.specs.Settling.{stored_by, whole_by}
use Rattle.ts_host.specs.Shown.{connections_of, recorder_of, shown}
use Rattle.ts_host.specs.Steps.{frames_of}
use Rattle.ts_host.proofs.AnsweredItems.{view_in}
use Rattle.ts_host.proofs.Contents.{extends_none}
use Rattle.ts_host.proofs.Going.{went_none, handled_then}
use Rattle.ts_host.proofs.Lines.{gave_none}
use Rattle.ts_host.proofs.NextItems.{dropped}
use Rattle.ts_host.proofs.Stepping.{halted_quiet}
use Rattle.ts_host.proofs.host.Host.receive.Goals as goal

pub returns-in-Delivered-clause-handled : goal.returns-in-Delivered-clause-handled
returns-in-Delivered-clause-handled g c =
    let old = connections_of c.args.self.now in
    carries_as _ _ _ _ (λ from to handled.
    handled_then c.answer_all.result _ _ _ (Comes (record { link = c.args.link; bytes = g.H.Hub.hand c.args.hub.now }) ∷ [])
    (went_none _ _ (Comes (record { link = c.args.link; bytes = g.H.Hub.hand c.args.hub.now }) ∷ [])
    (λ more. ap (closing closes)
    (ap (λ (l : List ℕ). pending_items old.mux (record { link = c.args.link; bytes = l } ∷ frames_of more)) (sym c.bytes.ensures) ∙ sym (c.in-Delivered.ensures.delivered refl (frames_of more))))
    c.deliver.ensures.counts refl (extends_none _ _ refl) (gave_none _ _ (record { each = λ sent given had. had })) (grows_none (g.K.Sink.has c.args.out.now)))
    handled) c.answer_all.ensures.handled

pub returns-in-Lost-clause-handled : goal.returns-in-Lost-clause-handled
returns-in-Lost-clause-handled g c =
    let content = g.J.Log.content in
    let old = connections_of c.args.self.now in
    let mid = c.deliver.new.self in
    let new = connections_of c.drop_link.new.self in
    let link = c.args.link in
    let step = Comes (record { link = link; bytes = g.H.Hub.hand c.args.hub.now }) in
    carries_none _ _ (λ from stands.
    subst
    (λ r. Handled c.drop_link.result (shown content c.args.self.now from (g.C.Clock.readings c.args.clock.now) (g.H.Hub.out c.args.hub.now) (g.K.Sink.has c.args.out.now))
    (view_in new (kept (g.C.Clock.readings c.args.clock.now) (whole_by content r) false from) (stored_by content r) (g.H.Hub.out c.drop_link.new.hub) (g.K.Sink.has c.drop_link.new.out)) (step ∷ []))
    (sym c.drop_link.ensures.recorder)
    (dropped c.drop_link.result (step ∷ []) old mid new (kept (g.C.Clock.readings c.args.clock.now) (whole_by content (recorder_of c.args.self.now)) false from) (stored_by content (recorder_of c.args.self.now))
    (g.H.Hub.out c.args.hub.now) (g.H.Hub.out c.drop_link.new.hub) (g.K.Sink.has c.args.out.now) (g.K.Sink.has c.drop_link.new.out) link how.Memory
    (λ more. ap (closing closes)
    (c.drop_link.ensures.leaves.others (frames_of more) ∙ c.in-Lost.ensures.lost (λ is. (cc)) (frames_of more)
    ∙ ap (λ (l : List ℕ). without link (pending_items old.mux (record { link = link; bytes = l } ∷ frames_of more))) c.bytes.ensures)
    ∙ closing-without closes link (pending_items old.mux (record { link = link; bytes = g.H.Hub.hand c.args.hub.now } ∷ frames_of more)))
    c.deliver.ensures.counts c.drop_link.ensures.leaves.counts c.drop_link.ensures.hub
    (pending_of (gathered_of (recorder_of c.args.self.now)), refl) c.drop_link.ensures.line))

pub returns-in-Lost-clause-asked : goal.returns-in-Lost-clause-asked
returns-in-Lost-clause-asked g c = λ is. c.drop_link.ensures.leaves.others [] ∙ c.deliver.ensures.own

pub returns-in-NoMemory-clause-handled : goal.returns-in-NoMemory-clause-handled
returns-in-NoMemory-clause-handled g c =
    carries_none _ _ (λ from stands.
    halted_quiet _ _ (Comes (record { link = c.args.link; bytes = g.H.Hub.hand c.args.hub.now }) ∷ []) refl refl (extends_none _ _ refl)
    (pending_of (gathered_of (recorder_of c.args.self.now)), refl) (record { each = λ sent given had. had }) (grows_none (g.K.Sink.has c.args.out.now)))
