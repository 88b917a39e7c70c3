use Rattle.std.proofs.Common.{◌<◌, ◌≤◌, ℕ, false, List, [], ◌∷◌, length, refl, sym, ap, ◌∙◌, subst, arith}
use Rattle.ts_io.specs.Gathering.{pending_of}
use Rattle.ts_io.proofs.Growth.{grows_none}
use Rattle.ts_mux.specs.Muxing.{pending_items}
use Rattle.ts_mux.specs.Order.{Item, Asked, Failed, closing, without}
use Rattle.ts_mux.proofs.Closings.{closing-without}
use Rattle.ts_execution.specs.Journaling.{kept}
use Rattle.ts_execution.proofs.Carried.{carries_as, carries_none}
use Rattle.ts_words.specs.declared.lines.LinkEnd.TheVariants as how
use Rattle.ts_host.specs.Executing.{GivesReply, next_after}
use Rattle.ts_host.specs.Http.{closes}
use Rattle.ts_host.specs.Recorder.{gathered_of}
use Rattle.ts_host.specs.RequestCounts.{counted_at, executed_by}
use Rattle.ts_host.specs.Serving.{HandledNext}
use Rattle.ts_host.specs.Settling.{stored_by, whole_by}
use Rattle.ts_host.specs.Shown.{connections_of, recorder_of, reply_of, shown, waiting}
use Rattle.ts_host.specs.Steps.{frames_of}
use Rattle.ts_host.specs.declared.host.NextItem.TheVariants as next
use Rattle.ts_host.proofs.AnsweredItems.{uncounted, untold_halts, view_in}
use Rattle.ts_host.proofs.Contents.{extends_none}
use Rattle.ts_host.proofs.Going.{went_none}
use Rattle.ts_host.proofs.Lines.{gave_none}
use Rattle.ts_host.proofs.NextItems.{after_drop, by_ending, by_last, dropped, own_after, own_behind, shorter_after}
use Rattle.ts_host.proofs.host.Host.answer_next.Goals as goal

-- ---- a request

pub returns-in-Ok-clause-handled : goal.returns-in-Ok-clause-handled
returns-in-Ok-clause-handled g c =
    let content = g.J.Log.content in
    let at = c.in-Request.at in
    let words = c.in-Request.words.items in
    let old = connections_of c.args.self.now in
    let mid = connections_of c.execute.new.self in
    let new = connections_of c.give_reply.new.self in
    carries_as _ _ _ _ (λ from to executed.
    subst
    (λ r. HandledNext c.give_reply.result (shown content c.args.self.now from (g.C.Clock.readings c.args.clock.now) (g.H.Hub.out c.args.hub.now) (g.K.Sink.has c.args.out.now))
    (view_in new (kept (g.C.Clock.readings c.execute.new.clock) (whole_by content r) false to) (stored_by content r) (g.H.Hub.out c.give_reply.new.hub) (g.K.Sink.has c.give_reply.new.out)))
    (sym c.give_reply.ensures.recorder)
    (by_ending old mid new
    (kept (g.C.Clock.readings c.args.clock.now) (whole_by content (recorder_of c.args.self.now)) false from)
    (kept (g.C.Clock.readings c.execute.new.clock) (whole_by content (recorder_of c.execute.new.self)) false to)
    (stored_by content (recorder_of c.args.self.now)) (stored_by content (recorder_of c.execute.new.self))
    (g.H.Hub.out c.args.hub.now) (g.H.Hub.out c.give_reply.new.hub) (g.K.Sink.has c.args.out.now) (g.K.Sink.has c.give_reply.new.out) at (Asked words) (reply_of c.execute.new.self)
    (λ frames. c.in-Request.ensures.item frames ∙ ap (λ (l : List Item). record { link = at; event = Asked words } ∷ l) (sym (c.execute.ensures.pending frames)))
    executed.1 executed.0
    (λ link. c.in-Ok.ensures.counts link ∙ ap (λ cs. counted_at at (executed_by cs) link) c.in-Request.ensures.counts)
    (pending_of (gathered_of (recorder_of c.execute.new.self)), refl)
    c.give_reply.result c.in-Ok.closes (sym c.in-Ok.ensures.closes)
    (subst (λ end. GivesReply c.give_reply.result at end (reply_of c.execute.new.self) mid new (g.H.Hub.out c.args.hub.now) (g.H.Hub.out c.give_reply.new.hub) (g.K.Sink.has c.args.out.now) (g.K.Sink.has c.give_reply.new.out))
    c.end_if.ensures c.give_reply.ensures.gives)))
    c.in-Ok.ensures.executed

pub returns-in-Ok-clause-own : goal.returns-in-Ok-clause-own
returns-in-Ok-clause-own g c =
    own_after c.in-Request.at (reply_of c.execute.new.self) (connections_of c.execute.new.self) (connections_of c.give_reply.new.self) (g.H.Hub.out c.args.hub.now) (g.H.Hub.out c.give_reply.new.hub)
    (g.K.Sink.has c.args.out.now) (g.K.Sink.has c.give_reply.new.out) c.give_reply.result c.end_if.result c.give_reply.ensures.gives c.args.link
    (own_behind c.args.link (pending_items (connections_of c.args.self.now).mux []) (record { link = c.in-Request.at; event = Asked c.in-Request.words.items })
    (pending_items (connections_of c.execute.new.self).mux [])
    (c.in-Request.ensures.item [] ∙ ap (λ (l : List Item). record { link = c.in-Request.at; event = Asked c.in-Request.words.items } ∷ l) (sym (c.execute.ensures.pending [])))
    c.requires.own)

pub returns-in-Ok-clause-fewer : goal.returns-in-Ok-clause-fewer
returns-in-Ok-clause-fewer g c = λ is.
    let less : waiting (connections_of c.give_reply.new.self) ≤ waiting (connections_of c.execute.new.self) =
    shorter_after c.in-Request.at (reply_of c.execute.new.self) (connections_of c.execute.new.self) (connections_of c.give_reply.new.self) (g.H.Hub.out c.args.hub.now) (g.H.Hub.out c.give_reply.new.hub)
    (g.K.Sink.has c.args.out.now) (g.K.Sink.has c.give_reply.new.out) c.give_reply.result c.end_if.result c.give_reply.ensures.gives is in
    let fewer = c.in-Request.ensures.progress in
    omega (arith, less, fewer, ap length (c.execute.ensures.pending []))

pub returns-in-Err-clause-handled : goal.returns-in-Err-clause-handled
returns-in-Err-clause-handled g c =
    let content = g.J.Log.content in
    let at = c.in-Request.at in
    let words = c.in-Request.words.items in
    let new = connections_of c.execute.new.self in
    carries_as _ _ _ _ (λ from to untold.
    untold_halts (connections_of c.args.self.now) new new
    (kept (g.C.Clock.readings c.args.clock.now) (whole_by content (recorder_of c.args.self.now)) false from)
    (kept (g.C.Clock.readings c.execute.new.clock) (whole_by content (recorder_of c.execute.new.self)) false to)
    (stored_by content (recorder_of c.args.self.now)) (stored_by content (recorder_of c.execute.new.self))
    (g.H.Hub.out c.args.hub.now) (g.H.Hub.out c.args.hub.now) (g.K.Sink.has c.args.out.now) (g.K.Sink.has c.args.out.now) at (Asked words) (reply_of c.execute.new.self)
    (λ frames. c.in-Request.ensures.item frames ∙ ap (λ (l : List Item). record { link = at; event = Asked words } ∷ l) (sym (c.execute.ensures.pending frames)))
    untold.extends (closes words) untold.world refl untold.journaled untold.held untold.readings untold.within (record { each = λ sent given had. had }) (grows_none (g.K.Sink.has c.args.out.now)))
    c.in-Err.ensures.executed

pub returns-in-Err-clause-own : goal.returns-in-Err-clause-own
returns-in-Err-clause-own g c =
    own_behind c.args.link (pending_items (connections_of c.args.self.now).mux []) (record { link = c.in-Request.at; event = Asked c.in-Request.words.items })
    (pending_items (connections_of c.execute.new.self).mux [])
    (c.in-Request.ensures.item [] ∙ ap (λ (l : List Item). record { link = c.in-Request.at; event = Asked c.in-Request.words.items } ∷ l) (sym (c.execute.ensures.pending [])))
    c.requires.own

-- ---- a protocol error

pub returns-in-Fault-clause-handled : goal.returns-in-Fault-clause-handled
returns-in-Fault-clause-handled g c =
    let content = g.J.Log.content in
    let at = c.in-Fault.at in
    let event = Failed c.in-Fault.fault in
    let old = connections_of c.args.self.now in
    let mid = c.next.new.self in
    let new = connections_of c.give_reply-in-Fault.new.self in
    let text = c.refuse.new.self.room.bytes in
    carries_none _ _ (λ from stands.
    subst
    (λ r. HandledNext c.give_reply-in-Fault.result (shown content c.args.self.now from (g.C.Clock.readings c.args.clock.now) (g.H.Hub.out c.args.hub.now) (g.K.Sink.has c.args.out.now))
    (view_in new (kept (g.C.Clock.readings c.args.clock.now) (whole_by content r) false from) (stored_by content r) (g.H.Hub.out c.give_reply-in-Fault.new.hub) (g.K.Sink.has c.give_reply-in-Fault.new.out)))
    (sym c.give_reply-in-Fault.ensures.recorder)
    (by_last old mid new
    (kept (g.C.Clock.readings c.args.clock.now) (whole_by content (recorder_of c.args.self.now)) false from)
    (kept (g.C.Clock.readings c.args.clock.now) (whole_by content (recorder_of c.args.self.now)) false from)
    (stored_by content (recorder_of c.args.self.now)) (stored_by content (recorder_of c.args.self.now))
    (g.H.Hub.out c.args.hub.now) (g.H.Hub.out c.give_reply-in-Fault.new.hub) (g.K.Sink.has c.args.out.now) (g.K.Sink.has c.give_reply-in-Fault.new.out) at event text
    (λ frames. c.in-Fault.ensures.item frames)
    (extends_none (stored_by content (recorder_of c.args.self.now)) (stored_by content (recorder_of c.args.self.now)) refl)
    (c.refuse.ensures, refl)
    (uncounted (record { link = at; event = event }) (executed_by old.counts) (executed_by mid.counts) refl (λ link. ap (λ cs. executed_by cs link) c.next.ensures.counts))
    (pending_of (gathered_of (recorder_of c.args.self.now)), refl)
    c.give_reply-in-Fault.result how.Protocol refl c.give_reply-in-Fault.ensures.gives))

pub returns-in-Fault-clause-own : goal.returns-in-Fault-clause-own
returns-in-Fault-clause-own g c =
    own_after c.in-Fault.at c.refuse.new.self.room.bytes c.next.new.self (connections_of c.give_reply-in-Fault.new.self) (g.H.Hub.out c.args.hub.now) (g.H.Hub.out c.give_reply-in-Fault.new.hub)
    (g.K.Sink.has c.args.out.now) (g.K.Sink.has c.give_reply-in-Fault.new.out) c.give_reply-in-Fault.result _ c.give_reply-in-Fault.ensures.gives c.args.link
    (own_behind c.args.link (pending_items (connections_of c.args.self.now).mux []) (record { link = c.in-Fault.at; event = Failed c.in-Fault.fault })
    (pending_items c.next.new.self.mux []) (c.in-Fault.ensures.item []) c.requires.own)

pub returns-in-Fault-clause-fewer : goal.returns-in-Fault-clause-fewer
returns-in-Fault-clause-fewer g c = λ is.
    let less : waiting (connections_of c.give_reply-in-Fault.new.self) ≤ waiting c.next.new.self =
    shorter_after c.in-Fault.at c.refuse.new.self.room.bytes c.next.new.self (connections_of c.give_reply-in-Fault.new.self) (g.H.Hub.out c.args.hub.now) (g.H.Hub.out c.give_reply-in-Fault.new.hub)
    (g.K.Sink.has c.args.out.now) (g.K.Sink.has c.give_reply-in-Fault.new.out) c.give_reply-in-Fault.result _ c.give_reply-in-Fault.ensures.gives is in
    let fewer = c.in-Fault.ensures.progress in
    omega (arith, less, fewer)

-- ---- nothing more

pub returns-in-NotYet-clause-handled : goal.returns-in-NotYet-clause-handled
returns-in-NotYet-clause-handled g c =
    carries_none _ _ (λ from stands. went_none _ _ [] (λ more. ap (closing closes) (sym (c.in-NotYet.ensures.same (frames_of more)))) (λ link. ap (λ cs. executed_by cs link) c.next.ensures.counts) refl
    (extends_none _ _ refl) (gave_none _ _ (record { each = λ sent given had. had })) (grows_none (g.K.Sink.has c.args.out.now)))

-- ---- out of memory

pub drop_link-fault-requires : goal.drop_link-fault-requires
drop_link-fault-requires g c = subst (λ (n : ℕ). c.args.link < n) (sym c.next.ensures.reach) c.requires.reached

pub returns-in-Memory-clause-handled : goal.returns-in-Memory-clause-handled
returns-in-Memory-clause-handled g c =
    let content = g.J.Log.content in
    let old = connections_of c.args.self.now in
    let mid = c.next.new.self in
    let new = connections_of c.drop_link-fault.new.self in
    let link = c.args.link in
    carries_none _ _ (λ from stands.
    rw c.next_after.ensures
    (subst
    (λ r. HandledNext (next_after c.drop_link-fault.result next.NoneLeft) (shown content c.args.self.now from (g.C.Clock.readings c.args.clock.now) (g.H.Hub.out c.args.hub.now) (g.K.Sink.has c.args.out.now))
    (view_in new (kept (g.C.Clock.readings c.args.clock.now) (whole_by content r) false from) (stored_by content r) (g.H.Hub.out c.drop_link-fault.new.hub) (g.K.Sink.has c.drop_link-fault.new.out)))
    (sym c.drop_link-fault.ensures.recorder)
    (after_drop c.drop_link-fault.result _ _
    (dropped c.drop_link-fault.result [] old mid new (kept (g.C.Clock.readings c.args.clock.now) (whole_by content (recorder_of c.args.self.now)) false from) (stored_by content (recorder_of c.args.self.now))
    (g.H.Hub.out c.args.hub.now) (g.H.Hub.out c.drop_link-fault.new.hub) (g.K.Sink.has c.args.out.now) (g.K.Sink.has c.drop_link-fault.new.out) link how.Memory
    (λ more. ap (closing closes) (c.drop_link-fault.ensures.leaves.others (frames_of more)) ∙ closing-without closes link (pending_items mid.mux (frames_of more))
    ∙ ap (λ (l : List Item). without link (closing closes l)) (c.in-Memory.ensures.same (frames_of more)))
    (λ at. ap (λ cs. executed_by cs at) c.next.ensures.counts) c.drop_link-fault.ensures.leaves.counts c.drop_link-fault.ensures.hub
    (pending_of (gathered_of (recorder_of c.args.self.now)), refl) c.drop_link-fault.ensures.line))))

pub returns-in-Memory-clause-own : goal.returns-in-Memory-clause-own
returns-in-Memory-clause-own g c =
    ap (without c.args.link) (c.drop_link-fault.ensures.leaves.others [] ∙ ap (without c.args.link) (c.in-Memory.ensures.same []) ∙ c.requires.own)

pub returns-in-Memory-clause-asked : goal.returns-in-Memory-clause-asked
returns-in-Memory-clause-asked g c = λ is. c.drop_link-fault.ensures.leaves.others [] ∙ ap (without c.args.link) (c.in-Memory.ensures.same []) ∙ c.requires.own
