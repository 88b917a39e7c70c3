use Rattle.std.proofs.Common.{◌≡◌, List, [], ◌∷◌, Some, sym, ap, ◌∙◌, subst}
use Rattle.ts_mux.specs.declared.frame.Frame.{Frame}
use Rattle.ts_mux.specs.ClosedLinks.{is_closed, stream_of_link, GoesTo}
use Rattle.ts_mux.specs.Muxing.{pending_items}
use Rattle.ts_mux.specs.Order.{without}
use Rattle.ts_mux.proofs.Delivery.{ahead_empty, ahead_passed}
use Rattle.ts_mux.proofs.LostFrames.{on_err, own_only, lost_frame}
use Rattle.ts_mux.proofs.mux.Mux.deliver_bytes.Goals as goal

pub returns-then-is_empty-clause-ok : goal.returns-then-is_empty-clause-ok
returns-then-is_empty-clause-ok c = λ frames.
    let m = c.reach.new.self in
    let frame : Frame = record { link = c.args.link; bytes = c.args.bytes.now } in
    c.close.ensures.others frames
    ∙ ahead_empty (is_closed m.open_connections) (stream_of_link m.limits m.open_connections) m.current_connection frame (sym c.is_empty.ensures ∙ c.if-is_empty.true)
    (c.in_ok-reach.ensures.same [] ∙ c.requires.asked) frames
    ∙ c.in_ok-reach.ensures.same (frame ∷ frames)

pub go_to-requires-clause-asked : goal.go_to-requires-clause-asked
go_to-requires-clause-asked c = c.in_ok-reach.ensures.same [] ∙ c.requires.asked

pub returns-in-None-clause-ok : goal.returns-in-None-clause-ok
returns-in-None-clause-ok c = λ frames.
    let m = c.go_to.new.self in
    let frame : Frame = record { link = c.args.link; bytes = c.args.bytes.now } in
    ahead_passed (is_closed m.open_connections) (stream_of_link m.limits m.open_connections) m.current_connection frame
    (subst (GoesTo c.args.link m.open_connections m.current_connection) c.in-None.is c.in_ok-go_to.ensures.goes) frames
    ∙ c.in_ok-go_to.ensures.same (frame ∷ frames) ∙ c.in_ok-reach.ensures.same (frame ∷ frames)

pub feed-requires-clause-asked : goal.feed-requires-clause-asked
feed-requires-clause-asked c = c.in_ok-go_to.ensures.same [] ∙ c.in_ok-reach.ensures.same [] ∙ c.requires.asked

pub returns-in_ok-feed-in-Some-clause-ok : goal.returns-in_ok-feed-in-Some-clause-ok
returns-in_ok-feed-in-Some-clause-ok c = λ frames.
    let m = c.go_to.new.self in
    let frame : Frame = record { link = c.args.link; bytes = c.args.bytes.now } in
    let goes : GoesTo c.args.link m.open_connections m.current_connection (Some c.in-Some.at)
    = subst (GoesTo c.args.link m.open_connections m.current_connection) c.in-Some.is c.in_ok-go_to.ensures.goes in
    c.in_ok-feed-in-Some.ensures.ok frames
    ∙ ap (λ to. pending_items m (record { link = to; bytes = c.args.bytes.now } ∷ frames)) goes.0
    ∙ c.in_ok-go_to.ensures.same (frame ∷ frames) ∙ c.in_ok-reach.ensures.same (frame ∷ frames)

pub returns-in_err-reach-clause-lost : goal.returns-in_err-reach-clause-lost
returns-in_err-reach-clause-lost c =
    let m = c.args.self.now in
    let lost : (frames : List Frame) → without c.args.link (pending_items c.reach.new.self frames)
    ≡ without c.args.link (pending_items m (record { link = c.args.link; bytes = c.args.bytes.now } ∷ frames))
    = λ frames. ap (without c.args.link) (c.in_err-reach.ensures.same frames)
    ∙ lost_frame m c.args.link c.args.bytes.now frames in
    on_err c.from_residual.result lost

pub returns-in_err-go_to-clause-lost : goal.returns-in_err-go_to-clause-lost
returns-in_err-go_to-clause-lost c =
    let m = c.args.self.now in
    let lost : (frames : List Frame) → without c.args.link (pending_items c.go_to.new.self frames)
    ≡ without c.args.link (pending_items m (record { link = c.args.link; bytes = c.args.bytes.now } ∷ frames))
    = λ frames. ap (without c.args.link) (c.in_err-go_to.ensures.same frames ∙ c.in_ok-reach.ensures.same frames)
    ∙ lost_frame m c.args.link c.args.bytes.now frames in
    on_err c.from_residual-in_err-go_to.result lost

pub returns-in_err-feed-in-Some-clause-lost : goal.returns-in_err-feed-in-Some-clause-lost
returns-in_err-feed-in-Some-clause-lost c =
    let m = c.args.self.now in
    let lost : (frames : List Frame) → without c.args.link (pending_items c.feed.new.self frames)
    ≡ without c.args.link (pending_items m (record { link = c.args.link; bytes = c.args.bytes.now } ∷ frames))
    = λ frames. ap (without c.args.link) (c.in_err-feed-in-Some.ensures.err frames ∙ c.in_ok-go_to.ensures.same frames ∙ c.in_ok-reach.ensures.same frames)
    ∙ lost_frame m c.args.link c.args.bytes.now frames in
    on_err c.from_residual-in_err-feed-in-Some.result lost

pub returns-then-is_empty-clause-own : goal.returns-then-is_empty-clause-own
unfolding returns-then-is_empty-clause-ok
returns-then-is_empty-clause-own c =
    let m = c.args.self.now in
    own_only c.args.link (pending_items m []) _ _ c.requires.asked
    (lost_frame m c.args.link c.args.bytes.now []) (returns-then-is_empty-clause-ok c [])

pub returns-in-None-clause-own : goal.returns-in-None-clause-own
unfolding returns-in-None-clause-ok
returns-in-None-clause-own c =
    let m = c.args.self.now in
    own_only c.args.link (pending_items m []) _ _ c.requires.asked (lost_frame m c.args.link c.args.bytes.now []) (returns-in-None-clause-ok c [])

pub returns-in_ok-feed-in-Some-clause-own : goal.returns-in_ok-feed-in-Some-clause-own
unfolding returns-in_ok-feed-in-Some-clause-ok
returns-in_ok-feed-in-Some-clause-own c =
    let m = c.args.self.now in
    own_only c.args.link (pending_items m []) _ _ c.requires.asked (lost_frame m c.args.link c.args.bytes.now []) (returns-in_ok-feed-in-Some-clause-ok c [])
