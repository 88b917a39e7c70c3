use Rattle.std.proofs.Common.{List, [], ◌∷◌, ap, ◌∙◌}
use Rattle.ts_mux.specs.declared.frame.Frame.{Frame}
use Rattle.ts_mux.specs.declared.mux.Mux.{Mux}
use Rattle.ts_mux.specs.Muxing.{pending_items}
use Rattle.ts_mux.specs.Order.{without}
use Rattle.ts_host.proofs.connections.Connections.deliver.Goals as goal

pub returns-in-Err-clause-own : goal.returns-in-Err-clause-own
returns-in-Err-clause-own c =
    ap (without c.args.link) (c.in-Err.ensures.same [] ∙ ap (λ (m : Mux). pending_items m []) c.take.ensures.mux ∙ c.requires.asked)

pub feed-requires-clause-asked : goal.feed-requires-clause-asked
feed-requires-clause-asked c = c.in-Ok.ensures.same [] ∙ ap (λ (m : Mux). pending_items m []) c.take.ensures.mux ∙ c.requires.asked

pub returns-in-Ok-feed-clause-delivered : goal.returns-in-Ok-feed-clause-delivered
returns-in-Ok-feed-clause-delivered c = λ is frames.
    let all : List Frame = record { link = c.args.link; bytes = c.args.bytes.now } ∷ frames in
    c.in-Ok-feed.ensures.delivered frames ∙ c.in-Ok.ensures.same all ∙ ap (λ (m : Mux). pending_items m all) c.take.ensures.mux

pub returns-in-Ok-feed-clause-lost : goal.returns-in-Ok-feed-clause-lost
returns-in-Ok-feed-clause-lost c = λ is frames.
    let all : List Frame = record { link = c.args.link; bytes = c.args.bytes.now } ∷ frames in
    c.in-Ok-feed.ensures.lost frames ∙ ap (without c.args.link) (c.in-Ok.ensures.same all ∙ ap (λ (m : Mux). pending_items m all) c.take.ensures.mux)

pub returns-in-Err-feed-clause-lost : goal.returns-in-Err-feed-clause-lost
returns-in-Err-feed-clause-lost c = λ is frames.
    let all : List Frame = record { link = c.args.link; bytes = c.args.bytes.now } ∷ frames in
    c.in-Err-feed.ensures.lost frames ∙ ap (without c.args.link) (c.in-Ok.ensures.same all ∙ ap (λ (m : Mux). pending_items m all) c.take.ensures.mux)
