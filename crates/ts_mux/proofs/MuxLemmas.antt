-- Lemmas about the pending items of a `Mux`, one item at a time.
use Rattle.std.proofs.Common.{◌≡◌, ℕ, suc, Bool, false, ◌==◌, List, [], ◌∷◌, ◌++◌, length, drop, Some, ap, ◌∙◌, ◌<◌, sym, subst, arith}
use Rattle.ts_spec.specs.Wire.{Request, Stream, Then}
use Rattle.ts_mux.specs.declared.frame.Frame.{Frame}
use Rattle.ts_mux.specs.declared.current_connection.CurrentConnection.{CurrentConnection}
use Rattle.ts_mux.specs.Order.{Item, Asked, events_of, items_of, items_from, never_closes}
use Rattle.ts_mux.specs.Links.{connections, pending_items_of}
use Rattle.ts_mux.proofs.OrderLemmas.{items-alike}
use Rattle.ts_mux.proofs.Streams.{alike_streams}

pub ahead_asked : (closed : ℕ → Bool) (old new : ℕ → List ℕ → Stream) (current : CurrentConnection) (words : Request) (place : ℕ)
    → ((more : List ℕ) → old current.link more ≡ Then words place (new current.link more))
    → ((at : ℕ) → (at == current.link) ≡ false → (more : List ℕ) → new at more ≡ old at more) → (frames : List Frame)
    → pending_items_of closed old (Some current) frames ≡ record { link = current.link; event = Asked words } ∷ pending_items_of closed new (Some current) frames
ahead_asked closed old new current words place h others frames =
    ap (λ stream. items_of current.link (events_of stream) ++ items_from never_closes (connections closed old) frames) (h [])
    ∙ ap (λ items. record { link = current.link; event = Asked words } ∷ (items_of current.link (events_of (new current.link [])) ++ items))
    (items-alike never_closes (connections closed old) (connections closed new) frames
    (alike_streams closed old new current.link
    (λ before bytes. ap (λ stream. drop (length (events_of stream)) (events_of (old current.link (before ++ bytes)))) (h before)
    ∙ ap (λ stream. drop (suc (length (events_of (new current.link before)))) (events_of stream)) (h (before ++ bytes)))
    others))

-- fewer items are pending after one
pub shorter : (old mid new : List Item) (item : Item) → old ≡ item ∷ mid → new ≡ mid → length new < length old
shorter old mid new item e same = subst (λ items. length new < length items) (sym e) (subst (λ items. length items < suc (length mid)) (sym same) (omega arith))
