-- Lemmas about the pending items of a `Mux` whose readers stay, or of which one is fed.
use Rattle.std.proofs.Common.{◌≡◌, ℕ, ◌<◌, false, List, [], ◌∷◌, ◌++◌, length, Option, Some, sym, ap, ◌∙◌, subst}
use Rattle.ts_spec.specs.declared.wire.WireLimits.{WireLimits}
use Rattle.ts_resp.specs.Reading.{Reading, stream_of}
use Rattle.ts_mux.specs.declared.frame.Frame.{Frame}
use Rattle.ts_mux.specs.declared.current_connection.CurrentConnection.{CurrentConnection}
use Rattle.ts_mux.specs.declared.open_connections.OpenConnections.{OpenConnections}
use Rattle.ts_mux.specs.ClosedLinks.{is_closed, reader_of, stream_of_link, IsReaderChanged}
use Rattle.ts_mux.specs.Links.{pending_of_current, pending_items_of}
use Rattle.ts_mux.proofs.Changes.{streams_same, closed_same, stream_before, stream_after, stream_others, same_if}
use Rattle.ts_mux.proofs.Delivery.{ahead_fed}
use Rattle.ts_mux.proofs.Streams.{ahead_same, left_same, current_drained, front_grows}

-- the same streams
pub ahead_quiet : (limits : WireLimits) (old new : OpenConnections) (current : Option CurrentConnection) → ((at : ℕ) → is_closed new at ≡ is_closed old at)
    → ((at : ℕ) (more : List ℕ) → stream_of_link limits new at more ≡ stream_of_link limits old at more) → (frames : List Frame)
    → pending_items_of (is_closed new) (stream_of_link limits new) current frames ≡ pending_items_of (is_closed old) (stream_of_link limits old) current frames
ahead_quiet limits old new current closed same frames =
    ahead_same (is_closed old) (is_closed new) (stream_of_link limits old) (stream_of_link limits new) current current closed same
    (left_same (stream_of_link limits old) (stream_of_link limits new) current same) frames

module _ {by : (was now : Reading) → Type 0} (limits : WireLimits) (old new : OpenConnections) (at : CurrentConnection) (changed : IsReaderChanged old new at.link by) where
  -- a reader changes, and reads the same
  pub ahead_kept : (current : Option CurrentConnection) → changed.now ≡ changed.was → (frames : List Frame)
      → pending_items_of (is_closed new) (stream_of_link limits new) current frames ≡ pending_items_of (is_closed old) (stream_of_link limits old) current frames
  ahead_kept current same frames =
      ahead_quiet limits old new current (λ link. ap (λ closed. closed link) (closed_same old new changed.indexes changed.reached))
      (streams_same limits old new (same_if limits old new at.link changed same)) frames

  -- the current connection is fed these bytes
  pub fed_ahead : (current : Option CurrentConnection) (bytes : List ℕ) → ((more : List ℕ) → stream_of changed.now more ≡ stream_of changed.was (bytes ++ more))
      → current ≡ Some at → 0 < length bytes → is_closed old at.link ≡ false → pending_of_current (stream_of_link limits old) current ++ [] ≡ [] → (frames : List Frame)
      → pending_items_of (is_closed new) (stream_of_link limits new) current frames
      ≡ pending_items_of (is_closed old) (stream_of_link limits old) current (record { link = at.link; bytes = bytes } ∷ frames)
  fed_ahead current bytes fed is some is_open none frames =
      let frame : Frame = record { link = at.link; bytes = bytes } in
      subst (λ o. pending_items_of (is_closed new) (stream_of_link limits new) o frames ≡ pending_items_of (is_closed old) (stream_of_link limits old) o (frame ∷ frames)) (sym is)
      (ap (λ closed. pending_items_of closed (stream_of_link limits new) (Some at) frames) (closed_same old new changed.indexes changed.reached)
      ∙ ahead_fed (is_closed old) (stream_of_link limits old) (stream_of_link limits new) at bytes some is_open (front_grows limits (reader_of new at.link))
      (λ more. stream_after limits old new at.link changed more ∙ fed more ∙ sym (stream_before limits old new at.link changed (bytes ++ more)))
      (stream_others limits old new at.link changed)
      (current_drained (stream_of_link limits old) at (subst (λ o. pending_of_current (stream_of_link limits old) o ++ [] ≡ []) is none)) frames)
