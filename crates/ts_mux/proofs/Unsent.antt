-- Lemmas about the pending items of a new `Mux`.
use Rattle.std.proofs.Common.{◌≡◌, ℕ, Bool, false, if◌then◌else◌, List, [], Some, None, ap, ◌∙◌, arith}
use Rattle.ts_spec.specs.declared.wire.WireLimits.{WireLimits}
use Rattle.ts_spec.specs.Wire.{Stream, Start, stream_at}
use Rattle.ts_spec.proofs.Streams.{read_on-nil}
use Rattle.ts_mux.specs.declared.frame.Frame.{Frame}
use Rattle.ts_mux.specs.Order.{events_of, new_events_of, items_from, nothing_sent, never_closes}
use Rattle.ts_mux.specs.Links.{connections, pending_items_of, AreDrained, AreFedAtMost}
use Rattle.ts_mux.proofs.OrderLemmas.{items-alike}
use Rattle.ts_mux.proofs.Streams.{same_events}

module _ (limits : WireLimits) (streams : ℕ → List ℕ → Stream) (new : (at : ℕ) (more : List ℕ) → streams at more ≡ stream_at limits 0 more) where
  pub ahead_unsent : (closed : ℕ → Bool) → ((at : ℕ) → closed at ≡ false) → (frames : List Frame)
      → pending_items_of closed streams None frames ≡ items_from never_closes (nothing_sent limits) frames
  ahead_unsent closed are_open frames = items-alike never_closes (connections closed streams) (nothing_sent limits) frames
      (λ at before bytes. ap (λ gone. new_events_of (if gone then None else Some (streams at)) before bytes) (are_open at)
      ∙ same_events (streams at) (stream_at limits 0) (new at) before bytes)

  pub drained_unsent : AreDrained None streams
  drained_unsent = λ at other. ap events_of (new at [] ∙ read_on-nil limits 0 0 Start)

pub within_unsent : (fed_to : ℕ → ℕ) → ((at : ℕ) → fed_to at ≡ 0) → AreFedAtMost 0 fed_to
within_unsent fed_to none = λ at.
    let same : fed_to at ≡ 0 = none at in
    omega (arith, same)
