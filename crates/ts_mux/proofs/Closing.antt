-- Lemmas about the pending items of a `Mux` after a protocol error, and after it closed a connection.
use Rattle.std.proofs.Common.{◌≡◌, ℕ, Bool, true, false, ◌==◌, if◌then◌else◌, List, [], ◌∷◌, ◌++◌, length, drop, Option, Some, None, refl, sym, ap, ◌∙◌, subst}
use Rattle.std.proofs.lemmas.Bool.{eq-eqb}
use Rattle.ts_spec.specs.Wire.{Stream, Then, Broken}
use Rattle.ts_resp.specs.Reading.{Reading, stream_of}
use Rattle.ts_resp.specs.declared.protocol.Protocol.{Protocol}
use Rattle.ts_mux.specs.declared.frame.Frame.{Frame}
use Rattle.ts_mux.specs.declared.current_connection.CurrentConnection.{CurrentConnection}
use Rattle.ts_mux.specs.declared.current_connection.Turn.{Turn}
use Rattle.ts_mux.specs.declared.current_connection.Turn.TheVariants as turn
use Rattle.ts_mux.specs.Order.{Connection, Asked, Failed, events_of, new_events_of, items_of, items_from, without, never_closes}
use Rattle.ts_mux.specs.Links.{connections, pending_of_current, pending_items_of, current_without, MarksClosed}
use Rattle.ts_mux.specs.Turns.{IsNextOfReader, IsNextTurn}
use Rattle.ts_mux.proofs.OrderLemmas.{AreAlikeBut, IsDone, without-append, without-own, without-other, without-done}
use Rattle.ts_mux.proofs.MuxLemmas.{ahead_asked}
use Rattle.ts_mux.proofs.Streams.{alike_unless, all_same, ahead_same}

-- ---- a protocol error

done_broken : (gone : Bool) (stream : List ℕ → Stream) (p : Protocol) → ((more : List ℕ) → stream more ≡ Broken p.kind p.place)
    → IsDone (if gone then None else Some stream)
done_broken true stream p h = λ before bytes. refl
done_broken false stream p h = λ before bytes.
    ap (λ front. drop (length (events_of front)) (events_of (stream (before ++ bytes)))) (h before)
    ∙ ap (λ whole. drop 1 (events_of whole)) (h (before ++ bytes))

-- the items left of the current connection depend only on its stream
left_of : (old new : ℕ → List ℕ → Stream) (current : CurrentConnection) → new current.link [] ≡ old current.link []
    → pending_of_current new (Some current) ≡ pending_of_current old (Some current)
left_of old new current same = ap (λ stream. items_of current.link (events_of stream)) same

ahead_failed : (closed : ℕ → Bool) (old new : ℕ → List ℕ → Stream) (current : CurrentConnection) (p : Protocol)
    → ((more : List ℕ) → new current.link more ≡ Broken p.kind p.place) → ((at : ℕ) (more : List ℕ) → new at more ≡ old at more) → (frames : List Frame)
    → pending_items_of closed old (Some current) frames
    ≡ record { link = current.link; event = Failed p } ∷ without current.link (pending_items_of closed new (Some current) frames)
ahead_failed closed old new current p broken same frames =
    sym (ahead_same closed closed old new (Some current) (Some current) (λ at. refl) same (left_of old new current (same current.link [])) frames)
    ∙ ap (λ stream. items_of current.link (events_of stream) ++ items_from never_closes after frames) (broken [])
    ∙ ap (λ items. record { link = current.link; event = Failed p } ∷ items)
    (sym (without-done never_closes current.link after after frames (λ at apart before bytes. refl) (done_broken (closed current.link) (new current.link) p broken))
    ∙ ap (λ items. items ++ without current.link (items_from never_closes after frames))
    (sym (without-own current.link current.link (events_of (new current.link [])) (eq-eqb current.link current.link refl)))
    ∙ sym (without-append current.link (items_of current.link (events_of (new current.link []))) (items_from never_closes after frames)))
  where
    after : ℕ → Connection
    after = connections closed new

-- ---- the next item

module _ (closed : ℕ → Bool) (old new : ℕ → List ℕ → Stream) (current : CurrentConnection) (was now : Reading) (before : (more : List ℕ) → old current.link more ≡ stream_of was more) (after : (more : List ℕ) → new current.link more ≡ stream_of now more) (others : (at : ℕ) → (at == current.link) ≡ false → (more : List ℕ) → new at more ≡ old at more) where
  whole : ((more : List ℕ) → stream_of now more ≡ stream_of was more) → (at : ℕ) (more : List ℕ) → new at more ≡ old at more
  whole same = all_same old new current.link (λ more. after more ∙ same more ∙ sym (before more)) others

  quiet : ((more : List ℕ) → stream_of now more ≡ stream_of was more) → (frames : List Frame)
      → pending_items_of closed new (Some current) frames ≡ pending_items_of closed old (Some current) frames
  quiet same frames = ahead_same closed closed old new (Some current) (Some current) (λ at. refl) (whole same) (left_of old new current (whole same current.link [])) frames

  pub gives : (turn : Turn) → IsNextOfReader turn current.link was now
      → IsNextTurn turn (pending_items_of closed old (Some current)) (pending_items_of closed new (Some current))
  gives (turn.Request at words) says =
      subst (λ to. (frames : List Frame) → pending_items_of closed old (Some current) frames
      ≡ record { link = to; event = Asked words.items } ∷ pending_items_of closed new (Some current) frames)
      (sym says.0) (λ frames. ahead_asked closed old new current words.items says.1.0
      (λ more. before more ∙ says.1.1 more ∙ ap (Then words.items says.1.0) (sym (after more))) others frames)
  gives (turn.Fault at p) says =
      subst (λ to. (frames : List Frame) → pending_items_of closed old (Some current) frames
      ≡ record { link = to; event = Failed p } ∷ without to (pending_items_of closed new (Some current) frames))
      (sym says.0) (λ frames. ahead_failed closed old new current p (λ more. after more ∙ says.1 more) (whole says.2) frames)
  gives turn.NotYet says =
      (quiet says.0, ap (λ stream. items_of current.link (events_of stream) ++ []) (after []) ∙ ap (λ events. items_of current.link events ++ []) says.1)
  gives turn.Memory says = quiet says

-- ---- a closed connection

left_without : (old new : ℕ → List ℕ → Stream) (link : ℕ) (current : Option CurrentConnection)
    → ((at : ℕ) → (at == link) ≡ false → (more : List ℕ) → new at more ≡ old at more)
    → pending_of_current new (current_without link current) ≡ without link (pending_of_current old current)
left_without old new link None others = refl
left_without old new link (Some at) others = go (at.link == link) refl
  where
    go : (test : Bool) → (at.link == link) ≡ test
        → pending_of_current new (if test then None else Some at) ≡ without link (items_of at.link (events_of (old at.link [])))
    go true e = sym (without-own link at.link (events_of (old at.link [])) e)
    go false e = ap (λ stream. items_of at.link (events_of stream)) (others at.link e []) ∙ sym (without-other link at.link (events_of (old at.link [])) e)

pub ahead_closed : (closed gone : ℕ → Bool) (old new : ℕ → List ℕ → Stream) (current : Option CurrentConnection) (link : ℕ)
    → MarksClosed link closed gone → ((at : ℕ) → (at == link) ≡ false → (more : List ℕ) → new at more ≡ old at more) → (frames : List Frame)
    → pending_items_of gone new (current_without link current) frames ≡ without link (pending_items_of closed old current frames)
ahead_closed closed gone old new current link marks others frames =
    ap (λ items. items ++ items_from never_closes after frames) (left_without old new link current others)
    ∙ ap (λ items. without link (pending_of_current old current) ++ items) (sym (without-done never_closes link before after frames alike done))
    ∙ sym (without-append link (pending_of_current old current) (items_from never_closes before frames))
  where
    before : ℕ → Connection
    before = connections closed old

    after : ℕ → Connection
    after = connections gone new

    done : IsDone (after link)
    done = subst (λ test. IsDone (if test then None else Some (new link)))
        (sym (marks link ∙ ap (λ test. if test then true else closed link) (eq-eqb link link refl))) (λ before bytes. refl)

    alike : AreAlikeBut link before after
    alike = λ at apart first more. sym
        (ap (λ test. new_events_of (if test then None else Some (new at)) first more) (marks at ∙ ap (λ test. if test then true else closed at) apart)
        ∙ alike_unless (closed at) (new at) (old at) (others at apart) first more)
