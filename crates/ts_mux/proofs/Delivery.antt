-- Lemmas about the pending items of a `Mux` before and after it delivers a frame.
use Rattle.std.proofs.Common.{◌≡◌, ℕ, suc, Bool, true, false, ◌<◌, ◌==◌, if◌then◌else◌, List, [], ◌∷◌, ◌++◌, length, drop, Option, Some, None, refl, sym, ap, ◌∙◌, subst, append-nil, arith}
use Rattle.std.proofs.lemmas.Bool.{eqb-true, eqb-false, eq-eqb}
use Rattle.ts_spec.specs.Wire.{Stream, Then, Ended, Inside, Broken}
use Rattle.ts_mux.specs.declared.frame.Frame.{Frame}
use Rattle.ts_mux.specs.declared.current_connection.CurrentConnection.{CurrentConnection}
use Rattle.ts_spec.specs.StreamPrefixes.{IsStreamPrefix}
use Rattle.ts_mux.specs.Order.{Event, Connection, Asked, events_of, new_events_of, later, up_to_close, has_close, after_bytes, items_of, with_link, items_from, without, never_closes}
use Rattle.ts_mux.specs.Links.{connections, pending_of_current, pending_items_of}
use Rattle.ts_mux.proofs.OneConnection.{none_new}
use Rattle.ts_mux.proofs.OrderLemmas.{Alike, AreAlike, AreAlikeBut, IsDone, items-alike, without-done}
use Rattle.ts_mux.proofs.Streams.{same_events, alike_unless, none_left}

-- ---- the events of a stream, if no request closes its connection

until_none : (stream : Stream) → up_to_close never_closes (events_of stream) ≡ events_of stream
until_none (Then request place rest) = ap (λ events. Asked request ∷ events) (until_none rest)
until_none Ended = refl
until_none (Inside place) = refl
until_none (Broken kind place) = refl

-- a broken prefix of a stream is the whole stream
front_broken : (front whole : Stream) → has_close never_closes (events_of front) ≡ true → IsStreamPrefix front whole → whole ≡ front
front_broken (Then request place rest) whole e h = h.1 ∙ ap (λ others. Then request place others) (front_broken rest h.0 e h.2)
front_broken Ended whole e h = absurd (eqb-false 0 0 (sym e) refl)
front_broken (Inside place) whole e h = absurd (eqb-false 0 0 (sym e) refl)
front_broken (Broken kind place) whole e h = h

drop_own : (events : List Event) → drop (length events) events ≡ []
drop_own [] = refl
drop_own (event ∷ events) = drop_own events

-- a connection whose stream is broken
done_stream : (stream : List ℕ → Stream) → ((more : List ℕ) → IsStreamPrefix (stream []) (stream more)) → has_close never_closes (events_of (stream [])) ≡ true
    → IsDone (Some stream)
done_stream stream grows e = λ before bytes.
    ap (λ front. drop (length (events_of front)) (events_of (stream (before ++ bytes)))) (same before)
    ∙ ap (λ whole. drop (length (events_of (stream []))) (events_of whole)) (same (before ++ bytes))
    ∙ drop_own (events_of (stream []))
  where
    same : (more : List ℕ) → stream more ≡ stream []
    same more = front_broken (stream []) (stream more) e (grows more)

-- ---- bytes for one connection

module _ (old new : List ℕ → Stream) (bytes : List ℕ) (h : (more : List ℕ) → new more ≡ old (bytes ++ more)) (asked : events_of (old []) ≡ []) where
  news_fed : new_events_of (Some old) [] bytes ≡ events_of (new [])
  news_fed =
      ap (λ events. drop (length events) (events_of (old bytes))) asked
      ∙ ap (λ all. events_of (old all)) (sym (append-nil bytes))
      ∙ ap events_of (sym (h []))

  alike_frame : 0 < length bytes → ((more : List ℕ) → IsStreamPrefix (new []) (new more)) → Alike (Some new) (after_bytes never_closes (Some old) bytes)
  alike_frame some grows = by_bytes bytes some h news_fed
    where
      by_bytes : (bytes : List ℕ) → 0 < length bytes → ((more : List ℕ) → new more ≡ old (bytes ++ more)) → new_events_of (Some old) [] bytes ≡ events_of (new [])
          → Alike (Some new) (after_bytes never_closes (Some old) bytes)
      by_bytes [] some h news = absurd (omega (some, arith))
      by_bytes (byte ∷ bytes) some h news =
          subst (λ events. Alike (Some new) (if has_close never_closes events then None else later (Some old) (byte ∷ bytes)))
          (sym news) (go (has_close never_closes (events_of (new []))) refl)
        where
          go : (test : Bool) → has_close never_closes (events_of (new [])) ≡ test → Alike (Some new) (if test then None else later (Some old) (byte ∷ bytes))
          go true e = done_stream new grows e
          go false e = same_events new (λ more. old (byte ∷ bytes ++ more)) h

pub ahead_fed : (closed : ℕ → Bool) (old new : ℕ → List ℕ → Stream) (current : CurrentConnection) (bytes : List ℕ)
    → 0 < length bytes → closed current.link ≡ false → ((more : List ℕ) → IsStreamPrefix (new current.link []) (new current.link more))
    → ((more : List ℕ) → new current.link more ≡ old current.link (bytes ++ more))
    → ((at : ℕ) → (at == current.link) ≡ false → (more : List ℕ) → new at more ≡ old at more)
    → events_of (old current.link []) ≡ [] → (frames : List Frame)
    → pending_items_of closed new (Some current) frames
    ≡ pending_items_of closed old (Some current) (record { link = current.link; bytes = bytes } ∷ frames)
ahead_fed closed old new current bytes some is_open grows h others asked frames =
    ap (λ items. items_of current.link (events_of (new current.link [])) ++ items)
    (items-alike never_closes after (with_link before current.link (after_bytes never_closes own bytes)) frames alike)
    ∙ ap (λ events. items_of current.link events ++ items_from never_closes (with_link before current.link (after_bytes never_closes own bytes)) frames)
    (sym (until_none (new current.link [])) ∙ ap (up_to_close never_closes) (sym (news_fed (old current.link) (new current.link) bytes h asked)))
    ∙ ap (λ connection. items_of current.link (up_to_close never_closes (new_events_of connection [] bytes)) ++ items_from never_closes (with_link before current.link (after_bytes never_closes connection bytes)) frames) (sym mine)
    ∙ ap (λ events. items_of current.link events ++ (items_of current.link (up_to_close never_closes (new_events_of (before current.link) [] bytes)) ++ items_from never_closes (with_link before current.link (after_bytes never_closes (before current.link) bytes)) frames)) (sym asked)
  where
    before : ℕ → Connection
    before = connections closed old

    after : ℕ → Connection
    after = connections closed new

    own : Connection
    own = Some (old current.link)

    mine : before current.link ≡ own
    mine = ap (λ gone. if gone then None else Some (old current.link)) is_open

    its : after current.link ≡ Some (new current.link)
    its = ap (λ gone. if gone then None else Some (new current.link)) is_open

    alike : AreAlike after (with_link before current.link (after_bytes never_closes own bytes))
    alike = λ at. go at (at == current.link) refl
      where
        go : (at : ℕ) (test : Bool) → (at == current.link) ≡ test → Alike (after at) (if test then after_bytes never_closes own bytes else before at)
        go at true same = subst (λ to. Alike (after to) (after_bytes never_closes own bytes)) (sym (eqb-true at current.link same))
            (subst (λ connection. Alike connection (after_bytes never_closes own bytes)) (sym its)
            (alike_frame (old current.link) (new current.link) bytes h asked some grows))
        go at false apart = alike_unless (closed at) (new at) (old at) (others at apart)

-- ---- other frames

-- a frame of a closed connection
pub ahead_passed : (closed : ℕ → Bool) (streams : ℕ → List ℕ → Stream) (current : Option CurrentConnection) (frame : Frame) → closed frame.link ≡ true
    → (frames : List Frame) → pending_items_of closed streams current frames ≡ pending_items_of closed streams current (frame ∷ frames)
ahead_passed closed streams current frame gone frames =
    ap (λ items. pending_of_current streams current ++ items)
    (items-alike never_closes before (with_link before frame.link (after_bytes never_closes None frame.bytes)) frames alike
    ∙ ap (λ connection. items_of frame.link (up_to_close never_closes (new_events_of connection [] frame.bytes)) ++ items_from never_closes (with_link before frame.link (after_bytes never_closes connection frame.bytes)) frames) (sym none))
  where
    before : ℕ → Connection
    before = connections closed streams

    none : before frame.link ≡ None
    none = ap (λ gone. if gone then None else Some (streams frame.link)) gone

    after_none : (bytes : List ℕ) → Alike None (after_bytes never_closes None bytes)
    after_none [] = λ first more. refl
    after_none (byte ∷ bytes) = λ first more. refl

    alike : AreAlike before (with_link before frame.link (after_bytes never_closes None frame.bytes))
    alike = λ at. go at (at == frame.link) refl
      where
        go : (at : ℕ) (test : Bool) → (at == frame.link) ≡ test → Alike (before at) (if test then after_bytes never_closes None frame.bytes else before at)
        go at true same = subst (λ to. Alike (before to) (after_bytes never_closes None frame.bytes)) (sym (eqb-true at frame.link same))
            (subst (λ connection. Alike connection (after_bytes never_closes None frame.bytes)) (sym none) (after_none frame.bytes))
        go at false apart = λ first more. refl

none_of : (bytes : List ℕ) → (length bytes == 0) ≡ true → bytes ≡ []
none_of [] e = refl
none_of (byte ∷ bytes) e =
    let long : suc (length bytes) ≡ 0 = eqb-true (length (byte ∷ bytes)) 0 e in
    absurd (omega (long, arith))

-- an empty frame
pub ahead_empty : (closed : ℕ → Bool) (streams : ℕ → List ℕ → Stream) (current : Option CurrentConnection) (frame : Frame) → (length frame.bytes == 0) ≡ true
    → pending_items_of closed streams current [] ≡ [] → (frames : List Frame)
    → without frame.link (pending_items_of closed streams current frames) ≡ pending_items_of closed streams current (frame ∷ frames)
ahead_empty closed streams current frame empty asked frames =
    ap (λ items. without frame.link (items ++ items_from never_closes before frames)) none
    ∙ without-done never_closes frame.link before (with_link before frame.link None) frames alike done
    ∙ ap (λ events. items_of frame.link (up_to_close never_closes events) ++ items_from never_closes (with_link before frame.link None) frames) (sym (none_new (before frame.link)))
    ∙ ap (λ bytes. items_of frame.link (up_to_close never_closes (new_events_of (before frame.link) [] bytes)) ++ items_from never_closes (with_link before frame.link (after_bytes never_closes (before frame.link) bytes)) frames) (sym (none_of frame.bytes empty))
    ∙ ap (λ items. items ++ items_from never_closes before (frame ∷ frames)) (sym none)
  where
    before : ℕ → Connection
    before = connections closed streams

    none : pending_of_current streams current ≡ []
    none = none_left streams current asked

    alike : AreAlikeBut frame.link before (with_link before frame.link None)
    alike = λ at apart first more. ap (λ test. new_events_of (if test then None else before at) first more) (sym apart)

    done : IsDone (with_link before frame.link None frame.link)
    done = subst (λ test. IsDone (if test then None else before frame.link)) (sym (eq-eqb frame.link frame.link refl)) (λ first more. refl)
