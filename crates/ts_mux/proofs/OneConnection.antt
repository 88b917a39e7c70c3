-- Lemmas about the items of one connection among others.
use Rattle.std.proofs.Common.{◌≡◌, ℕ, Bool, true, false, ◌||◌, ◌==◌, if◌then◌else◌, List, [], ◌∷◌, ◌++◌, length, drop, Some, None, refl, sym, ap, ◌∙◌, subst, append_assoc, append-nil}
use Rattle.std.proofs.lemmas.Bool.{eqb-true, eqb-false, eq-eqb}
use Rattle.ts_spec.specs.declared.wire.WireLimits.{WireLimits}
use Rattle.ts_spec.specs.Wire.{Request, Stream, Then, Ended, Inside, Broken, Start, stream_at}
use Rattle.ts_spec.proofs.Streams.{read_on-nil}
use Rattle.ts_mux.specs.declared.frame.Frame.{Frame}
use Rattle.ts_spec.specs.StreamPrefixes.{IsStreamPrefix}
use Rattle.ts_mux.specs.Order.{Event, Asked, Item, events_of, Connection, new_events, new_events_of, later, ends, up_to_close, has_close, after_bytes, items_of, with_link, items_from, items_at, before_empty_frame, stream, nothing_sent, order_by}
use Rattle.ts_spec.proofs.StreamPrefixes.{read_on-front}
use Rattle.ts_mux.proofs.OrderLemmas.{new_events-later}

-- the events of a prefix come first
front_events : (front whole : Stream) → IsStreamPrefix front whole → (rest : List Event) × (events_of whole ≡ events_of front ++ rest)
front_events (Then request place front) whole h =
    let others = front_events front h.0 h.2 in
    (others.0, ap events_of h.1 ∙ ap (λ events. Asked request ∷ events) others.1)
front_events Ended whole h = (events_of whole, refl)
front_events (Inside place) whole h = (events_of whole, refl)
front_events (Broken kind place) whole h = ([], ap events_of h)

drop_front : (front rest : List Event) → drop (length front) (front ++ rest) ≡ rest
drop_front [] rest = refl
drop_front (event ∷ front) rest = drop_front front rest

-- with more bytes, the stream of a connection only grows
abbrev pub IsSteady : Connection → Type 0
IsSteady None = Unit {0}
IsSteady (Some stream) = (bytes more : List ℕ) → IsStreamPrefix (stream bytes) (stream (bytes ++ more))

steady-later : (connection : Connection) (bytes : List ℕ) → IsSteady connection → IsSteady (later connection bytes)
steady-later None bytes h = tt
steady-later (Some stream) bytes h = λ front more.
    subst (λ all. IsStreamPrefix (stream (bytes ++ front)) (stream all)) (append_assoc bytes front more) (h (bytes ++ front) more)

steady-after : (closes : Request → Bool) (connection : Connection) (bytes : List ℕ) → IsSteady connection → IsSteady (after_bytes closes connection bytes)
steady-after closes connection [] h = tt
steady-after closes connection (byte ∷ bytes) h = go (has_close closes (new_events_of connection [] (byte ∷ bytes)))
  where
    go : (test : Bool) → IsSteady (if test then None else later connection (byte ∷ bytes))
    go true = tt
    go false = steady-later connection (byte ∷ bytes) h

-- the events of some bytes, and then of others
split_rest : (first second third : Stream) → IsStreamPrefix first second → IsStreamPrefix second third
    → drop (length (events_of first)) (events_of third) ≡ drop (length (events_of first)) (events_of second) ++ drop (length (events_of second)) (events_of third)
split_rest first second third one two =
    let early = front_events first second one in
    let late = front_events second third two in
    let a = events_of first in
    ap (drop (length a)) (late.1 ∙ ap (λ events. events ++ late.0) early.1 ∙ append_assoc a early.0 late.0)
    ∙ drop_front a (early.0 ++ late.0)
    ∙ ap (λ events. events ++ late.0) (sym (ap (drop (length a)) early.1 ∙ drop_front a early.0))
    ∙ ap (λ events. drop (length a) (events_of second) ++ events) (sym (ap (drop (length (events_of second))) late.1 ∙ drop_front (events_of second) late.0))

new_events-split : (connection : Connection) (bytes more : List ℕ) → IsSteady connection
    → new_events_of connection [] (bytes ++ more) ≡ new_events_of connection [] bytes ++ new_events_of (later connection bytes) [] more
new_events-split None bytes more h = refl
new_events-split (Some stream) bytes more h =
    split_rest (stream []) (stream bytes) (stream (bytes ++ more)) (h [] bytes) (h bytes more)
    ∙ ap (λ events. new_events stream [] bytes ++ events)
    (ap (λ front. new_events stream front more) (sym (append-nil bytes)) ∙ sym (new_events-later (Some stream) bytes [] more))

up_to_close-append : (closes : Request → Bool) (front back : List Event)
    → up_to_close closes (front ++ back) ≡ up_to_close closes front ++ (if has_close closes front then [] else up_to_close closes back)
up_to_close-append closes [] back = refl
up_to_close-append closes (event ∷ front) back = ap (λ events. event ∷ events) (go (ends closes event) (up_to_close-append closes front back))
  where
    go : (test : Bool) → up_to_close closes (front ++ back) ≡ up_to_close closes front ++ (if has_close closes front then [] else up_to_close closes back)
        → (if test then [] else up_to_close closes (front ++ back))
        ≡ (if test then [] else up_to_close closes front) ++ (if test || has_close closes front then [] else up_to_close closes back)
    go true h = refl
    go false h = h

pub none_new : (connection : Connection) → new_events_of connection [] [] ≡ []
none_new None = refl
none_new (Some stream) = ap (drop (length (events_of (stream [])))) (sym (append-nil (events_of (stream [])))) ∙ drop_front (events_of (stream [])) []

-- the events of a frame's bytes, and of those of later frames
after_frame : (closes : Request → Bool) (connection : Connection) (bytes rest : List ℕ) → IsSteady connection
    → up_to_close closes (new_events_of connection [] (before_empty_frame bytes rest))
    ≡ up_to_close closes (new_events_of connection [] bytes) ++ up_to_close closes (new_events_of (after_bytes closes connection bytes) [] rest)
after_frame closes connection [] rest h = sym (append-nil (up_to_close closes (new_events_of connection [] [])))
after_frame closes connection (byte ∷ bytes) rest h =
    ap (up_to_close closes) (new_events-split connection (byte ∷ bytes) rest h)
    ∙ up_to_close-append closes (new_events_of connection [] (byte ∷ bytes)) (new_events_of (later connection (byte ∷ bytes)) [] rest)
    ∙ ap (λ events. up_to_close closes (new_events_of connection [] (byte ∷ bytes)) ++ events) (go (has_close closes (new_events_of connection [] (byte ∷ bytes))))
  where
    go : (test : Bool) → (if test then [] else up_to_close closes (new_events_of (later connection (byte ∷ bytes)) [] rest))
        ≡ up_to_close closes (new_events_of (if test then None else later connection (byte ∷ bytes)) [] rest)
    go true = refl
    go false = refl

-- ---- the items of one connection

at-append : (link : ℕ) (front back : List Item) → items_at link (front ++ back) ≡ items_at link front ++ items_at link back
at-append link [] back = refl
at-append link (item ∷ front) back = go (item.link == link) (at-append link front back)
  where
    go : (test : Bool) → items_at link (front ++ back) ≡ items_at link front ++ items_at link back
        → (if test then item ∷ items_at link (front ++ back) else items_at link (front ++ back)) ≡ (if test then item ∷ items_at link front else items_at link front) ++ items_at link back
    go true h = ap (λ items. item ∷ items) h
    go false h = h

at-own : (link at : ℕ) (events : List Event) → (at == link) ≡ true → items_at link (items_of at events) ≡ items_of at events
at-own link at [] e = refl
at-own link at (event ∷ events) e =
    ap (λ test. if test then record { link = at; event = event } ∷ items_at link (items_of at events) else items_at link (items_of at events)) e
    ∙ ap (λ items. record { link = at; event = event } ∷ items) (at-own link at events e)

at-other : (link at : ℕ) (events : List Event) → (at == link) ≡ false → items_at link (items_of at events) ≡ []
at-other link at [] e = refl
at-other link at (event ∷ events) e =
    ap (λ test. if test then record { link = at; event = event } ∷ items_at link (items_of at events) else items_at link (items_of at events)) e ∙ at-other link at events e

items_of-append : (link : ℕ) (front back : List Event) → items_of link (front ++ back) ≡ items_of link front ++ items_of link back
items_of-append link [] back = refl
items_of-append link (event ∷ front) back = ap (λ items. record { link = link; event = event } ∷ items) (items_of-append link front back)

pub one_connection : (closes : Request → Bool) (link : ℕ) (connections : ℕ → Connection) (frames : List Frame) → IsSteady (connections link)
    → items_at link (items_from closes connections frames) ≡ items_of link (up_to_close closes (new_events_of (connections link) [] (stream link frames)))
one_connection closes link connections [] h = sym (ap (λ events. items_of link (up_to_close closes events)) (none_new (connections link)))
one_connection closes link connections (frame ∷ frames) h =
    go (frame.link == link) refl (λ (others : ℕ → Connection) (steady : IsSteady (others link)). one_connection closes link others frames steady)
  where
    events : List Event
    events = up_to_close closes (new_events_of (connections frame.link) [] frame.bytes)

    after : ℕ → Connection
    after = with_link connections frame.link (after_bytes closes (connections frame.link) frame.bytes)

    split : items_at link (items_from closes connections (frame ∷ frames)) ≡ items_at link (items_of frame.link events) ++ items_at link (items_from closes after frames)
    split = at-append link (items_of frame.link events) (items_from closes after frames)

    own : (at : ℕ) → at ≡ frame.link → with_link connections frame.link (after_bytes closes (connections frame.link) frame.bytes) at ≡ after_bytes closes (connections frame.link) frame.bytes
    own at e = ap (λ test. if test then after_bytes closes (connections frame.link) frame.bytes else connections at) (eq-eqb at frame.link e)

    go : (test : Bool) → (frame.link == link) ≡ test
        → ((others : ℕ → Connection) → IsSteady (others link)
        → items_at link (items_from closes others frames) ≡ items_of link (up_to_close closes (new_events_of (others link) [] (stream link frames))))
        → items_at link (items_from closes connections (frame ∷ frames))
        ≡ items_of link (up_to_close closes (new_events_of (connections link) [] (if test then before_empty_frame frame.bytes (stream link frames) else stream link frames)))
    go true e later_ones =
        let same : frame.link ≡ link = eqb-true frame.link link e in
        let here : after link ≡ after_bytes closes (connections link) frame.bytes = own link (sym same) ∙ ap (λ at. after_bytes closes (connections at) frame.bytes) same in
        let steady = subst IsSteady (sym here) (steady-after closes (connections link) frame.bytes h) in
        split
        ∙ ap (λ items. items ++ items_at link (items_from closes after frames)) (at-own link frame.link events e)
        ∙ ap (λ at. items_of at (up_to_close closes (new_events_of (connections at) [] frame.bytes)) ++ items_at link (items_from closes after frames)) same
        ∙ ap (λ items. items_of link (up_to_close closes (new_events_of (connections link) [] frame.bytes)) ++ items)
        (later_ones after steady ∙ ap (λ connection. items_of link (up_to_close closes (new_events_of connection [] (stream link frames)))) here)
        ∙ sym (items_of-append link (up_to_close closes (new_events_of (connections link) [] frame.bytes)) (up_to_close closes (new_events_of (after_bytes closes (connections link) frame.bytes) [] (stream link frames))))
        ∙ ap (items_of link) (sym (after_frame closes (connections link) frame.bytes (stream link frames) h))
    go false e later_ones =
        let there : after link ≡ connections link = other (link == frame.link) refl in
        let steady = subst IsSteady (sym there) h in
        split
        ∙ ap (λ items. items ++ items_at link (items_from closes after frames)) (at-other link frame.link events e)
        ∙ later_ones after steady
        ∙ ap (λ connection. items_of link (up_to_close closes (new_events_of connection [] (stream link frames)))) there
      where
        other : (test : Bool) → (link == frame.link) ≡ test → after link ≡ connections link
        other true same = absurd (eqb-false frame.link link e (sym (eqb-true link frame.link same)))
        other false same = ap (λ test. if test then after_bytes closes (connections frame.link) frame.bytes else connections link) same

-- the items of a connection are the events of its stream
pub items-at : (closes : Request → Bool) (limits : WireLimits) (link : ℕ) (frames : List Frame)
    → items_at link (order_by closes limits frames) ≡ items_of link (up_to_close closes (events_of (stream_at limits 0 (stream link frames))))
items-at closes limits link frames =
    one_connection closes link (nothing_sent limits) frames (λ bytes more. read_on-front limits 0 0 Start bytes more)
    ∙ ap (λ first. items_of link (up_to_close closes (drop (length (events_of first)) (events_of (stream_at limits 0 (stream link frames)))))) (read_on-nil limits 0 0 Start)
