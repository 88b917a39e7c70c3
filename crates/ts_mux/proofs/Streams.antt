-- Lemmas about connections that have the same streams.
use Rattle.std.proofs.Common.{◌≡◌, ℕ, Bool, true, false, ◌==◌, if◌then◌else◌, List, [], ◌∷◌, ◌++◌, length, drop, Option, Some, None, refl, sym, ap, ◌∙◌, subst, append-nil, append_assoc}
use Rattle.std.proofs.lemmas.Bool.{eqb-true}
use Rattle.ts_spec.specs.declared.wire.WireLimits.{WireLimits}
use Rattle.ts_spec.specs.Wire.{Stream, Start, read_on}
use Rattle.ts_spec.specs.StreamPrefixes.{IsStreamPrefix}
use Rattle.ts_spec.proofs.StreamPrefixes.{read_on-front}
use Rattle.ts_resp.specs.Reading.{Reading, stream_of, mode_of}
use Rattle.ts_mux.specs.declared.frame.Frame.{Frame}
use Rattle.ts_mux.specs.declared.current_connection.CurrentConnection.{CurrentConnection}
use Rattle.ts_mux.specs.Order.{Event, Item, events_of, new_events, new_events_of, items_of, items_from, never_closes}
use Rattle.ts_mux.specs.Links.{stream_or, connections, pending_of_current, pending_items_of, AreDrained}
use Rattle.ts_mux.proofs.OrderLemmas.{Alike, AreAlike, items-alike}

pub same_events : (one other : List ℕ → Stream) → ((more : List ℕ) → one more ≡ other more)
    → (before bytes : List ℕ) → new_events one before bytes ≡ new_events other before bytes
same_events one other h before bytes =
    ap (λ stream. drop (length (events_of stream)) (events_of (one (before ++ bytes)))) (h before)
    ∙ ap (λ stream. drop (length (events_of (other before))) (events_of stream)) (h (before ++ bytes))

pub alike_unless : (gone : Bool) (one other : List ℕ → Stream) → ((more : List ℕ) → one more ≡ other more)
    → Alike (if gone then None else Some one) (if gone then None else Some other)
alike_unless true one other h = λ before bytes. refl
alike_unless false one other h = same_events one other h

-- the streams of all connections, where one may differ only in what it yields
pub alike_streams : (closed : ℕ → Bool) (old new : ℕ → List ℕ → Stream) (link : ℕ)
    → ((before bytes : List ℕ) → new_events (old link) before bytes ≡ new_events (new link) before bytes)
    → ((at : ℕ) → (at == link) ≡ false → (more : List ℕ) → new at more ≡ old at more)
    → AreAlike (connections closed old) (connections closed new)
alike_streams closed old new link own others = λ at. go at (closed at) (at == link) refl
  where
    go : (at : ℕ) (gone test : Bool) → (at == link) ≡ test → Alike (if gone then None else Some (old at)) (if gone then None else Some (new at))
    go at true test e = λ before bytes. refl
    go at false true e = subst (λ to. Alike (Some (old to)) (Some (new to))) (sym (eqb-true at link e)) own
    go at false false e = same_events (old at) (new at) (λ more. sym (others at e more))

-- one stream is the same, and so are the others
pub all_same : (old new : ℕ → List ℕ → Stream) (link : ℕ) → ((more : List ℕ) → new link more ≡ old link more)
    → ((at : ℕ) → (at == link) ≡ false → (more : List ℕ) → new at more ≡ old at more) → (at : ℕ) (more : List ℕ) → new at more ≡ old at more
all_same old new link own others at more = go (at == link) refl
  where
    go : (test : Bool) → (at == link) ≡ test → new at more ≡ old at more
    go true e = subst (λ to. new to more ≡ old to more) (sym (eqb-true at link e)) (own more)
    go false e = others at e more

-- the connections are described in another way, and the same items are left of the frames
pub ahead_same : (closed now : ℕ → Bool) (old new : ℕ → List ℕ → Stream) (current next : Option CurrentConnection)
    → ((at : ℕ) → now at ≡ closed at) → ((at : ℕ) (more : List ℕ) → new at more ≡ old at more)
    → pending_of_current new next ≡ pending_of_current old current → (frames : List Frame)
    → pending_items_of now new next frames ≡ pending_items_of closed old current frames
ahead_same closed now old new current next gone same left frames =
    ap (λ items. items ++ items_from never_closes (connections now new) frames) left
    ∙ ap (λ items. pending_of_current old current ++ items)
    (items-alike never_closes (connections now new) (connections closed old) frames
    (λ at before bytes. ap (λ test. new_events_of (if test then None else Some (new at)) before bytes) (gone at)
    ∙ alike_unless (closed at) (new at) (old at) (same at) before bytes))

pub left_same : (old new : ℕ → List ℕ → Stream) (current : Option CurrentConnection) → ((at : ℕ) (more : List ℕ) → new at more ≡ old at more)
    → pending_of_current new current ≡ pending_of_current old current
left_same old new None same = refl
left_same old new (Some at) same = ap (λ stream. items_of at.link (events_of stream)) (same at.link [])

-- ---- events that are left

abbrev IsCons : List Item → Type 0
IsCons [] = ⊥
IsCons (item ∷ items) = Unit {0}

no_events : (link : ℕ) (events : List Event) → items_of link events ≡ [] → events ≡ []
no_events link [] e = refl
no_events link (event ∷ events) e = absurd (subst IsCons e tt)

pub none_left : (streams : ℕ → List ℕ → Stream) (current : Option CurrentConnection) → pending_of_current streams current ++ [] ≡ [] → pending_of_current streams current ≡ []
none_left streams current none = sym (append-nil (pending_of_current streams current)) ∙ none

pub current_drained : (streams : ℕ → List ℕ → Stream) (at : CurrentConnection) → pending_of_current streams (Some at) ++ [] ≡ [] → events_of (streams at.link []) ≡ []
current_drained streams at none = no_events at.link (events_of (streams at.link [])) (none_left streams (Some at) none)

-- if no item is pending, no connection has an event left
pub all_drained : (streams : ℕ → List ℕ → Stream) (current : Option CurrentConnection) → pending_of_current streams current ++ [] ≡ [] → AreDrained current streams
    → (link : ℕ) → events_of (streams link []) ≡ []
all_drained streams None none drained link = drained link refl
all_drained streams (Some at) none drained link = go (at.link == link) refl
  where
    go : (test : Bool) → (at.link == link) ≡ test → events_of (streams link []) ≡ []
    go true e = subst (λ to. events_of (streams to []) ≡ []) (eqb-true at.link link e) (current_drained streams at none)
    go false e = drained link e

pub drained_same : (old new : ℕ → List ℕ → Stream) (current : Option CurrentConnection) → ((at : ℕ) (more : List ℕ) → new at more ≡ old at more)
    → AreDrained current old → AreDrained current new
drained_same old new current same drained = λ link other. ap events_of (same link []) ∙ drained link other

-- ---- the stream of a reader

reader_front : (reader : Reading) (more : List ℕ) → IsStreamPrefix (stream_of reader []) (stream_of reader more)
reader_front reader more =
    subst (λ all. IsStreamPrefix (read_on reader.limits reader.place reader.begin (mode_of reader.so_far) (reader.unread ++ [])) (read_on reader.limits reader.place reader.begin (mode_of reader.so_far) all))
    (append_assoc reader.unread [] more)
    (read_on-front reader.limits reader.place reader.begin (mode_of reader.so_far) (reader.unread ++ []) more)

-- with more bytes, the stream of a connection only grows
pub front_grows : (limits : WireLimits) (reader : Option Reading) (more : List ℕ) → IsStreamPrefix (stream_or limits reader []) (stream_or limits reader more)
front_grows limits None more = read_on-front limits 0 0 Start [] more
front_grows limits (Some reader) more = reader_front reader more
