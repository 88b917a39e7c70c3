-- The requests that a host answered are within the wire limits.
use Rattle.std.specs.Prelude.{All, None, Some}
use Rattle.std.proofs.Common.{ℕ, Bool, true, false, not, ◌==◌, if◌then◌else◌, List, [], ◌∷◌, ◌++◌, length}
use Rattle.std.proofs.lemmas.List.Elements.{All-nil, All-cons, All-head, All-tail, All-append, All-filter, All-map, All-drop}
use Rattle.ts_spec.specs.StreamPrefixes.{IsWithin}
use Rattle.ts_spec.specs.Wire.{Request, Stream, Then, Ended, Inside, Broken, Start, stream_at, requests_of}
use Rattle.ts_spec.specs.declared.wire.WireLimits.{WireLimits}
use Rattle.ts_spec.proofs.Within.{requests-within}
use Rattle.ts_mux.specs.declared.frame.Frame.{Frame}
use Rattle.ts_mux.specs.Order.{Event, Asked, Failed, Item, Connection, events_of, new_events_of, later, ends, up_to_close, has_close, after_bytes, items_of, with_link, items_from, nothing_sent, order_by}
use Rattle.ts_execution.specs.Journaling.{Snapshot, IsJournaled}
use Rattle.ts_host.specs.Answers.{Counts, Ending, Answers, none, reply, leave, answered, with_event}

-- the request of an event is within the limits
abbrev pub IsEventWithin : WireLimits → Event → Type 0
IsEventWithin limits (Asked request) = IsWithin limits request
IsEventWithin limits (Failed fault) = Unit {0}

abbrev pub IsItemWithin : WireLimits → Item → Type 0
IsItemWithin limits item = IsEventWithin limits item.event

stream-within : (limits : WireLimits) (stream : Stream) → All (IsWithin limits) (requests_of stream) → All (IsEventWithin limits) (events_of stream)
stream-within limits (Then request place rest) all =
    All-cons (IsEventWithin limits) (Asked request) (events_of rest) (All-head (IsWithin limits) request (requests_of rest) all)
    (stream-within limits rest (All-tail (IsWithin limits) request (requests_of rest) all))
stream-within limits Ended all = All-nil (IsEventWithin limits)
stream-within limits (Inside place) all = All-nil (IsEventWithin limits)
stream-within limits (Broken kind place) all = All-cons (IsEventWithin limits) (Failed (record { kind = kind; place = place })) [] tt (All-nil (IsEventWithin limits))

module _ (limits : WireLimits) where
  -- all events of a connection are within the limits, whatever its bytes
  abbrev IsLinkWithin : Connection → Type 0
  IsLinkWithin None = Unit {0}
  IsLinkWithin (Some stream) = (bytes : List ℕ) → All (IsEventWithin limits) (events_of (stream bytes))

  new-within : (connection : Connection) (before bytes : List ℕ) → IsLinkWithin connection → All (IsEventWithin limits) (new_events_of connection before bytes)
  new-within None before bytes all = All-nil (IsEventWithin limits)
  new-within (Some stream) before bytes all =
      All-drop (IsEventWithin limits) (length (events_of (stream before))) (events_of (stream (before ++ bytes))) (all (before ++ bytes))

  later-within : (connection : Connection) (bytes : List ℕ) → IsLinkWithin connection → IsLinkWithin (later connection bytes)
  later-within None bytes all = tt
  later-within (Some stream) bytes all = λ more. all (bytes ++ more)

  after-within : (closes : Request → Bool) (connection : Connection) (bytes : List ℕ) → IsLinkWithin connection → IsLinkWithin (after_bytes closes connection bytes)
  after-within closes connection [] all = tt
  after-within closes connection (byte ∷ bytes) all = go (has_close closes (new_events_of connection [] (byte ∷ bytes)))
    where
      go : (test : Bool) → IsLinkWithin (if test then None else later connection (byte ∷ bytes))
      go true = tt
      go false = later-within connection (byte ∷ bytes) all

  close-within : (closes : Request → Bool) (events : List Event) → All (IsEventWithin limits) events → All (IsEventWithin limits) (up_to_close closes events)
  close-within closes [] all = all
  close-within closes (event ∷ events) all =
      All-cons (IsEventWithin limits) event _ (All-head (IsEventWithin limits) event events all)
      (go (ends closes event) (close-within closes events (All-tail (IsEventWithin limits) event events all)))
    where
      go : (test : Bool) → All (IsEventWithin limits) (up_to_close closes events) → All (IsEventWithin limits) (if test then [] else up_to_close closes events)
      go true rest = All-nil (IsEventWithin limits)
      go false rest = rest

  from-within : (closes : Request → Bool) (connections : ℕ → Connection) (frames : List Frame) → ((link : ℕ) → IsLinkWithin (connections link)) → All (IsItemWithin limits) (items_from closes connections frames)
  from-within closes connections [] all = All-nil (IsItemWithin limits)
  from-within closes connections (frame ∷ frames) all =
      All-append (IsItemWithin limits) (items_of frame.link events) (items_from closes after frames)
      (All-map (IsItemWithin limits) (λ event. record { link = frame.link; event = event }) events
      (close-within closes (new_events_of (connections frame.link) [] frame.bytes) (new-within (connections frame.link) [] frame.bytes (all frame.link))))
      (from-within closes after frames (λ link. go link (link == frame.link)))
    where
      events : List Event
      events = up_to_close closes (new_events_of (connections frame.link) [] frame.bytes)

      after : ℕ → Connection
      after = with_link connections frame.link (after_bytes closes (connections frame.link) frame.bytes)

      go : (link : ℕ) (test : Bool) → IsLinkWithin (if test then after_bytes closes (connections frame.link) frame.bytes else connections link)
      go link true = after-within closes (connections frame.link) frame.bytes (all frame.link)
      go link false = all link

  -- the items of frames
  pub order-within : (closes : Request → Bool) (frames : List Frame) → All (IsItemWithin limits) (order_by closes limits frames)
  order-within closes frames =
      from-within closes (nothing_sent limits) frames (λ link bytes. stream-within limits (stream_at limits 0 bytes) (requests-within limits 0 0 Start bytes tt))

  -- the requests that were answered are among the items
  event-within : (event : Event) (asked : List Request) → IsEventWithin limits event → All (IsWithin limits) asked → All (IsWithin limits) (with_event event asked)
  event-within (Asked request) asked here rest = All-cons (IsWithin limits) request asked here rest
  event-within (Failed fault) asked here rest = rest

  pub answered-within : {from to : Snapshot} {counts counts' : Counts} {items left : List Item} {frames : List Frame} {endings : List Ending}
      → (answers : Answers IsJournaled from counts items frames endings to counts' left) → All (IsItemWithin limits) items → All (IsWithin limits) (answered IsJournaled answers)
  answered-within (none agree) all = All-nil (IsWithin limits)
  answered-within (leave {items} {link} agree others) all = answered-within others (All-filter (λ (item : Item). not (item.link == link)) (IsItemWithin limits) items all)
  answered-within (reply {item} {items} here agree others) all =
      event-within item.event (answered IsJournaled others) (All-head (IsItemWithin limits) item items all)
      (answered-within others (All-tail (IsItemWithin limits) item items all))

  -- so are those that are left
  pub left-within : {from to : Snapshot} {counts counts' : Counts} {items left : List Item} {frames : List Frame} {endings : List Ending}
      → (answers : Answers IsJournaled from counts items frames endings to counts' left) → All (IsItemWithin limits) items → All (IsItemWithin limits) left
  left-within (none agree) all = all
  left-within (leave {items} {link} agree others) all = left-within others (All-filter (λ (item : Item). not (item.link == link)) (IsItemWithin limits) items all)
  left-within (reply {item} {items} here agree others) all = left-within others (All-tail (IsItemWithin limits) item items all)
