-- The order in which the requests of interleaved connections arrive. Each frame appends its bytes to the stream of its
-- connection, and yields the requests that they complete.
use Rattle.std.specs.Prelude.{ℕ, Bool, true, false, not, ◌||◌, ◌==◌, if◌then◌else◌, List, [], ◌∷◌, ◌++◌, length, drop, map, filter, Option, Some, None}
use Rattle.ts_spec.specs.declared.wire.WireLimits.{WireLimits}
use Rattle.ts_spec.specs.Wire.{Request, Stream, Then, Ended, Inside, Broken, stream_at}
use Rattle.ts_spec.specs.Run.{is_quit}
use Rattle.ts_resp.specs.declared.protocol.Protocol.{Protocol}
use Rattle.ts_mux.specs.declared.frame.Frame.{Frame}

-- an event of a connection: a request, or the error that breaks its stream
pub data Event : Type 0 where
  Asked : Request → Event
  Failed : Protocol → Event

-- an event with the number of its connection
pub record Item : Type 0 where
  pub link : ℕ
  pub event : Event

-- the events of a stream
abbrev pub events_of : Stream → List Event
events_of (Then request place rest) = Asked request ∷ events_of rest
events_of Ended = []
events_of (Inside place) = []
events_of (Broken kind place) = Failed (record { kind = kind; place = place }) ∷ []

-- A connection: a function from the bytes still to come to its stream, or none once it is closed.
abbrev pub Connection : Type 0
Connection = Option (List ℕ → Stream)

-- the events that `bytes` add to those of the bytes before them
abbrev pub new_events : (List ℕ → Stream) → (before bytes : List ℕ) → List Event
new_events stream before bytes = drop (length (events_of (stream before))) (events_of (stream (before ++ bytes)))

-- the same for a connection that may be closed; a closed one has no events
abbrev pub new_events_of : Connection → (before bytes : List ℕ) → List Event
new_events_of None before bytes = []
new_events_of (Some stream) before bytes = new_events stream before bytes

-- the connection after these bytes
abbrev pub later : Connection → List ℕ → Connection
later None bytes = None
later (Some stream) bytes = Some (λ more. stream (bytes ++ more))

-- `closes` says which requests close their connection. An error always does.
module _ (closes : Request → Bool) where
  abbrev pub ends : Event → Bool
  ends (Asked request) = closes request
  ends (Failed fault) = true

  -- the events up to and including the first one that closes
  abbrev pub up_to_close : List Event → List Event
  up_to_close [] = []
  up_to_close (event ∷ events) = event ∷ (if ends event then [] else up_to_close events)

  abbrev pub has_close : List Event → Bool
  has_close [] = false
  has_close (event ∷ events) = ends event || has_close events

  -- An empty frame closes its connection.
  abbrev pub after_bytes : Connection → List ℕ → Connection
  after_bytes connection [] = None
  after_bytes connection (byte ∷ bytes) = if has_close (new_events_of connection [] (byte ∷ bytes)) then None else later connection (byte ∷ bytes)

-- the events of one connection as items
abbrev pub items_of : ℕ → List Event → List Item
items_of link events = map (λ event. record { link = link; event = event }) events

-- the connections, with `link` replaced
abbrev pub with_link : (ℕ → Connection) → ℕ → Connection → ℕ → Connection
with_link connections link connection other = if other == link then connection else connections other

-- the items of these frames, in order
abbrev pub items_from : (Request → Bool) → (ℕ → Connection) → List Frame → List Item
items_from closes connections [] = []
items_from closes connections (frame ∷ frames) =
    items_of frame.link (up_to_close closes (new_events_of (connections frame.link) [] frame.bytes))
    ++ items_from closes (with_link connections frame.link (after_bytes closes (connections frame.link) frame.bytes)) frames

-- the connections before any byte was sent
abbrev pub nothing_sent : WireLimits → ℕ → Connection
nothing_sent limits link = Some (stream_at limits 0)

-- the items of these frames, in order
abbrev pub order_by : (closes : Request → Bool) → WireLimits → List Frame → List Item
order_by closes limits frames = items_from closes (nothing_sent limits) frames

-- the same if only QUIT closes its connection
abbrev pub order : WireLimits → List Frame → List Item
order limits frames = order_by is_quit limits frames

-- no request closes its connection
abbrev pub never_closes : Request → Bool
never_closes request = false

abbrev pub order_without_quits : WireLimits → List Frame → List Item
order_without_quits limits frames = order_by never_closes limits frames

-- the items of a connection, and those of all others
abbrev pub items_at : ℕ → List Item → List Item
items_at link items = filter (λ item. item.link == link) items

abbrev pub without : ℕ → List Item → List Item
without link items = filter (λ item. not (item.link == link)) items

-- the frames of all other connections
abbrev pub frames_without : ℕ → List Frame → List Frame
frames_without link frames = filter (λ frame. not (frame.link == link)) frames

-- prepends the bytes of a frame; an empty frame ends the stream
abbrev pub before_empty_frame : List ℕ → List ℕ → List ℕ
before_empty_frame [] rest = []
before_empty_frame (byte ∷ bytes) rest = byte ∷ bytes ++ rest

-- all bytes of a connection before its first empty frame
abbrev pub stream : ℕ → List Frame → List ℕ
stream link [] = []
stream link (frame ∷ frames) = if frame.link == link then before_empty_frame frame.bytes (stream link frames) else stream link frames

-- drops the items of a connection that come after its closing item
abbrev pub closing : (Request → Bool) → List Item → List Item
closing closes [] = []
closing closes (item ∷ items) = item ∷ (if ends closes item.event then without item.link (closing closes items) else closing closes items)
