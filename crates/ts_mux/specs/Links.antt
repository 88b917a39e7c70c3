-- The connections of a `Mux`, and the items that they still yield.
use Rattle.std.specs.Prelude.{◌≡◌, ℕ, ◌≤◌, true, false, Bool, ◌==◌, if◌then◌else◌, List, [], ◌++◌, Option, Some, None}
use Rattle.ts_spec.specs.declared.wire.WireLimits.{WireLimits}
use Rattle.ts_spec.specs.Wire.{Stream, stream_at}
use Rattle.ts_resp.specs.Reading.{Reading, stream_of, fed}
use Rattle.ts_mux.specs.declared.frame.Frame.{Frame}
use Rattle.ts_mux.specs.declared.current_connection.CurrentConnection.{CurrentConnection}
use Rattle.ts_mux.specs.Order.{Item, Connection, events_of, items_of, items_from, never_closes}

-- the stream that a reader represents; without one, the stream of a new reader
abbrev pub stream_or : WireLimits → Option Reading → List ℕ → Stream
stream_or limits None more = stream_at limits 0 more
stream_or limits (Some reader) more = stream_of reader more

-- how many bytes a reader was fed; 0 without one
abbrev pub fed_in : Option Reading → ℕ
fed_in None = 0
fed_in (Some reader) = fed reader

-- the connections of a `Mux`, from the closed ones (`closed` tells them) and the stream of each
abbrev pub connections : (ℕ → Bool) → (ℕ → List ℕ → Stream) → ℕ → Connection
connections closed streams link = if closed link then None else Some (streams link)

-- the items left in the frames delivered so far: those of the current connection
abbrev pub pending_of_current : (ℕ → List ℕ → Stream) → Option CurrentConnection → List Item
pending_of_current streams None = []
pending_of_current streams (Some at) = items_of at.link (events_of (streams at.link []))

-- the pending items: those of the frames delivered so far, then those of `frames`
abbrev pub pending_items_of : (ℕ → Bool) → (ℕ → List ℕ → Stream) → Option CurrentConnection → List Frame → List Item
pending_items_of closed streams current_connection frames =
    pending_of_current streams current_connection ++ items_from never_closes (connections closed streams) frames

-- whether a connection is the current one
abbrev pub is_current : Option CurrentConnection → ℕ → Bool
is_current None link = false
is_current (Some at) link = at.link == link

-- no connection but the current one has a pending event, and none was fed more than `most` bytes
abbrev pub AreDrained : Option CurrentConnection → (ℕ → List ℕ → Stream) → Type 0
AreDrained current_connection streams = (link : ℕ) → is_current current_connection link ≡ false → events_of (streams link []) ≡ []

abbrev pub AreFedAtMost : ℕ → (ℕ → ℕ) → Type 0
AreFedAtMost most fed_to = (link : ℕ) → fed_to link ≤ most

-- the current connection has the index of its reader
abbrev pub HasIndex : (ℕ → Option ℕ) → Option CurrentConnection → Type 0
HasIndex indexes current_connection = (at : CurrentConnection) → current_connection ≡ Some at → indexes at.link ≡ Some at.index

-- the current connection, unless it is `link`
abbrev pub current_without : ℕ → Option CurrentConnection → Option CurrentConnection
current_without link None = None
current_without link (Some at) = if at.link == link then None else Some at

-- `link` is closed now, and every other connection is as before
abbrev pub MarksClosed : ℕ → (old new : ℕ → Bool) → Type 0
MarksClosed link old new = (at : ℕ) → new at ≡ (if at == link then true else old at)
