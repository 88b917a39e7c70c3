-- The open connections: which are closed, and what each of the others has sent.
use Rattle.std.specs.Prelude.{◌≡◌, ℕ, ◌+◌, Bool, false, not, ◌&&◌, ◌==◌, nat_lt, List, ◌++◌, length, Option, None, Some, is_some, true, Result, OnOk, OnErr}
use Rattle.std.specs.declared.alloc.AllocError.{AllocError}
use Rattle.std.specs.Ordering.{nat_cmp}
use Rattle.std.specs.BTreeMap.{get}
use Rattle.ts_spec.specs.declared.wire.WireLimits.{WireLimits}
use Rattle.ts_spec.specs.Wire.{Stream}
use Rattle.ts_resp.specs.Reading.{Reading, stream_of, fed}
use Rattle.ts_mux.specs.OwnReaders.{index_in, reader_at}
use Rattle.ts_mux.specs.Links.{stream_or, fed_in}
use Rattle.ts_mux.specs.declared.current_connection.CurrentConnection.{CurrentConnection}
use Rattle.ts_mux.specs.declared.open_connections.OpenConnections.{OpenConnections}

-- whether a connection is closed: it is reached, and is none of the open ones
abbrev pub is_closed : OpenConnections → ℕ → Bool
is_closed c link = nat_lt link c.reached && not (is_some (get nat_cmp c.indexes link))

-- the index of a connection's reader, and the reader; none until it sends bytes, and none once it is closed
abbrev pub index_of : OpenConnections → ℕ → Option ℕ
index_of c link = index_in c.indexes link

abbrev pub reader_of : OpenConnections → ℕ → Option Reading
reader_of c link = reader_at c.readers (index_of c link)

-- the stream of a connection from the bytes still to come, and how many bytes it was fed
abbrev pub stream_of_link : WireLimits → OpenConnections → ℕ → List ℕ → Stream
stream_of_link limits c link more = stream_or limits (reader_of c link) more

abbrev pub fed_to_link : OpenConnections → ℕ → ℕ
fed_to_link c link = fed_in (reader_of c link)

-- the reader of one connection changes by this relation, and all else stays
pub record IsReaderChanged (old new : OpenConnections) (link : ℕ) (by : (was now : Reading) → Type 0) : Type 0 where
  pub was : Reading
  pub now : Reading
  pub before : reader_of old link ≡ Some was
  pub after : reader_of new link ≡ Some now
  pub others : (at : ℕ) → (at == link) ≡ false → reader_of new at ≡ reader_of old at
  pub indexes : new.indexes ≡ old.indexes
  pub reached : new.reached ≡ old.reached
  pub so : by was now

-- a reader is fed these bytes, or memory ran out and it is unchanged
pub record IsFed (bytes : List ℕ) (result : Result (Unit {0}) AllocError) (was now : Reading) : Type 0 where
  pub stream : OnOk result ((more : List ℕ) → stream_of now more ≡ stream_of was (bytes ++ more))
  pub count : OnOk result (fed now ≡ fed was + length bytes)
  pub err : OnErr result (now ≡ was)

-- the connection is the current one now, or it is closed
abbrev pub GoesTo : ℕ → OpenConnections → Option CurrentConnection → Option CurrentConnection → Type 0
GoesTo link c current_connection None = is_closed c link ≡ true
GoesTo link c current_connection (Some at) = (at.link ≡ link) × (current_connection ≡ Some at) × (is_closed c link ≡ false)
