-- What a `Mux` still yields.
use Rattle.std.specs.Prelude.{ℕ, Bool, false, List, Option, None, Some, is_some}
use Rattle.ts_resp.specs.Reading.{Reading, unfinished}
use Rattle.ts_mux.specs.declared.frame.Frame.{Frame}
use Rattle.ts_mux.specs.declared.mux.Mux.{Mux}
use Rattle.ts_mux.specs.Order.{Item}
use Rattle.ts_mux.specs.ClosedLinks.{is_closed, reader_of, stream_of_link}
use Rattle.ts_mux.specs.Links.{pending_items_of}

-- the items still to come if these frames are delivered next; a QUIT closes nothing here
abbrev pub pending_items : Mux → List Frame → List Item
pending_items m frames = pending_items_of (is_closed m.open_connections) (stream_of_link m.limits m.open_connections) m.current_connection frames

-- how many bytes were delivered
abbrev pub delivered_to : Mux → ℕ
delivered_to m = m.delivered

-- `close` needs no memory for a connection whose number is below this
abbrev pub reach_of : Mux → ℕ
reach_of m = m.open_connections.reached

-- whether a reader has part of a request that is not complete
abbrev pub has_unfinished : Option Reading → Bool
has_unfinished None = false
has_unfinished (Some reader) = is_some (unfinished reader)

-- whether a connection has sent part of a request that is not complete
abbrev pub is_inside_request : Mux → (link : ℕ) → Bool
is_inside_request m link = has_unfinished (reader_of m.open_connections link)
