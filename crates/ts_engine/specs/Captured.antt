-- What is written for a capture, by how it ended.
use Rattle.std.specs.Prelude.{⊤, ◌≡◌, Bool, true, false, ℕ, ◌≤◌, nat_le, List, [], ◌∷◌, ◌++◌, length, take, map, codes, Option, Some, String}
use Rattle.std.specs.String.{string_bytes}
use Rattle.std.specs.declared.alloc.Global.{Global}
use Rattle.ts_io.specs.Sinks.{Grows}
use Rattle.ts_spec.specs.declared.wire.WireLimits.{WireLimits}
use Rattle.ts_db.specs.DbState.{DbState}
use Rattle.ts_mux.specs.declared.frame.Frame.{Frame}
use Rattle.ts_mux.specs.Capture as capture
use Rattle.ts_mux.specs.Capture.{Capture, frames_of, framed, all_framed}
use Rattle.ts_mux.specs.Framing.{ended_at}
use Rattle.ts_mux.specs.Order.{Item, order}
use Rattle.ts_words.specs.declared.mode.Mode.TheVariants as mode
use Rattle.ts_words.specs.declared.status.Status.{Status}
use Rattle.ts_words.specs.declared.status.Status.TheVariants as status
use Rattle.ts_execution.specs.Handling.{World, plain}
use Rattle.ts_engine.specs.declared.capture_run.CaptureEnd.{CaptureEnd}
use Rattle.ts_engine.specs.declared.capture_run.CaptureEnd.TheVariants as end
use Rattle.ts_engine.specs.Headline.{Exchange, RunView, exchange_of}
use Rattle.ts_engine.specs.Piping.{PIECE}
use Rattle.ts_engine.specs.Replies.{Replies, IsReply, reply_frame}
use Rattle.ts_engine.specs.Top.{ReportsIn}

-- the single argument `mux`
abbrev pub IsMux : List (String Global) → Type 0
IsMux words = map string_bytes words ≡ codes "mux" ∷ []

-- the requests and errors of the connections in these bytes, in order
abbrev pub items : WireLimits → List ℕ → List Item
items limits bytes = order limits (frames_of (capture.capture bytes))

-- how the bytes end
abbrev pub ending : List ℕ → Capture
ending bytes = capture.ending_of (capture.capture bytes)

module _ (exchange : Exchange plain) where
  -- the output has a frame for each item of these bytes
  pub record AllReplied (bytes : List ℕ) : Type 0 where
    pub frames : List Frame
    pub replies : Replies exchange.from (items exchange.limits bytes) frames exchange.to
    pub grown : Grows exchange.had exchange.has (all_framed frames)

  -- the output has a frame for each of the first items of these bytes
  pub record SomeReplied (bytes : List ℕ) : Type 0 where
    pub done : List Item
    pub others : List Item
    pub first : items exchange.limits bytes ≡ done ++ others
    pub frames : List Frame
    pub replies : Replies exchange.from done frames exchange.to
    pub grown : Grows exchange.had exchange.has (all_framed frames)

  -- the same, and a prefix of the next item's frame
  pub record FrameCut (bytes : List ℕ) : Type 0 where
    pub done : List Item
    pub last : Item
    pub others : List Item
    pub first : items exchange.limits bytes ≡ done ++ last ∷ others
    pub frames : List Frame
    pub mid : World
    pub text : List ℕ
    pub kept : ℕ
    pub replies : Replies exchange.from done frames mid
    pub reply : IsReply mid last.event text exchange.to
    pub grown : Grows exchange.had exchange.has (all_framed frames ++ take kept (framed (reply_frame last text)))

  -- the output has a frame for each item, and the bytes end like this
  pub record EndReplied (bytes : List ℕ) (end : Capture) : Type 0 where
    pub replied : AllReplied bytes
    pub ended : ending bytes ≡ end

  -- what is written for a capture with these bytes, if this prefix of them was read
  abbrev pub Writes : (bytes front : List ℕ) → CaptureEnd → Type 0
  Writes bytes front end.Ended = EndReplied bytes capture.Ended × (front ≡ bytes)
  Writes bytes front (end.Truncated place) = EndReplied bytes (capture.Inside place) × (front ≡ bytes)
  Writes bytes front (end.Broken place) = EndReplied bytes (capture.Broken place)
  Writes bytes front end.ReadFault = (place : Option ℕ) × EndReplied front (ended_at place)
  Writes bytes front end.Budget = (place : Option ℕ) × EndReplied front (ended_at place)
  Writes bytes front end.Memory = SomeReplied bytes
  Writes bytes front end.WriteFault = FrameCut bytes

-- The prefix of a capture that was read, and the items that were answered. Before its last piece was read, every item
-- of the pieces before had been answered, and these pieces showed no error.
pub record IsNear (items : List ℕ → List Item) (ending : List ℕ → Capture) (front : List ℕ) (done : List Item) : Type 0 where
  pub before : List ℕ
  pub piece : List ℕ
  pub pieces : front ≡ before ++ piece
  pub short : length piece ≤ PIECE
  pub place : Option ℕ
  pub unbroken : ending before ≡ ended_at place
  pub others : List Item
  pub answered : done ≡ items before ++ others

-- at most one piece was read past an end that the capture shows, or past the last frame that was answered
abbrev pub ReadBound : (exchange : Exchange plain) (bytes front : List ℕ) (e : CaptureEnd) → Writes exchange bytes front e → Type 0
ReadBound exchange bytes front end.Ended written = ⊤
ReadBound exchange bytes front (end.Truncated place) written = ⊤
ReadBound exchange bytes front (end.Broken place) written = IsNear (items exchange.limits) ending front (items exchange.limits bytes)
ReadBound exchange bytes front end.ReadFault written = ⊤
ReadBound exchange bytes front end.Budget written = ⊤
ReadBound exchange bytes front end.Memory written = IsNear (items exchange.limits) ending front written.done
ReadBound exchange bytes front end.WriteFault written = IsNear (items exchange.limits) ending front written.done

-- the status of an end
abbrev pub status_of : CaptureEnd → Status
status_of end.Ended = status.Ended
status_of (end.Truncated place) = status.Truncated
status_of (end.Broken place) = status.CaptureBroken
status_of end.ReadFault = status.ReadFault
status_of end.WriteFault = status.WriteFault
status_of end.Memory = status.Memory
status_of end.Budget = status.Budget

-- the offset in the status line of an end; 0 if it has none
abbrev pub place_of : CaptureEnd → ℕ
place_of (end.Truncated place) = place
place_of (end.Broken place) = place
place_of end.Ended = 0
place_of end.ReadFault = 0
place_of end.WriteFault = 0
place_of end.Memory = 0
place_of end.Budget = 0

-- How a capture with these bytes was answered on the empty database. A prefix of at most `budget` bytes was read. The
-- output is what the end says, and the end was reported. A good end always has the good status.
pub record Captured (seen : RunView) (budget : ℕ) (bytes : List ℕ) (left : Option (List ℕ)) (had has : List ℕ → Type 0) (given : Status) : Type 0 where
  pub held : DbState
  pub ended : CaptureEnd
  pub front : List ℕ
  pub rest : List ℕ
  pub split : bytes ≡ front ++ rest
  pub left_is : left ≡ Some rest
  pub within : length front ≤ budget
  pub spent : ended ≡ end.Budget → length front ≡ budget
  pub written : Writes (exchange_of seen held) bytes front ended
  pub read_bound : ReadBound (exchange_of seen held) bytes front ended written
  pub reported : ReportsIn (Some mode.Mux) (status_of ended) (place_of ended) given had has
  pub quiet : ended ≡ end.Ended → given ≡ status.Ended

-- An end was reported by its status and line. Holds even if the input's bytes are unknown.
pub record HasCaptureLine (had has : List ℕ → Type 0) (given : Status) : Type 0 where
  pub ended : CaptureEnd
  pub reported : ReportsIn (Some mode.Mux) (status_of ended) (place_of ended) given had has
  pub quiet : ended ≡ end.Ended → given ≡ status.Ended

-- The status for these bytes, by their ending and whether the budget is used up: an error in them comes first, then a
-- used-up budget, then the ending.
abbrev pub status_by : (spent : Bool) → Capture → Status
status_by spent (capture.Broken place) = status.CaptureBroken
status_by true (capture.Inside place) = status.Budget
status_by true capture.Ended = status.Budget
status_by true (capture.Then frame rest) = status.Budget
status_by false (capture.Inside place) = status.Truncated
status_by false capture.Ended = status.Ended
status_by false (capture.Then frame rest) = status.Ended

-- the same for a whole capture, of which at most `budget` bytes are read
abbrev pub status_captured : (budget : ℕ) → List ℕ → Status
status_captured budget bytes = status_by (nat_le budget (length bytes)) (ending (take budget bytes))
