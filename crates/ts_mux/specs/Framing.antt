-- The model of `Frames`, and the capture that it represents.
use Rattle.std.specs.Prelude.{ℕ, ◌+◌, ◌≤◌, List, [], ◌∷◌, ◌++◌, length, drop, Option, Some, None}
use Rattle.ts_mux.specs.declared.frame.Frame.{Frame}
use Rattle.ts_mux.specs.Capture.{Capture, Ended, Inside, MOST_LINKS, MOST_BYTES, capture_at}

-- the offset of the first unread byte, with which a frame begins, and the unread bytes
pub record Framing : Type 0 where
  pub begin : ℕ
  pub unread : List ℕ

-- a valid connection number
pub record IsLink (link : ℕ) : Type 0 where
  pub least : 1 ≤ link
  pub most : link ≤ MOST_LINKS

-- a frame that a capture can contain
pub record IsFrame (frame : Frame) : Type 0 where
  pub link : IsLink frame.link
  pub length : length frame.bytes ≤ MOST_BYTES

-- the rest of the capture, if these bytes follow the ones fed
abbrev pub capture_of : Framing → List ℕ → Capture
capture_of r more = capture_at r.begin (r.unread ++ more)

-- how many bytes were fed
abbrev pub fed : Framing → ℕ
fed r = r.begin + length r.unread

-- where the current frame begins, if one of these bytes follows
abbrev pub begun_on : (begin : ℕ) → List ℕ → Option ℕ
begun_on begin [] = None
begun_on begin (byte ∷ bytes) = Some begin

-- where the incomplete frame begins, if there is one
abbrev pub unfinished : Framing → Option ℕ
unfinished r = begun_on r.begin r.unread

-- the parser past this many unread bytes
abbrev pub past : Framing → ℕ → Framing
past r len = record { begin = r.begin + len; unread = drop len r.unread }

-- a capture that ends here: between two frames, or inside the one that begins at this offset
abbrev pub ended_at : Option ℕ → Capture
ended_at None = Ended
ended_at (Some begin) = Inside begin
