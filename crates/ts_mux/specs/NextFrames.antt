-- Facts about the results of `Frames::next` and `Frames::find`.
use Rattle.std.specs.Prelude.{◌≡◌, ℕ, ◌+◌, ◌<◌, ◌≤◌, List, [], length, slice_range}
use Rattle.ts_mux.specs.declared.frame.Frame.{Frame}
use Rattle.ts_mux.specs.declared.frames.NextFrame.{NextFrame}
use Rattle.ts_mux.specs.declared.frames.NextFrame.TheVariants.{Whole, NotYet, Broken, Memory}
use Rattle.ts_mux.specs.declared.frames.FoundFrame.{FoundFrame}
use Rattle.ts_mux.specs.declared.frames.FoundFrame.TheVariants as found
use Rattle.ts_mux.specs.declared.frames.FrameSpan.{FrameSpan}
use Rattle.ts_mux.specs.Capture as capture
use Rattle.ts_mux.specs.Capture.{Capture}
use Rattle.ts_mux.specs.Framing.{Framing, IsLink, capture_of, fed, past, unfinished, ended_at}

-- a fact about the frame, if there is one
abbrev pub IfWhole : NextFrame → (Frame → Type 0) → Type 0
IfWhole (Whole frame) P = P frame
IfWhole NotYet P = Unit {0}
IfWhole (Broken place) P = Unit {0}
IfWhole Memory P = Unit {0}

-- a fact, if there is no frame
abbrev pub UnlessWhole : NextFrame → Type 0 → Type 0
UnlessWhole (Whole frame) P = Unit {0}
UnlessWhole NotYet P = P
UnlessWhole (Broken place) P = P
UnlessWhole Memory P = P

-- a fact, if more bytes are needed
abbrev pub OnNotYet : NextFrame → Type 0 → Type 0
OnNotYet (Whole frame) P = Unit {0}
OnNotYet NotYet P = P
OnNotYet (Broken place) P = Unit {0}
OnNotYet Memory P = Unit {0}

-- a fact about the offset of the error, if the capture is broken
abbrev pub IfBroken : NextFrame → (ℕ → Type 0) → Type 0
IfBroken (Whole frame) P = Unit {0}
IfBroken NotYet P = Unit {0}
IfBroken (Broken place) P = P place
IfBroken Memory P = Unit {0}

-- a fact, if memory ran out
abbrev pub OnMemory : NextFrame → Type 0 → Type 0
OnMemory (Whole frame) P = Unit {0}
OnMemory NotYet P = Unit {0}
OnMemory (Broken place) P = Unit {0}
OnMemory Memory P = P

-- the next frame is complete
abbrev pub HasWhole : Framing → Type 0
HasWhole r = (frame : Frame) × (rest : List ℕ → Capture) × ((more : List ℕ) → capture_of r more ≡ capture.Then frame (rest more))

-- the result describes how the capture continues
pub record IsNextFrame (old new : Framing) (next : NextFrame) : Type 0 where
  pub whole : IfWhole next (λ frame. (more : List ℕ) → capture_of old more ≡ capture.Then frame (capture_of new more))
  pub link : IfWhole next (λ frame. IsLink frame.link)
  pub taken : IfWhole next (λ frame. old.begin + length frame.bytes ≤ new.begin)
  pub length : IfWhole next (λ frame. length frame.bytes ≤ capture.MOST_BYTES)
  pub progress : IfWhole next (λ _. old.begin < new.begin)
  pub not_yet : OnNotYet next (capture_of new [] ≡ ended_at (unfinished new))
  pub broken : IfBroken next (λ place. (more : List ℕ) → capture_of old more ≡ capture.Broken place)
  pub memory : OnMemory next (HasWhole old)
  pub same : UnlessWhole next ((more : List ℕ) → capture_of new more ≡ capture_of old more)
  pub place : UnlessWhole next (unfinished new ≡ unfinished old)
  pub fed_same : fed new ≡ fed old
  pub later : old.begin ≤ new.begin
  pub begin : new.begin ≤ fed new

-- the unread bytes in this span
abbrev pub bytes_at : Framing → FrameSpan → List ℕ
bytes_at r span = slice_range r.unread span.start span.end

-- the next frame stands there
pub record StandsAt (r : Framing) (span : FrameSpan) : Type 0 where
  pub next : (more : List ℕ) → capture_of r more ≡ capture.Then (record { link = span.link; bytes = bytes_at r span }) (capture_of (past r span.end) more)
  pub connection : IsLink span.link
  pub some : 0 < span.start
  pub order : span.start ≤ span.end
  pub within : span.end ≤ length r.unread
  pub most : span.end ≤ span.start + capture.MOST_BYTES

-- how the capture continues
abbrev pub IsFound : FoundFrame → Framing → Type 0
IsFound (found.Whole span) r = StandsAt r span
IsFound found.NotYet r = capture_of r [] ≡ ended_at (unfinished r)
IsFound (found.Broken place) r = (more : List ℕ) → capture_of r more ≡ capture.Broken place
