-- What a capture session does with a piece of a capture.
use Rattle.std.specs.Prelude.{◌≡◌, ◌≢◌, true, false, Bool, ℕ, ◌≤◌, ◌<◌, List, [], ◌∷◌, ◌++◌, length, take, Option, None, Some}
use Rattle.std.specs.Io.KnownBytes.{Consumes, IsAtEnd}
use Rattle.ts_io.specs.Causes.{Rose}
use Rattle.ts_io.specs.Sinks.{Grows, GrowsByPrefix}
use Rattle.ts_spec.specs.declared.wire.WireLimits.{WireLimits}
use Rattle.ts_mux.specs.declared.frame.Frame.{Frame}
use Rattle.ts_mux.specs.Capture as capture
use Rattle.ts_mux.specs.Capture.{Capture, framed, all_framed}
use Rattle.ts_mux.specs.Framing.{ended_at}
use Rattle.ts_mux.specs.Order.{Item}
use Rattle.ts_execution.specs.Handling.{World}
use Rattle.ts_engine.specs.declared.capture_session.CaptureGo.{CaptureGo}
use Rattle.ts_engine.specs.declared.capture_session.CaptureGo.TheVariants as capture_go
use Rattle.ts_engine.specs.declared.capture_run.CaptureEnd.{CaptureEnd}
use Rattle.ts_engine.specs.declared.capture_run.CaptureEnd.TheVariants as end
use Rattle.ts_engine.specs.declared.capture_run.CaptureRead.{CaptureRead}
use Rattle.ts_engine.specs.Captured as captured
use Rattle.ts_engine.specs.Replies.{IsReply, Replies, reply_frame}

-- The state of a capture session: the items still to answer and how the capture ends, both as functions of the bytes
-- that follow; and the world.
pub record Progress : Type 0 where
  pub items : List ℕ → List Item
  pub ending : List ℕ → Capture
  pub world : World

-- the start of a capture session
abbrev pub beginning : WireLimits → World → Progress
beginning limits world = record { items = captured.items limits; ending = captured.ending; world = world }

-- these bytes yielded these items, and all were answered
pub record HandledAll (old new : Progress) (had has : List ℕ → Type 0) (bytes : List ℕ) : Type 0 where
  pub done : List Item
  pub frames : List Frame
  pub items : (more : List ℕ) → old.items (bytes ++ more) ≡ done ++ new.items more
  pub ending : (more : List ℕ) → old.ending (bytes ++ more) ≡ new.ending more
  pub replies : Replies old.world done frames new.world
  pub grown : Grows had has (all_framed frames)

-- the first items of these bytes were answered; the rest was dropped
pub record HandledSome (old new : Progress) (had has : List ℕ → Type 0) (bytes : List ℕ) : Type 0 where
  pub done : List Item
  pub frames : List Frame
  pub items : (more : List ℕ) → (others : List Item) × (old.items (bytes ++ more) ≡ done ++ others)
  pub replies : Replies old.world done frames new.world
  pub grown : Grows had has (all_framed frames)

-- the same, and a prefix of the next item's frame was written
pub record LastFrame (old new : Progress) (had has : List ℕ → Type 0) (bytes : List ℕ) : Type 0 where
  pub done : List Item
  pub frames : List Frame
  pub mid : World
  pub last : Item
  pub text : List ℕ
  pub kept : ℕ
  pub items : (more : List ℕ) → (others : List Item) × (old.items (bytes ++ more) ≡ done ++ last ∷ others)
  pub replies : Replies old.world done frames mid
  pub reply : IsReply mid last.event text new.world
  pub grown : Grows had has (all_framed frames ++ take kept (framed (reply_frame last text)))

-- the capture is broken at this offset, and no item is left
pub record IsBroken (place : ℕ) (progress_over : Progress) : Type 0 where
  pub ending : (more : List ℕ) → progress_over.ending more ≡ capture.Broken place
  pub items : (more : List ℕ) → progress_over.items more ≡ []

-- how a capture session handled a piece, by its result
abbrev pub HandledAs : CaptureGo → Progress → Progress → (List ℕ → Type 0) → (List ℕ → Type 0) → List ℕ → Type 0
HandledAs capture_go.More old new had has bytes = HandledAll old new had has bytes
HandledAs (capture_go.Broken place) old new had has bytes = HandledAll old new had has bytes × IsBroken place new
HandledAs capture_go.WriteFault old new had has bytes = LastFrame old new had has bytes
HandledAs capture_go.Memory old new had has bytes = HandledSome old new had has bytes

-- the session continues within the piece, or returned this result
abbrev pub GoesOn : Option CaptureGo → Progress → Progress → (List ℕ → Type 0) → (List ℕ → Type 0) → Type 0
GoesOn None old new had has = HandledAll old new had has []
GoesOn (Some answer) old new had has = HandledAs answer old new had has []

-- any result but `More`
abbrev pub end_of : CaptureGo → Option CaptureGo
end_of capture_go.More = None
end_of (capture_go.Broken place) = Some (capture_go.Broken place)
end_of capture_go.WriteFault = Some capture_go.WriteFault
end_of capture_go.Memory = Some capture_go.Memory

-- the whole frame was written, or a write failed after a prefix of it
abbrev pub Wrote : Option CaptureGo → (List ℕ → Type 0) → (List ℕ → Type 0) → List ℕ → Type 0
Wrote None had has text = Grows had has text
Wrote (Some capture_go.WriteFault) had has text = GrowsByPrefix had has text
Wrote (Some other) had has text = ⊥

-- the item was answered, and its frame written unless a write failed
pub record Replied (answer : Option CaptureGo) (item : Item) (old new : World) (had has : List ℕ → Type 0) : Type 0 where
  pub text : List ℕ
  pub reply : IsReply old item.event text new
  pub wrote : Wrote answer had has (framed (reply_frame item text))

-- the result is a write fault if and only if the fault counter rose; the counter never falls
abbrev pub WroteOrFault : ℕ → ℕ → Option CaptureGo → Type 0
WroteOrFault before now (Some capture_go.WriteFault) = (before ≤ now) × Rose before now
WroteOrFault before now other = now ≡ before

-- ---- a whole capture

-- no item is left, and the capture ends like this
pub record IsAt (ending : Capture) (progress_over : Progress) : Type 0 where
  pub items : progress_over.items [] ≡ []
  pub is : progress_over.ending [] ≡ ending

-- every complete frame was answered, and the rest is no complete frame
abbrev pub IsUpToDate : Progress → Type 0
IsUpToDate progress_over = (place : Option ℕ) × IsAt (ended_at place) progress_over

-- how a capture with these bytes was answered, by the end; `left` is what the input has left
abbrev pub Ends : CaptureEnd → Option (List ℕ) → Progress → Progress → (List ℕ → Type 0) → (List ℕ → Type 0) → List ℕ → Type 0
Ends end.Ended left old new had has bytes = HandledAll old new had has bytes × IsAt capture.Ended new × IsAtEnd left
Ends (end.Truncated place) left old new had has bytes = HandledAll old new had has bytes × IsAt (capture.Inside place) new × IsAtEnd left
Ends (end.Broken place) left old new had has bytes = HandledAs (capture_go.Broken place) old new had has bytes
Ends end.ReadFault left old new had has bytes = HandledAll old new had has bytes × IsUpToDate new
Ends end.WriteFault left old new had has bytes = HandledAs capture_go.WriteFault old new had has bytes
Ends end.Memory left old new had has bytes = HandledAs capture_go.Memory old new had has bytes
Ends end.Budget left old new had has bytes = HandledAll old new had has bytes × IsUpToDate new

-- the input continues, or ended like this
abbrev pub EndsOr : Option CaptureEnd → Option (List ℕ) → Progress → Progress → (List ℕ → Type 0) → (List ℕ → Type 0) → List ℕ → Type 0
EndsOr None left old new had has bytes = HandledAll old new had has bytes
EndsOr (Some e) left old new had has bytes = Ends e left old new had has bytes

-- the items that were answered
abbrev pub done_of : (e : CaptureEnd) (left : Option (List ℕ)) (old new : Progress) (had has : List ℕ → Type 0) (bytes : List ℕ) → Ends e left old new had has bytes → List Item
done_of end.Ended left old new had has bytes ends = ends.0.done
done_of (end.Truncated place) left old new had has bytes ends = ends.0.done
done_of (end.Broken place) left old new had has bytes ends = ends.0.done
done_of end.ReadFault left old new had has bytes ends = ends.0.done
done_of end.WriteFault left old new had has bytes ends = ends.done
done_of end.Memory left old new had has bytes ends = ends.done
done_of end.Budget left old new had has bytes ends = ends.0.done

-- whether this end is the end of the input
abbrev pub is_of_input : CaptureEnd → Bool
is_of_input end.Ended = true
is_of_input (end.Truncated place) = true
is_of_input (end.Broken place) = false
is_of_input end.ReadFault = false
is_of_input end.WriteFault = false
is_of_input end.Memory = false
is_of_input end.Budget = false

-- whether the input has ended
abbrev pub has_ended : Option CaptureEnd → Bool
has_ended None = false
has_ended (Some e) = is_of_input e

-- one read took these bytes (none at the end of the input), and the frames that they complete were answered
pub record Pumped (read : CaptureRead) (left rest : Option (List ℕ)) (old new : Progress) (had has : List ℕ → Type 0) : Type 0 where
  pub bytes : List ℕ
  pub count : length bytes ≡ read.taken
  pub took : Consumes left rest bytes
  pub ends : EndsOr read.end rest old new had has bytes
  pub none : has_ended read.end ≡ true → read.taken ≡ 0

-- These bytes were read: at most the budget, and fewer if the end of the input was read. Their frames were answered.
pub record CaptureRun (limits : WireLimits) (budget : ℕ) (e : CaptureEnd) (from to : World) (left rest : Option (List ℕ)) (had has : List ℕ → Type 0) : Type 0 where
  pub bytes : List ℕ
  pub last : Progress
  pub within : length bytes ≤ budget
  pub spent : e ≡ end.Budget → length bytes ≡ budget
  pub below : is_of_input e ≡ true → length bytes < budget
  pub took : Consumes left rest bytes
  pub world : last.world ≡ to
  pub ends : Ends e rest (beginning limits from) last had has bytes
  pub near : captured.IsNear (captured.items limits) captured.ending bytes (done_of e rest (beginning limits from) last had has bytes ends)

-- fault counters never fall; an end is a fault if and only if its counter rose
pub record HasCauses (e : CaptureEnd) (reads reads' writes writes' : ℕ) : Type 0 where
  pub reads_later : reads ≤ reads'
  pub writes_later : writes ≤ writes'
  pub read : e ≡ end.ReadFault → Rose reads reads'
  pub write : e ≡ end.WriteFault → Rose writes writes'
  pub unread : e ≢ end.ReadFault → reads' ≡ reads
  pub unwritten : e ≢ end.WriteFault → writes' ≡ writes

-- the same if there is an end; otherwise no counter changed
abbrev pub HasCausesOr : Option CaptureEnd → (reads reads' writes writes' : ℕ) → Type 0
HasCausesOr None reads reads' writes writes' = (reads' ≡ reads) × (writes' ≡ writes)
HasCausesOr (Some e) reads reads' writes writes' = HasCauses e reads reads' writes writes'

-- the end of the input: between frames, or inside the one that begins at this offset
abbrev pub end_at : Option ℕ → CaptureEnd
end_at None = end.Ended
end_at (Some place) = end.Truncated place

-- the end that a session's result means, if it is one
abbrev pub end_by : CaptureGo → Option CaptureEnd
end_by capture_go.More = None
end_by (capture_go.Broken place) = Some (end.Broken place)
end_by capture_go.WriteFault = Some end.WriteFault
end_by capture_go.Memory = Some end.Memory
