-- What a capture session shows: the items that its readers still yield.
use Rattle.std.specs.Prelude.{◌≡◌, ℕ, List, [], length, Option}
use Rattle.ts_spec.specs.Run.{is_quit}
use Rattle.ts_spec.specs.declared.wire.WireLimits.{WireLimits}
use Rattle.ts_db.specs.DbState.{DbState}
use Rattle.ts_mux.specs.declared.frame.Frame.{Frame}
use Rattle.ts_mux.specs.Capture.{capture, frames_of, ending_of}
use Rattle.ts_mux.specs.Framing.{Framing, capture_of, fed, unfinished, ended_at}
use Rattle.ts_mux.specs.Muxing.{pending_items}
use Rattle.ts_mux.specs.Order.{Item, order, closing}
use Rattle.ts_engine.specs.declared.capture_session.CaptureSession.{CaptureSession as Snapshot}
use Rattle.ts_engine.specs.CaptureSteps.{Progress}

-- the frame parser's state
abbrev pub frames_in : Snapshot → Framing
frames_in r = r.frames

-- the items still to answer if these frames follow; a QUIT or an error closes its connection
abbrev pub coming : Snapshot → List Frame → List Item
coming r frames = closing is_quit (pending_items r.mux frames)

-- how many complete requests and errors are pending
abbrev pub waiting : Snapshot → ℕ
waiting r = length (pending_items r.mux [])

-- its state on this database, with these clock readings left
abbrev pub capture_progress : Snapshot → DbState → Option (List ℕ) → Progress
capture_progress r held readings = record {
  items = λ more. coming r (frames_of (capture_of r.frames more));
  ending = λ more. ending_of (capture_of r.frames more);
  world = record { held = held; readings = readings };
}

-- every complete frame was answered, and the rest is no complete frame
pub record HasAnswered (r : Snapshot) : Type 0 where
  pub asked : pending_items r.mux [] ≡ []
  pub rest : capture_of r.frames [] ≡ ended_at (unfinished r.frames)

-- a new capture session
pub record Begins (limits : WireLimits) (r : Snapshot) : Type 0 where
  pub capture : (more : List ℕ) → capture_of r.frames more ≡ capture more
  pub coming : (frames : List Frame) → coming r frames ≡ order limits frames
  pub fed : fed r.frames ≡ 0
  pub answered : HasAnswered r
