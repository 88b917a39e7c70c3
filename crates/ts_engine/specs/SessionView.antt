-- What a session shows: its reader, the number of requests executed, and how it ended.
use Rattle.std.specs.Prelude.{◌≡◌, ℕ, List, [], Option, None}
use Rattle.ts_resp.specs.Reading.{Reading, stream_of, fed, unfinished, ended_at}
use Rattle.ts_spec.specs.Wire.{stream_at}
use Rattle.ts_spec.specs.declared.wire.WireLimits.{WireLimits}
use Rattle.ts_engine.specs.declared.replying.Go.{Go}
use Rattle.ts_engine.specs.declared.session.Session.{Session as Snapshot}
use Rattle.ts_db.specs.DbState.{DbState}
use Rattle.ts_execution.specs.Handling.{plain}
use Rattle.ts_execution.specs.Handler.{Handler}
use Rattle.ts_engine.specs.Session.{Progress}

-- the reader's state
abbrev pub reader_of : Snapshot → Reading
reader_of s = s.reader

-- how many requests were executed
abbrev pub executed_by : Snapshot → ℕ
executed_by s = s.executed

-- how the session ended, if it has
abbrev pub ended_of : Snapshot → Option Go
ended_of s = s.ended

-- its state in this world
abbrev pub progress_in : (handler : Handler) → Snapshot → handler.World → Progress handler
progress_in handler s world = record { reader = s.reader; executed = s.executed; world = world }

-- its state on this database, with these clock readings left
abbrev pub progress_over : Snapshot → DbState → Option (List ℕ) → Progress plain
progress_over s held readings = record { reader = s.reader; executed = s.executed; world = record { held = held; readings = readings } }

-- every complete request was handled, and the rest is no complete request
abbrev pub HasAnswered : Snapshot → Type 0
HasAnswered s = stream_of s.reader [] ≡ ended_at (unfinished s.reader)

-- a new session
pub record Begins (limits : WireLimits) (s : Snapshot) : Type 0 where
  pub stream : (more : List ℕ) → stream_of s.reader more ≡ stream_at limits 0 more
  pub fed : fed s.reader ≡ 0
  pub place : unfinished s.reader ≡ None
  pub executed : s.executed ≡ 0
  pub ended : s.ended ≡ None
