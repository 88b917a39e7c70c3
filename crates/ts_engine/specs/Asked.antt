-- The mode that the command line selects, and what `top` does in the mode `serve`.
use Rattle.std.specs.Prelude.{◌≡◌, ℕ, List, map, Option, Some, String}
use Rattle.std.specs.String.{string_bytes}
use Rattle.std.specs.declared.alloc.Global.{Global}
use Rattle.ts_io.specs.declared.listener.Ends.{Ends}
use Rattle.ts_words.specs.Modes.{mode_of}
use Rattle.ts_words.specs.declared.mode.Mode.{Mode}
use Rattle.ts_words.specs.declared.mode.Mode.TheVariants.{Serve, Gen}
use Rattle.ts_words.specs.declared.status.Status.{Status}
use Rattle.ts_words.specs.declared.status.Status.TheVariants as status
use Rattle.ts_db.specs.DbState.{DbState}
use Rattle.ts_engine.specs.declared.serving.Served.{Served}
use Rattle.ts_engine.specs.declared.serving.Served.TheVariants.{Done, AcceptFault, WriteFault}
use Rattle.ts_engine.specs.Headline.{RunView, start}
use Rattle.ts_engine.specs.Serving.{StreamViews, Serves}
use Rattle.ts_engine.specs.Top.{Reports}

-- the mode that the arguments select, if they are valid
abbrev pub asked : List (String Global) → Option Mode
asked words = mode_of (map string_bytes words)

-- the arguments select `serve`
abbrev pub IsServe : List (String Global) → Type 0
IsServe words = (links : ℕ) × (asked words ≡ Some (Serve links))

-- the arguments select `gen`
abbrev pub IsGen : List (String Global) → Type 0
IsGen words = (seed : ℕ) × (n : ℕ) × (asked words ≡ Some (Gen seed n))

-- the status, by how serving ended
abbrev pub status_served : Served → Status
status_served Done = status.Ended
status_served AcceptFault = status.AcceptFault
status_served WriteFault = status.WriteFault

-- Connections were served, the first on the empty database, and the ending was reported. If all were served and their
-- lines written, the status is the good one.
pub record Connections {I O : Type 0} (views : StreamViews I O) (seen : RunView) (budget most : ℕ) (coming coming' closed closed' : Option (List (Ends I O))) (had has : List ℕ → Type 0) (given : Status) : Type 0 where
  pub served : Served
  pub held : DbState
  pub serves : Serves views seen.limits.wire budget served 1 most (start seen.limits seen.readings) (record { held = held; readings = seen.readings_left }) coming coming' closed closed' seen.had seen.has
  pub reported : Reports (status_served served) 0 given had has
  pub quiet : served ≡ Done → given ≡ status.Ended

-- All `most` connections were served, the first on the empty database, and their lines were written. The status is the
-- good one.
pub record AllServed {I O : Type 0} (views : StreamViews I O) (seen : RunView) (budget most : ℕ) (coming coming' closed closed' : Option (List (Ends I O))) (given : Status) : Type 0 where
  pub good : given ≡ status.Ended
  pub held : DbState
  pub serves : Serves views seen.limits.wire budget Done 1 most (start seen.limits seen.readings) (record { held = held; readings = seen.readings_left }) coming coming' closed closed' seen.had seen.has
