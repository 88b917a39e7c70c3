-- What `top` does.
use Rattle.std.specs.Prelude.{◌≡◌, ◌⊎◌, Bool, true, false, ℕ, ◌≤◌, List, [], ◌∷◌, map, codes, Option, String}
use Rattle.std.specs.String.{string_bytes}
use Rattle.ts_io.specs.Causes.{Rose}
use Rattle.ts_io.specs.Sinks.{Grows, GrowsByPrefix}
use Rattle.ts_spec.specs.Wire.{Stream, Then, Ended, Inside, Broken}
use Rattle.ts_spec.specs.declared.limits.Limits.{Limits}
use Rattle.std.specs.declared.alloc.Global.{Global}
use Rattle.ts_db.specs.DbState.{DbState}
use Rattle.ts_engine.specs.declared.piped.End.{End}
use Rattle.ts_words.specs.Endings.{host_line_of_status, line_of_status, line_of_status_in}
use Rattle.ts_words.specs.declared.fault_causes.LastCauses.{LastCauses}
use Rattle.ts_words.specs.declared.mode.Mode.{Mode}
use Rattle.ts_words.specs.declared.status.Status.{Status}
use Rattle.ts_words.specs.declared.status.Status.TheVariants as status
use Rattle.ts_engine.specs.Status.{status_of, place_of}
use Rattle.ts_engine.specs.Headline.{RunView, exchange_of, Writes}

-- each limit is at least 1
pub record AreUsable (limits : Limits) : Type 0 where
  pub words : 1 ≤ limits.wire.words
  pub word_bytes : 1 ≤ limits.wire.word_bytes
  pub request_bytes : 1 ≤ limits.wire.request_bytes
  pub line_bytes : 1 ≤ limits.wire.line_bytes
  pub keys : 1 ≤ limits.keys
  pub labels : 1 ≤ limits.labels
  pub rules : 1 ≤ limits.rules
  pub samples : 1 ≤ limits.samples
  pub empty_rows : 1 ≤ limits.empty_rows
  pub born : 1 ≤ limits.born

-- the single argument `pipe`
abbrev pub IsPipe : List (String Global) → Type 0
IsPipe words = map string_bytes words ≡ codes "pipe" ∷ []

-- the status is the intended one and this line was written; or a write failed within the line
abbrev pub WritesLine : (line : List ℕ) → (meant : Status) → (given : Status) → (List ℕ → Type 0) → (List ℕ → Type 0) → Type 0
WritesLine line meant given had has = ((given ≡ meant) × Grows had has line) ⊎ ((given ≡ status.WriteFault) × GrowsByPrefix had has line)

-- the same for the status line of the intended status, if it has one
abbrev pub Reports : (meant : Status) → (place : ℕ) → (given : Status) → (List ℕ → Type 0) → (List ℕ → Type 0) → Type 0
Reports meant place given had has = WritesLine (line_of_status meant place) meant given had has

-- the same for its line in this mode
abbrev pub ReportsIn : Option Mode → (meant : Status) → (place : ℕ) → (given : Status) → (List ℕ → Type 0) → (List ℕ → Type 0) → Type 0
ReportsIn mode meant place given had has = WritesLine (line_of_status_in mode meant place) meant given had has

-- the same for its line in the mode `host`, with these causes of faults
abbrev pub ReportsHost : LastCauses → (meant : Status) → (place : ℕ) → (given : Status) → (List ℕ → Type 0) → (List ℕ → Type 0) → Type 0
ReportsHost causes meant place given had has = WritesLine (host_line_of_status meant place causes) meant given had has

-- how an input with these bytes was answered on the empty database: the output is what the end says, and the end was
-- reported
pub record Headline (seen : RunView) (budget : ℕ) (bytes : List ℕ) (left : Option (List ℕ)) (had has : List ℕ → Type 0) (given : Status) : Type 0 where
  pub held : DbState
  pub end : End
  pub written : Writes (exchange_of seen held) budget bytes left end
  pub reported : Reports (status_of end) (place_of end) given had has

-- the status for how a stream ends
abbrev pub status_at : Stream → Status
status_at (Inside place) = status.Truncated
status_at (Broken kind place) = status.Protocol
status_at Ended = status.Ended
status_at (Then request place rest) = status.Ended

-- the status of an input that was answered to its end: good if it has a QUIT, or else by how it ends
abbrev pub status_by : (has_quit : Bool) → Stream → Status
status_by true end = status.Ended
status_by false end = status_at end

-- The status if at most these bytes may be read: good if they contain a QUIT, a protocol error if they break, and a
-- used-up budget otherwise.
abbrev pub status_cut : (has_quit : Bool) → Stream → Status
status_cut true end = status.Ended
status_cut false (Broken kind place) = status.Protocol
status_cut false Ended = status.Budget
status_cut false (Inside place) = status.Budget
status_cut false (Then request place rest) = status.Budget

-- no fault counter rose
abbrev pub NoneRose : (reads reads' writes writes' errors errors' : ℕ) → Type 0
NoneRose reads reads' writes writes' errors errors' = (Rose reads reads' → ⊥) × (Rose writes writes' → ⊥) × (Rose errors errors' → ⊥)
