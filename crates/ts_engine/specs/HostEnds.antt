-- How a run in the mode `host` ends: its status, and which device failed.
use Rattle.std.specs.Prelude.{⊤, ◌≡◌, ◌≢◌, Bool, true, false, ℕ, List, [], ◌∷◌, Some, String}
use Rattle.std.specs.declared.alloc.Global.{Global}
use Rattle.std.specs.String.{string_bytes}
use Rattle.ts_io.specs.Causes.{Rose}
use Rattle.ts_host.specs.Causes.{Faults}
use Rattle.ts_host.specs.declared.host.HostFault.TheVariants as fault
use Rattle.ts_host.specs.declared.serving.HubEnd.{HubEnd}
use Rattle.ts_host.specs.declared.serving.HubEnd.TheVariants as served
use Rattle.ts_words.specs.declared.mode.Mode.TheVariants as mode
use Rattle.ts_words.specs.declared.mode.Storage.{Storage}
use Rattle.ts_words.specs.declared.mode.Storage.TheVariants as storage
use Rattle.ts_words.specs.declared.status.Status.{Status}
use Rattle.ts_words.specs.declared.status.Status.TheVariants as status
use Rattle.ts_engine.specs.Asked.{asked}
use Rattle.ts_engine.specs.declared.host_end.HostEnd.{HostEnd}
use Rattle.ts_engine.specs.declared.host_end.HostEnd.TheVariants as end
use Rattle.ts_engine.specs.Opening.{unloaded_status, unloaded_place}

-- ---- the arguments

-- whether data is kept in a journal
abbrev pub has_journal : Storage → Bool
has_journal storage.Memory = false
has_journal storage.Journal = true
has_journal storage.SyncedJournal = true

-- the arguments select `host`
abbrev pub IsHost : List (String Global) → Type 0
IsHost words = (kept_in : Storage) × (asked words ≡ Some (mode.Host kept_in))

-- the same with a journal
abbrev pub IsJournalHost : List (String Global) → Type 0
IsJournalHost words = (kept_in : Storage) × (asked words ≡ Some (mode.Host kept_in)) × (has_journal kept_in ≡ true)

-- the address is the second argument
abbrev pub host_address : List (String Global) → List ℕ
host_address [] = []
host_address (word ∷ []) = []
host_address (word ∷ address ∷ words) = string_bytes address

-- ---- the status

-- the status of a run that accepted connections
abbrev pub served_status : HubEnd → Status
served_status served.Ended = status.Ended
served_status served.Budget = status.Budget
served_status (served.Stopped fault.Hub) = status.AcceptFault
served_status (served.Stopped fault.Line) = status.WriteFault
served_status (served.Stopped fault.Journal) = status.JournalFault
served_status (served.Stopped fault.Memory) = status.Memory

-- the status of an end
abbrev pub status_of : HostEnd → Status
status_of (end.Served e) = served_status e
status_of end.NotReady = status.WriteFault
status_of end.NotOpened = status.AcceptFault
status_of end.NoMemory = status.Memory
status_of end.NotFolded = status.JournalFault
status_of (end.NotLoaded e) = unloaded_status e

-- the offset in the status line of an end; 0 if it has none
abbrev pub place_of : HostEnd → ℕ
place_of (end.Served e) = 0
place_of end.NotReady = 0
place_of end.NotOpened = 0
place_of end.NoMemory = 0
place_of end.NotFolded = 0
place_of (end.NotLoaded e) = unloaded_place e

-- the journal was loaded and, if it had to be, folded; or there is none
abbrev pub IsLoaded : HostEnd → Type 0
IsLoaded (end.Served e) = ⊤
IsLoaded end.NotReady = ⊤
IsLoaded end.NotOpened = ⊤
IsLoaded end.NoMemory = ⊤
IsLoaded end.NotFolded = ⊥
IsLoaded (end.NotLoaded e) = ⊥

-- only a run with a journal can end before that was loaded and folded
abbrev pub IsPossible : Storage → HostEnd → Type 0
IsPossible kept_in (end.NotLoaded e) = has_journal kept_in ≡ true
IsPossible kept_in end.NotFolded = has_journal kept_in ≡ true
IsPossible kept_in (end.Served e) = ⊤
IsPossible kept_in end.NotReady = ⊤
IsPossible kept_in end.NotOpened = ⊤
IsPossible kept_in end.NoMemory = ⊤

-- ---- the cause

-- a status tells of a fault if and only if the count of that device rose
pub record HasHostCauses (given : Status) (before now : Faults) : Type 0 where
  pub hub : given ≡ status.AcceptFault → Rose before.hub now.hub
  pub lines : given ≡ status.WriteFault → Rose before.lines now.lines
  pub journal : given ≡ status.JournalFault → Rose before.journal now.journal
  pub no_hub : given ≢ status.AcceptFault → now.hub ≡ before.hub
  pub no_lines : given ≢ status.WriteFault → now.lines ≡ before.lines
  pub no_journal : given ≢ status.JournalFault → now.journal ≡ before.journal

-- no count of faults rose
pub record NoHostFault (before now : Faults) : Type 0 where
  pub hub : Rose before.hub now.hub → ⊥
  pub lines : Rose before.lines now.lines → ⊥
  pub journal : Rose before.journal now.journal → ⊥
