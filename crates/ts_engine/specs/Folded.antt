-- What `top` does in the mode `fold`: it puts a checkpoint in the place of a journal. The checkpoint loads to a
-- database that stores the same.
use Rattle.std.specs.Prelude.{◌≡◌, ◌⊎◌, ◌<◌, ℕ, List, length, Option, Some, String}
use Rattle.std.specs.declared.alloc.Global.{Global}
use Rattle.ts_spec.specs.State.{State}
use Rattle.ts_spec.specs.StoredSeries.{kept}
use Rattle.ts_spec.specs.Valid.{IsValid}
use Rattle.ts_spec.specs.declared.limits.Limits.{Limits}
use Rattle.ts_journal.specs.Loading.{Loads}
use Rattle.ts_checkpoint.specs.Loading.{load, LoadsTo}
use Rattle.ts_words.specs.declared.fault_causes.LastCauses.{LastCauses}
use Rattle.ts_words.specs.declared.mode.Mode.TheVariants as mode
use Rattle.ts_words.specs.declared.status.Status.{Status}
use Rattle.ts_words.specs.declared.status.Status.TheVariants as status
use Rattle.ts_engine.specs.declared.fold.FoldEnd.{FoldEnd}
use Rattle.ts_engine.specs.declared.fold.FoldEnd.TheVariants as end
use Rattle.ts_engine.specs.Asked.{asked}
use Rattle.ts_engine.specs.Opening.{NotLoaded, unloaded_status, unloaded_place, status_opened}
use Rattle.ts_engine.specs.Top.{ReportsHost}

-- the arguments select `fold`
abbrev pub IsFold : List (String Global) → Type 0
IsFold words = asked words ≡ Some mode.Fold

-- ---- the journal

-- Both journals load, the second one as a whole to a valid state, and the same is stored then. So all later commands are
-- answered alike.
pub record IsFoldOf (limits : Limits) (journal folded : List ℕ) : Type 0 where
  pub old : State
  pub place : ℕ
  pub loads : load limits journal ≡ Loads old place
  pub new : State
  pub whole : LoadsTo limits folded new
  pub valid : IsValid limits new
  pub same : kept new ≡ kept old

-- the log has a journal that stores the same
pub record HasFold (limits : Limits) (journal : List ℕ) (left : Option (List ℕ)) : Type 0 where
  pub folded : List ℕ
  pub content : left ≡ Some folded
  pub is_fold : IsFoldOf limits journal folded

-- ---- the end

-- the status of an end
abbrev pub status_of : FoldEnd → Status
status_of end.Done = status.Ended
status_of end.NotFolded = status.JournalFault
status_of end.Memory = status.Memory
status_of (end.NotLoaded fault) = unloaded_status fault

-- the offset in the status line of an end; 0 if it has none
abbrev pub place_of : FoldEnd → ℕ
place_of (end.NotLoaded fault) = unloaded_place fault
place_of end.Done = 0
place_of end.NotFolded = 0
place_of end.Memory = 0

-- the journal before, of which at most `budget` bytes are read, and what the log has now
module _ (limits : Limits) (budget : ℕ) (journal : List ℕ) (left : Option (List ℕ)) where
  abbrev pub Unchanged : Type 0
  Unchanged = left ≡ Some journal

  -- what the run did, by how it ended
  abbrev pub EndsAs : FoldEnd → Type 0
  EndsAs end.Done = (length journal < budget) × HasFold limits journal left
  EndsAs end.NotFolded = (length journal < budget) × (Unchanged ⊎ HasFold limits journal left)
  EndsAs end.Memory = Unchanged
  EndsAs (end.NotLoaded fault) = NotLoaded fault limits budget journal Unchanged

-- How a run ended, and how that was reported: by the line of its status, with the cause of a failed log. A good end
-- always has the good status.
pub record Folded (limits : Limits) (budget : ℕ) (journal : List ℕ) (left : Option (List ℕ)) (causes : LastCauses) (had has : List ℕ → Type 0) (given : Status) : Type 0 where
  pub ended : FoldEnd
  pub did : EndsAs limits budget journal left ended
  pub reported : ReportsHost causes (status_of ended) (place_of ended) given had has
  pub quiet : ended ≡ end.Done → given ≡ status.Ended

-- An end was reported by its status and line. Holds even if the bytes of the journal are unknown.
pub record HasFoldLine (causes : LastCauses) (had has : List ℕ → Type 0) (given : Status) : Type 0 where
  pub ended : FoldEnd
  pub reported : ReportsHost causes (status_of ended) (place_of ended) given had has
  pub quiet : ended ≡ end.Done → given ≡ status.Ended

-- the status of a run over this journal, if no device fails
abbrev pub status_folded : Limits → (budget : ℕ) → (journal : List ℕ) → Status
status_folded limits budget journal = status_opened limits budget journal status.Ended
