-- How a journal is opened: what it loads to, or why it was not loaded.
use Rattle.std.specs.Prelude.{◌≡◌, ◌<◌, ◌≤◌, ⊤, ℕ, nat_le, if◌then◌else◌, List, length, take, Option, Some, Result, Ok, Err}
use Rattle.ts_spec.specs.declared.limits.Limits.{Limits}
use Rattle.ts_spec.specs.declared.wire.WireLimits.{WireLimits}
use Rattle.ts_db.specs.DbState.{DbState}
use Rattle.ts_journal.specs.Loading.{Load, Loads, BreaksAt}
use Rattle.ts_checkpoint.specs.Loading.{load, load_from}
use Rattle.ts_words.specs.declared.status.Status.{Status}
use Rattle.ts_words.specs.declared.status.Status.TheVariants as status
use Rattle.ts_execution.specs.declared.loading.LoadFault.{LoadFault}
use Rattle.ts_execution.specs.declared.loading.LoadFault.TheVariants as unloaded
use Rattle.ts_execution.specs.declared.loading.Extent.{Extent}

-- the status if the journal was not loaded
abbrev pub unloaded_status : LoadFault → Status
unloaded_status (unloaded.Broken place) = status.JournalBroken
unloaded_status unloaded.Journal = status.JournalFault
unloaded_status unloaded.Budget = status.Budget
unloaded_status unloaded.Memory = status.Memory

-- the offset in its status line; 0 if it has none
abbrev pub unloaded_place : LoadFault → ℕ
unloaded_place (unloaded.Broken place) = place
unloaded_place unloaded.Journal = 0
unloaded_place unloaded.Budget = 0
unloaded_place unloaded.Memory = 0

-- What a journal with these bytes loads to, and where its whole requests end. It is called broken only after it was
-- read to its end.
abbrev pub IsRead : Result Extent LoadFault → WireLimits → (budget : ℕ) → (from to : DbState) → (journal : List ℕ) → Type 0
IsRead (Ok extent) wire budget from to journal =
    (load_from from.limits wire from.state journal ≡ Loads to.state extent.end) × (to.limits ≡ from.limits) × (length journal < budget)
IsRead (Err (unloaded.Broken place)) wire budget from to journal = (load_from from.limits wire from.state journal ≡ BreaksAt place) × (length journal < budget)
IsRead (Err unloaded.Journal) wire budget from to journal = ⊤
IsRead (Err unloaded.Budget) wire budget from to journal = budget ≤ length journal
IsRead (Err unloaded.Memory) wire budget from to journal = ⊤

-- what a log with such a journal has after it was opened: its whole requests, or all of it if it was not loaded
abbrev pub left_of : Result Extent LoadFault → (journal : List ℕ) → List ℕ
left_of (Ok extent) journal = take extent.end journal
left_of (Err fault) journal = journal

-- a journal was read, and cut behind its last whole request
abbrev pub IsOpened : Result Extent LoadFault → WireLimits → (budget : ℕ) → (from to : DbState) → (journal : List ℕ) → (left : Option (List ℕ)) → Type 0
IsOpened result wire budget from to journal left = IsRead result wire budget from to journal × (left ≡ Some (left_of result journal))

-- why a run did not load its journal; `untouched` says that it changed nothing
abbrev pub NotLoaded : LoadFault → Limits → (budget : ℕ) → (journal : List ℕ) → (untouched : Type 0) → Type 0
NotLoaded (unloaded.Broken place) limits budget journal untouched = (length journal < budget) × (load limits journal ≡ BreaksAt place) × untouched
NotLoaded unloaded.Journal limits budget journal untouched = untouched
NotLoaded unloaded.Budget limits budget journal untouched = (budget ≤ length journal) × untouched
NotLoaded unloaded.Memory limits budget journal untouched = untouched

-- the status for a broken journal, or else this one
abbrev pub status_loaded : Load → Status → Status
status_loaded (BreaksAt place) other = status.JournalBroken
status_loaded (Loads m place) other = other

-- the status if the journal is not shorter than the budget, or else by what it loads to
abbrev pub status_opened : Limits → (budget : ℕ) → (journal : List ℕ) → Status → Status
status_opened limits budget journal other = if nat_le budget (length journal) then status.Budget else status_loaded (load limits journal) other
