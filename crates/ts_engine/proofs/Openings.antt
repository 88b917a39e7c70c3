-- How a journal is opened and loaded.
use Rattle.std.specs.Prelude.{Option, Some, Result, Ok, Err}
use Rattle.std.proofs.Common.{◌≡◌, ◌≢◌, ◌≤◌, ◌<◌, inl, inr, ℕ, Bool, if◌then◌else◌, List, length, take, refl, sym, ◌∙◌, ap}
use Rattle.std.proofs.lemmas.Bool.{le-leb, lt-leb}
use Rattle.ts_io.specs.Logs.{front}
use Rattle.ts_spec.specs.State.{empty}
use Rattle.ts_spec.specs.declared.limits.Limits.{Limits}
use Rattle.ts_spec.specs.declared.wire.WireLimits.{WireLimits}
use Rattle.ts_db.specs.DbState.{DbState, DbView, Simulates}
use Rattle.ts_journal.specs.Loading.{Load, BreaksAt}
use Rattle.ts_checkpoint.specs.Loading.{load}
use Rattle.ts_words.specs.declared.status.Status.{Status}
use Rattle.ts_words.specs.declared.status.Status.TheVariants as status
use Rattle.ts_execution.specs.declared.loading.LoadFault.{LoadFault}
use Rattle.ts_execution.specs.declared.loading.LoadFault.TheVariants as unloaded
use Rattle.ts_execution.specs.declared.loading.Extent.{Extent}
use Rattle.ts_execution.specs.JournalReplay.{IsLoaded, IsJudged}
use Rattle.ts_execution.proofs.Carried.{carries_as}
use Rattle.ts_engine.specs.Answered.{IsOutOfMemoryOr}
use Rattle.ts_engine.specs.Opening.{IsRead, IsOpened, NotLoaded, unloaded_status, status_loaded, status_opened}

-- what was read, by how it was loaded
read-by : (result : Result Extent LoadFault) (limits : WireLimits) (budget : ℕ) (from to : DbState) (journal : List ℕ) → IsLoaded result limits from to journal
    → (IsJudged result → length journal < budget) → (result ≡ Err unloaded.Budget → budget ≤ length journal) → IsRead result limits budget from to journal
read-by (Ok extent) limits budget from to journal is below enough = (is.0, is.1, below tt)
read-by (Err (unloaded.Broken place)) limits budget from to journal is below enough = (is, below tt)
read-by (Err unloaded.Journal) limits budget from to journal is below enough = tt
read-by (Err unloaded.Budget) limits budget from to journal is below enough = enough refl
read-by (Err unloaded.Memory) limits budget from to journal is below enough = tt

module _ (old new : DbView) (limits : WireLimits) (budget : ℕ) (before : Option (List ℕ)) where
  -- the result of reading a journal whose content is known
  abbrev Reads : Result Extent LoadFault → Type 0
  Reads result = Simulates old new (λ from to. (journal : List ℕ) → before ≡ Some journal → IsRead result limits budget from to journal)

  -- the result of opening it
  abbrev Opens : Result Extent LoadFault → (after : Option (List ℕ)) → Type 0
  Opens result after = Simulates old new (λ from to. (journal : List ℕ) → before ≡ Some journal → IsOpened result limits budget from to journal after)

  -- it was opened, then loaded
  pub read-loaded : (between : Option (List ℕ)) (result : Result Extent LoadFault) → between ≡ before
      → Simulates old new (λ from to. (bytes : List ℕ) → between ≡ Some bytes → IsLoaded result limits from to bytes)
      → ((bytes : List ℕ) → between ≡ Some bytes → IsJudged result → length bytes < budget)
      → ((bytes : List ℕ) → between ≡ Some bytes → result ≡ Err unloaded.Budget → budget ≤ length bytes) → Reads result
  read-loaded between result same loads below enough =
      carries_as old new (λ from to. (bytes : List ℕ) → between ≡ Some bytes → IsLoaded result limits from to bytes)
      (λ from to. (journal : List ℕ) → before ≡ Some journal → IsRead result limits budget from to journal)
      (λ from to is journal told.
      let known : between ≡ Some journal = same ∙ told in
      read-by result limits budget from to journal (is journal known) (below journal known) (enough journal known)) loads

  cut-to : (between after : Option (List ℕ)) (place : ℕ) (journal : List ℕ) → between ≡ before → after ≡ front place between → before ≡ Some journal → after ≡ Some (take place journal)
  cut-to between after place journal same cut told = cut ∙ ap (front place) (same ∙ told)

  -- it was read and cut
  pub opened-whole : (extent : Extent) (between after : Option (List ℕ)) → Reads (Ok extent) → between ≡ before → after ≡ front extent.end between → Opens (Ok extent) after
  opened-whole extent between after reads same cut =
      carries_as old new (λ from to. (journal : List ℕ) → before ≡ Some journal → IsRead (Ok extent) limits budget from to journal)
      (λ from to. (journal : List ℕ) → before ≡ Some journal → IsOpened (Ok extent) limits budget from to journal after)
      (λ from to is journal told. (is journal told, cut-to between after extent.end journal same cut told)) reads

  -- it was read, and then could not be cut
  pub opened-uncut : (extent : Extent) (after : Option (List ℕ)) → Reads (Ok extent) → after ≡ before → Opens (Err unloaded.Journal) after
  opened-uncut extent after reads same =
      carries_as old new (λ from to. (journal : List ℕ) → before ≡ Some journal → IsRead (Ok extent) limits budget from to journal)
      (λ from to. (journal : List ℕ) → before ≡ Some journal → IsOpened (Err unloaded.Journal) limits budget from to journal after)
      (λ from to is journal told. (tt, same ∙ told)) reads

  -- it was not loaded
  pub opened-not : (fault : LoadFault) (after : Option (List ℕ)) → Reads (Err fault) → after ≡ before → Opens (Err fault) after
  opened-not fault after reads same =
      carries_as old new (λ from to. (journal : List ℕ) → before ≡ Some journal → IsRead (Err fault) limits budget from to journal)
      (λ from to. (journal : List ℕ) → before ≡ Some journal → IsOpened (Err fault) limits budget from to journal after)
      (λ from to is journal told. (is journal told, same ∙ told)) reads

-- ---- a run that did not load its journal

pub not-read : (fault : LoadFault) (limits : Limits) (budget : ℕ) (to : DbState) (journal : List ℕ) (untouched : Type 0) → untouched
    → IsRead (Err fault) limits.wire budget (record { limits = limits; state = empty }) to journal → NotLoaded fault limits budget journal untouched
not-read (unloaded.Broken place) limits budget to journal untouched kept read = (read.1, read.0, kept)
not-read unloaded.Journal limits budget to journal untouched kept read = kept
not-read unloaded.Budget limits budget to journal untouched kept read = (read, kept)
not-read unloaded.Memory limits budget to journal untouched kept read = kept

pub not-loaded : (fault : LoadFault) (limits : Limits) (budget : ℕ) (to : DbState) (journal : List ℕ) (left : Option (List ℕ)) (untouched : Type 0) → (left ≡ Some journal → untouched)
    → IsOpened (Err fault) limits.wire budget (record { limits = limits; state = empty }) to journal left → NotLoaded fault limits budget journal untouched
not-loaded fault limits budget to journal left untouched keeps opened = not-read fault limits budget to journal untouched (keeps opened.1) opened.0

-- the status for a journal shorter than the budget
pub opened-below : (limits : Limits) (budget : ℕ) (journal : List ℕ) (other : Status) (l : Load) → length journal < budget → load limits journal ≡ l → status_opened limits budget journal other ≡ status_loaded l other
opened-below limits budget journal other l below is =
    ap (λ (b : Bool). if b then status.Budget else status_loaded (load limits journal) other) (lt-leb budget (length journal) below) ∙ ap (λ (x : Load). status_loaded x other) is

-- the status if the journal is the device that did not fail
pub unloaded-complete : (fault : LoadFault) (limits : Limits) (budget : ℕ) (journal : List ℕ) (other : Status) (untouched : Type 0) → NotLoaded fault limits budget journal untouched
    → fault ≢ unloaded.Journal → IsOutOfMemoryOr (unloaded_status fault) (status_opened limits budget journal other)
unloaded-complete (unloaded.Broken place) limits budget journal other untouched did fine = inr (sym (opened-below limits budget journal other (BreaksAt place) did.0 did.1))
unloaded-complete unloaded.Journal limits budget journal other untouched did fine = absurd (fine refl)
unloaded-complete unloaded.Budget limits budget journal other untouched did fine =
    inr (sym (ap (λ (b : Bool). if b then status.Budget else status_loaded (load limits journal) other) (le-leb budget (length journal) did.0)))
unloaded-complete unloaded.Memory limits budget journal other untouched did fine = inl refl

-- such a run never has the status of another device or mode
pub record IsUnloaded (given : Status) : Type 0 where
  pub no_usage : given ≢ status.Usage
  pub no_accept : given ≢ status.AcceptFault
  pub no_capture : given ≢ status.CaptureBroken
  pub no_read : given ≢ status.ReadFault
  pub no_write : given ≢ status.WriteFault

pub never-unloaded : (fault : LoadFault) → IsUnloaded (unloaded_status fault)
never-unloaded (unloaded.Broken place) = record { no_usage = λ is. (cc); no_accept = λ is. (cc); no_capture = λ is. (cc); no_read = λ is. (cc); no_write = λ is. (cc) }
never-unloaded unloaded.Journal = record { no_usage = λ is. (cc); no_accept = λ is. (cc); no_capture = λ is. (cc); no_read = λ is. (cc); no_write = λ is. (cc) }
never-unloaded unloaded.Budget = record { no_usage = λ is. (cc); no_accept = λ is. (cc); no_capture = λ is. (cc); no_read = λ is. (cc); no_write = λ is. (cc) }
never-unloaded unloaded.Memory = record { no_usage = λ is. (cc); no_accept = λ is. (cc); no_capture = λ is. (cc); no_read = λ is. (cc); no_write = λ is. (cc) }

pub fault-meant : (fault : LoadFault) → unloaded_status fault ≡ status.JournalFault → fault ≡ unloaded.Journal
fault-meant (unloaded.Broken place) is = absurd (cc)
fault-meant unloaded.Journal is = refl
fault-meant unloaded.Budget is = absurd (cc)
fault-meant unloaded.Memory is = absurd (cc)
