-- Which device failed in a run in the mode `host`, and which statuses such a run never has.
use Rattle.std.proofs.Common.{◌≡◌, ◌≢◌, ◌⊎◌, inl, inr, true, refl, sym, ◌∙◌, subst}
use Rattle.ts_words.specs.declared.mode.Storage.{Storage}
use Rattle.ts_words.specs.declared.mode.Storage.TheVariants as storage
use Rattle.ts_words.specs.declared.status.Status.{Status}
use Rattle.ts_words.specs.declared.status.Status.TheVariants as status
use Rattle.ts_host.specs.declared.host.HostFault.TheVariants as fault
use Rattle.ts_host.specs.declared.serving.HubEnd.{HubEnd}
use Rattle.ts_host.specs.declared.serving.HubEnd.TheVariants as served
use Rattle.ts_engine.specs.declared.host_end.HostEnd.{HostEnd}
use Rattle.ts_engine.specs.declared.host_end.HostEnd.TheVariants as end
use Rattle.ts_engine.specs.HostEnds.{IsPossible, has_journal, served_status, status_of}
use Rattle.ts_engine.proofs.Openings.{never-unloaded}
use Rattle.ts_engine.proofs.Tops.{given-as}

-- a run in this mode never has a status of another mode
pub record IsOther (given : Status) : Type 0 where
  pub no_usage : given ≢ status.Usage
  pub no_capture : given ≢ status.CaptureBroken
  pub no_read_fault : given ≢ status.ReadFault

served-meant : (e : HubEnd) → IsOther (served_status e)
served-meant served.Ended = record { no_usage = λ is. (cc); no_capture = λ is. (cc); no_read_fault = λ is. (cc) }
served-meant served.Budget = record { no_usage = λ is. (cc); no_capture = λ is. (cc); no_read_fault = λ is. (cc) }
served-meant (served.Stopped fault.Hub) = record { no_usage = λ is. (cc); no_capture = λ is. (cc); no_read_fault = λ is. (cc) }
served-meant (served.Stopped fault.Line) = record { no_usage = λ is. (cc); no_capture = λ is. (cc); no_read_fault = λ is. (cc) }
served-meant (served.Stopped fault.Journal) = record { no_usage = λ is. (cc); no_capture = λ is. (cc); no_read_fault = λ is. (cc) }
served-meant (served.Stopped fault.Memory) = record { no_usage = λ is. (cc); no_capture = λ is. (cc); no_read_fault = λ is. (cc) }

never-meant : (kept_in : Storage) (e : HostEnd) → IsPossible kept_in e → IsOther (status_of e)
never-meant kept_in (end.Served e) is = served-meant e
never-meant kept_in end.NotReady is = record { no_usage = λ is. (cc); no_capture = λ is. (cc); no_read_fault = λ is. (cc) }
never-meant kept_in end.NotOpened is = record { no_usage = λ is. (cc); no_capture = λ is. (cc); no_read_fault = λ is. (cc) }
never-meant kept_in end.NoMemory is = record { no_usage = λ is. (cc); no_capture = λ is. (cc); no_read_fault = λ is. (cc) }
never-meant kept_in end.NotFolded is = record { no_usage = λ is. (cc); no_capture = λ is. (cc); no_read_fault = λ is. (cc) }
never-meant kept_in (end.NotLoaded e) is =
    let never = never-unloaded e in
    record { no_usage = never.no_usage; no_capture = never.no_capture; no_read_fault = never.no_read }

pub never : (kept_in : Storage) (e : HostEnd) (meant given : Status) → IsPossible kept_in e → meant ≡ status_of e → (given ≡ status.WriteFault) ⊎ (given ≡ meant) → IsOther given
never kept_in e meant given possible means (inl failed) = record { no_usage = λ is. (cc); no_capture = λ is. (cc); no_read_fault = λ is. (cc) }
never kept_in e meant given possible means (inr same) = subst IsOther (sym (same ∙ means)) (never-meant kept_in e possible)

-- only a run with a journal can fail by it
broken-has : (kept_in : Storage) (e : HostEnd) → IsPossible kept_in e → status_of e ≡ status.JournalBroken → has_journal kept_in ≡ true
broken-has kept_in (end.Served served.Ended) possible is = absurd (cc)
broken-has kept_in (end.Served served.Budget) possible is = absurd (cc)
broken-has kept_in (end.Served (served.Stopped fault.Hub)) possible is = absurd (cc)
broken-has kept_in (end.Served (served.Stopped fault.Line)) possible is = absurd (cc)
broken-has kept_in (end.Served (served.Stopped fault.Journal)) possible is = absurd (cc)
broken-has kept_in (end.Served (served.Stopped fault.Memory)) possible is = absurd (cc)
broken-has kept_in end.NotReady possible is = absurd (cc)
broken-has kept_in end.NotOpened possible is = absurd (cc)
broken-has kept_in end.NoMemory possible is = absurd (cc)
broken-has kept_in end.NotFolded possible is = absurd (cc)
broken-has kept_in (end.NotLoaded e) possible is = possible

fault-has : (kept_in : Storage) (e : HostEnd) → (kept_in ≡ storage.Memory → status_of e ≢ status.JournalFault) → status_of e ≡ status.JournalFault → has_journal kept_in ≡ true
fault-has storage.Memory e unused is = absurd (unused refl is)
fault-has storage.Journal e unused is = refl
fault-has storage.SyncedJournal e unused is = refl

pub only-journal : (kept_in : Storage) (e : HostEnd) (meant given : Status) → IsPossible kept_in e → (kept_in ≡ storage.Memory → status_of e ≢ status.JournalFault) → meant ≡ status_of e
    → (given ≡ status.WriteFault) ⊎ (given ≡ meant) → (given ≡ status.JournalFault) ⊎ (given ≡ status.JournalBroken) → has_journal kept_in ≡ true
only-journal kept_in e meant given possible unused means same (inl failed) = fault-has kept_in e unused (given-as (status_of e) status.JournalFault meant given (λ is. (cc)) failed means same)
only-journal kept_in e meant given possible unused means same (inr broken) = broken-has kept_in e possible (given-as (status_of e) status.JournalBroken meant given (λ is. (cc)) broken means same)
