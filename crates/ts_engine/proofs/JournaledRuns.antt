-- From what a run with a journal did to what its end says.
use Rattle.std.specs.Prelude.{Option, Ok}
use Rattle.std.proofs.Common.{◌≡◌, ◌≢◌, ◌⊎◌, inl, inr, ◌<◌, ℕ, Bool, true, false, List, ◌∷◌, ◌++◌, length, take, refl, sym, ◌∙◌, ap, subst, arith, length-take}
use Rattle.ts_io.specs.Causes.{Rose}
use Rattle.ts_spec.specs.State.{State, empty}
use Rattle.ts_spec.specs.Wire.{Request}
use Rattle.ts_spec.specs.declared.limits.Limits.{Limits}
use Rattle.ts_db.specs.DbState.{DbState}
use Rattle.ts_journal.specs.Limits.{IsBounded}
use Rattle.ts_journal.specs.Loading.{Loads}
use Rattle.ts_checkpoint.specs.Loading.{load, LoadsTo}
use Rattle.ts_checkpoint.proofs.JournalLoads.{whole-loads, load-within}
use Rattle.ts_words.specs.declared.status.Status.{Status}
use Rattle.ts_words.specs.declared.status.Status.TheVariants as status
use Rattle.ts_execution.specs.Journaling.{kept, journaled}
use Rattle.ts_execution.specs.declared.loading.LoadFault.{LoadFault}
use Rattle.ts_execution.specs.declared.loading.LoadFault.TheVariants as unloaded
use Rattle.ts_execution.specs.declared.loading.Extent.{Extent}
use Rattle.ts_engine.specs.declared.journaling.JournalEnd.{JournalEnd}
use Rattle.ts_engine.specs.declared.journaling.JournalEnd.TheVariants as ended
use Rattle.ts_engine.specs.declared.piped.End.{End}
use Rattle.ts_engine.specs.declared.piped.End.TheVariants as end
use Rattle.ts_engine.specs.Answered.{IsOutOfMemoryOr}
use Rattle.ts_engine.specs.Headline.{Exchange, requests}
use Rattle.ts_engine.specs.InputTaken.{WrittenAndTaken}
use Rattle.ts_engine.specs.JournalPrefixes.{HandledRun, run_of, PrefixReplays, run_to_fault, ReplaysToFault}
use Rattle.ts_engine.specs.NotJournaled.{NotJournaledTaken}
use Rattle.ts_engine.specs.Journaled.{JournalRun, exchange_over, GoesOn, EndsAs, Wrote, IsAnswered, HasJournalCauses, status_of, status_piped, status_journaled}
use Rattle.ts_engine.specs.Opening.{IsOpened, unloaded_status}
use Rattle.ts_engine.specs.Status as input
use Rattle.ts_engine.proofs.Journalings.{HasJournal, first-run, journal-first, journal-torn}
use Rattle.ts_engine.proofs.Openings.{opened-below, never-unloaded, fault-meant}

-- ---- the content of the journal

module _ (run : JournalRun) (bounded : IsBounded run.seen.limits.wire) (bytes : List ℕ) (m : State) (place : ℕ) (loads : load run.seen.limits run.journal ≡ Loads m place) where
  -- its first bytes are complete changes
  its-size : length (take place run.journal) ≡ place
  its-size = omega (arith, length-take place run.journal, load-within run.seen.limits run.journal m place loads)

  its-loads : LoadsTo run.seen.limits (take place run.journal) m
  its-loads = whole-loads run.seen.limits run.journal m place loads ∙ ap (λ (n : ℕ). Loads m n) (sym its-size)

  goes-on : (failed : Bool) (held : DbState) (writes : Exchange journaled → Type 0) (handled : (exchange : Exchange journaled) → writes exchange → HandledRun)
      (replays : (exchange : Exchange journaled) → writes exchange → List ℕ → Type 0) (written : writes (exchange_over run m place failed held)) (others : List Request)
      → requests run.seen.limits.wire bytes ≡ (handled (exchange_over run m place failed held) written).asked ++ others
      → HasJournal run.seen.limits (take place run.journal) (replays (exchange_over run m place failed held) written) run.journal_left → GoesOn run bytes failed writes handled replays
  goes-on failed held writes handled replays written others first of_journal = record {
    loaded = m;
    place = place;
    loads = loads;
    held = held;
    written = written;
    others = others;
    first = first;
    journal = of_journal.journal;
    content = of_journal.content;
    begins = ap (λ (n : ℕ). take n of_journal.journal) (sym its-size) ∙ of_journal.begins;
    prefixes_load = of_journal.prefixes_load;
    replay_matches = λ n past. of_journal.replay_matches n (omega (arith, past, its-size));
  }

  -- the output for the input, together with the journal, which was read to its end
  pub did-on : (untouched : Type 0) (budget : ℕ) (left : Option (List ℕ)) (e : JournalEnd) (held : DbState) → length run.journal < budget
      → Wrote e (λ failed. exchange_over run m place failed held) budget bytes left → EndsAs run untouched budget bytes left e
  did-on untouched budget left (ended.Answered e) held below written =
      let exchange : Exchange journaled = exchange_over run m place false held in
      let first = first-run exchange budget bytes left e written.written in (
        below,
        goes-on false held (λ exchange. WrittenAndTaken exchange budget bytes left e)
            (λ exchange written. run_of exchange budget bytes left e written.written)
            (λ exchange written. PrefixReplays run.seen.limits exchange.from (run_of exchange budget bytes left e written.written))
            written first.others first.first
            (journal-first run.seen.limits bounded exchange refl bytes (take place run.journal) refl refl its-loads (run_of exchange budget bytes left e written.written) first),
      )
  did-on untouched budget left ended.AppendFault held below written =
      let exchange : Exchange journaled = exchange_over run m place true held in (
        below,
        goes-on true held (λ exchange. NotJournaledTaken exchange budget bytes left)
            (λ exchange written. run_to_fault run.seen.limits exchange bytes written.not_journaled)
            (λ exchange written. ReplaysToFault run.seen.limits exchange bytes written.not_journaled)
            written (written.not_journaled.last ∷ written.not_journaled.others) written.not_journaled.first
            (journal-torn run.seen.limits bounded exchange refl bytes (take place run.journal) refl refl its-loads written.not_journaled),
      )
  did-on untouched budget left (ended.NotLoaded fault) held below written = absurd written

-- the state that a journal loads to, under these limits
held-is : (held : DbState) (limits : Limits) → held.limits ≡ limits → held ≡ record { limits = limits; state = held.state }
held-is held limits same = ap (λ (l : Limits). record { limits = l; state = held.state }) same

-- the input was answered on the loaded database
module _ (limits : Limits) (readings readings' between after left : Option (List ℕ)) (had has : List ℕ → Type 0) (journal bytes : List ℕ) (budget : ℕ) (e : JournalEnd) (mid to : DbState) (extent : Extent) (opened : IsOpened (Ok extent) limits.wire budget (record { limits = limits; state = empty }) mid journal between)
    (reads reads' writes writes' faults faults' : ℕ)
    (answered : IsAnswered e (λ failed. record { limits = limits.wire; from = kept readings between false mid; to = kept readings' after failed to; had = had; has = has })
    limits.wire budget bytes left reads reads' writes writes' faults faults') where
  abbrev its-run : JournalRun
  its-run = record { seen = record { limits = limits; readings = readings; readings_left = readings'; had = had; has = has }; journal = journal; journal_left = after }

  abbrev WroteFrom : Option (List ℕ) → DbState → Type 0
  WroteFrom content from = Wrote e (λ failed. record { limits = limits.wire; from = kept readings content false from; to = kept readings' after failed to; had = had; has = has }) budget bytes left

  pub kept-did : IsBounded limits.wire → (untouched : Type 0) → EndsAs its-run untouched budget bytes left e
  kept-did bounded untouched =
      did-on its-run bounded bytes mid.state extent.end opened.0.0 untouched budget left e to opened.0.2
      (subst (λ (o : Option (List ℕ)). WroteFrom o (record { limits = limits; state = mid.state })) opened.1
      (subst (λ (h : DbState). WroteFrom between h) (held-is mid limits opened.0.1) answered.written))

  pub kept-complete : (Rose reads reads' → ⊥) → (Rose writes writes' → ⊥) → (Rose faults faults' → ⊥) → IsOutOfMemoryOr (status_of e) (status_journaled limits budget journal bytes)
  kept-complete no_read no_write no_fault =
      subst (λ (s : Status). IsOutOfMemoryOr (status_of e) s) (sym (opened-below limits budget journal (status_piped limits.wire budget bytes) (Loads mid.state extent.end) opened.0.2 opened.0.0))
      (answered.complete no_read no_write no_fault)

-- a journal that was not loaded changes no other counter
pub causes-not : (fault : LoadFault) (reads writes faults faults' : ℕ) → (fault ≡ unloaded.Journal → Rose faults faults') → (fault ≢ unloaded.Journal → faults' ≡ faults)
    → HasJournalCauses (unloaded_status fault) reads reads writes writes faults faults'
causes-not fault reads writes faults faults' rose stays =
    let never = never-unloaded fault in
    record {
      read = λ is. absurd (never.no_read is);
      write = λ is. absurd (never.no_write is);
      failed = λ is. rose (fault-meant fault is);
      unread = λ other. refl;
      unwritten = λ other. refl;
      unfailed = λ other. stays (λ is. other (ap unloaded_status is));
    }

-- fault counters that rose before or after
pub causes-on : (given : Status) (reads reads' writes writes' faults mid faults' : ℕ) → mid ≡ faults → HasJournalCauses given reads reads' writes writes' mid faults'
    → HasJournalCauses given reads reads' writes writes' faults faults'
causes-on given reads reads' writes writes' faults mid faults' same causes = subst (λ (n : ℕ). HasJournalCauses given reads reads' writes writes' n faults') same causes

-- ---- the reported status

-- a run with a journal never has a status of another mode
pub record IsOther (given : Status) : Type 0 where
  pub no_usage : given ≢ status.Usage
  pub no_accept : given ≢ status.AcceptFault
  pub no_capture : given ≢ status.CaptureBroken

input-meant : (e : End) → IsOther (input.status_of e)
input-meant end.Ended = record { no_usage = λ is. (cc); no_accept = λ is. (cc); no_capture = λ is. (cc) }
input-meant (end.Truncated place) = record { no_usage = λ is. (cc); no_accept = λ is. (cc); no_capture = λ is. (cc) }
input-meant (end.Protocol fault) = record { no_usage = λ is. (cc); no_accept = λ is. (cc); no_capture = λ is. (cc) }
input-meant end.ReadFault = record { no_usage = λ is. (cc); no_accept = λ is. (cc); no_capture = λ is. (cc) }
input-meant end.WriteFault = record { no_usage = λ is. (cc); no_accept = λ is. (cc); no_capture = λ is. (cc) }
input-meant end.Memory = record { no_usage = λ is. (cc); no_accept = λ is. (cc); no_capture = λ is. (cc) }
input-meant end.Budget = record { no_usage = λ is. (cc); no_accept = λ is. (cc); no_capture = λ is. (cc) }

never-meant : (e : JournalEnd) → IsOther (status_of e)
never-meant (ended.Answered e) = input-meant e
never-meant ended.AppendFault = record { no_usage = λ is. (cc); no_accept = λ is. (cc); no_capture = λ is. (cc) }
never-meant (ended.NotLoaded fault) =
    let never = never-unloaded fault in
    record { no_usage = never.no_usage; no_accept = never.no_accept; no_capture = never.no_capture }

pub never : (e : JournalEnd) (meant given : Status) → meant ≡ status_of e → (given ≡ status.WriteFault) ⊎ (given ≡ meant) → IsOther given
never e meant given means (inl failed) = record { no_usage = λ is. (cc); no_accept = λ is. (cc); no_capture = λ is. (cc) }
never e meant given means (inr same) = subst IsOther (sym (same ∙ means)) (never-meant e)
