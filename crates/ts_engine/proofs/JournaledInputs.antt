-- How an input is answered with a journal.
use Rattle.std.specs.Prelude.{Option, Some}
use Rattle.std.proofs.Common.{◌≡◌, ◌⊎◌, inl, inr, ◌≤◌, ◌<◌, ℕ, Bool, true, false, nat_le, if◌then◌else◌, List, length, take, refl, sym, subst, arith}
use Rattle.std.proofs.lemmas.Bool.{le-leb, lt-leb}
use Rattle.ts_io.specs.Causes.{Rose}
use Rattle.ts_spec.specs.declared.wire.WireLimits.{WireLimits}
use Rattle.ts_db.specs.DbState.{DbView, Simulates}
use Rattle.ts_words.specs.declared.status.Status.{Status}
use Rattle.ts_words.specs.declared.status.Status.TheVariants as status
use Rattle.ts_execution.specs.Journaling.{Snapshot, kept, JournalFaults, journal_handler, journaled}
use Rattle.ts_execution.proofs.Carried.{carries_as}
use Rattle.ts_engine.specs.declared.journaling.JournalEnd.{JournalEnd}
use Rattle.ts_engine.specs.declared.journaling.JournalEnd.TheVariants as ended
use Rattle.ts_engine.specs.declared.piped.End.{End}
use Rattle.ts_engine.specs.declared.piped.End.TheVariants as end
use Rattle.ts_engine.specs.declared.piped.Outcome.{Outcome}
use Rattle.ts_engine.specs.Answered.{IsOutOfMemoryOr}
use Rattle.ts_engine.specs.Headline.{Exchange, asks_to_quit, ending}
use Rattle.ts_engine.specs.Journaled.{IsAnswered, HasJournalCauses, status_piped}
use Rattle.ts_engine.specs.Piping.{PipedWith, HasCausesWith}
use Rattle.ts_engine.specs.Status.{status_of}
use Rattle.ts_engine.specs.Top.{status_by, status_cut}
use Rattle.ts_engine.proofs.Unfailed.{unfailed_answered, unfailed_taken}
use Rattle.ts_engine.proofs.NotJournaledInputs.{unkept_of, failed_causes}

-- ---- the status

-- the status of an input, by whether it is shorter than the budget
pub piped-status : (limits : WireLimits) (budget : ℕ) (bytes : List ℕ) (given : Status)
    → (length bytes < budget → IsOutOfMemoryOr given (status_by (asks_to_quit limits bytes) (ending limits bytes)))
    → (budget ≤ length bytes → IsOutOfMemoryOr given (status_cut (asks_to_quit limits (take budget bytes)) (ending limits (take budget bytes))))
    → IsOutOfMemoryOr given (status_piped limits budget bytes)
piped-status limits budget bytes given below past = go (either (length bytes) budget)
  where
    either : (n m : ℕ) → (n < m) ⊎ (m ≤ n)
    either n m = grind arith

    by : (b : Bool) → b ≡ nat_le budget (length bytes)
        → IsOutOfMemoryOr given (if b then status_cut (asks_to_quit limits (take budget bytes)) (ending limits (take budget bytes)) else status_by (asks_to_quit limits bytes) (ending limits bytes))
        → IsOutOfMemoryOr given (status_piped limits budget bytes)
    by b is = subst (λ (c : Bool). IsOutOfMemoryOr given (if c then status_cut (asks_to_quit limits (take budget bytes)) (ending limits (take budget bytes)) else status_by (asks_to_quit limits bytes) (ending limits bytes))) is

    go : (length bytes < budget) ⊎ (budget ≤ length bytes) → IsOutOfMemoryOr given (status_piped limits budget bytes)
    go (inl less) = by false (sym (lt-leb budget (length bytes) less)) (below less)
    go (inr more) = by true (sym (le-leb budget (length bytes) more)) (past more)

-- ---- causes

-- the journal failed
pub failed-causes : (e : End) (reads reads' writes writes' faults faults' : ℕ) (own own' : JournalFaults) → own.count ≡ faults → own'.count ≡ faults' → own.failed ≡ false → own'.failed ≡ true
    → HasCausesWith journal_handler e reads reads' writes writes' own own' → HasJournalCauses status.JournalFault reads reads' writes writes' faults faults'
failed-causes e reads reads' writes writes' faults faults' own own' before after fine failed causes =
    let all = failed_causes own own' fine failed e reads reads' writes writes' causes in
    record {
      read = λ is. absurd (cc);
      write = λ is. absurd (cc);
      failed = λ is. subst (λ (n : ℕ). Rose n faults') before (subst (λ (n : ℕ). Rose own.count n) after all.rose);
      unread = λ other. all.unread;
      unwritten = λ other. all.unwritten;
      unfailed = λ other. absurd (other refl);
    }

-- ---- the input

module _ (exchange : Bool → Exchange journaled) (budget : ℕ) (outcome : Outcome) (bytes : List ℕ) (told left : Option (List ℕ)) (tells : told ≡ Some bytes) (reads reads' writes writes' faults faults' : ℕ)
    (own own' : JournalFaults) (before : own.count ≡ faults) (after : own'.count ≡ faults') where
  pub answered-unfailed : (exchange false).to.failed ≡ false → own'.failed ≡ false
      → PipedWith journal_handler (exchange false).limits budget outcome (exchange false).from (exchange false).to told left (exchange false).had (exchange false).has
      → HasCausesWith journal_handler outcome.end reads reads' writes writes' own own'
      → IsAnswered (ended.Answered outcome.end) exchange (exchange false).limits budget bytes left reads reads' writes writes' faults faults'
  answered-unfailed fine whole piped causes =
      let all = unfailed_answered (exchange false) budget outcome bytes told left tells fine piped reads reads' writes writes' own own' whole causes in
      record {
        written = unfailed_taken (exchange false) budget outcome bytes told left tells fine piped;
        complete = λ no_read no_write no_fault. piped-status (exchange false).limits budget bytes (status_of outcome.end)
            (λ below. all.complete below no_read no_write) (λ past. all.spent past no_read no_write);
      }

  pub answered-failed : (exchange true).from.failed ≡ false → (exchange true).to.failed ≡ true → own.failed ≡ false → own'.failed ≡ true
      → PipedWith journal_handler (exchange true).limits budget outcome (exchange true).from (exchange true).to told left (exchange true).had (exchange true).has
      → HasCausesWith journal_handler outcome.end reads reads' writes writes' own own'
      → IsAnswered ended.AppendFault exchange (exchange false).limits budget bytes left reads reads' writes writes' faults faults'
  answered-failed fine failed whole broken piped causes = record {
    written = (unkept_of (exchange true) budget outcome bytes left fine failed told tells piped).all;
    complete = λ no_read no_write no_fault. absurd (no_fault
        ((failed-causes outcome.end reads reads' writes writes' faults faults' own own' before after whole broken causes).failed refl));
  }

-- ---- whether the journal failed or not

-- the end of a run, by that of the input and by whether the journal failed
abbrev pub end-by : (failed : Bool) → End → JournalEnd
end-by true e = ended.AppendFault
end-by false e = ended.Answered e

-- the fault counter of the journal, by whether it failed
abbrev pub counts : (failed : Bool) → ℕ → JournalFaults
counts failed n = record { failed = failed; count = n }

module _ (limits : WireLimits) (from : Snapshot) (fine : from.failed ≡ false) (to : Bool → Snapshot) (is : (failed : Bool) → (to failed).failed ≡ failed) (had has : List ℕ → Type 0) where
  abbrev pub exchange-by : (failed : Bool) → Exchange journaled
  exchange-by failed = record { limits = limits; from = from; to = to failed; had = had; has = has }

  pub answered-by : (failed : Bool) (budget : ℕ) (outcome : Outcome) (bytes : List ℕ) (told left : Option (List ℕ)) → told ≡ Some bytes → (reads reads' writes writes' faults faults' : ℕ)
      → PipedWith journal_handler limits budget outcome from (to failed) told left had has → HasCausesWith journal_handler outcome.end reads reads' writes writes' (counts false faults) (counts failed faults')
      → IsAnswered (end-by failed outcome.end) exchange-by limits budget bytes left reads reads' writes writes' faults faults'
  answered-by true budget outcome bytes told left tells reads reads' writes writes' faults faults' piped causes =
      answered-failed exchange-by budget outcome bytes told left tells reads reads' writes writes' faults faults' (counts false faults) (counts true faults') refl refl fine (is true) refl refl piped causes
  answered-by false budget outcome bytes told left tells reads reads' writes writes' faults faults' piped causes =
      answered-unfailed exchange-by budget outcome bytes told left tells reads reads' writes writes' faults faults' (counts false faults) (counts false faults') refl refl (is false) refl piped causes

-- what was done with an input, for each state that the database represented
pub input-answered : (old new : DbView) (limits : WireLimits) (budget : ℕ) (outcome : Outcome) (readings readings' content content' told left : Option (List ℕ)) (had has : List ℕ → Type 0) (failed : Bool)
    (reads reads' writes writes' faults faults' : ℕ)
    → Simulates old new (λ from to. PipedWith journal_handler limits budget outcome (kept readings content false from) (kept readings' content' failed to) told left had has)
    → HasCausesWith journal_handler outcome.end reads reads' writes writes' (counts false faults) (counts failed faults') → (e : JournalEnd) → e ≡ end-by failed outcome.end
    → Simulates old new (λ from to. (bytes : List ℕ) → told ≡ Some bytes → IsAnswered e
    (λ fails. record { limits = limits; from = kept readings content false from; to = kept readings' content' fails to; had = had; has = has })
    limits budget bytes left reads reads' writes writes' faults faults')
input-answered old new limits budget outcome readings readings' content content' told left had has failed reads reads' writes writes' faults faults' carries causes e is =
    carries_as old new (λ from to. PipedWith journal_handler limits budget outcome (kept readings content false from) (kept readings' content' failed to) told left had has)
    (λ from to. (bytes : List ℕ) → told ≡ Some bytes → IsAnswered e
    (λ fails. record { limits = limits; from = kept readings content false from; to = kept readings' content' fails to; had = had; has = has })
    limits budget bytes left reads reads' writes writes' faults faults')
    (λ from to piped bytes tells. subst (λ (x : JournalEnd). IsAnswered x
    (λ fails. record { limits = limits; from = kept readings content false from; to = kept readings' content' fails to; had = had; has = has })
    limits budget bytes left reads reads' writes writes' faults faults') (sym is)
    (answered-by limits (kept readings content false from) refl (λ fails. kept readings' content' fails to) (λ fails. refl) had has failed budget outcome bytes told left tells reads reads' writes writes' faults faults' piped causes))
    carries
