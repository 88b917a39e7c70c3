-- An input that was answered with a journal that did not fail.
use Rattle.std.specs.Prelude.{◌≢◌, Option, Some, IfSome}
use Rattle.std.proofs.Common.{◌≡◌, ◌⊎◌, inl, inr, Bool, true, false, ℕ, ◌+◌, ◌≤◌, List, [], ◌∷◌, refl, sym, ◌∙◌, ap, subst, arith}
use Rattle.ts_io.specs.Causes.{Rose}
use Rattle.ts_spec.specs.Run.{Runs}
use Rattle.ts_spec.specs.Wire.{Request}
use Rattle.ts_spec.specs.declared.wire.WireLimits.{WireLimits}
use Rattle.ts_execution.specs.Journaling.{Snapshot, IsJournaled, IsCut, JournalFaults, journal_handler, journaled}
use Rattle.ts_execution.specs.Handler.{LastRequest, was_handled, NoFault, AFault}
use Rattle.ts_engine.specs.declared.piped.End.{End}
use Rattle.ts_engine.specs.declared.piped.End.TheVariants as end
use Rattle.ts_engine.specs.declared.piped.Outcome.{Outcome}
use Rattle.ts_engine.specs.Answered.{InputAnswered}
use Rattle.ts_engine.specs.Headline.{Exchange}
use Rattle.ts_engine.specs.Piping.{beginning_of, PIECE, ReadAll, Ends, shown_at, is_of_input, PipedWith, HasCauses, HasCausesWith}
use Rattle.ts_engine.specs.Session.{Progress, HandledAll, HandledSome, LastReply, QuitReplied, CutFault}
use Rattle.ts_engine.specs.InputTaken.{WrittenAndTaken}
use Rattle.ts_engine.proofs.Answered.{answered_told}
use Rattle.ts_engine.proofs.Taking.{taken_by}

pub not_both : (failed : Bool) → failed ≡ false → failed ≡ true → ⊥
not_both failed fine is = (cc)

-- ---- requests

-- a journal that has not failed before a run has not failed after it
pub kept_runs : (from to : Snapshot) (requests : List Request) (text : List ℕ) → Runs IsJournaled from requests text to → to.failed ≡ from.failed
kept_runs from to [] text run = ap (λ (k : Snapshot). k.failed) run.1
kept_runs from to (request ∷ requests) text run = kept_runs run.mid to requests run.rest run.after ∙ run.here.failed

-- it has not failed, so the record of each request is in it
pub whole-kept : (from : Snapshot) (request : Request) (written : List ℕ) (kept : ℕ) (to : Snapshot) → to.failed ≡ false → IsCut from request written kept to → IsJournaled from request written to
whole-kept from request written kept to fine (inl is) = is
whole-kept from request written kept to fine (inr torn) = absurd (not_both to.failed fine torn.1.failed)

-- ---- how the requests were handled

abbrev same : Progress journal_handler → Progress journaled
same progress_over = record { reader = progress_over.reader; executed = progress_over.executed; world = progress_over.world }

module _ (old new : Progress journal_handler) (had has : List ℕ → Type 0) (bytes : List ℕ) where
  abbrev went_same : (tail : List ℕ) → HandledAll old new had has bytes tail → HandledAll (same old) (same new) had has bytes tail
  went_same tail went = record {
    done = went.done;
    text = went.text;
    stream = went.stream;
    run = went.run;
    goes_on = went.goes_on;
    grown = went.grown;
    executed = went.executed;
  }

  abbrev some_same : HandledSome old new had has bytes → HandledSome (same old) (same new) had has bytes
  some_same went = record {
    done = went.done;
    text = went.text;
    stream = went.stream;
    run = went.run;
    goes_on = went.goes_on;
    grown = went.grown;
    executed = went.executed;
  }

  abbrev last_same : (said : LastRequest journal_handler) (said' : LastRequest journaled) (cut : LastReply said old new had has bytes) → said' cut.mid cut.last.request cut.reply cut.kept new.world
      → LastReply said' (same old) (same new) had has bytes
  last_same said said' cut turned = record {
    done = cut.done;
    text = cut.text;
    mid = cut.mid;
    last = cut.last;
    reply = cut.reply;
    kept = cut.kept;
    stream = cut.stream;
    run = cut.run;
    goes_on = cut.goes_on;
    turned = turned;
    grown = cut.grown;
    executed = cut.executed;
  }

  abbrev read_same : (left : Option (List ℕ)) → ReadAll left old new had has bytes ⊎ QuitReplied old new had has bytes → ReadAll left (same old) (same new) had has bytes ⊎ QuitReplied (same old) (same new) had has bytes
  read_same left (inl all) = inl (record { went = went_same [] all.went; ended = all.ended; at_end = all.at_end })
  read_same left (inr quitted) = inr (record {
    reply = last_same (was_handled journal_handler) (was_handled journaled) quitted.reply quitted.reply.turned;
    whole = quitted.whole;
    asked = quitted.asked;
  })

  abbrev cut_same : new.world.failed ≡ false → LastReply journal_handler.cut old new had has bytes ⊎ CutFault old new had has bytes
      → LastReply journaled.cut (same old) (same new) had has bytes ⊎ CutFault (same old) (same new) had has bytes
  cut_same fine (inl cut) = inl (last_same journal_handler.cut journaled.cut cut (whole-kept cut.mid cut.last.request cut.reply cut.kept new.world fine cut.turned))
  cut_same fine (inr cut) = inr (record { fault = cut.fault; kept = cut.kept; went = went_same _ cut.went; broken = cut.broken })

  abbrev ends_same : (e : End) (left : Option (List ℕ)) → new.world.failed ≡ false → Ends e left old new had has bytes → Ends e left (same old) (same new) had has bytes
  ends_same end.Ended left fine ends = read_same left ends
  ends_same (end.Truncated place) left fine ends = (went_same [] ends.0, ends.1, ends.2)
  ends_same (end.Protocol fault) left fine ends = (went_same _ ends.0, ends.1)
  ends_same end.ReadFault left fine ends = (went_same [] ends.0, record { rest = ends.1.rest })
  ends_same end.WriteFault left fine ends = cut_same fine ends
  ends_same end.Memory left fine ends = some_same ends
  ends_same end.Budget left fine ends = (went_same [] ends.0, record { rest = ends.1.rest })

  shown_same : (e : End) (left : Option (List ℕ)) (fine : new.world.failed ≡ false) (ends : Ends e left old new had has bytes)
      → shown_at e left (same old) (same new) had has bytes (ends_same e left fine ends) ≡ shown_at e left old new had has bytes ends
  shown_same end.Ended left fine (inl all) = refl
  shown_same end.Ended left fine (inr quitted) = refl
  shown_same (end.Truncated place) left fine ends = refl
  shown_same (end.Protocol fault) left fine ends = refl
  shown_same end.ReadFault left fine ends = refl
  shown_same end.WriteFault left fine (inl cut) = refl
  shown_same end.WriteFault left fine (inr cut) = refl
  shown_same end.Memory left fine ends = refl
  shown_same end.Budget left fine ends = refl

  of_input_same : (e : End) (left : Option (List ℕ)) (fine : new.world.failed ≡ false) (ends : Ends e left old new had has bytes)
      → is_of_input e left (same old) (same new) had has bytes (ends_same e left fine ends) ≡ is_of_input e left old new had has bytes ends
  of_input_same end.Ended left fine (inl all) = refl
  of_input_same end.Ended left fine (inr quitted) = refl
  of_input_same (end.Truncated place) left fine ends = refl
  of_input_same (end.Protocol fault) left fine ends = refl
  of_input_same end.ReadFault left fine ends = refl
  of_input_same end.WriteFault left fine (inl cut) = refl
  of_input_same end.WriteFault left fine (inr cut) = refl
  of_input_same end.Memory left fine ends = refl
  of_input_same end.Budget left fine ends = refl

-- the journal did not fail, so every handled request has its record in it
pub unfailed : (limits : WireLimits) (budget : ℕ) (outcome : Outcome) (from to : Snapshot) (left rest : Option (List ℕ)) (had has : List ℕ → Type 0) → to.failed ≡ false
    → PipedWith journal_handler limits budget outcome from to left rest had has → PipedWith journaled limits budget outcome from to left rest had has
unfailed limits budget outcome from to left rest had has fine piped =
    let first : Progress journal_handler = beginning_of journal_handler limits from in
    let here : piped.last.world.failed ≡ false = ap (λ (k : Snapshot). k.failed) piped.world ∙ fine in
    record {
      bytes = piped.bytes;
      last = same piped.last;
      count = piped.count;
      within = piped.within;
      spent = piped.spent;
      took = piped.took;
      world = piped.world;
      executed = piped.executed;
      ends = ends_same first piped.last had has piped.bytes outcome.end rest here piped.ends;
      read_bound = subst (λ (o : Option ℕ). IfSome o (λ place. outcome.taken ≤ place + PIECE)) (sym (shown_same first piped.last had has piped.bytes outcome.end rest here piped.ends)) piped.read_bound;
      below = λ is. piped.below (sym (of_input_same first piped.last had has piped.bytes outcome.end rest here piped.ends) ∙ is);
    }

-- ---- counts of faults

-- a failed write was one of the output
write_failed : (writes writes' : ℕ) (own own' : JournalFaults) → own'.failed ≡ false → AFault journal_handler writes writes' own own' → (writes ≤ writes') × Rose writes writes' × (own' ≡ own)
write_failed writes writes' own own' fine (inl failed) = failed
write_failed writes writes' own own' fine (inr failed) = absurd (not_both own'.failed fine failed.1.failed)

no_fault : (writes writes' : ℕ) (own own' : JournalFaults) → NoFault journal_handler writes writes' own own' → (writes ≤ writes') × (own' ≡ own)
no_fault writes writes' own own' none = (omega (arith, none.0), none.1)

-- the output's counter did not fall, and the journal's did not change
unfailed_counts : (e : End) (writes writes' : ℕ) (own own' : JournalFaults) → own'.failed ≡ false → (e ≡ end.WriteFault → AFault journal_handler writes writes' own own')
    → (e ≢ end.WriteFault → NoFault journal_handler writes writes' own own') → (writes ≤ writes') × (own' ≡ own)
unfailed_counts end.WriteFault writes writes' own own' fine failed none =
    let wrote = write_failed writes writes' own own' fine (failed refl) in
    (wrote.0, wrote.2)
unfailed_counts end.Ended writes writes' own own' fine failed none = no_fault writes writes' own own' (none (λ is. (cc)))
unfailed_counts (end.Truncated place) writes writes' own own' fine failed none = no_fault writes writes' own own' (none (λ is. (cc)))
unfailed_counts (end.Protocol fault) writes writes' own own' fine failed none = no_fault writes writes' own own' (none (λ is. (cc)))
unfailed_counts end.ReadFault writes writes' own own' fine failed none = no_fault writes writes' own own' (none (λ is. (cc)))
unfailed_counts end.Memory writes writes' own own' fine failed none = no_fault writes writes' own own' (none (λ is. (cc)))
unfailed_counts end.Budget writes writes' own own' fine failed none = no_fault writes writes' own own' (none (λ is. (cc)))

-- the causes of an end are those of the plain handler, and the journal's counter did not change
pub unfailed_causes : (e : End) (reads reads' writes writes' : ℕ) (own own' : JournalFaults) → own'.failed ≡ false → HasCausesWith journal_handler e reads reads' writes writes' own own'
    → HasCauses e reads reads' writes writes' × (own'.count ≡ own.count)
unfailed_causes e reads reads' writes writes' own own' fine causes =
    let counts = unfailed_counts e writes writes' own own' fine causes.write causes.unwritten in (
      record {
        reads_later = causes.reads_later;
        writes_later = counts.0;
        read = causes.read;
        write = λ is. (write_failed writes writes' own own' fine (causes.write is)).1;
        unread = causes.unread;
        unwritten = λ is. (causes.unwritten is).0;
      },
      ap (λ (f : JournalFaults). f.count) counts.1,
    )

-- ---- a whole input

-- the journal did not fail: how an input whose bytes are known was answered
module _ (exchange : Exchange journaled) (budget : ℕ) (outcome : Outcome) (bytes : List ℕ) (told left : Option (List ℕ)) (tells : told ≡ Some bytes) (fine : exchange.to.failed ≡ false)
    (piped : PipedWith journal_handler exchange.limits budget outcome exchange.from exchange.to told left exchange.had exchange.has) where
  here : PipedWith journaled exchange.limits budget outcome exchange.from exchange.to told left exchange.had exchange.has
  here = unfailed exchange.limits budget outcome exchange.from exchange.to told left exchange.had exchange.has fine piped

  pub unfailed_answered : (reads reads' writes writes' : ℕ) (own own' : JournalFaults) → own'.failed ≡ false → HasCausesWith journal_handler outcome.end reads reads' writes writes' own own'
      → InputAnswered exchange budget bytes left outcome reads reads' writes writes'
  unfailed_answered reads reads' writes writes' own own' whole causes =
      answered_told exchange budget outcome reads reads' writes writes' (unfailed_causes outcome.end reads reads' writes writes' own own' whole causes).0 bytes left told tells here

  pub unfailed_taken : WrittenAndTaken exchange budget bytes left outcome.end
  unfailed_taken = taken_by exchange budget outcome bytes left told tells here
