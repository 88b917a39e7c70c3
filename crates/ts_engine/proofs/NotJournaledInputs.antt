-- An input that was answered with a journal that failed.
use Rattle.std.specs.Prelude.{Option, Some}
use Rattle.std.proofs.Common.{◌≡◌, inl, inr, true, false, ℕ, ◌+◌, ◌≤◌, List, [], ◌++◌, length, take, refl, sym, ◌∙◌, ap, subst}
use Rattle.std.proofs.lemmas.List.{append-nil}
use Rattle.ts_io.specs.Causes.{Rose}
use Rattle.ts_spec.specs.Run.{Runs}
use Rattle.ts_spec.specs.Wire.{Request, stream_at}
use Rattle.ts_execution.specs.Journaling.{IsJournaled, IsCut, JournalFaults, journal_handler, journaled}
use Rattle.ts_execution.specs.Handler.{AFault}
use Rattle.ts_engine.specs.declared.piped.End.{End}
use Rattle.ts_engine.specs.declared.piped.End.TheVariants as end
use Rattle.ts_engine.specs.declared.piped.Outcome.{Outcome}
use Rattle.ts_engine.specs.Headline.{Exchange, LastCut, Writes, count_done}
use Rattle.ts_engine.specs.Piping.{PipedWith, HasCausesWith}
use Rattle.ts_engine.specs.InputTaken.{IsWithinPiece, place_after, ReadBound}
use Rattle.ts_engine.specs.NotJournaled.{NotJournaled, NotJournaledTaken}
use Rattle.ts_engine.proofs.Sessions.{grows_as}
use Rattle.ts_engine.proofs.Taking.{piped_alone, front_taken, writes_of, executed_of, near_of}
use Rattle.ts_engine.proofs.Unfailed.{not_both, kept_runs}

-- the same exchange, with the request at which the journal fails
abbrev in_keeping : Exchange journaled → Exchange journal_handler
in_keeping exchange = record { limits = exchange.limits; from = exchange.from; to = exchange.to; had = exchange.had; has = exchange.has }

-- what was written, by the end, is what is said of a failed journal
record IsUnkept (exchange : Exchange journaled) (bytes : List ℕ) (budget : ℕ) (left : Option (List ℕ)) (taken : ℕ) (e : End) (written : Writes (in_keeping exchange) budget bytes left e) : Type 0 where
  end : e ≡ end.WriteFault
  not_journaled : NotJournaled exchange bytes
  executed : count_done (in_keeping exchange) budget bytes left e written ≡ length not_journaled.done + 1
  read_bound : ReadBound (in_keeping exchange) bytes left budget e written taken → IsWithinPiece (place_after (stream_at exchange.limits 0 bytes) (length not_journaled.done)) taken

module _ (exchange : Exchange journaled) (fine : exchange.from.failed ≡ false) (failed : exchange.to.failed ≡ true) (bytes : List ℕ) (budget : ℕ) (left : Option (List ℕ)) (taken : ℕ) where
  -- not every request has its record in the journal
  not_kept : (requests : List Request) (text : List ℕ) → Runs IsJournaled exchange.from requests text exchange.to → ⊥
  not_kept requests text run = not_both exchange.to.failed (kept_runs exchange.from exchange.to requests text run ∙ fine) failed

  -- the last one has none
  unkept_last : (cut : LastCut (in_keeping exchange) bytes) → IsCut cut.mid cut.last cut.reply cut.kept exchange.to → IsUnkept exchange bytes budget left taken end.WriteFault (inl cut)
  unkept_last cut (inl turned) = absurd (not_both exchange.to.failed (turned.failed ∙ kept_runs exchange.from cut.mid cut.done cut.text cut.run ∙ fine) failed)
  unkept_last cut (inr turned) = record {
    end = refl;
    not_journaled = record {
      done = cut.done;
      last = cut.last;
      others = cut.others;
      first = cut.first;
      text = cut.text;
      mid = cut.mid;
      reply = cut.reply;
      run = cut.run;
      torn = turned.1;
      grown = grows_as exchange.had exchange.has (cut.text ++ take cut.kept cut.reply) cut.text
          (ap (λ (n : ℕ). cut.text ++ take n cut.reply) turned.0 ∙ append-nil cut.text) cut.grown;
    };
    executed = refl;
    read_bound = λ read_bound. read_bound;
  }

  unkept_by : (e : End) (written : Writes (in_keeping exchange) budget bytes left e) → IsUnkept exchange bytes budget left taken e written
  unkept_by end.Ended (inl all) = absurd (not_kept _ all.answered.text all.answered.run)
  unkept_by end.Ended (inr quitted) = absurd (not_kept _ quitted.0.text quitted.0.run)
  unkept_by (end.Truncated place) written = absurd (not_kept _ written.answered.text written.answered.run)
  unkept_by (end.Protocol fault) written = absurd (not_kept _ written.0.text written.0.run)
  unkept_by end.ReadFault written = absurd (not_kept _ written.answered.text written.answered.run)
  unkept_by end.Budget written = absurd (not_kept _ written.0.answered.text written.0.answered.run)
  unkept_by end.Memory written = absurd (not_kept written.done written.text written.run)
  unkept_by end.WriteFault (inl cut) = unkept_last cut cut.turned
  unkept_by end.WriteFault (inr cut) = absurd (not_kept _ cut.answered.text cut.answered.run)

-- the journal failed, and that ended the input
pub record EndedByJournal (exchange : Exchange journaled) (budget : ℕ) (outcome : Outcome) (bytes : List ℕ) (left : Option (List ℕ)) : Type 0 where
  pub end : outcome.end ≡ end.WriteFault
  pub all : NotJournaledTaken exchange budget bytes left
  pub executed : outcome.executed ≡ length all.not_journaled.done + 1

module _ (exchange : Exchange journaled) (budget : ℕ) (outcome : Outcome) (bytes : List ℕ) (left : Option (List ℕ)) (fine : exchange.from.failed ≡ false) (failed : exchange.to.failed ≡ true) where
  unkept_told : PipedWith journal_handler exchange.limits budget outcome exchange.from exchange.to (Some bytes) left exchange.had exchange.has → EndedByJournal exchange budget outcome bytes left
  unkept_told piped =
      let one : Exchange journal_handler = in_keeping exchange in
      let only = piped_alone journal_handler exchange.limits budget outcome exchange.from exchange.to (Some bytes) left exchange.had exchange.has piped in
      let is = unkept_by exchange fine failed bytes budget left (length piped.bytes) outcome.end (writes_of one budget outcome bytes left piped) in
      let alone = unkept_by exchange fine failed piped.bytes budget (Some []) (length piped.bytes) outcome.end (writes_of one budget outcome piped.bytes (Some []) only) in
      record {
        end = is.end;
        all = record {
          taken = front_taken journal_handler exchange.limits budget outcome exchange.from exchange.to bytes left exchange.had exchange.has piped;
          not_journaled = is.not_journaled;
          alone = alone.not_journaled;
          read_bound = is.read_bound (subst (λ (n : ℕ). ReadBound one bytes left budget outcome.end (writes_of one budget outcome bytes left piped) n) (sym piped.count) (near_of one budget outcome bytes left piped));
        };
        executed = executed_of one budget outcome bytes left piped ∙ is.executed;
      }

  pub unkept_of : (told : Option (List ℕ)) → told ≡ Some bytes → PipedWith journal_handler exchange.limits budget outcome exchange.from exchange.to told left exchange.had exchange.has
      → EndedByJournal exchange budget outcome bytes left
  unkept_of told tells piped = unkept_told (subst (λ (o : Option (List ℕ)). PipedWith journal_handler exchange.limits budget outcome exchange.from exchange.to o left exchange.had exchange.has) tells piped)

-- ---- counts of faults

-- the journal ended the input: its counter rose, and the others did not change
pub record HasJournalCause (e : End) (reads reads' writes writes' : ℕ) (own own' : JournalFaults) : Type 0 where
  pub end : e ≡ end.WriteFault
  pub unread : reads' ≡ reads
  pub unwritten : writes' ≡ writes
  pub later : own.count ≤ own'.count
  pub rose : Rose own.count own'.count

module _ (own own' : JournalFaults) (fine : own.failed ≡ false) (failed : own'.failed ≡ true) where
  changed : own' ≡ own → ⊥
  changed same = not_both own'.failed (ap (λ (f : JournalFaults). f.failed) same ∙ fine) failed

  by_journal : (reads reads' writes writes' : ℕ) → reads' ≡ reads → AFault journal_handler writes writes' own own' → HasJournalCause end.WriteFault reads reads' writes writes' own own'
  by_journal reads reads' writes writes' unread (inl wrote) = absurd (changed wrote.2)
  by_journal reads reads' writes writes' unread (inr journal) = record {
    end = refl;
    unread = unread;
    unwritten = journal.0;
    later = journal.1.later;
    rose = journal.1.rose;
  }

  pub failed_causes : (e : End) (reads reads' writes writes' : ℕ) → HasCausesWith journal_handler e reads reads' writes writes' own own' → HasJournalCause e reads reads' writes writes' own own'
  failed_causes end.WriteFault reads reads' writes writes' causes = by_journal reads reads' writes writes' (causes.unread (λ is. (cc))) (causes.write refl)
  failed_causes end.Ended reads reads' writes writes' causes = absurd (changed (causes.unwritten (λ is. (cc))).1)
  failed_causes (end.Truncated place) reads reads' writes writes' causes = absurd (changed (causes.unwritten (λ is. (cc))).1)
  failed_causes (end.Protocol fault) reads reads' writes writes' causes = absurd (changed (causes.unwritten (λ is. (cc))).1)
  failed_causes end.ReadFault reads reads' writes writes' causes = absurd (changed (causes.unwritten (λ is. (cc))).1)
  failed_causes end.Memory reads reads' writes writes' causes = absurd (changed (causes.unwritten (λ is. (cc))).1)
  failed_causes end.Budget reads reads' writes writes' causes = absurd (changed (causes.unwritten (λ is. (cc))).1)
