use Rattle.std.proofs.Common.{ℕ, ◌≡◌, ⊎_elim, inl, inr, ◌∙◌, ap, subst}
use Rattle.std.specs.Prelude.{Some}
use Rattle.ts_words.specs.declared.mode.Mode.TheVariants as mode
use Rattle.ts_words.specs.declared.status.Status.{Status}
use Rattle.ts_words.specs.declared.status.Status.TheVariants as status
use Rattle.ts_engine.specs.Journaled.{status_of, place_of}
use Rattle.ts_engine.specs.Top.{ReportsIn}
use Rattle.ts_engine.proofs.JournaledRuns.{never}
use Rattle.ts_engine.proofs.Tops.{answered_as, as_meant, given-as, not-given}
use Rattle.ts_engine.proofs.keep.answer_journaled.Goals as goal

pub returns-clause-line : goal.returns-clause-line
returns-clause-line g c = record {
  ended = c.keep-end.result;
  reported = subst (λ (s : Status). ReportsIn (Some mode.Keep) s (place_of c.keep-end.result) c.report_in.result (g.E.Sink.has c.args.err.now) (g.E.Sink.has c.report_in.new.err)) c.status.ensures
      (subst (λ (p : ℕ). ReportsIn (Some mode.Keep) c.status.result p c.report_in.result (g.E.Sink.has c.args.err.now) (g.E.Sink.has c.report_in.new.err)) c.place.ensures c.report_in.ensures.reported);
  quiet = λ is. c.report_in.ensures.good (c.status.ensures ∙ ap status_of is);
}

pub returns-clause-journaled : goal.returns-clause-journaled
unfolding returns-clause-line
returns-clause-journaled g c = λ journal bytes has told.
    let line = returns-clause-line g c in
    record { ended = line.ended; did = c.keep-end.ensures.did journal bytes has told; reported = line.reported; quiet = line.quiet }

pub returns-clause-complete : goal.returns-clause-complete
returns-clause-complete g c = λ journal bytes has told none no_fault.
    let meant = answered_as c.status.result c.report_in.result _ _ c.report_in.ensures.cause c.report_in.ensures.same none.2 ∙ c.status.ensures in
    as_meant _ c.report_in.result _ meant (c.keep-end.ensures.complete journal bytes has told none.0 none.1 no_fault)

pub returns-clause-no_usage : goal.returns-clause-no_usage
returns-clause-no_usage g c = λ is. (never c.keep-end.result c.status.result c.report_in.result c.status.ensures c.report_in.ensures.same).no_usage is

pub returns-clause-no_accept : goal.returns-clause-no_accept
returns-clause-no_accept g c = λ is. (never c.keep-end.result c.status.result c.report_in.result c.status.ensures c.report_in.ensures.same).no_accept is

pub returns-clause-no_capture : goal.returns-clause-no_capture
returns-clause-no_capture g c = λ is. (never c.keep-end.result c.status.result c.report_in.result c.status.ensures c.report_in.ensures.same).no_capture is

pub returns-clause-read_fault : goal.returns-clause-read_fault
returns-clause-read_fault g c = λ is.
    c.keep-end.ensures.causes.read (given-as _ status.ReadFault c.status.result c.report_in.result (λ same. (cc)) is c.status.ensures c.report_in.ensures.same)

pub returns-clause-write_fault : goal.returns-clause-write_fault
returns-clause-write_fault g c = λ is.
    ⊎_elim (λ (meant : c.status.result ≡ status.WriteFault). inl (c.keep-end.ensures.causes.write (rw c.status.ensures at meant)))
    (λ rose. inr rose) (c.report_in.ensures.cause is)

pub returns-clause-journal_fault : goal.returns-clause-journal_fault
returns-clause-journal_fault g c = λ is.
    c.keep-end.ensures.causes.failed (given-as _ status.JournalFault c.status.result c.report_in.result (λ same. (cc)) is c.status.ensures c.report_in.ensures.same)

pub returns-clause-no_read_fault : goal.returns-clause-no_read_fault
returns-clause-no_read_fault g c = λ no_read no_write.
    c.keep-end.ensures.causes.unread (not-given _ status.ReadFault c.status.result c.report_in.result c.status.ensures c.report_in.ensures.same no_write no_read)

pub returns-clause-no_write_fault : goal.returns-clause-no_write_fault
returns-clause-no_write_fault g c = λ no_write. (
  c.keep-end.ensures.causes.unwritten (not-given _ status.WriteFault c.status.result c.report_in.result c.status.ensures c.report_in.ensures.same no_write no_write),
  c.report_in.ensures.no_fault no_write,
)

pub returns-clause-no_journal_fault : goal.returns-clause-no_journal_fault
returns-clause-no_journal_fault g c = λ no_journal no_write.
    c.keep-end.ensures.causes.unfailed (not-given _ status.JournalFault c.status.result c.report_in.result c.status.ensures c.report_in.ensures.same no_write no_journal)
