use Rattle.std.proofs.Common.{ℕ, ◌∙◌, ap, subst}
use Rattle.std.specs.Prelude.{Some}
use Rattle.ts_spec.specs.State.{empty}
use Rattle.ts_words.specs.declared.mode.Mode.TheVariants as mode
use Rattle.ts_words.specs.declared.status.Status.{Status}
use Rattle.ts_engine.specs.declared.capture_run.CaptureEnd.TheVariants as end
use Rattle.ts_engine.specs.Captured.{status_of, place_of}
use Rattle.ts_engine.specs.Top.{ReportsIn}
use Rattle.ts_engine.proofs.Captures.{captured_told, by_capture, never}
use Rattle.ts_engine.proofs.Tops.{answered_as, as_meant, not_meant}
use Rattle.ts_engine.proofs.capture.answer_capture.Goals as goal

pub returns-clause-line : goal.returns-clause-line
returns-clause-line g c = record {
  ended = c.capture_session-end.result;
  reported = subst (λ (s : Status). ReportsIn (Some mode.Mux) s (place_of c.capture_session-end.result) c.report_in.result (g.E.Sink.has c.args.err.now) (g.E.Sink.has c.report_in.new.err)) c.status.ensures
      (subst (λ (p : ℕ). ReportsIn (Some mode.Mux) c.status.result p c.report_in.result (g.E.Sink.has c.args.err.now) (g.E.Sink.has c.report_in.new.err)) c.place.ensures c.report_in.ensures.reported);
  quiet = λ is. c.report_in.ensures.good (c.status.ensures ∙ ap status_of is);
}

pub returns-clause-captured : goal.returns-clause-captured
unfolding returns-clause-line
returns-clause-captured g c = λ bytes told.
    let carried = c.capture_session-end.ensures.capture_ran (record { limits = c.args.limits; state = empty }) c.new-db.ensures.stands in
    let reports = returns-clause-line g c in
    captured_told _ carried.to c.args.budget c.capture_session-end.result bytes (g.S.Source.left c.capture_session-end.new.input) _ told carried.done _ _ c.report_in.result reports.reported reports.quiet

pub returns-clause-complete : goal.returns-clause-complete
returns-clause-complete g c = λ bytes told none.
    let carried = c.capture_session-end.ensures.capture_ran (record { limits = c.args.limits; state = empty }) c.new-db.ensures.stands in
    let meant = answered_as c.status.result c.report_in.result _ _ c.report_in.ensures.cause c.report_in.ensures.same none.2 ∙ c.status.ensures in
    as_meant _ c.report_in.result _ meant
    (by_capture _ c.args.budget c.capture_session-end.result bytes _ _ told carried.done _ _ _ _ c.capture_session-end.ensures.causes none.0 none.1)

pub returns-clause-no_usage : goal.returns-clause-no_usage
returns-clause-no_usage g c = λ is. (never c.capture_session-end.result c.status.result c.report_in.result c.status.ensures c.report_in.ensures.same).no_usage is

pub returns-clause-no_accept : goal.returns-clause-no_accept
returns-clause-no_accept g c = λ is. (never c.capture_session-end.result c.status.result c.report_in.result c.status.ensures c.report_in.ensures.same).no_accept is

pub returns-clause-no_read_fault : goal.returns-clause-no_read_fault
returns-clause-no_read_fault g c = λ no_read no_write.
    let other = not_meant status_of c.capture_session-end.result end.ReadFault c.status.result c.report_in.result
    c.status.ensures c.report_in.ensures.same no_write no_read in
    c.capture_session-end.ensures.causes.unread other

pub returns-clause-no_write_fault : goal.returns-clause-no_write_fault
returns-clause-no_write_fault g c = λ no_write.
    let other = not_meant status_of c.capture_session-end.result end.WriteFault c.status.result c.report_in.result
    c.status.ensures c.report_in.ensures.same no_write no_write in
    (c.capture_session-end.ensures.causes.unwritten other, c.report_in.ensures.no_fault no_write)

pub returns-clause-no_journal : goal.returns-clause-no_journal
returns-clause-no_journal g c = λ is. (never c.capture_session-end.result c.status.result c.report_in.result c.status.ensures c.report_in.ensures.same).no_journal is

pub returns-clause-no_broken_journal : goal.returns-clause-no_broken_journal
returns-clause-no_broken_journal g c = λ is. (never c.capture_session-end.result c.status.result c.report_in.result c.status.ensures c.report_in.ensures.same).no_broken is
