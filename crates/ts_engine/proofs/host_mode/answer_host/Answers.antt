use Rattle.std.proofs.Common.{ℕ, ◌≡◌, ⊎_elim, inl, inr, ◌∙◌, ap, subst}
use Rattle.ts_words.specs.declared.fault_causes.LastCauses.{LastCauses}
use Rattle.ts_words.specs.declared.status.Status.{Status}
use Rattle.ts_words.specs.declared.status.Status.TheVariants as status
use Rattle.ts_engine.specs.HostEnds.{status_of, place_of}
use Rattle.ts_engine.specs.Top.{ReportsHost}
use Rattle.ts_engine.proofs.HostLoads.{status-from, status-over}
use Rattle.ts_engine.proofs.HostStatuses.{never, only-journal}
use Rattle.ts_engine.proofs.Tops.{answered_as, as_meant, given-as, not-given}
use Rattle.ts_engine.proofs.host_mode.answer_host.Goals as goal

pub returns-clause-line : goal.returns-clause-line
returns-clause-line g c = record {
  ended = c.host-end.result;
  reported = subst (λ (w : LastCauses). ReportsHost w (status_of c.host-end.result) (place_of c.host-end.result) c.report_host.result (g.E.Sink.has c.args.err.now) (g.E.Sink.has c.report_host.new.err)) c.last_causes-causes.ensures
      (subst (λ (s : Status). ReportsHost c.last_causes-causes.result s (place_of c.host-end.result) c.report_host.result (g.E.Sink.has c.args.err.now) (g.E.Sink.has c.report_host.new.err)) c.status.ensures
      (subst (λ (p : ℕ). ReportsHost c.last_causes-causes.result c.status.result p c.report_host.result (g.E.Sink.has c.args.err.now) (g.E.Sink.has c.report_host.new.err)) c.place.ensures c.report_host.ensures.reported));
  quiet = λ is. c.report_host.ensures.good (c.status.ensures ∙ ap status_of is);
}

pub returns-clause-hosted : goal.returns-clause-hosted
unfolding returns-clause-line
returns-clause-hosted g c = λ kept_in journal has.
    let line = returns-clause-line g c in
    record { ended = line.ended; did = c.host-end.ensures.over kept_in journal has; reported = line.reported; quiet = line.quiet }

pub returns-clause-hosted_in_memory : goal.returns-clause-hosted_in_memory
unfolding returns-clause-line
returns-clause-hosted_in_memory g c = λ kept_in.
    let line = returns-clause-line g c in
    record { ended = line.ended; did = c.host-end.ensures.in_memory kept_in; reported = line.reported; quiet = line.quiet }

pub returns-clause-complete : goal.returns-clause-complete
returns-clause-complete g c = λ kept_in journal steps has told below none no_error.
    let meant = answered_as c.status.result c.report_host.result _ _ c.report_host.ensures.cause c.report_host.ensures.same no_error ∙ c.status.ensures in
    as_meant _ c.report_host.result _ meant
    (status-over _ _ _ steps told below none journal _ c.host-end.result (c.host-end.ensures.over kept_in journal has) c.host-end.ensures.causes)

pub returns-clause-complete_in_memory : goal.returns-clause-complete_in_memory
returns-clause-complete_in_memory g c = λ kept_in steps told below none no_error.
    let meant = answered_as c.status.result c.report_host.result _ _ c.report_host.ensures.cause c.report_host.ensures.same no_error ∙ c.status.ensures in
    as_meant _ c.report_host.result _ meant
    (status-from _ _ _ steps told below none _ _ c.host-end.result (c.host-end.ensures.in_memory kept_in) c.host-end.ensures.causes)

pub returns-clause-no_usage : goal.returns-clause-no_usage
returns-clause-no_usage g c = λ is. (never c.args.options.now.storage c.host-end.result c.status.result c.report_host.result c.host-end.ensures.possible c.status.ensures c.report_host.ensures.same).no_usage is

pub returns-clause-no_capture : goal.returns-clause-no_capture
returns-clause-no_capture g c = λ is. (never c.args.options.now.storage c.host-end.result c.status.result c.report_host.result c.host-end.ensures.possible c.status.ensures c.report_host.ensures.same).no_capture is

pub returns-clause-no_read_fault : goal.returns-clause-no_read_fault
returns-clause-no_read_fault g c = λ is. (never c.args.options.now.storage c.host-end.result c.status.result c.report_host.result c.host-end.ensures.possible c.status.ensures c.report_host.ensures.same).no_read_fault is

pub returns-clause-only_journal : goal.returns-clause-only_journal
returns-clause-only_journal g c = λ told.
    only-journal c.args.options.now.storage c.host-end.result c.status.result c.report_host.result c.host-end.ensures.possible c.host-end.ensures.unused c.status.ensures c.report_host.ensures.same told

pub returns-clause-accept_fault : goal.returns-clause-accept_fault
returns-clause-accept_fault g c = λ is.
    c.host-end.ensures.causes.hub (given-as _ status.AcceptFault c.status.result c.report_host.result (λ same. (cc)) is c.status.ensures c.report_host.ensures.same)

pub returns-clause-write_fault : goal.returns-clause-write_fault
returns-clause-write_fault g c = λ is.
    ⊎_elim (λ (meant : c.status.result ≡ status.WriteFault). inl (c.host-end.ensures.causes.lines (rw c.status.ensures at meant)))
    (λ rose. inr rose) (c.report_host.ensures.cause is)

pub returns-clause-journal_fault : goal.returns-clause-journal_fault
returns-clause-journal_fault g c = λ is.
    c.host-end.ensures.causes.journal (given-as _ status.JournalFault c.status.result c.report_host.result (λ same. (cc)) is c.status.ensures c.report_host.ensures.same)

pub returns-clause-no_accept_fault : goal.returns-clause-no_accept_fault
returns-clause-no_accept_fault g c = λ no_accept no_write.
    c.host-end.ensures.causes.no_hub (not-given _ status.AcceptFault c.status.result c.report_host.result c.status.ensures c.report_host.ensures.same no_write no_accept)

pub returns-clause-no_write_fault : goal.returns-clause-no_write_fault
returns-clause-no_write_fault g c = λ no_write. (
  c.host-end.ensures.causes.no_lines (not-given _ status.WriteFault c.status.result c.report_host.result c.status.ensures c.report_host.ensures.same no_write no_write),
  c.report_host.ensures.no_fault no_write,
)

pub returns-clause-no_journal_fault : goal.returns-clause-no_journal_fault
returns-clause-no_journal_fault g c = λ no_journal no_write.
    c.host-end.ensures.causes.no_journal (not-given _ status.JournalFault c.status.result c.report_host.result c.status.ensures c.report_host.ensures.same no_write no_journal)
