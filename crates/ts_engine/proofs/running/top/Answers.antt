use Rattle.std.proofs.Common.{◌≡◌, ◌∙◌, ap, subst, ℕ, true, map, arith}
use Rattle.std.proofs.lemmas.List.{length-map}
use Rattle.std.specs.String.{string_bytes}
use Rattle.ts_spec.specs.State.{empty}
use Rattle.std.specs.Prelude.{List}
use Rattle.ts_words.specs.declared.mode.Storage.{Storage}
use Rattle.ts_words.specs.declared.mode.Storage.TheVariants as storage
use Rattle.ts_words.specs.declared.status.Status.{Status}
use Rattle.ts_engine.specs.declared.piped.End.TheVariants as end
use Rattle.ts_engine.specs.HostEnds.{has_journal, host_address}
use Rattle.ts_engine.specs.Hosted.{EndsInMemory, EndsOver, Hosted}
use Rattle.ts_engine.specs.Status.{status_of, place_of}
use Rattle.ts_engine.specs.Top.{Reports}
use Rattle.ts_engine.proofs.Links.{same_links, all_served_as}
use Rattle.ts_engine.proofs.Spending.{by_budget}
use Rattle.ts_engine.proofs.Taking.{piped_taken, piped_writes}
use Rattle.ts_engine.proofs.Tops.{keep-words, fold-words, same-storage, by_grammar, answered_as, as_meant, not_meant, answered_or_memory}
use Rattle.ts_engine.proofs.running.top.Goals as goal

pub returns-in-Some-Pipe-clause-status_line : goal.returns-in-Some-Pipe-clause-status_line
returns-in-Some-Pipe-clause-status_line g c = λ is_pipe. record {
  ended = c.pipe-outcome.result.end;
  reported = subst (λ (s : Status). Reports s (place_of c.pipe-outcome.result.end) c.report.result (g.E.Sink.has c.args.err.now) (g.E.Sink.has c.report.new.err)) c.status.ensures
      (subst (λ (p : ℕ). Reports c.status.result p c.report.result (g.E.Sink.has c.args.err.now) (g.E.Sink.has c.report.new.err)) c.place.ensures c.report.ensures.reported);
  quiet = λ is. c.report.ensures.good (c.status.ensures ∙ ap status_of is);
}

pub returns-in-Some-Pipe-clause-taken : goal.returns-in-Some-Pipe-clause-taken
unfolding returns-in-Some-Pipe-clause-status_line
returns-in-Some-Pipe-clause-taken g c = λ is_pipe bytes told.
    let carried = c.pipe-outcome.ensures.piped (record { limits = c.args.limits; state = empty }) c.new-db.ensures.stands in
    let reports = returns-in-Some-Pipe-clause-status_line g c is_pipe in
    piped_taken _ carried.to c.args.budget c.pipe-outcome.result bytes (g.S.Source.left c.pipe-outcome.new.input) _ told carried.done _ _ c.report.result reports.reported reports.quiet

pub returns-in-Some-Pipe-clause-headline : goal.returns-in-Some-Pipe-clause-headline
returns-in-Some-Pipe-clause-headline g c = λ is_pipe bytes told. (returns-in-Some-Pipe-clause-taken g c is_pipe bytes told).headline

pub returns-in-Some-Pipe-clause-complete : goal.returns-in-Some-Pipe-clause-complete
returns-in-Some-Pipe-clause-complete g c = λ is_pipe bytes told below none.
    let carried = c.pipe-outcome.ensures.piped (record { limits = c.args.limits; state = empty }) c.new-db.ensures.stands in
    let meant = answered_as c.status.result c.report.result _ _ c.report.ensures.cause c.report.ensures.same none.2 ∙ c.status.ensures in
    as_meant _ c.report.result _ meant
    (by_grammar _ c.args.budget bytes _ c.pipe-outcome.result.end _ _ _ _ (piped_writes _ c.args.budget c.pipe-outcome.result bytes _ _ told carried.done) c.pipe-outcome.ensures.causes below none.0 none.1)

pub returns-in-Some-Pipe-clause-spent : goal.returns-in-Some-Pipe-clause-spent
returns-in-Some-Pipe-clause-spent g c = λ is_pipe bytes told enough none.
    let carried = c.pipe-outcome.ensures.piped (record { limits = c.args.limits; state = empty }) c.new-db.ensures.stands in
    let meant = answered_as c.status.result c.report.result _ _ c.report.ensures.cause c.report.ensures.same none.2 ∙ c.status.ensures in
    as_meant _ c.report.result _ meant
    (by_budget _ c.args.budget c.pipe-outcome.result bytes _ _ told carried.done _ _ _ _ c.pipe-outcome.ensures.causes enough none.0 none.1)

pub returns-in-Some-Pipe-clause-no_read_fault : goal.returns-in-Some-Pipe-clause-no_read_fault
returns-in-Some-Pipe-clause-no_read_fault g c = λ no_read no_write.
    let other = not_meant status_of c.pipe-outcome.result.end end.ReadFault c.status.result c.report.result
    c.status.ensures c.report.ensures.same no_write no_read in
    c.pipe-outcome.ensures.causes.unread other

pub returns-in-Some-Pipe-clause-no_write_fault : goal.returns-in-Some-Pipe-clause-no_write_fault
returns-in-Some-Pipe-clause-no_write_fault g c = λ no_write.
    let other = not_meant status_of c.pipe-outcome.result.end end.WriteFault c.status.result c.report.result
    c.status.ensures c.report.ensures.same no_write no_write in
    (c.pipe-outcome.ensures.causes.unwritten other, c.report.ensures.no_fault no_write)

pub returns-in-Some-Gen-clause-gen_complete : goal.returns-in-Some-Gen-clause-gen_complete
returns-in-Some-Gen-clause-gen_complete g c = λ is_gen no_write no_error.
    answered_or_memory c.answer_workload.result c.answer_workload.ensures.statuses c.answer_workload.ensures.write_fault no_write no_error

pub returns-in-Some-Serve-clause-serve_complete : goal.returns-in-Some-Serve-clause-serve_complete
returns-in-Some-Serve-clause-serve_complete g c = λ links is no_accept no_write.
    all_served_as _ _ c.args.budget c.in-Some-Serve.links links _ _ _ _ c.serve_address.result (same_links _ c.in-Some-Serve.links links (rw c.in-Some-Serve.field-0-is at c.in-Some-Serve.ensures.mode) is)
    (c.serve_address.ensures.complete no_accept no_write)

-- `keep` has a second argument
pub bounds-words-1-in-Some-Keep : goal.bounds-words-1-in-Some-Keep
bounds-words-1-in-Some-Keep g c =
    omega (arith, keep-words (map string_bytes c.args.words.now) (rw c.in-Some-Keep.field-0-is at c.in-Some-Keep.ensures.mode), length-map c.args.words.now string_bytes)

pub bounds-words-1-in-Some-Fold : goal.bounds-words-1-in-Some-Fold
bounds-words-1-in-Some-Fold g c =
    omega (arith, fold-words (map string_bytes c.args.words.now) (rw c.in-Some-Fold.field-0-is at c.in-Some-Fold.ensures.mode), length-map c.args.words.now string_bytes)

-- the address is that of the arguments, and the storage that of the mode
pub returns-in-Some-Host-clause-hosted : goal.returns-in-Some-Host-clause-hosted
returns-in-Some-Host-clause-hosted g c = λ kept_in is has journal told.
    let same = same-storage (map string_bytes c.args.words.now) c.in-Some-Host.storage kept_in (rw c.in-Some-Host.field-0-is at c.in-Some-Host.ensures.mode) is in
    subst (λ (s : Storage). has_journal s ≡ true → Hosted (EndsOver (record { address = host_address c.args.words.now; budget = c.args.budget; seen = record { limits = c.args.limits; readings = g.C.Clock.readings c.args.clock.now; readings_left = g.C.Clock.readings c.answer_host.new.clock; had = g.K.Sink.has c.args.out.now; has = g.K.Sink.has c.answer_host.new.out }; coming = g.H.Hub.coming c.args.hub.now; coming_left = g.H.Hub.coming c.answer_host.new.hub; out = g.H.Hub.out c.args.hub.now; out_left = g.H.Hub.out c.answer_host.new.hub; same_hub = c.answer_host.new.hub ≡ c.args.hub.now; same_output = c.answer_host.new.out ≡ c.args.out.now; same_clock = c.answer_host.new.clock ≡ c.args.clock.now }) journal (g.J.Log.content c.answer_host.new.log)) (record { hub = g.H.Hub.last_cause c.answer_host.new.hub; log = g.J.Log.last_cause c.answer_host.new.log }) (g.E.Sink.has c.args.err.now) (g.E.Sink.has c.answer_host.new.err) c.answer_host.result) same
    (λ kept. subst (λ (l : List ℕ). Hosted (EndsOver (record { address = l; budget = c.args.budget; seen = record { limits = c.args.limits; readings = g.C.Clock.readings c.args.clock.now; readings_left = g.C.Clock.readings c.answer_host.new.clock; had = g.K.Sink.has c.args.out.now; has = g.K.Sink.has c.answer_host.new.out }; coming = g.H.Hub.coming c.args.hub.now; coming_left = g.H.Hub.coming c.answer_host.new.hub; out = g.H.Hub.out c.args.hub.now; out_left = g.H.Hub.out c.answer_host.new.hub; same_hub = c.answer_host.new.hub ≡ c.args.hub.now; same_output = c.answer_host.new.out ≡ c.args.out.now; same_clock = c.answer_host.new.clock ≡ c.args.clock.now }) journal (g.J.Log.content c.answer_host.new.log)) (record { hub = g.H.Hub.last_cause c.answer_host.new.hub; log = g.J.Log.last_cause c.answer_host.new.log }) (g.E.Sink.has c.args.err.now) (g.E.Sink.has c.answer_host.new.err) c.answer_host.result)
    c.host_address.ensures (c.answer_host.ensures.hosted kept journal told)) has

pub returns-in-Some-Host-clause-hosted_in_memory : goal.returns-in-Some-Host-clause-hosted_in_memory
returns-in-Some-Host-clause-hosted_in_memory g c = λ is.
    let same = same-storage (map string_bytes c.args.words.now) c.in-Some-Host.storage storage.Memory (rw c.in-Some-Host.field-0-is at c.in-Some-Host.ensures.mode) is in
    subst (λ (l : List ℕ). Hosted (EndsInMemory (record { address = l; budget = c.args.budget; seen = record { limits = c.args.limits; readings = g.C.Clock.readings c.args.clock.now; readings_left = g.C.Clock.readings c.answer_host.new.clock; had = g.K.Sink.has c.args.out.now; has = g.K.Sink.has c.answer_host.new.out }; coming = g.H.Hub.coming c.args.hub.now; coming_left = g.H.Hub.coming c.answer_host.new.hub; out = g.H.Hub.out c.args.hub.now; out_left = g.H.Hub.out c.answer_host.new.hub; same_hub = c.answer_host.new.hub ≡ c.args.hub.now; same_output = c.answer_host.new.out ≡ c.args.out.now; same_clock = c.answer_host.new.clock ≡ c.args.clock.now })) (record { hub = g.H.Hub.last_cause c.answer_host.new.hub; log = g.J.Log.last_cause c.answer_host.new.log }) (g.E.Sink.has c.args.err.now) (g.E.Sink.has c.answer_host.new.err) c.answer_host.result)
    c.host_address.ensures (c.answer_host.ensures.hosted_in_memory same)
