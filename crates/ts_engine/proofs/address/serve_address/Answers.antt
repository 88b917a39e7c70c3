use Rattle.std.proofs.Common.{◌∙◌, ap, subst, arith}
use Rattle.ts_spec.specs.State.{empty}
use Rattle.ts_words.specs.declared.status.Status.{Status}
use Rattle.ts_engine.specs.Asked.{status_served}
use Rattle.ts_engine.specs.declared.serving.Served.TheVariants as served
use Rattle.ts_engine.specs.Top.{Reports}
use Rattle.ts_engine.proofs.Links.{done_by, serves_as, serves_fault, serves_from}
use Rattle.ts_engine.proofs.Tops.{not_meant}
use Rattle.ts_engine.proofs.address.serve_address.Goals as goal

pub returns-in-Ok-clause-served : goal.returns-in-Ok-clause-served
returns-in-Ok-clause-served g c =
    let carried = c.serve-served.ensures.serves (record { limits = c.args.options.now.limits; state = empty }) c.new-db.ensures.stands in
    record {
      served = c.serve-served.result;
      held = carried.to;
      serves = serves_from _ _ _ c.serve-served.result 1 c.args.options.now.links _ _ _ _ _ _ _ _ _ _ c.in-Ok.ensures.coming c.in-Ok.ensures.closed carried.done;
      reported = subst (λ (s : Status). Reports s 0 c.report.result (g.E.Sink.has c.args.err.now) (g.E.Sink.has c.report.new.err)) c.status_served.ensures c.report.ensures.reported;
      quiet = λ is. c.report.ensures.good (c.status_served.ensures ∙ ap status_served is);
    }

pub returns-in-Ok-clause-complete : goal.returns-in-Ok-clause-complete
returns-in-Ok-clause-complete g c = λ no_accept no_write.
    let carried = c.serve-served.ensures.serves (record { limits = c.args.options.now.limits; state = empty }) c.new-db.ensures.stands in
    let is = done_by c.serve-served.result (λ is. no_accept (omega (arith, c.serve-served.ensures.accept_fault is, c.in-Ok.ensures.cause))) (λ is. no_write (c.serve-served.ensures.write_fault is)) in
    record {
      good = c.report.ensures.good (c.status_served.ensures ∙ ap status_served is);
      held = carried.to;
      serves = serves_as _ _ _ c.serve-served.result served.Done 1 c.args.options.now.links _ _ _ _ _ _ _ _ is
          (serves_from _ _ _ c.serve-served.result 1 c.args.options.now.links _ _ _ _ _ _ _ _ _ _ c.in-Ok.ensures.coming c.in-Ok.ensures.closed carried.done);
    }

pub returns-in-Ok-clause-no_accept_fault : goal.returns-in-Ok-clause-no_accept_fault
returns-in-Ok-clause-no_accept_fault g c = λ no_accept no_write.
    let other = not_meant status_served c.serve-served.result served.AcceptFault c.status_served.result c.report.result
    c.status_served.ensures c.report.ensures.same no_write no_accept in
    omega (arith, c.serve-served.ensures.no_accept_fault other, c.in-Ok.ensures.cause)

pub returns-in-Ok-clause-no_write_fault : goal.returns-in-Ok-clause-no_write_fault
returns-in-Ok-clause-no_write_fault g c = λ no_write.
    let other = not_meant status_served c.serve-served.result served.WriteFault c.status_served.result c.report.result
    c.status_served.ensures c.report.ensures.same no_write no_write in
    (c.serve-served.ensures.no_write_fault other, c.report.ensures.no_fault no_write)

-- the address could not be opened
pub returns-in-Err-clause-served : goal.returns-in-Err-clause-served
returns-in-Err-clause-served g c = record {
  served = served.AcceptFault;
  held = record { limits = c.args.options.now.limits; state = empty };
  serves = serves_fault _ _ _ 1 c.args.options.now.links _ _ _ _ _ _ c.requires.links c.in-Err.ensures.coming c.in-Err.ensures.closed;
  reported = c.report-in-Err.ensures.reported;
  quiet = λ is. absurd (cc is);
}
