use Rattle.std.proofs.Common.{◌≡◌, subst, sym}
use Rattle.std.specs.List.{All}
use Rattle.ts_spec.specs.Encoded.{Fits}
use Rattle.ts_spec.specs.Wire.{Ended, stream_at, requests_of, ending_of}
use Rattle.ts_spec.specs.declared.limits.Limits.{Limits}
use Rattle.ts_gen.specs.Workload.{script, workload}
use Rattle.ts_gen.proofs.Fitting.{workload_fits}
use Rattle.ts_gen.proofs.laws.a_workload_reads_back.Goals as goal

pub returns-clause-requests : goal.returns-clause-requests
returns-clause-requests c = λ seed n few.
    subst (λ (l : Limits). requests_of (stream_at l.wire 0 (script seed n)) ≡ workload seed n) c.usual.ensures
    (c.encoded_requests_read_back.ensures.requests (workload seed n)
    (subst (λ (l : Limits). All (Fits l.wire) (workload seed n)) (sym c.usual.ensures) (workload_fits seed n few)))

pub returns-clause-ending : goal.returns-clause-ending
returns-clause-ending c = λ seed n few.
    subst (λ (l : Limits). ending_of (stream_at l.wire 0 (script seed n)) ≡ Ended) c.usual.ensures
    (c.encoded_requests_read_back.ensures.ending (workload seed n)
    (subst (λ (l : Limits). All (Fits l.wire) (workload seed n)) (sym c.usual.ensures) (workload_fits seed n few)))
