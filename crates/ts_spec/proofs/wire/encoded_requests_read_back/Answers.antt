use Rattle.std.proofs.Common.{arith}
use Rattle.ts_spec.proofs.ReadBack.{requests-encoded}
use Rattle.ts_spec.proofs.wire.encoded_requests_read_back.Goals as goal

pub returns-clause-requests : goal.returns-clause-requests
returns-clause-requests c = λ requests fits. (requests-encoded c.args.limits requests 0 (omega arith) (omega arith) fits).0

pub returns-clause-ending : goal.returns-clause-ending
returns-clause-ending c = λ requests fits. (requests-encoded c.args.limits requests 0 (omega arith) (omega arith) fits).1
