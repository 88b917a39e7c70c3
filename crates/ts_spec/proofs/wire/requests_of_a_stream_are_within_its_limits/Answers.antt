use Rattle.ts_spec.specs.Wire.{Start}
use Rattle.ts_spec.proofs.Within.{requests-within}
use Rattle.ts_spec.proofs.wire.requests_of_a_stream_are_within_its_limits.Goals as goal

pub returns : goal.returns
returns c = λ place bytes. requests-within c.args.limits place place Start bytes tt
