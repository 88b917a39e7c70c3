use Rattle.ts_spec.specs.Wire.{Start}
use Rattle.ts_spec.proofs.StreamPrefixes.{read_on-front}
use Rattle.ts_spec.proofs.wire.a_stream_prefix_stays.Goals as goal

pub returns : goal.returns
returns c = λ place bytes more. read_on-front c.args.limits place place Start bytes more
