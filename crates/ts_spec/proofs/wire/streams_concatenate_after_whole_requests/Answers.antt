use Rattle.std.proofs.Common.{refl}
use Rattle.ts_spec.specs.Wire.{Start}
use Rattle.ts_spec.proofs.Concatenation.{concatenated}
use Rattle.ts_spec.proofs.wire.streams_concatenate_after_whole_requests.Goals as goal

pub returns : goal.returns
returns c = λ place bytes more e. concatenated c.args.limits place place Start bytes more refl e
