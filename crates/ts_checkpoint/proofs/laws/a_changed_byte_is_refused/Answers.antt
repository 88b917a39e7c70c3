use Rattle.ts_checkpoint.proofs.ChangedBytes.{changed-refused}
use Rattle.ts_checkpoint.proofs.laws.a_changed_byte_is_refused.Goals as goal

pub returns : goal.returns
returns c = changed-refused
