use Rattle.ts_restore.proofs.CheckNumbers.{changed_byte}
use Rattle.ts_restore.proofs.laws.a_changed_byte_changes_the_check_number.Goals as goal

pub returns : goal.returns
returns c = changed_byte
