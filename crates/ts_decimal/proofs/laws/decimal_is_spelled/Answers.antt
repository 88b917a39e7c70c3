use Rattle.ts_decimal.proofs.Spelling.{decimal_is_spelled}
use Rattle.ts_decimal.proofs.laws.decimal_is_spelled.Goals as goal

pub returns : goal.returns
returns c = decimal_is_spelled
