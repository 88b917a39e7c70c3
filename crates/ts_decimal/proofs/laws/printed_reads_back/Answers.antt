use Rattle.ts_decimal.proofs.ReadBack.{value_of_shown}
use Rattle.ts_decimal.proofs.laws.printed_reads_back.Goals as goal

pub returns : goal.returns
returns c = value_of_shown
