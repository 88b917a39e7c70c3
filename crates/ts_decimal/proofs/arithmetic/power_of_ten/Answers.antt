use Rattle.std.proofs.Common.{◌<◌, refl, arith}
use Rattle.ts_decimal.specs.declared.arithmetic.TheConstants.{POWERS}
use Rattle.ts_decimal.proofs.Kept.{tens_positive}
use Rattle.ts_decimal.proofs.Tables.{table_at}
use Rattle.ts_decimal.proofs.arithmetic.power_of_ten.Goals as goal

pub returns : goal.returns
returns c =
    let within : c.args.k < 31 = omega arith in
    let value = table_at c.args.k POWERS refl within in record { value = value; positive = rw value (tens_positive c.args.k) }
