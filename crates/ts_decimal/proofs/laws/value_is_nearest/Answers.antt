use Rattle.ts_decimal.proofs.Nearness.{value_is_nearest, out_of_range_is_above, not_a_number_is_no_decimal}
use Rattle.ts_decimal.proofs.laws.value_is_nearest.Goals as goal

pub returns : goal.returns
returns c = record { nearest = value_is_nearest; range = out_of_range_is_above; number = not_a_number_is_no_decimal }
