use Rattle.std.proofs.Common.{arith}
use Rattle.std.proofs.lemmas.Int.{ints}
use Rattle.ts_restore.proofs.summary_parts.with_ends.Goals as goal

pub returns-clause-value : goal.returns-clause-value
returns-clause-value c = omega (arith, ints, c.requires, c.get.ensures.value, c.get.ensures.bounded, c.get-2.ensures.value, c.get-2.ensures.bounded)

pub returns-clause-bounded : goal.returns-clause-bounded
returns-clause-bounded c = omega (arith, ints, c.requires, c.get.ensures.value, c.get.ensures.bounded, c.get-2.ensures.value, c.get-2.ensures.bounded)
