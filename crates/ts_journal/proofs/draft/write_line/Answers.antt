use Rattle.std.proofs.Common.{arith}
use Rattle.ts_journal.proofs.AdditionLemmas.{twenty_digits}
use Rattle.ts_journal.proofs.draft.write_line.Goals as goal

pub write_digits-place-requires : goal.write_digits-place-requires
write_digits-place-requires c = (omega (arith, twenty_digits c.args.number c.ranges.number.fits), omega arith)

pub write_ending_at-requires-clause-from : goal.write_ending_at-requires-clause-from
write_ending_at-requires-clause-from c = omega (arith, twenty_digits c.args.number c.ranges.number.fits)

pub returns-clause-bound : goal.returns-clause-bound
returns-clause-bound c = omega (arith, twenty_digits c.args.number c.ranges.number.fits)
