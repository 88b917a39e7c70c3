use Rattle.std.proofs.Common.{arith}
use Rattle.ts_range.proofs.last_values.advance_to_last.Goals as goal

pub loop-next-preserved : goal.loop-next-preserved
loop-next-preserved g c = record {
  within = omega (arith, c.open_next.ensures.told, c.in-Some.ensures.within);
  known = λ v lo hi same line is. c.open_next.ensures.current v lo hi same line (c.loop-next.invariant.known v lo hi same line is);
}
