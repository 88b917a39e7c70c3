use Rattle.std.proofs.Common.{◌-◌, length}
use Rattle.ts_mux.specs.Headers.{AreDigits}
use Rattle.ts_mux.proofs.found_number.read_number.Given as goal

-- the bytes before `at` were parsed
abbrev pub invariant-loop-at : goal.invariant-loop-at
invariant-loop-at l = record { digits : AreDigits l.fn.least l.fn.most l.fn.last l.bytes l.fn.from l.at l.number }

abbrev pub decreases-loop-at : goal.decreases-loop-at
decreases-loop-at l = length l.bytes - l.at
