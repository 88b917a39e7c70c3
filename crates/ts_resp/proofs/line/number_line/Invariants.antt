use Rattle.std.proofs.Common.{◌≡◌, drop}
use Rattle.ts_spec.specs.Wire.Line.{Blank}
use Rattle.ts_resp.specs.Lines.{after, line_of, number_line as line_at}
use Rattle.ts_resp.proofs.line.number_line.Given as goal

-- the line so far, with what the other bytes make of it, is the line of all of them
abbrev pub invariant-loop-at : goal.invariant-loop-at
invariant-loop-at l =
    after l.at (line_at l.limit l.negative (line_of l.line) (drop l.at l.bytes)) ≡ line_at l.limit l.negative Blank l.bytes
