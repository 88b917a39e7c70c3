use Rattle.std.proofs.Common.{arith}
use Rattle.ts_resp.proofs.LineLemmas.{one_digit_line, two_digit_line, digit_step}
use Rattle.ts_resp.proofs.line.short_line.Goals as goal

pub returns-then-second-eq13-clause-line : goal.returns-then-second-eq13-clause-line
returns-then-second-eq13-clause-line c =
    one_digit_line c.args.limit c.args.negative c.args.bytes.now c.in_ok-number.number (omega (arith, c.in-len4-up.len_at_least)) c.in_ok-number.ensures c.if-second-eq13.true

pub returns-clause-line : goal.returns-clause-line
returns-clause-line c =
    two_digit_line c.args.limit c.args.negative c.args.bytes.now c.in_ok-number.number c.in_ok-number-2.number (omega (arith, c.in-len4-up.len_at_least)) c.in_ok-number.ensures
    (digit_step c.args.limit c.args.negative c.in_ok-number.number c.in_ok-number-2.number _ c.if-second-eq13.false c.in_ok-number-2.ensures) c.if-third-ne13.false
