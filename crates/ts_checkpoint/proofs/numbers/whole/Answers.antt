use Rattle.std.proofs.Common.{◌<◌, ◌≤◌, ◌^◌, arith}
use Rattle.std.proofs.Math.Nat.{pow-le-pow_right}
use Rattle.ts_checkpoint.proofs.numbers.whole.Goals as goal

pub overflow_mul-total : goal.overflow_mul-total
overflow_mul-total c =
    let ten : 0 < 10 = omega arith in
    let within : c.loop-byte.byte-index ≤ 37 = omega arith in
    let before : 10 ^ c.loop-byte.byte-index ≤ 10 ^ 37 = pow-le-pow_right ten within in
    omega arith

pub overflow_add-total : goal.overflow_add-total
overflow_add-total c =
    let ten : 0 < 10 = omega arith in
    let within : c.loop-byte.byte-index ≤ 37 = omega arith in
    let before : 10 ^ c.loop-byte.byte-index ≤ 10 ^ 37 = pow-le-pow_right ten within in
    omega arith

pub returns-clause-small : goal.returns-clause-small
returns-clause-small c =
    let ten : 0 < 10 = omega arith in
    let within : c.loop-byte.byte-index ≤ 38 = omega arith in
    let before : 10 ^ c.loop-byte.byte-index ≤ 10 ^ 38 = pow-le-pow_right ten within in
    omega arith
