use Rattle.std.proofs.Common.{◌≡◌, ◌*◌, ◌^◌, ◌<◌, ◌≤◌, true, false, ◌∙◌, ap, pos, ◌+ℤ◌, ◌-ℤ◌, arith}
use Rattle.std.specs.Prelude.{unsigned_abs, int_lt, int_rem}
use mir.Syntax.{w128}
use Rattle.std.proofs.lemmas.Int.{to_z-of_z}
use Rattle.ts_decimal.proofs.Quotients.{quotient_read, rest_read, count_read, rounds_toward, rounds_below, rounds_above, given_back, mean_of}
use Rattle.ts_decimal.proofs.arithmetic.div_round.Goals as goal

pub returns-then-rest-unsigned_abs : goal.returns-then-rest-unsigned_abs
returns-then-rest-unsigned_abs c =
    let small : c.args.count < 2 ^ 64 = omega arith in
    let quotient = quotient_read c.args.sum c.from-count.result c.args.count c.ranges.sum c.from-count.ensures c.requires small in
    let rest = c.unsigned_abs-rest.ensures.value ∙ ap unsigned_abs (rest_read c.args.sum c.from-count.result c.args.count c.ranges.sum c.from-count.ensures c.requires small) in
    let whole = c.unsigned_abs.ensures.value ∙ ap unsigned_abs (count_read c.from-count.result c.args.count c.from-count.ensures small) in
    let less : 2 * unsigned_abs (int_rem c.args.sum (pos c.args.count)) < c.args.count = omega arith in
    let value = quotient ∙ rounds_toward c.args.sum c.args.count c.requires less in
    record { value = value; mean = mean_of c.args.sum _ c.args.count c.requires value }

pub returns-then-sum-lt0 : goal.returns-then-sum-lt0
returns-then-sum-lt0 c =
    let small : c.args.count < 2 ^ 64 = omega arith in
    let quotient = quotient_read c.args.sum c.from-count.result c.args.count c.ranges.sum c.from-count.ensures c.requires small in
    let rest = c.unsigned_abs-rest.ensures.value ∙ ap unsigned_abs (rest_read c.args.sum c.from-count.result c.args.count c.ranges.sum c.from-count.ensures c.requires small) in
    let whole = c.unsigned_abs.ensures.value ∙ ap unsigned_abs (count_read c.from-count.result c.args.count c.from-count.ensures small) in
    let half : c.args.count ≤ 2 * unsigned_abs (int_rem c.args.sum (pos c.args.count)) = omega arith in
    let below : int_lt c.args.sum (pos 0) ≡ true = rw (to_z-of_z w128 c.args.sum c.ranges.sum) at c.if-sum-lt0.true in
    let value = given_back c.args.sum _ c.args.count c.requires c.ranges.sum (ap (λ q. q -ℤ pos 1) quotient ∙ rounds_below c.args.sum c.args.count c.requires half below) in
    record { value = value; mean = mean_of c.args.sum _ c.args.count c.requires value }

pub returns-else-sum-lt0 : goal.returns-else-sum-lt0
returns-else-sum-lt0 c =
    let small : c.args.count < 2 ^ 64 = omega arith in
    let quotient = quotient_read c.args.sum c.from-count.result c.args.count c.ranges.sum c.from-count.ensures c.requires small in
    let rest = c.unsigned_abs-rest.ensures.value ∙ ap unsigned_abs (rest_read c.args.sum c.from-count.result c.args.count c.ranges.sum c.from-count.ensures c.requires small) in
    let whole = c.unsigned_abs.ensures.value ∙ ap unsigned_abs (count_read c.from-count.result c.args.count c.from-count.ensures small) in
    let half : c.args.count ≤ 2 * unsigned_abs (int_rem c.args.sum (pos c.args.count)) = omega arith in
    let above : int_lt c.args.sum (pos 0) ≡ false = rw (to_z-of_z w128 c.args.sum c.ranges.sum) at c.if-sum-lt0.false in
    let value = given_back c.args.sum _ c.args.count c.requires c.ranges.sum (ap (λ q. q +ℤ pos 1) quotient ∙ rounds_above c.args.sum c.args.count c.requires half above) in
    record { value = value; mean = mean_of c.args.sum _ c.args.count c.requires value }
