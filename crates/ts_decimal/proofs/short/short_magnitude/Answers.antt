use Rattle.std.proofs.Common.{◌≡◌, ℕ, ◌+◌, ◌-◌, ◌*◌, ◌^◌, ◌≤◌, List, [], ◌∷◌, length, take, drop, sym, ap, subst, ◌∙◌, arith}
use Rattle.ts_spec.specs.Value.{POINT, digits, after_digits, number_after, decimal_of}
use Rattle.ts_decimal.specs.Reading.{IsRounded}
use Rattle.ts_decimal.proofs.FewBytes.{none_from, point_rest, start-room, small-number, product-small, pointed_rounded}
use Rattle.ts_decimal.proofs.Values.{empty_from}
use Rattle.ts_decimal.proofs.short.short_magnitude.Goals as goal

pub accumulate_digits-whole-requires : goal.accumulate_digits-whole-requires
accumulate_digits-whole-requires c = start-room (length c.args.text.now) c.if-text-gt-MAX_SHORT_BYTES.false

-- the digits make a product of at most eighteen digits
small : (c : goal.After-power_of_ten) → c.accumulate_digits-number.result.0 * c.power_of_ten.result ≤ 10 ^ 18
small c =
    rw c.power_of_ten.ensures.value
    (product-small c.accumulate_digits-number.result.0 (6 - length (take (length c.accumulate_digits-whole.result.1.now - 1) (drop 1 c.accumulate_digits-whole.result.1.now)))
    (small-number c.accumulate_digits-number.result.0 (length c.accumulate_digits-number.result.1.now) c.accumulate_digits-number.ensures.room) (omega arith))

pub overflow_mul-result-2 : goal.overflow_mul-result-2
overflow_mul-result-2 c = search (arith, small c)

pub returns-clause-small : goal.returns-clause-small
returns-clause-small c = small c

pub returns-clause-value : goal.returns-clause-value
returns-clause-value c = λ negative.
    let rest : List ℕ = c.accumulate_digits-whole.result.1.now in
    let part : List ℕ = take (length rest - 1) (drop 1 rest) in
    let left : length c.accumulate_digits-number.result.1.now ≡ 0 = empty_from _ c.is_empty-2.result c.is_empty-2.ensures c.if-not-is_empty.false in
    let begins : rest ≡ POINT ∷ part = point_rest rest c.in-len1-up.len_at_least c.if-point-ne46.false in
    let long : length rest ≡ length part + 1 = ap length begins ∙ omega arith in
    let none : after_digits part ≡ [] = sym c.accumulate_digits-number.ensures.rest ∙ none_from c.accumulate_digits-number.result.1.now left in
    let all : length (digits part) ≡ length part = omega (arith, c.accumulate_digits-number.ensures.count, left) in
    let some : 1 ≤ length (digits c.args.text.now) + length (digits part) = omega (arith, c.accumulate_digits-whole.ensures.count, long, all, c.if-text-eq1.false) in
    let number : c.accumulate_digits-number.result.0 ≡ number_after (number_after 0 (digits c.args.text.now)) (digits part) =
    c.accumulate_digits-number.ensures.number ∙ ap (λ n. number_after n (digits part)) c.accumulate_digits-whole.ensures.number in
    let places : length (digits part) + (6 - length part) ≡ 6 = omega (arith, all, c.if-part-gt-PLACES.false) in
    subst (λ (p : ℕ). IsRounded negative (c.accumulate_digits-number.result.0 * p) (decimal_of negative c.args.text.now)) (sym c.power_of_ten.ensures.value)
    (pointed_rounded negative c.args.text.now part c.accumulate_digits-number.result.0 (6 - length part) number
    (small-number c.accumulate_digits-number.result.0 (length c.accumulate_digits-number.result.1.now) c.accumulate_digits-number.ensures.room)
    (sym c.accumulate_digits-whole.ensures.rest ∙ begins) none some places)
