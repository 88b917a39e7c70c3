use Rattle.std.proofs.Common.{◌≡◌, ◌/◌, ◌%◌, ◌^◌, ◌<◌, ◌++◌, List, ℕ, ℤ, pos, sym, ◌∙◌, ap, arith}
use Rattle.std.specs.Prelude.{int_lt, unsigned_abs}
use mir.Syntax.{w128}
use mir.Val.{SFits, to_z, of_z}
use Rattle.std.proofs.lemmas.Fmt.{length-decimal-le}
use Rattle.std.proofs.lemmas.Int.{to_z-of_z}
use Rattle.ts_spec.specs.Value.{shown_whole, shown_fraction}
use Rattle.ts_decimal.specs.Printing.{sign_text}
use Rattle.ts_decimal.proofs.Rooms.{printed, shown_value-parts}
use Rattle.ts_decimal.proofs.Texts.{shown_whole-decimal}
use Rattle.ts_decimal.proofs.printing.put_value.Goals as goal

pub write_digits-place-requires : goal.write_digits-place-requires
write_digits-place-requires c =
    let small : c.split_magnitude-whole.result.0 < 10 ^ 19 = omega arith in
    (omega (arith, length-decimal-le 19 c.split_magnitude-whole.result.0 (omega arith) small (omega arith)), omega arith)

pub write_sign-start-requires-clause-from : goal.write_sign-start-requires-clause-from
write_sign-start-requires-clause-from c =
    let small : c.split_magnitude-whole.result.0 < 10 ^ 19 = omega arith in
    omega (arith, length-decimal-le 19 c.split_magnitude-whole.result.0 (omega arith) small (omega arith))

pub returns-clause-from : goal.returns-clause-from
returns-clause-from c =
    let small : c.split_magnitude-whole.result.0 < 10 ^ 19 = omega arith in
    omega (arith, length-decimal-le 19 c.split_magnitude-whole.result.0 (omega arith) small (omega arith))

pub returns-clause-text : goal.returns-clause-text
returns-clause-text c =
    let fits : SFits w128 c.get-number.result = record { sfits = c.get-number.type_inv } in
    let same : to_z w128 (of_z w128 c.get-number.result) ≡ c.args.value = to_z-of_z w128 c.get-number.result fits ∙ c.get-number.ensures.value in
    let sign : List ℕ = sign_text (int_lt (to_z w128 (of_z w128 c.get-number.result)) (pos 0)) in
    let text : ℤ → ℕ → List ℕ = λ z n. sign_text (int_lt z (pos 0)) ++ (shown_whole (n / 1000000) ++ shown_fraction (n % 1000000)) in
    printed c.args.room.now c.write_fraction-end.new.room c.write_digits-place.new.buf c.write_sign-start.new.room _ _ _ c.write_sign-start.result c.write_digits-place.result c.args.point c.write_fraction-end.result
    (omega arith) c.write_fraction-end.ensures.from c.write_sign-start.ensures.start c.write_digits-place.ensures.start
    c.write_fraction-end.ensures.text c.write_digits-place.ensures.written c.write_sign-start.ensures.text
    ∙ ap (λ (t : List ℕ). sign ++ (t ++ shown_fraction c.split_magnitude-whole.result.1))
    (shown_whole-decimal c.split_magnitude-whole.result.0 (omega arith) ∙ ap shown_whole c.split_magnitude-whole.ensures.whole)
    ∙ ap (λ (n : ℕ). sign ++ (shown_whole (c.unsigned_abs.result / 1000000) ++ shown_fraction n)) c.split_magnitude-whole.ensures.part
    ∙ ap (text (to_z w128 (of_z w128 c.get-number.result))) c.unsigned_abs.ensures.value
    ∙ ap (λ z. text z (unsigned_abs z)) same
    ∙ sym (shown_value-parts c.args.value)
