use Rattle.std.proofs.Common.{length, sym, ◌∙◌, inl, inr, ap}
use mir.Syntax.{w128}
use mir.Val.{SFits}
use Rattle.std.proofs.lemmas.Int.{to_z-of_z}
use Rattle.ts_spec.specs.Value.{is_negative}
use Rattle.ts_decimal.specs.Reading.{in_range_of}
use Rattle.ts_decimal.proofs.Values.{empty_from, some_from, value-empty, value-long, value-is, rounded-large, in_range-signed}
use Rattle.ts_decimal.proofs.reading.parse.Goals as goal

pub returns-then-is_empty : goal.returns-then-is_empty
returns-then-is_empty c =
    elim c.then-is_empty.either [
      | inl e ↦ sym (value-empty c.args.text.now (empty_from (length c.args.text.now) c.is_empty.result c.is_empty.ensures e))
      | inr w ↦ sym (value-long c.args.text.now w.1)
    ]

pub returns-in-Some : goal.returns-in-Some
returns-in-Some c =
    let s = rw c.split_sign-negative.ensures.rest at (c.in-Some.ensures.value (is_negative c.args.text.now)) in
    let v = value-is c.args.text.now (some_from (length c.args.text.now) c.is_empty.result c.is_empty.ensures c.if-is_empty.false) c.if-text-gt-MAX_TEXT_BYTES.false _ s.is in
    let fits : SFits w128 c.with_sign.result = record { sfits = c.with_sign.type_inv } in
    c.in_range.ensures
    ∙ ap in_range_of (to_z-of_z w128 c.with_sign.result fits ∙ c.with_sign.ensures)
    ∙ in_range-signed _ s.decimal c.from.result (c.split_sign-negative.ensures.negative ∙ s.sign) (s.nearest ∙ sym c.from.ensures)
    ∙ sym v

pub returns-in_default-read : goal.returns-in_default-read
returns-in_default-read c =
    let none = rw c.split_sign-negative.ensures.rest at (c.in_default-read.ensures.value (is_negative c.args.text.now)) in
    sym (value-is c.args.text.now (some_from (length c.args.text.now) c.is_empty.result c.is_empty.ensures c.if-is_empty.false) c.if-text-gt-MAX_TEXT_BYTES.false _ none)

pub returns-in_default-millionths : goal.returns-in_default-millionths
returns-in_default-millionths c =
    let s = rw c.split_sign-negative.ensures.rest at (c.in-Some-read.ensures.value (is_negative c.args.text.now)) in
    sym (value-is c.args.text.now (some_from (length c.args.text.now) c.is_empty.result c.is_empty.ensures c.if-is_empty.false) c.if-text-gt-MAX_TEXT_BYTES.false _ s.is
    ∙ rounded-large _ (c.in_default-millionths.ensures.value s.digits s.begin))

pub returns : goal.returns
returns c =
    let s = rw c.split_sign-negative.ensures.rest at (c.in-Some-read.ensures.value (is_negative c.args.text.now)) in
    let v = value-is c.args.text.now (some_from (length c.args.text.now) c.is_empty.result c.is_empty.ensures c.if-is_empty.false) c.if-text-gt-MAX_TEXT_BYTES.false _ s.is in
    let fits : SFits w128 c.with_sign-2.result = record { sfits = c.with_sign-2.type_inv } in
    c.in_range-2.ensures
    ∙ ap in_range_of (to_z-of_z w128 c.with_sign-2.result fits ∙ c.with_sign-2.ensures)
    ∙ in_range-signed _ _ _ c.split_sign-negative.ensures.negative (c.in-Some-millionths.ensures.value s.digits s.begin)
    ∙ sym v
