use Rattle.std.proofs.Common.{◌≡◌, ◌+◌, ◌-◌, ◌^◌, ◌<◌, ◌≤◌, ◌++◌, ◌∷◌, [], List, ℕ, length, take, drop, sym, ◌∙◌, ap, arith}
use Rattle.std.proofs.lemmas.Fmt.{decimal_digit, length-decimal-le}
use Rattle.std.proofs.lemmas.List.{take-take, length-take, length-drop}
use Rattle.std.specs.Fmt.{decimal}
use Rattle.ts_spec.specs.Text.{CRLF, line_text, shown_cell}
use Rattle.ts_resp.specs.Replies.{value_of}
use Rattle.ts_resp.proofs.PairLemmas.{text_with_end, behind_three, pair_text}
use Rattle.ts_resp.proofs.parts.write_pair.Goals as goal

twenty_digits : (n : ℕ) → n < 2 ^ 64 → length (decimal n) ≤ 20
twenty_digits n h = length-decimal-le 20 n (omega arith) (omega arith) h

pub write_digits-start-requires : goal.write_digits-start-requires
write_digits-start-requires c = (omega (arith, twenty_digits c.args.number c.ranges.number.fits), omega arith)

pub write_before-start-requires-2-clause-from : goal.write_before-start-requires-2-clause-from
write_before-start-requires-2-clause-from c = omega (arith, twenty_digits c.args.number c.ranges.number.fits)

pub add_front-requires-clause-front : goal.add_front-requires-clause-front
add_front-requires-clause-front c = simp (length-take, length-drop) (omega (arith, twenty_digits c.args.number c.ranges.number.fits))

pub returns-clause-bytes : goal.returns-clause-bytes
returns-clause-bytes c =
    let out = c.args.out.now.bytes in
    let from = c.write_before-start-2.result in
    let value = shown_cell (value_of c.args.cell) in
    let number = decimal c.args.number in
    let line : take (c.write_cell-value.result.end + 2 - c.write_cell-value.result.start) (drop c.write_cell-value.result.start c.write_line_end.new.block) ≡ value ++ CRLF =
    text_with_end c.write_cell-value.new.block c.write_line_end.new.block value CRLF c.write_cell-value.result.start c.write_cell-value.result.end (omega arith) (omega arith) (omega arith)
    c.write_cell-value.ensures.text c.write_line_end.ensures in
    c.add_front.ensures.bytes
    ∙ ap (λ (l : List ℕ). out ++ l)
    (take-take (c.write_cell-value.result.end + 2 - from) (from + 64 - from) (drop from c.write_before-start-2.new.block) (omega (arith, twenty_digits c.args.number c.ranges.number.fits))
    ∙ behind_three (42 ∷ 50 ∷ 13 ∷ 10 ∷ 58 ∷ []) number (13 ∷ 10 ∷ 43 ∷ []) c.write_line_end.new.block (value ++ CRLF)
    c.write_before-start-2.new.block c.write_digits-start.new.buf c.write_before-start.new.block
    from c.write_digits-start.result c.write_before-start.result c.write_cell-value.result.start (c.write_cell-value.result.end + 2) (omega arith)
    c.write_before-start-2.ensures.start c.write_digits-start.ensures.start c.write_before-start.ensures.start
    c.write_before-start-2.ensures.text c.write_digits-start.ensures.written c.write_before-start.ensures.text line
    ∙ pair_text number value
    ∙ ap (λ (l : List ℕ). line_text 42 l ++ (line_text 58 number ++ (line_text 43 value ++ []))) (sym (decimal_digit 2 (omega arith))))

pub returns-clause-room : goal.returns-clause-room
returns-clause-room c = omega (arith, twenty_digits c.args.number c.ranges.number.fits, c.add_front.ensures.room)

pub returns-clause-total : goal.returns-clause-total
returns-clause-total c = c.add_front.ensures.total
