use Rattle.std.proofs.Common.{◌≡◌, ◌+◌, ◌-◌, sym, ◌∙◌, ap, length, drop, arith}
use Rattle.std.proofs.lemmas.List.{length-take-le, length-drop}
use Rattle.std.specs.Fmt.{decimal}
use Rattle.ts_spec.specs.Value.{shown_value}
use Rattle.ts_journal.proofs.AdditionLemmas.{twenty_digits, text_with_end, sample-text}
use Rattle.ts_journal.proofs.addition.write_sample.Goals as goal

pub write_digits-start-requires : goal.write_digits-start-requires
write_digits-start-requires c = (omega (arith, twenty_digits c.args.time c.ranges.time.fits), omega arith)

pub write_line-place-requires-2-clause-from : goal.write_line-place-requires-2-clause-from
write_line-place-requires-2-clause-from c = omega (arith, twenty_digits c.args.time c.ranges.time.fits)

pub write_ending_at-start-requires-clause-from : goal.write_ending_at-start-requires-clause-from
write_ending_at-start-requires-clause-from c = omega (arith, twenty_digits c.args.time c.ranges.time.fits)

pub returns-clause-text : goal.returns-clause-text
returns-clause-text c =
    let value = c.put_value-value in
    let from = value.result.start in
    let to = value.result.end in
    let written = value.new.room in
    let size : to - from ≡ length (shown_value c.args.value) = sym (length-take-le (to - from) (drop from written) (omega (arith, length-drop from written))) ∙ ap length value.ensures.text in
    sample-text (decimal c.args.time) (shown_value c.args.value) from (to - from) c.write_line-place.result c.write_ending_at-end.result c.write_digits-start.result
    c.write_line-place-2.result c.write_ending_at-start.result (to + 2)
    (drop from c.write_line_end.new.block)
    (drop c.write_line-place.result c.write_line-place.new.room)
    (drop c.write_ending_at-end.result c.write_ending_at-end.new.room)
    (drop c.write_digits-start.result c.write_digits-start.new.buf)
    (drop c.write_line-place-2.result c.write_line-place-2.new.room)
    (drop c.write_ending_at-start.result c.write_ending_at-start.new.room)
    (omega arith)
    (text_with_end written c.write_line_end.new.block (shown_value c.args.value) from to (omega arith) (omega arith) value.ensures.text c.write_line_end.ensures)
    size
    c.write_line-place.ensures.text c.write_line-place.ensures.start
    c.write_ending_at-end.ensures.text (omega (arith, c.write_ending_at-end.ensures.start))
    c.write_digits-start.ensures.written c.write_digits-start.ensures.start
    c.write_line-place-2.ensures.text c.write_line-place-2.ensures.start
    c.write_ending_at-start.ensures.text (omega (arith, c.write_ending_at-start.ensures.start))
