use Rattle.std.proofs.Common.{◌+◌, ◌^◌, ◌∙◌, arith}
use Rattle.ts_chunk_packed.proofs.Ungrouping.{all_left, started, within, number_done, left_after, read_on, still_within, sum_below, weight_below}
use Rattle.ts_chunk_packed.proofs.varint.read_long.Goals as goal

pub loop-at-init : goal.loop-at-init
loop-at-init c =
    let begun = started (2 ^ 64) c.args.bytes.now c.requires in
    record { inside = within (2 ^ 64) c.args.bytes.now 0 0 1 begun; reading = begun }

pub overflow_mul-number : goal.overflow_mul-number
overflow_mul-number c =
    let l = c.loop-at in
    omega (arith, sum_below (2 ^ 64) c.args.bytes.now l.at l.number l.weight l.invariant.inside l.invariant.reading (omega arith))

pub overflow_add-number : goal.overflow_add-number
overflow_add-number c =
    let l = c.loop-at in
    omega (arith, sum_below (2 ^ 64) c.args.bytes.now l.at l.number l.weight l.invariant.inside l.invariant.reading (omega arith))

pub overflow_mul-weight : goal.overflow_mul-weight
overflow_mul-weight c =
    let l = c.loop-at in
    omega (arith, weight_below (2 ^ 64) c.args.bytes.now l.at l.number l.weight l.invariant.inside l.invariant.reading (omega arith))

pub loop-at-preserved : goal.loop-at-preserved
loop-at-preserved c =
    let l = c.loop-at in
    record {
      inside = still_within (2 ^ 64) c.args.bytes.now l.at l.number l.weight l.invariant.inside l.invariant.reading (omega arith);
      reading = read_on (2 ^ 64) c.args.bytes.now l.at l.number l.weight l.invariant.inside l.invariant.reading (omega arith);
    }

pub returns : goal.returns
returns c =
    let l = c.loop-at in
    record {
      number = number_done (2 ^ 64) c.args.bytes.now l.at l.number l.weight l.invariant.inside l.invariant.reading (omega arith);
      rest = all_left c.args.bytes.now (l.at + 1) ∙ left_after (2 ^ 64) c.args.bytes.now l.at l.number l.weight l.invariant.inside l.invariant.reading (omega arith);
    }
