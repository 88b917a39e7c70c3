use Rattle.std.proofs.Common.{ℕ, ◌^◌, ◌+◌, ◌*◌, ◌<◌, ◌≤◌, ◌++◌, ◌∙◌, sym, ap, List, arith, get_or}
use Rattle.ts_chunk_packed.specs.Packed.{number}
use Rattle.ts_chunk_packed.proofs.Shortest.{no_part, one_more, last_one, sum_small}
use Rattle.ts_chunk_packed.proofs.Ungrouping.{all_left, weight_below, within}
use Rattle.ts_chunk_packed.proofs.untrusted.read_wide.Goals.{then-loop-at-test+else-weight, else-loop-at-test, else-at-gt0-via-then-at-gt0+else-byte-eq0, else-at-gt0-via-else-at-gt0}
use Rattle.ts_chunk_packed.proofs.untrusted.read_wide.Goals as goal

pub loop-at-init : goal.loop-at-init
loop-at-init c = record { small = omega arith; most = omega arith; part = no_part c.args.bytes.now; light = λ b. omega arith }

pub loop-at-preserved : goal.loop-at-preserved
loop-at-preserved c =
    let l = c.loop-at in
    record {
      small = sum_small (get_or c.args.bytes.now l.at 0) l.number l.weight (omega (arith, c.type_inv.bytes l.at)) l.invariant.small;
      most = omega arith;
      part = one_more c.args.bytes.now l.at l.number l.weight (omega arith) l.invariant.part (omega arith) (omega (arith, c.type_inv.bytes l.at));
      light = λ b. weight_below (2 ^ 113) c.args.bytes.now l.at l.number l.weight (omega arith) (l.invariant.part.reading b) (omega arith);
    }

pub returns-then-byte-lt128-clause-is : goal.returns-then-byte-lt128-clause-is
returns-then-byte-lt128-clause-is c =
    let l = c.loop-at in
    let some : 0 < l.at → 1 ≤ get_or c.args.bytes.now l.at 0 = λ past.
    elim c.else-at-gt0.branch [
      | else-at-gt0-via-then-at-gt0+else-byte-eq0 w ↦ omega arith
      | else-at-gt0-via-else-at-gt0 w ↦ absurd (omega arith)
    ] in
    last_one c.args.bytes.now l.at l.number l.weight (omega arith) l.invariant.part (omega arith) some
    ∙ ap (λ (r : List ℕ). number (l.number + get_or c.args.bytes.now l.at 0 * l.weight) ++ r) (sym (all_left c.args.bytes.now (l.at + 1)))

pub returns-clause-none : goal.returns-clause-none
returns-clause-none c =
    let l = c.loop-at in
    λ b. elim c.loop-at-test.branch [
      | then-loop-at-test+else-weight w ↦ (let light = l.invariant.light b in absurd (omega arith))
      | else-loop-at-test w ↦ (let inside = within (2 ^ 113) c.args.bytes.now l.at l.number l.weight (l.invariant.part.reading b) in absurd (omega arith))
    ]
