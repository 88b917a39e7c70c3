use Rattle.std.proofs.Common.{ℕ, ◌+◌, ◌*◌, ◌<◌, ◌≤◌, ◌++◌, ◌∙◌, sym, ap, List, arith, get_or}
use Rattle.ts_chunk_packed.specs.Packed.{number}
use Rattle.ts_chunk_packed.proofs.Shortest.{no_part, one_more, last_one, sum_small}
use Rattle.ts_chunk_packed.proofs.Ungrouping.{all_left}
use Rattle.ts_chunk_packed.proofs.untrusted.read_long.Goals.{else-byte-eq0-via-then-byte-eq0+else-at-gt0, else-byte-eq0-via-else-byte-eq0}
use Rattle.ts_chunk_packed.proofs.untrusted.read_long.Goals as goal

pub loop-at-init : goal.loop-at-init
loop-at-init c = record { small = omega arith; most = omega arith; part = no_part c.args.bytes.now }

pub loop-at-preserved : goal.loop-at-preserved
loop-at-preserved c =
    let l = c.loop-at in
    record {
      small = sum_small (get_or c.args.bytes.now l.at 0) l.number l.weight (omega (arith, c.type_inv.bytes l.at)) l.invariant.small;
      most = omega arith;
      part = one_more c.args.bytes.now l.at l.number l.weight (omega arith) l.invariant.part (omega arith) (omega (arith, c.type_inv.bytes l.at));
    }

pub returns-then-byte-lt128-clause-is : goal.returns-then-byte-lt128-clause-is
returns-then-byte-lt128-clause-is c =
    let l = c.loop-at in
    let some : 0 < l.at → 1 ≤ get_or c.args.bytes.now l.at 0 = λ past.
    elim c.else-byte-eq0.branch [
      | else-byte-eq0-via-then-byte-eq0+else-at-gt0 w ↦ absurd (omega arith)
      | else-byte-eq0-via-else-byte-eq0 w ↦ omega arith
    ] in
    last_one c.args.bytes.now l.at l.number l.weight (omega arith) l.invariant.part (omega arith) some
    ∙ ap (λ (r : List ℕ). number (l.number + get_or c.args.bytes.now l.at 0 * l.weight) ++ r) (sym (all_left c.args.bytes.now (l.at + 1)))
