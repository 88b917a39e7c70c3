use Rattle.std.proofs.Common.{◌≡◌, ◌<◌, ◌*◌, ◌+◌, ◌^◌, ◌++◌, ℕ, List, ◌∙◌, ap, sym, length, drop, get_or, rules, arith}
use Rattle.ts_chunk_packed.specs.Packed.{number}
use Rattle.ts_chunk_packed.proofs.Shortest.{no_part, last_one}
use Rattle.ts_chunk_packed.proofs.Ungrouping.{all_left, not_ended}
use Rattle.ts_chunk_packed.proofs.untrusted.read_number.Goals as goal

pub returns-then-is_empty-clause-none : goal.returns-then-is_empty-clause-none
returns-then-is_empty-clause-none c =
    let none : length c.args.bytes.now ≡ 0 = search rules in
    λ b. omega (arith, not_ended (2 ^ 113) c.args.bytes.now b, none)

pub returns-then-first-lt128-clause-is : goal.returns-then-first-lt128-clause-is
returns-then-first-lt128-clause-is c =
    let bytes = c.args.bytes.now in
    let some : 0 < length bytes = search rules in
    let first : 0 + get_or bytes 0 0 * 1 ≡ get_or bytes 0 0 = omega arith in
    last_one bytes 0 0 1 some (no_part bytes) (omega arith) (λ past. absurd (omega arith))
    ∙ ap (λ (n : ℕ). number n ++ drop 1 bytes) first ∙ ap (λ (r : List ℕ). number (get_or bytes 0 0) ++ r) (sym (all_left bytes 1))
