use Rattle.std.proofs.Common.{◌≡◌, ℕ, ◌+◌, ◌*◌, ◌^◌, ◌+ℤ◌, List, sym, ap, ◌∙◌, subst, arith}
use Rattle.std.proofs.lemmas.Int.{ints}
use Rattle.ts_chunk_packed.specs.Packed.{number_of, unzigzag}
use Rattle.ts_chunk_packed.specs.Reading.{Begins}
use Rattle.ts_chunk_packed.proofs.Ungrouping.{all_left, number_done, started, within, read_on, still_within, small_still, higher_begins}
use Rattle.ts_chunk_packed.proofs.coding.value_after_long.Goals as goal

pub loop-weight-init : goal.loop-weight-init
loop-weight-init c =
    let begun = started (2 ^ 120) c.args.bytes.now c.requires.begins in
    record { inside = within (2 ^ 120) c.args.bytes.now 0 0 1 begun; reading = begun; small = omega arith; most = omega arith }

pub loop-weight-preserved : goal.loop-weight-preserved
loop-weight-preserved c =
    let l = c.loop-weight in
    record {
      inside = still_within (2 ^ 120) c.args.bytes.now l.at l.number l.weight l.invariant.inside l.invariant.reading (omega arith);
      reading = read_on (2 ^ 120) c.args.bytes.now l.at l.number l.weight l.invariant.inside l.invariant.reading (omega arith);
      small = small_still (2 ^ 120) c.args.bytes.now l.at l.number l.weight l.invariant.inside l.invariant.reading (omega (arith, c.type_inv.bytes l.at)) l.invariant.small;
      most = omega arith;
    }

pub read-higher-requires : goal.read-higher-requires
read-higher-requires c =
    let l = c.loop-weight in
    subst (Begins (2 ^ 64)) (sym (all_left c.args.bytes.now l.at))
    (higher_begins (2 ^ 120) c.args.bytes.now l.at l.number l.weight l.invariant.inside l.invariant.reading (2 ^ 56) (2 ^ 64) (omega arith) (omega arith))

pub returns-then-byte-lt128-clause-value : goal.returns-then-byte-lt128-clause-value
returns-then-byte-lt128-clause-value c =
    let l = c.loop-weight in
    let whole = number_done (2 ^ 120) c.args.bytes.now l.at l.number l.weight l.invariant.inside l.invariant.reading (omega arith) in
    omega (arith, ints, c.add_narrow.ensures, ap (λ (n : ℕ). c.args.from +ℤ unzigzag n) whole)

pub returns-clause-value : goal.returns-clause-value
returns-clause-value c =
    let l = c.loop-weight in
    let higher = c.read-higher.ensures.number ∙ ap (λ (x : List ℕ). (number_of x).0) (all_left c.args.bytes.now l.at) in
    let whole : l.number + c.read-higher.result.0 * l.weight ≡ (number_of c.args.bytes.now).0 = omega (arith, ap (λ (n : ℕ). l.weight * n) higher, l.invariant.reading.worth) in
    omega (arith, ints, c.add_wide.ensures, ap (λ (n : ℕ). c.args.from +ℤ unzigzag n) whole)
