use Rattle.std.proofs.Common.{◌≤◌, ◌*◌, subst, sym, arith}
use Rattle.std.specs.Prelude.{ℤ, unsigned_abs}
use Rattle.std.proofs.lemmas.Int.{ints}
use Rattle.ts_spec.specs.Value.{bound}
use Rattle.ts_restore.proofs.Products.{times-code, times-small}
use Rattle.ts_restore.proofs.summary_parts.times.Goals as goal

pub returns-clause-value : goal.returns-clause-value
returns-clause-value c =
    let small : unsigned_abs c.args.value ≤ bound = omega (arith, ints, c.get.ensures.value, c.get.ensures.bounded) in
    times-code c.args.count c.from.result c.get.result c.args.value c.from.ensures c.get.ensures.value (omega (arith, c.requires)) small

pub returns-clause-bounded : goal.returns-clause-bounded
returns-clause-bounded c =
    let small : unsigned_abs c.args.value ≤ bound = omega (arith, ints, c.get.ensures.value, c.get.ensures.bounded) in
    subst (λ (z : ℤ). unsigned_abs z ≤ bound * c.args.count)
    (sym (times-code c.args.count c.from.result c.get.result c.args.value c.from.ensures c.get.ensures.value (omega (arith, c.requires)) small))
    (times-small c.args.count c.args.value small)
