-- Six numbers that are a summary are those of a running summary.
use Rattle.std.proofs.Common.{ℕ, zero, suc, ◌*◌, ◌≤◌, sym, ap, subst, arith}
use Rattle.std.specs.Prelude.{unsigned_abs}
use Rattle.std.proofs.lemmas.Int.{ints, to_z-of_z}
use mir.Syntax.{w128}
use mir.Val.{to_z, of_z}
use Rattle.ts_spec.specs.Value.{bound}
use Rattle.ts_spec.specs.Aggregate.{Summary}
use Rattle.ts_restore.specs.Summaries.{IsShortSummary, IsExactBy}
use Rattle.ts_restore.proofs.Laid.{some-exact}
use Rattle.ts_restore.proofs.Products.{times-small}
use Rattle.ts_agg.specs.Running.{IsSmall}
use Rattle.ts_agg.proofs.Results.{sum_fits}

-- its values are within their bound
pub record HasUnits (s : Summary) : Type 0 where
  pub least : unsigned_abs s.least ≤ bound
  pub greatest : unsigned_abs s.greatest ≤ bound
  pub first : unsigned_abs s.first ≤ bound
  pub last : unsigned_abs s.last ≤ bound

-- so is the sum, for the count
sum_small : (n : ℕ) (s : Summary) → HasUnits s → IsExactBy n s → unsigned_abs s.sum ≤ bound * n
sum_small zero s units exact = omega (arith, ap unsigned_abs exact.sum)
sum_small (suc zero) s units exact = omega (arith, ap unsigned_abs exact.sum, units.first)
sum_small (suc (suc n)) s units exact =
    omega (arith, ints, times-small n s.least units.least, times-small n s.greatest units.greatest, units.first, units.last, exact.reachable.from, exact.reachable.to)

pub short_small : (s : Summary) → HasUnits s → IsShortSummary s → IsSmall s.count s.sum
short_small s units short = record { few = short.few; within = sum_small s.count s units (some-exact s short.some) }

-- as the code has its sum
pub restored_small : (s : Summary) → HasUnits s → IsShortSummary s → IsSmall s.count (to_z w128 (of_z w128 s.sum))
restored_small s units short =
    let small = short_small s units short in
    subst (IsSmall s.count) (sym (to_z-of_z w128 s.sum (sum_fits s.count s.sum small))) small
