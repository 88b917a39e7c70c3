use Rattle.std.proofs.Common.{refl, arith, sym, ap, subst}
use Rattle.ts_spec.specs.State.{empty}
use Rattle.ts_spec.specs.StoredSeries.{StoredKeys}
use Rattle.ts_spec.specs.Represents.{RepresentsState}
use Rattle.ts_spec.proofs.StoredSteps.{empty-stands}
use Rattle.ts_db.specs.Store.{stored_by_key}
use Rattle.ts_db.proofs.Storing.{store-empty}
use Rattle.ts_db.proofs.db.Db.new.Goals as goal

pub returns-clause-stands : goal.returns-clause-stands
returns-clause-stands c = record {
  limits = refl;
  state = subst (λ (m : StoredKeys). RepresentsState c.args.limits m empty) (sym (ap (stored_by_key c.new.result) c.new-2.ensures.empty)) (empty-stands c.args.limits);
}

pub invariant_of-result : goal.invariant_of-result
invariant_of-result c = record {
  store = store-empty c.args.limits c.new.result c.new-2.result.entries c.new.ensures c.new-2.ensures.empty c.requires (omega arith);
  stands = record { to = record { limits = c.args.limits; state = empty }; done = tt; stands = returns-clause-stands c };
}
