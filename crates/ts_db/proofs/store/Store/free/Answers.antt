use Rattle.std.proofs.Common.{List, subst}
use Rattle.std.specs.Vec.Iter.{into_iter_items}
use Rattle.ts_rules.specs.declared.rule.Rule.{Rule}
use Rattle.ts_db.proofs.Freed.{Freeing, freed-one}
use Rattle.ts_db.proofs.store.Store.free.Goals as goal

pub loop-rule-preserved : goal.loop-rule-preserved
loop-rule-preserved c = record {
  store = c.set_source.ensures.store;
  goes_on = freed-one c.args.self.now c.loop-rule.self c.set_source.new.self c.args.rules.items c.in-Some.rule (into_iter_items c.next.new.self)
      (subst (λ (rs : List Rule). Freeing c.args.self.now c.loop-rule.self c.args.rules.items rs) c.in-Some.ensures.steps.0 c.loop-rule.invariant.goes_on) c.loop-rule.invariant.store
      c.set_source.ensures.store c.set_source.ensures.elsewhere c.set_source.ensures.set;
}
