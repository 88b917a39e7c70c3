use Rattle.std.proofs.Common.{sym, subst}
use Rattle.std.specs.Prelude.{Option}
use Rattle.ts_sample.specs.Steps.{Takes}
use Rattle.ts_db.specs.Planning.{share_at}
use Rattle.ts_db.proofs.Planned.{planned-changed, planned-update_dest, planned-fits, planned-refused}
use Rattle.ts_db.specs.declared.node.Node.{Node}
use Rattle.ts_db.proofs.store.Store.plan_next.Goals as goal

pub returns-clause-changed : goal.returns-clause-changed
returns-clause-changed g c =
    planned-changed c.args.self.now.limits.samples c.args.self.now.nodes c.args.work c.args.source.now c.args.rule.now c.node-dest.result.now c.node-dest.ensures c.made_plan.result c.made_plan.ensures.planned

pub returns-clause-update_dest : goal.returns-clause-update_dest
returns-clause-update_dest g c =
    planned-update_dest c.args.self.now.limits.samples c.args.self.now.nodes c.args.work c.args.source.now c.args.rule.now c.node-dest.result.now c.node-dest.ensures c.made_plan.result c.made_plan.ensures.planned

pub returns-clause-fits : goal.returns-clause-fits
returns-clause-fits g c =
    planned-fits c.args.self.now.limits.samples c.args.self.now.nodes c.args.work c.args.source.now c.args.rule.now c.node-dest.result.now c.node-dest.ensures c.made_plan.result c.made_plan.ensures.planned

pub returns-clause-refused : goal.returns-clause-refused
returns-clause-refused g c =
    planned-refused c.args.self.now.limits.samples c.args.self.now.nodes c.args.work c.args.source.now c.args.rule.now c.node-dest.result.now c.node-dest.ensures c.made_plan.result c.made_plan.ensures.planned

pub made_plan-requires-clause-fits : goal.made_plan-requires-clause-fits
made_plan-requires-clause-fits g c = (c.requires.store.each c.args.rule.now.dest.0 c.node-dest.result.now c.node-dest.ensures).within

pub returns-clause-steps : goal.returns-clause-steps
returns-clause-steps g c = subst (λ (o : Option Node). Takes c.args.steps.now c.made_plan.new.steps (share_at c.args.work c.args.source.now c.args.rule.now o)) (sym c.node-dest.ensures) c.made_plan.ensures.steps
