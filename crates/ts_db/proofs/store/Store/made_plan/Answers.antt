use Rattle.std.proofs.Common.{sym, subst}
use Rattle.ts_rules.specs.Rules.{stored_rule_for}
use Rattle.ts_rules.specs.Plans.{IsPlanned}
use Rattle.ts_db.specs.declared.planning.SourceChange.{SourceChange}
use Rattle.ts_db.specs.Planning.{changed_by, gone_by, rows_by_change}
use Rattle.ts_db.proofs.Planned.{deletion-named}
use Rattle.ts_db.proofs.store.Store.made_plan.Goals as goal

pub returns-in-Delete-clause-planned : goal.returns-in-Delete-clause-planned
returns-in-Delete-clause-planned g c = λ k.
    subst (λ (work : SourceChange). IsPlanned c.args.self.now.limits.samples (changed_by work c.args.source.now) (gone_by work c.args.source.now (stored_rule_for k c.args.rule.now))
    (rows_by_change work c.args.source.now c.args.dest.now.born (stored_rule_for k c.args.rule.now)) c.args.rule.now c.args.dest.now c.plan_delete_shared.result)
    (sym c.in-Delete.is)
    (deletion-named c.args.self.now.limits.samples k c.args.rule.now c.args.source.now c.in-Delete.from c.in-Delete.to c.args.dest.now c.plan_delete_shared.result c.plan_delete_shared.ensures.planned)
