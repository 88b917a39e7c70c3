use Rattle.std.proofs.Common.{sym, ap, ◌∙◌}
use Rattle.ts_rules.specs.Rules.{one_of}
use Rattle.ts_rules.proofs.EasyWrites.{easy-row}
use Rattle.ts_rules.proofs.rule_plans.plan_put_shared.Goals as goal

pub returns-in_err-dest-clause-easy : goal.returns-in_err-dest-clause-easy
returns-in_err-dest-clause-easy g c = λ h.
    c.with_row.ensures.easy (λ row e. easy-row c.args.limit c.args.rule.now c.args.source.now c.args.wrote.now c.args.dest.now c.born.result row h (sym (ap one_of e) ∙ c.written-rule.ensures.row))
    ∙ c.written-rule.ensures.easy h.appends h.not_closed

pub returns-clause-easy : goal.returns-clause-easy
returns-clause-easy g c = λ h.
    c.with_row.ensures.easy (λ row e. easy-row c.args.limit c.args.rule.now c.args.source.now c.args.wrote.now c.args.dest.now c.born.result row h (sym (ap one_of e) ∙ c.written-rule.ensures.row))
    ∙ c.written-rule.ensures.easy h.appends h.not_closed
