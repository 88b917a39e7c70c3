use Rattle.std.proofs.Common.{sym, ◌∙◌}
use Rattle.ts_rules.specs.Deletions.{gone_of, left_of}
use Rattle.ts_rules.proofs.Left.{told-left}
use Rattle.ts_rules.proofs.deletion.Deletion.rule_left.Goals as goal

pub returns : goal.returns
returns c =
    told-left (gone_of c.args.self.now.source.now c.args.self.now.from c.args.self.now.to) (left_of c.args.self.now.source.now c.args.self.now.from c.args.self.now.to) c.args.self.now.rule.now c.opened.result
    c.in-Some.open c.left_in.result c.opened.ensures c.left_in.ensures c.in-Some.is (sym c.touches.ensures ∙ c.if-not-touches.false)
