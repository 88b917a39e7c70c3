use Rattle.std.proofs.Common.{◌∙◌, List, ap, sym}
use Rattle.std.specs.Prelude.{nat_le, filter}
use Rattle.ts_spec.specs.Sample.{Point}
use Rattle.ts_spec.specs.Aggregate.{summary}
use Rattle.ts_spec.proofs.TwoBuckets.{emptied}
use Rattle.ts_series.specs.History.{list_of}
use Rattle.ts_rules.proofs.deletion.Deletion.left_in.Goals as goal

pub returns-else-start-start_of-2 : goal.returns-else-start-start_of-2
returns-else-start-start_of-2 c =
    c.new.ensures
    ∙ sym (ap (λ (ps : List Point). summary (filter (λ p. nat_le c.args.self.now.rule.now.made p.made) ps))
    (emptied c.args.self.now.rule.now.grid c.args.self.now.from c.args.self.now.to c.args.start (list_of c.args.self.now.source.now) c.requires
    (λ e. c.if-start-start_of.false (e ∙ sym c.start_of.ensures)) (λ e. c.if-start-start_of-2.false (e ∙ sym c.start_of-else-start-start_of.ensures))))
