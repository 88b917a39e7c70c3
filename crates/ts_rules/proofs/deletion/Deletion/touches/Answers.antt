use Rattle.std.proofs.Common.{◌∙◌}
use Rattle.ts_sample.proofs.Listed.{listed-by-search}
use Rattle.ts_rules.proofs.deletion.Deletion.touches.Goals as goal

pub returns : goal.returns
returns c =
    c.is_ok.ensures.value ∙ listed-by-search c.args.self.now.lost.now c.args.start c.binary_search.result c.args.self.now.rising c.binary_search.ensures.position
    ∙ c.args.self.now.lies c.args.start
