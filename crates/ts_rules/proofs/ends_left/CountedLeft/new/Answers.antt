use Rattle.std.proofs.Common.{ap, ◌∙◌}
use Rattle.ts_agg.specs.Counted.{Counting}
use Rattle.ts_rules.proofs.BucketLeft.{counting-left}
use Rattle.ts_rules.proofs.Least.{all-left}
use Rattle.ts_rules.proofs.ends_left.CountedLeft.new.Goals as goal

pub returns-clause-told : goal.returns-clause-told
returns-clause-told c = λ ps. ap (λ (x : Counting). x.running) (counting-left _ ps) ∙ c.new.ensures.visited ps

pub returns-clause-least : goal.returns-clause-least
returns-clause-least c = all-left _
