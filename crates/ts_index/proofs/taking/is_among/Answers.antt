use Rattle.std.proofs.Common.{◌∙◌}
use Rattle.ts_index.proofs.PlaceLemmas.{searched}
use Rattle.ts_index.proofs.taking.is_among.Goals as goal

pub returns : goal.returns
returns c = λ sorted. c.is_ok.ensures.value ∙ searched c.args.ids.now c.args.id c.binary_search.result sorted c.binary_search.ensures.bound c.binary_search.ensures.position
