use Rattle.ts_index.proofs.CandidateLemmas.{selected-filter, length-filter}
use Rattle.ts_index.proofs.candidates.by_value.Goals as goal

pub returns-clause-selected : goal.returns-clause-selected
returns-clause-selected c = selected-filter c.args.filter.now c.label.result.now c.values.result.now c.args.index.now c.new.result c.known.ensures c.requires.positive c.label.ensures c.values.ensures.alike c.values.ensures.once c.new.ensures

pub returns-clause-count : goal.returns-clause-count
returns-clause-count c = length-filter c.args.filter.now c.label.result.now c.values.result.now c.args.index.now c.new.result c.requires.positive c.label.ensures c.values.ensures.alike c.values.ensures.once c.new.ensures
