use Rattle.std.proofs.Common.{take, option_map}
use Rattle.ts_index.specs.MostSelective.{IsBest}
use Rattle.ts_index.proofs.index.Index.most_selective.Given as goal

-- the best of the filters so far
abbrev pub invariant-loop-filter : goal.invariant-loop-filter
invariant-loop-filter l = IsBest l.self (take l.filter-index l.filters) (option_map (λ b. (b.0.now, b.1)) l.best)
