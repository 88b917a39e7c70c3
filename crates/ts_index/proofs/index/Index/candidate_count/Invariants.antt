use Rattle.std.proofs.Common.{◌≡◌, ◌+◌, drop}
use Rattle.ts_index.specs.Bounds.{candidates}
use Rattle.ts_index.proofs.CandidateLemmas.{total}
use Rattle.ts_index.proofs.index.Index.candidate_count.Given as goal

-- the count so far and the ids of the remaining values are the candidates
abbrev pub invariant-loop-value : goal.invariant-loop-value
invariant-loop-value l = l.count + total l.label l.self (drop l.value-index l.values) ≡ candidates l.self l.filter
