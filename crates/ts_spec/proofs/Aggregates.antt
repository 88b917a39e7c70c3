-- Summaries of lists of samples.
use Rattle.std.proofs.Common.{◌≡◌, ◌+◌, List, [], ◌∷◌, ◌++◌, length, fold, ◌∙◌, arith}
use Rattle.std.proofs.lemmas.Grind.{fold-append}
use Rattle.ts_spec.specs.Sample.{Point}
use Rattle.ts_spec.specs.Aggregate.{Summary, nothing, push, summary}

-- The summary of a list with one more sample is that of the list with the sample pushed.
pub summary-push : (ps : List Point) (p : Point) → summary (ps ++ p ∷ []) ≡ push (summary ps) p
summary-push ps p = fold-append push nothing ps (p ∷ [])

count-from : (s : Summary) (ps : List Point) → (fold push s ps).count ≡ s.count + length ps
count-from s [] = omega arith
count-from s (p ∷ ps) = let ih : (fold push (push s p) ps).count ≡ s.count + 1 + length ps = count-from (push s p) ps in omega arith

-- it counts the samples
pub summary-count : (ps : List Point) → (summary ps).count ≡ length ps
summary-count ps = count-from nothing ps ∙ omega arith
