use Rattle.std.proofs.Common.{◌≡◌, ◌+◌, ◌∙◌, ◌++◌, [], length, drop, ap, sym, arith, eqb-true}
use Rattle.ts_index.specs.Candidates.{postings}
use Rattle.ts_index.proofs.ValueLemmas.{postings-next, none-left}
use Rattle.ts_index.proofs.posting_list.next_posting.Goals as goal

pub loop-found-preserved : goal.loop-found-preserved
loop-found-preserved c =
    let values = c.args.values.now in
    let label = c.args.label.now in
    let es = c.args.index.now in
    let k = c.loop-found.passed in
    let found = c.loop-found.found.now in
    let empty : found ≡ [] = none-left found (eqb-true (length found) 0 (sym c.is_empty.ensures ∙ c.loop-found-test.true)) in
    record {
      passed = omega arith;
      left = ap (λ r. r ++ postings label (drop (k + 1) values) es) c.posting-found.ensures
          ∙ sym (postings-next label values k c.index-values-passed.result es c.if-passed-values.true c.index-values-passed.is)
          ∙ ap (λ f. f ++ postings label (drop k values) es) (sym empty)
          ∙ c.loop-found.invariant.left;
    }
