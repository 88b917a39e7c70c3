use Rattle.std.proofs.Common.{List, ◌++◌, map, take, ◌∙◌, ap, arith}
use Rattle.std.specs.Prelude.{reverse}
use Rattle.std.proofs.lemmas.List.{map-append}
use Rattle.ts_spec.specs.Answer.{Row}
use Rattle.ts_range.specs.Query.{row_of}
use Rattle.ts_range.proofs.Reversed.{map-take}
use Rattle.ts_questions.proofs.RowsSplit.{take-back}
use Rattle.ts_questions.proofs.reversed_samples.with_earlier.Goals as goal

pub returns : goal.returns
returns c =
    let n = c.args.count in
    let found = c.args.found.items in
    ap (map row_of) (c.truncate.ensures.items ∙ ap (take n) c.in_ok-append.ensures.items)
    ∙ map-take row_of n (found ++ c.in_requested_order-earlier.result.items)
    ∙ ap (take n) (map-append row_of found c.in_requested_order-earlier.result.items ∙ ap (λ (rs : List Row). map row_of found ++ rs) c.in_requested_order-earlier.ensures)
    ∙ take-back n n (map row_of found) (reverse (map row_of c.args.earlier.items)) (omega arith)
