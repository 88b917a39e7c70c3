use Rattle.std.proofs.Common.{◌≡◌, ◌≤◌, ℕ, [], ◌∷◌, map, refl, sym, ◌∙◌, ap, arith}
use Rattle.std.specs.Prelude.{option_map, reverse, take}
use Rattle.ts_spec.specs.Answer.{Row, row_of as row_of_sample}
use Rattle.ts_spec.specs.Sample.{Point, between}
use Rattle.ts_range.specs.Query.{buckets_of, query_of, row_of, span_of}
use Rattle.ts_questions.specs.Asking.{queried_samples}
use Rattle.ts_questions.proofs.FewRead.{last-row}
use Rattle.ts_questions.proofs.ReachingBack.{plain}
use Rattle.ts_questions.proofs.few_samples.only_last_row.Goals as goal

pub returns-clause-row : goal.returns-clause-row
returns-clause-row g c x is =
    let q = c.args.series_query.now.query.now in
    let l = queried_samples c.args.series_query.now in
    let count = c.in_ok-count.count in
    let few = c.in_ok-count.ensures count refl in
    let one : count ≡ 1 = omega (arith, c.if-count-ne1.false) in
    let last : Point = c.in_ok-last.last in
    let low : q.from ≤ last.time = omega (arith, c.if-last-query.false, ap (λ (p : Point). p.time) c.last-2.view_is) in
    let high : last.time ≤ q.to = omega (arith, c.if-last-query-2.false, ap (λ (p : Point). p.time) c.last-2.view_is) in
    let told : c.row.result ≡ x = cc is in
    plain (query_of q) l (ap (option_map (λ times. times.items)) few.times) (ap (option_map span_of) few.values) (ap (option_map buckets_of) few.buckets) c.requires.backward count few.count q.from
    ∙ ap (λ (n : ℕ). take n (reverse (map row_of_sample (between q.from q.to l)))) one
    ∙ last-row q.from q.to l last (sym (c.in_ok-last.ensures.last few.own)) low high
    ∙ ap (λ (row : Row). row ∷ []) (sym c.row.ensures ∙ ap row_of told)
