use Rattle.std.proofs.Common.{◌≡◌, List, ◌∙◌, ap, subst}
use Rattle.std.specs.Prelude.{filter, Option, option_map}
use Rattle.std.proofs.lemmas.List.Elements.{filter_agree}
use Rattle.ts_spec.specs.Answer.{passes_filters}
use Rattle.ts_spec.specs.Command.{Buckets}
use Rattle.ts_spec.specs.Sample.{Point, between}
use Rattle.ts_range.specs.Query.{buckets_of, query_of}
use Rattle.ts_range.specs.RowScanState.{lets, rows_passing}
use Rattle.ts_questions.specs.Asking.{queried_samples, rows_in}
use Rattle.ts_questions.proofs.walked.emitted.Goals as goal

pub returns-clause-rows : goal.returns-clause-rows
returns-clause-rows g c =
    let q = c.args.series_query.now.query.now in
    let all = queried_samples c.args.series_query.now in
    let walk = c.new-walk.result in
    let test = passes_filters (query_of q) in
    let chosen : List Point = between c.args.from c.args.to all in
    let same : rows_passing walk.buckets all (filter (lets walk) chosen) ≡ rows_in q all c.args.from c.args.to =
    ap (λ (o : Option Buckets). rows_passing o all (filter (lets walk) chosen)) c.new-walk.ensures.buckets
    ∙ ap (rows_passing (option_map buckets_of q.buckets) all) (filter_agree (lets walk) test (λ p. c.new-walk.ensures.lets p ∙ c.args.series_query.now.lets p) chosen) in
    subst (g.T.RowSink.has c.walked.result) same c.walked.ensures.rows
