use Rattle.std.proofs.Common.{ap}
use Rattle.std.specs.Prelude.{option_map}
use Rattle.ts_range.specs.Query.{buckets_of, query_of, span_of}
use Rattle.ts_questions.specs.Asking.{queried_samples}
use Rattle.ts_questions.proofs.Reaching.{rows-upto}
use Rattle.ts_questions.proofs.few_samples.narrowed_to.Goals as goal

pub returns-clause-rows : goal.returns-clause-rows
returns-clause-rows c =
    let series_query = c.args.series_query.now in
    let each = c.is_plain_scan.ensures c.if-not-is_plain_scan.false in
    rows-upto (query_of series_query.query.now) (queried_samples series_query)
    (ap (option_map (λ times. times.items)) each.0) (ap (option_map span_of) each.1) (ap (option_map buckets_of) each.2) c.requires.forward c.in-Some.count c.in-Some.is c.known.ensures.rising
    c.end_for_count.result c.end_for_count.ensures.within.1 (c.end_for_count.ensures.enough c.if-series_query.false)
