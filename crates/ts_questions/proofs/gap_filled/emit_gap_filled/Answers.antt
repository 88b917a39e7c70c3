use Rattle.std.proofs.Common.{◌≡◌, List, refl, ◌∙◌, ap, ◌+◌, ◌*◌}
use Rattle.std.specs.Prelude.{filter, Option, Some}
use Rattle.ts_spec.specs.Answer.{Row, in_requested_order}
use Rattle.ts_spec.specs.Command as spec
use Rattle.ts_spec.specs.Sample.{Point, between, first_of, last_of}
use Rattle.ts_range.specs.FillPlan.{FillPlan, fill_plan_of, rows_with_gaps_filled}
use Rattle.ts_range.specs.LastValues.{LastValues, last_rows}
use Rattle.ts_range.specs.BucketRanges.{fill_plan_with}
use Rattle.ts_range.specs.SinkState.{Limit}
use Rattle.ts_range.specs.AskedSamples.{times_of}
use Rattle.ts_range.specs.RowScanState.{lets, rows_passing}
use Rattle.ts_range.proofs.AllRows.{walked-rows}
use Rattle.ts_range.proofs.LastLines.{told-by}
use Rattle.ts_questions.specs.Asking.{queried_samples, queried_pieces, queried_reach}
use Rattle.ts_questions.proofs.WalkBounds.{seamed-part, bucket_range-inside}
use Rattle.ts_questions.proofs.gap_filled.emit_gap_filled.Goals as goal

pub returns-then-fills_with_filtered_out-clause-rows : goal.returns-then-fills_with_filtered_out-clause-rows
returns-then-fills_with_filtered_out-clause-rows g c =
    let q = c.args.series_query.now.query.now in
    let bucket_range = c.args.bucket_range.now in
    let all : List Point = queried_samples c.args.series_query.now in
    let is = c.requires.bucket_range in
    let last = c.fills_with_filtered_out.ensures.last c.if-fills_with_filtered_out.true in
    let seen : LastValues = record c.last_values-line.result { seen = between bucket_range.from bucket_range.to all } in
    let told = told-by q all bucket_range is.buckets (times_of (first_of all) (last_of all)) c.known.ensures.rising is.filled is.is refl last
    c.known_before-ahead.result.0 c.known_before-ahead.result.1 (c.known_before-ahead.ensures.known last)
    seen c.last_values-line.ensures.filling refl (λ p. c.last_values-line.ensures.counts p ∙ c.args.series_query.now.lets p) in
    (last_rows seen, c.shown.ensures.rows told.lo told.hi told.line, told.rows)

pub returns-then-fills_with_filtered_out-clause-seams : goal.returns-then-fills_with_filtered_out-clause-seams
returns-then-fills_with_filtered_out-clause-seams g c =
    let q = c.args.series_query.now.query.now in
    let bucket_range = c.args.bucket_range.now in
    let inside = bucket_range-inside q (queried_samples c.args.series_query.now) bucket_range c.requires.bucket_range in
    seamed-part (queried_pieces c.args.series_query.now) q.from q.to bucket_range.from bucket_range.to c.known_before-ahead.new.steps (c.args.steps.now + 2 * queried_reach c.args.series_query.now) c.shown.new.steps inside.0 inside.1
    c.known_before-ahead.ensures.steps c.shown.ensures.seams

pub returns-clause-rows : goal.returns-clause-rows
returns-clause-rows g c =
    let q = c.args.series_query.now.query.now in
    let bucket_range = c.args.bucket_range.now in
    let walk = c.walk-walk.result in
    let all : List Point = queried_samples c.args.series_query.now in
    let chosen : List Point = filter (lets walk) (between bucket_range.from bucket_range.to all) in
    let emitted : List Row = rows_passing walk.buckets all chosen in
    let line : FillPlan = fill_plan_of c.walked.result.filling in
    let known : FillPlan = fill_plan_with bucket_range c.known_before-ahead.result.0 c.known_before-ahead.result.1 in
    let kept : Some line ≡ Some known = ap (λ (k : Limit). k.filling) (c.walked.ensures.limit ∙ c.walk-walk.ensures.limit) in
    let same : line ≡ known = cc kept in (
      rows_with_gaps_filled line emitted,
      c.into_row_sink.ensures emitted c.walked.ensures.rows,
      ap (λ (f : FillPlan). in_requested_order q.reverse (rows_with_gaps_filled f emitted)) same
          ∙ ap (λ (o : Option spec.Buckets). in_requested_order q.reverse (rows_with_gaps_filled known (rows_passing o all chosen))) c.walk-walk.ensures.buckets
          ∙ walked-rows q all bucket_range c.known.ensures.rising c.requires.bucket_range
          (lets walk) (λ p. c.walk-walk.ensures.lets p ∙ c.args.series_query.now.lets p) (λ last p. c.walk-walk.ensures.lets p ∙ c.fills_with_filtered_out.ensures.shown c.if-fills_with_filtered_out.false last p)
          c.known_before-ahead.result.0 c.known_before-ahead.result.1 (λ last. c.known_before-ahead.ensures.known last),
    )

pub returns-clause-seams : goal.returns-clause-seams
returns-clause-seams g c =
    let q = c.args.series_query.now.query.now in
    let bucket_range = c.args.bucket_range.now in
    let inside = bucket_range-inside q (queried_samples c.args.series_query.now) bucket_range c.requires.bucket_range in
    seamed-part (queried_pieces c.args.series_query.now) q.from q.to bucket_range.from bucket_range.to c.known_before-ahead.new.steps (c.args.steps.now + 2 * queried_reach c.args.series_query.now) c.walked.new.steps inside.0 inside.1
    c.known_before-ahead.ensures.steps c.walked.ensures.seams
