use Rattle.std.proofs.Common.{◌≡◌, ◌++◌, ℕ, List, sym, ◌∙◌, ap, subst}
use Rattle.std.specs.Prelude.{filter, nat_lt, slice_range, Option, Some}
use Rattle.std.proofs.lemmas.Result.{IfOk-weaker}
use Rattle.ts_spec.specs.Answer.{Row, rows, in_requested_order}
use Rattle.ts_spec.specs.Bucket.{start}
use Rattle.ts_spec.specs.Command as spec
use Rattle.ts_spec.specs.Sample.{Point, IsAscending, is_within, between}
use Rattle.ts_spec.proofs.Samples.{ascending-times}
use Rattle.ts_range.specs.declared.query.Buckets.{Buckets}
use Rattle.ts_range.specs.Empty.{known_before}
use Rattle.ts_range.specs.FillPlan.{FillPlan, IsFilled, fill_plan_of, rows_with_gaps_filled}
use Rattle.ts_range.specs.LastValues.{last_rows}
use Rattle.ts_range.specs.Query.{query_of}
use Rattle.ts_range.specs.BucketRanges.{FillsGaps, IsKnownBefore, IsBucketRangeOf, fill_plan_with}
use Rattle.ts_range.specs.SinkState.{HoldsUnlessLost, Limit}
use Rattle.ts_range.specs.AskedSamples.{IsAskedOf, last_before}
use Rattle.ts_range.specs.RowScanState.{RowScanState, lets, rows_passing}
use Rattle.ts_range.proofs.AllRows.{bucket_range-rows}
use Rattle.ts_range.proofs.LastLines.{told-by}
use Rattle.ts_range.proofs.Shown.{line-emitted, seen-visited, walk-emitted}
use Rattle.ts_range.proofs.Known.{part-of, ahead-known, prior-known}
use Rattle.ts_range.proofs.answers.bucket_range_rows.Goals as goal
use Rattle.ts_range.proofs.answers.bucket_range_rows.Goals.{After-fills_with_filtered_out}

module _ (c : After-fills_with_filtered_out) (l : List Point) (buckets : Buckets) (rises : IsAscending l) (is : IsAskedOf c.args.query.now c.args.asked.now l)
    (filled : FillsGaps c.args.query.now buckets) (told : IsBucketRangeOf c.args.query.now buckets c.args.asked.now.ends c.args.bucket_range.now) where
  -- what is known before the stretch
  known : IsKnownBefore c.args.bucket_range.now l c.before-ahead.result c.before-prior.result
  known =
      let q = c.args.query.now in
      let asked = c.args.asked.now in
      let bucket_range = c.args.bucket_range.now in
      let around = is.around buckets filled.told filled.empty in
      let begins : c.first-first.result ≡ start buckets.grid bucket_range.from = c.first-first.ensures.start ∙ ap (λ (b : Buckets). start b.grid bucket_range.from) told.buckets in
      record {
        first = c.before-ahead.ensures ∙ ap (λ (t : ℕ). known_before (nat_lt t q.from) t asked) begins ∙ ahead-known q buckets l rises asked is.rows around bucket_range told
            ∙ sym (ap (λ (b : Buckets). last_before (start b.grid bucket_range.from) l) told.buckets);
        others = c.before-prior.ensures ∙ prior-known q buckets l rises asked is.rows around bucket_range told;
      }

  -- its samples
  part : slice_range c.as_slice-samples.result.now c.index_range.result.start c.index_range.result.end ≡ between c.args.bucket_range.now.from c.args.bucket_range.now.to l
  part =
      let bucket_range = c.args.bucket_range.now in
      c.index_range.ensures.inside ∙ ap (between bucket_range.from bucket_range.to) c.as_slice-samples.ensures.value
      ∙ part-of c.args.query.now buckets l rises c.args.asked.now is.rows (is.around buckets filled.told filled.empty) bucket_range told

rises-there : (c : After-fills_with_filtered_out) → IsAscending (slice_range c.as_slice-samples.result.now c.index_range.result.start c.index_range.result.end)
rises-there c =
    let bucket_range = c.args.bucket_range.now in
    subst IsAscending (sym c.index_range.ensures.inside)
    (ascending-times (is_within bucket_range.from bucket_range.to) c.as_slice-samples.result.now (subst IsAscending (sym c.as_slice-samples.ensures.value) c.requires.ascending))

pub returns-then-fills_with_filtered_out : goal.returns-then-fills_with_filtered_out
returns-then-fills_with_filtered_out c = λ l buckets rises is filled told.
    let q = c.args.query.now in
    let bucket_range = c.args.bucket_range.now in
    let line = c.last_values-line.result in
    let here = (goal.at.returns-then-fills_with_filtered_out c).After-fills_with_filtered_out in
    let samples : List Point = slice_range c.as_slice-samples.result.now c.index_range.result.start c.index_range.result.end in
    let rows-by = told-by q l bucket_range buckets c.args.asked.now.ends rises filled told (is.around buckets filled.told filled.empty).ends (c.fills_with_filtered_out.ensures.last c.if-fills_with_filtered_out.true)
    c.before-ahead.result c.before-prior.result (known here l buckets rises is filled told)
    (record line { seen = samples }) c.last_values-line.ensures.filling (part here l buckets rises is filled told) (λ p. c.last_values-line.ensures.counts p ∙ c.requires.lets p) in
    let emitted : List Row = last_rows (record line { seen = samples }) in
    let has = line-emitted (HoldsUnlessLost c.finish.result.lost c.finish.result.rows.items) line c.visit_all.new.visit samples c.last_values-line.ensures.seen c.in_ok-visit_all.ensures c.finish.ensures
    rows-by.lo rows-by.hi rows-by.line in
    IfOk-weaker c.into_rows.result _ _ (λ kept are. ap (in_requested_order q.reverse) are ∙ rows-by.rows) (c.into_rows.ensures emitted has)

pub returns : goal.returns
returns c = λ l buckets rises is filled told.
    let q = c.args.query.now in
    let bucket_range = c.args.bucket_range.now in
    let walk = c.walk-walk.result in
    let here = (goal.at.returns c).After-fills_with_filtered_out in
    let samples : List Point = slice_range c.as_slice-samples.result.now c.index_range.result.start c.index_range.result.end in
    let emitted : List Row = rows_passing walk.buckets l (filter (lets walk) samples) in
    let line : FillPlan = fill_plan_of c.finish-2.result.filling in
    let around : FillPlan = fill_plan_with bucket_range c.before-ahead.result c.before-prior.result in
    let kept : Some line ≡ Some around = ap (λ (k : Limit). k.filling)
    (c.finish-2.ensures.limit ∙ ap (λ (w : RowScanState). w.limit) (c.in_ok-visit_all-2.ensures ∙ seen-visited walk samples) ∙ c.walk-walk.ensures.limit) in
    let same : line ≡ around = cc kept in
    let answer : in_requested_order q.reverse (rows_with_gaps_filled line emitted) ≡ rows (query_of q) l =
    ap (λ (f : FillPlan). in_requested_order q.reverse (rows_with_gaps_filled f emitted)) same
    ∙ ap (λ (ps : List Point). in_requested_order q.reverse (rows_with_gaps_filled around (rows_passing walk.buckets l (filter (lets walk) ps)))) (part here l buckets rises is filled told)
    ∙ ap (λ (o : Option spec.Buckets). in_requested_order q.reverse (rows_with_gaps_filled around (rows_passing o l (filter (lets walk) (between bucket_range.from bucket_range.to l))))) c.walk-walk.ensures.buckets
    ∙ bucket_range-rows q buckets filled l rises c.args.asked.now.ends (is.around buckets filled.told filled.empty).ends bucket_range told (lets walk) (λ p. c.walk-walk.ensures.lets p ∙ c.requires.lets p)
    (λ last p. c.walk-walk.ensures.lets p ∙ c.fills_with_filtered_out.ensures.shown c.if-fills_with_filtered_out.false last p)
    c.before-ahead.result c.before-prior.result (λ last. known here l buckets rises is filled told) in
    let sink = c.finish-2.result in
    let has = walk-emitted (λ rows. (more : List Row) → IsFilled (HoldsUnlessLost sink.row_sink.lost sink.row_sink.rows.items) line sink.place (rows ++ more) more) walk c.visit_all-2.new.visit samples
    c.walk-walk.ensures.seen (rises-there here) c.in_ok-visit_all-2.ensures c.finish-2.ensures.rows l in
    IfOk-weaker c.into_rows-2.result _ _ (λ kept are. ap (in_requested_order q.reverse) are ∙ answer) (c.into_rows-2.ensures (rows_with_gaps_filled line emitted) (c.into_row_sink.ensures emitted has))
