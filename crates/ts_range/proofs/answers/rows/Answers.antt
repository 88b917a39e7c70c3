use Rattle.std.proofs.Common.{◌≡◌, List, map, refl, sym, ◌∙◌, ap, subst}
use Rattle.std.specs.Prelude.{filter, Option, option_map}
use Rattle.std.proofs.lemmas.List.Elements.{filter_agree}
use Rattle.std.proofs.lemmas.Result.{IfOk-at_ok}
use Rattle.ts_spec.specs.Sample.{Point, IsAscending}
use Rattle.ts_spec.specs.Answer as spec
use Rattle.ts_spec.specs.Command.{Buckets}
use Rattle.ts_range.specs.Query.{buckets_of, query_of, row_of}
use Rattle.ts_range.specs.Filters.{passes}
use Rattle.ts_range.specs.RowScanState.{lets, rows_passing}
use Rattle.ts_range.specs.SinkState.{HoldsUnlessLost}
use Rattle.ts_range.proofs.Shown.{walk-emitted}
use Rattle.ts_range.proofs.Whole.{chosen-rows, none-filled}
use Rattle.ts_range.proofs.answers.rows.Goals as goal

-- the rows of one scan over the samples
pub returns-in_default : goal.returns-in_default
returns-in_default c = λ l rises is.
    let q = c.args.query.now in
    let walk = c.new-walk.result in
    let samples : List Point = c.deref.result.now in
    let f = c.in_ok-filters.filters in
    let emitted : List spec.Row = rows_passing walk.buckets l (filter (lets walk) samples) in
    let has = walk-emitted (HoldsUnlessLost c.finish.result.lost c.finish.result.rows.items) walk c.visit_all.new.visit samples c.new-walk.ensures.seen
    (subst IsAscending (sym c.deref.ensures.value) c.requires.ascending) c.in_ok-visit_all.ensures c.finish.ensures.rows l in
    let same : filter (lets walk) samples ≡ spec.selected (query_of q) l =
    filter_agree (lets walk) (passes f) c.new-walk.ensures.lets samples ∙ filter_agree (passes f) (spec.passes_filters (query_of q)) c.in_ok-filters.ensures samples
    ∙ ap (filter (spec.passes_filters (query_of q))) (c.deref.ensures.value ∙ sym is.rows) in
    c.in_order.ensures
    ∙ ap (λ (rows : List spec.Row). spec.limit_rows q.count (spec.in_requested_order q.reverse rows))
    (IfOk-at_ok (λ taken. map row_of taken.items ≡ emitted) c.in_ok-rows.was (c.into_rows.ensures emitted has)
    ∙ ap (λ (o : Option Buckets). rows_passing o l (filter (lets walk) samples)) c.new-walk.ensures.buckets ∙ ap (rows_passing (option_map buckets_of q.buckets) l) same)
    ∙ sym (chosen-rows (query_of q) l (option_map buckets_of q.buckets) refl (none-filled q c.in_default.ensures.none q.buckets refl))

pub returns : goal.returns
returns c = λ l rises is.
    c.in_order-2.ensures ∙ c.in_ok-rows-2.ensures l c.in-Some.buckets rises is c.in-Some.ensures.some c.in-Some-of.ensures.bucket_range
