use Rattle.std.proofs.Common.{◌≡◌, ℕ, refl, sym, ◌∙◌, ap}
use Rattle.std.specs.Prelude.{option_map}
use Rattle.ts_spec.specs.Answer.{Cell}
use Rattle.ts_range.specs.FillPlan.{fill_plan_of, value_or_fill, fill_value_after}
use Rattle.ts_range.specs.Query.{cell_of, row_of}
use Rattle.ts_range.proofs.NextRow.{given-one}
use Rattle.ts_range.proofs.gap_filler.emit_present.Goals as goal

pub returns : goal.returns
returns g c = λ all more r value upto is.
    let f = fill_plan_of c.args.filling.now in
    let told : cell_of c.row.result.value ≡ r.value = ap cell_of c.row.ensures.value ∙ sym value in
    given-one (g.T.RowSink.has c.args.row_sink.now) (g.T.RowSink.has c.row-2.new.self) f all (row_of c.row.result) c.row-2.ensures.taken c.args.place.now _ c.in-Some.start c.in-Some.ensures.some refl more r
    (upto c.in-Some.start c.in-Some.ensures.some)
    (ap (λ (x : Cell). record { time = c.row.result.time; value = x }) told ∙ ap (λ (t : ℕ). record { time = t; value = r.value }) c.row.ensures.time)
    (c.last_after-last.ensures f.others ∙ ap (fill_value_after f.buckets.agg (value_or_fill f.others (option_map cell_of c.args.place.now.last))) (sym value)) is
