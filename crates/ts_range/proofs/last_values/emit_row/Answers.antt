use Rattle.std.proofs.Common.{◌≡◌, ℕ, sym, ◌∙◌, ap}
use Rattle.std.specs.Prelude.{Option, Some, option_map, slice_get}
use Rattle.ts_spec.specs.Answer.{Cell}
use Rattle.ts_sample.specs.declared.sample.Cell as rust
use Rattle.ts_range.specs.FillPlan.{FillPlan, fill_plan_of, row_at, fill_value_at, value_or_fill}
use Rattle.ts_range.specs.Query.{cell_of, row_of}
use Rattle.ts_range.proofs.LastRow.{row-told}
use Rattle.ts_range.proofs.last_values.emit_row.Goals as goal
use Rattle.ts_range.proofs.last_values.emit_row.Goals.{in-None, in-Some-chosen}

pub returns : goal.returns
returns g c = λ v lo hi same line is.
    let f = fill_plan_of c.args.filling.now in
    let current = c.args.current.now in
    let b = c.in-Some.start in
    let at : slice_get v.filling.starts current.place.told ≡ Some b = ap (λ (x : FillPlan). slice_get x.starts current.place.told) same ∙ c.in-Some.ensures.some in
    let said : FillPlan → Option rust.Cell → Cell = λ x o. value_or_fill (fill_value_at current.place.told x.first (value_or_fill x.others (option_map cell_of current.place.last))) (option_map cell_of o) in
    let value : cell_of c.match-current.value ≡ said f current.chosen = elim c.match-current.branch [
      | in-None w ↦ ap cell_of w.value-is ∙ w.says-value.ensures ∙ sym (ap (said f) w.in-None.is)
      | in-Some-chosen w ↦ ap cell_of w.value-is ∙ sym (ap (said f) w.in-Some-chosen.is)
    ] in
    let row : row_of c.row.result ≡ row_at v.filling.buckets b (said v.filling current.chosen) =
    ap (λ (x : Cell). record { time = c.row.result.time; value = x }) (ap cell_of c.row.ensures.value ∙ value)
    ∙ ap (λ (t : ℕ). record { time = t; value = said f current.chosen }) c.row.ensures.time
    ∙ ap (λ (x : FillPlan). row_at x.buckets b (said x current.chosen)) (sym same) in
    row-told lo hi v line (g.T.RowSink.has c.args.row_sink.now) (g.T.RowSink.has c.row-2.new.self) current b at (is b at) (row_of c.row.result) c.row-2.ensures.taken row
