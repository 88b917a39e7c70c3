use Rattle.std.proofs.Common.{ℕ, arith, refl, ◌∙◌, ap}
use Rattle.std.specs.Prelude.{option_map}
use Rattle.std.proofs.lemmas.Option.{slice_get_within}
use Rattle.ts_spec.specs.Answer.{Cell}
use Rattle.ts_range.specs.FillPlan.{fill_plan_of, fill_value_at, value_or_fill}
use Rattle.ts_range.specs.Query.{cell_of, row_of}
use Rattle.ts_range.specs.Starts.{starts_of}
use Rattle.ts_range.proofs.NextRow.{filled-one}
use Rattle.ts_range.proofs.gap_filler.emit_empty.Goals as goal

pub overflow_add-place : goal.overflow_add-place
overflow_add-place g c =
    let within = slice_get_within (starts_of c.args.filling.now.starts) c.args.place.now.told c.args.start c.requires.next in
    omega (arith, c.requires.few)

pub returns-clause-filled : goal.returns-clause-filled
returns-clause-filled g c = λ all more before is.
    let f = fill_plan_of c.args.filling.now in
    filled-one (g.T.RowSink.has c.args.row_sink.now) (g.T.RowSink.has c.row-2.new.self) f all (row_of c.row.result) c.row-2.ensures.taken c.args.place.now _ c.args.start c.requires.next refl more refl before
    (ap (λ (x : Cell). record { time = c.row.result.time; value = x }) (ap cell_of c.row.ensures.value ∙ c.says.ensures)
    ∙ ap (λ (t : ℕ). record { time = t; value = fill_value_at c.args.place.now.told (cell_of c.args.filling.now.first) (value_or_fill (cell_of c.args.filling.now.others) (option_map cell_of c.args.place.now.last)) }) c.row.ensures.time) is
