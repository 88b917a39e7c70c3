use Rattle.std.proofs.Common.{ℕ, take, length, refl, sym, ◌∙◌, ap, subst, arith}
use Rattle.std.proofs.lemmas.List.{length-map, take_all}
use Rattle.ts_range.specs.LastValues.{LastValues, last_row, last_rows, values_of, IsLine}
use Rattle.ts_range.proofs.last_values.LastValues.finish.Goals as goal

pub returns : goal.returns
returns g c = λ lo hi line.
    let has = g.T.RowSink.has c.emit_row.new.row_sink in
    let v = values_of c.self.inside.filters.now c.self.inside.filling c.self.inside.seen.points in
    let inside : IsLine lo hi v = subst (IsLine lo hi) (sym c.self.view_is) line in
    let told = c.emit_row.ensures v lo hi refl inside (c.advance_to_last.ensures.current v lo hi refl inside (c.self.invariant.known lo hi inside)) in
    subst (λ (w : LastValues). has (last_rows w)) c.self.view_is
    (subst has (ap (λ (n : ℕ). take n (last_rows v)) c.advance_to_last.ensures.last ∙ take_all (length v.filling.starts) (last_rows v) (omega (arith, length-map v.filling.starts (last_row v)))) told)
