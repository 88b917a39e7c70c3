use Rattle.std.proofs.Common.{◌≡◌, ℕ, ◌≤◌, Bool, cond, refl, sym, ◌∙◌, ap, subst, arith}
use Rattle.std.specs.Prelude.{Some, option_map, slice_get}
use Rattle.ts_spec.specs.Sample.{Point}
use Rattle.ts_spec.specs.Answer.{Number}
use Rattle.ts_range.specs.declared.fill_plan.Place.{Place}
use Rattle.ts_range.specs.FillPlan.{fill_plan_of}
use Rattle.ts_range.specs.LastValues.{values_of, with_one, counts, IsLine, IsLasting, BeginsBy}
use Rattle.ts_range.specs.Query.{cell_of}
use Rattle.ts_range.proofs.LastRow.{front-line, upto-one, upto-one-time, set_last_value-one}
use Rattle.ts_range.proofs.last_values.accept_sample.Goals as goal

pub returns : goal.returns
returns g c = λ seen is.
    let p : Point = record { time = c.sample.inside.time; value = c.sample.inside.value; made = c.sample.inside.made } in
    let f = fill_plan_of c.args.filling.now in
    let v = values_of c.args.filters.now c.args.filling.now seen in
    let all : (lo hi : ℕ) → IsLine lo hi (with_one v p) → BeginsBy p.time v c.advance_to.new.current = λ lo hi line.
    c.advance_to.ensures.begun v refl (is.begun lo hi p.time (front-line lo hi v p line) (upto-one lo hi v p line).0 (upto-one lo hi v p line).1) in
    let lets : c.lets_pass.result ≡ counts v p = c.lets_pass.ensures ∙ ap (counts v) (sym c.sample.view_is) in
    subst (λ (q : Point). IsLasting (g.T.RowSink.has c.advance_to.new.row_sink) (with_one v q) c.set_last_value.new.current) c.sample.view_is
    (record {
      within = omega (arith, c.advance_to.ensures.within, ap (λ (x : Place). x.told) c.set_last_value.ensures.place);
      known = λ lo hi line b at.
          (let inside = upto-one lo hi v p line in
          let before = front-line lo hi v p line in
          let here : slice_get f.starts c.advance_to.new.current.place.told ≡ Some b = ap (λ (x : Place). slice_get f.starts x.told) (sym c.set_last_value.ensures.place) ∙ at in
          set_last_value-one lo hi v before p c.advance_to.new.current b here (all lo hi line b here) c.advance_to.ensures.ends inside.2 (g.T.RowSink.has c.advance_to.new.row_sink)
          (c.advance_to.ensures.current v lo hi refl before (is.known lo hi before) b here) c.set_last_value.new.current c.set_last_value.ensures.place c.set_last_value.ensures.latest
          (c.set_last_value.ensures.chosen ∙ ap (λ (x : Bool). cond x (Some (Number p.value)) (option_map cell_of c.advance_to.new.current.chosen)) lets));
      begun = λ lo hi t line low upto b at.
          (let here : slice_get f.starts c.advance_to.new.current.place.told ≡ Some b = ap (λ (x : Place). slice_get f.starts x.told) (sym c.set_last_value.ensures.place) ∙ at in
          let le : b ≤ p.time = all lo hi line b here in
          let late : p.time ≤ t = upto-one-time t v.seen p upto in
          omega arith);
    })
