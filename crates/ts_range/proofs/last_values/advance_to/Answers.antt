use Rattle.std.proofs.Common.{◌≡◌, ◌+◌, sym, ◌∙◌, ap, arith}
use Rattle.std.specs.Prelude.{Some, slice_get}
use Rattle.std.proofs.lemmas.Option.{slice_get_within}
use Rattle.ts_range.specs.FillPlan.{FillPlan}
use Rattle.ts_range.specs.Starts.{starts_of}
use Rattle.ts_range.proofs.last_values.advance_to.Goals as goal

pub loop-next-preserved : goal.loop-next-preserved
loop-next-preserved g c = record {
  within = omega (arith, c.open_next.ensures.told, c.in-Some.ensures.within);
  known = λ v lo hi same line is. c.open_next.ensures.current v lo hi same line (c.loop-next.invariant.known v lo hi same line is);
  begun = λ v same before b at.
      (let next : slice_get v.filling.starts (c.loop-next.current.place.told + 1) ≡ Some c.in-Some.next =
      ap (λ (f : FillPlan). slice_get f.starts (c.loop-next.current.place.told + 1)) same ∙ c.in-Some.ensures.some in
      let here : slice_get v.filling.starts (c.loop-next.current.place.told + 1) ≡ Some b = ap (slice_get v.filling.starts) (sym c.open_next.ensures.told) ∙ at in
      let is : b ≡ c.in-Some.next = (let both : Some b ≡ Some c.in-Some.next = sym here ∙ next in cc both) in
      omega (arith, c.if-time-next.false));
}

pub returns-clause-ends : goal.returns-clause-ends
returns-clause-ends g c = λ next at. absurd (omega (arith, c.in_default.ensures.none, slice_get_within (starts_of c.args.filling.now.starts) (c.loop-next.current.place.told + 1) next at))
