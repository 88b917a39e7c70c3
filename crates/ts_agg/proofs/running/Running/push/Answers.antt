use Rattle.std.proofs.Common.{◌≡◌, ◌<◌, ◌^◌, ◌+ℤ◌, ◌∙◌, ap, arith, refl, subst, sym}
use Rattle.std.proofs.lemmas.Int.{ints}
use mir.Syntax.{w128}
use mir.Val.{to_z, of_z}
use Rattle.ts_spec.specs.Sample.{Point}
use Rattle.ts_spec.specs.Aggregate.{Summary, push}
use Rattle.ts_agg.proofs.Pushes.{summary_of, first_pushed, later_pushed, stands_pushed, added}
use Rattle.ts_agg.proofs.running.Running.push.Goals as goal
use Rattle.ts_agg.proofs.running.Running.push.Goals.{then-self-eq0, else-self-eq0}

pub returns-clause-pushed : goal.returns-clause-pushed
returns-clause-pushed c =
    let old = c.self.inside in
    let s : Summary = summary_of old.count old.sum old.least old.greatest old.first old.last in
    let p : Point = record { time = c.s.inside.time; value = c.s.inside.value; made = c.s.inside.made } in
    let sum = to_z w128 (of_z w128 (to_z w128 (of_z w128 old.sum) +ℤ to_z w128 (of_z w128 c.get.result))) in
    let total : sum ≡ s.sum +ℤ p.value = added old.count old.sum c.get.result c.self.invariant c.get.ensures.bounded ∙ ap (λ v. old.sum +ℤ v) c.get.ensures.value in
    elim c.if-self-eq0.branch [
      | then-self-eq0 w ↦
          rw w.self-inside-is
          (first_pushed s p sum total w.if-self-eq0.true ∙ ap (λ (q : Point). push s q) c.s.view_is ∙ ap (λ (t : Summary). push t c.args.s.now) c.self.view_is)
      | else-self-eq0 w ↦
          rw w.self-inside-is
          (later_pushed s p sum total _ _ w.if-self-eq0.false w.lesser-self-inside.ensures w.greater-self-inside.ensures
          ∙ ap (λ (q : Point). push s q) c.s.view_is ∙ ap (λ (t : Summary). push t c.args.s.now) c.self.view_is)
    ]

pub returns-clause-stands : goal.returns-clause-stands
returns-clause-stands c = stands_pushed c.args.self.now _ c.args.s.now (returns-clause-pushed c)

pub overflow_add-self-2 : goal.overflow_add-self-2
overflow_add-self-2 c =
    let count : c.if-self-eq0.self-inside.count ≡ c.self.inside.count = elim c.if-self-eq0.branch [
      | then-self-eq0 w ↦ rw w.self-inside-is refl
      | else-self-eq0 w ↦ rw w.self-inside-is refl
    ] in
    record { fits = omega (arith, count, c.self.invariant.few) }

pub invariant_of-self : goal.invariant_of-self
invariant_of-self c =
    let old = c.self.inside in
    let total = added old.count old.sum c.get.result c.self.invariant c.get.ensures.bounded in
    let here : old.count < 10 ^ 14 = subst (λ (s : Summary). s.count < 10 ^ 14) (sym c.self.view_is) c.requires in
    elim c.if-self-eq0.branch [
      | then-self-eq0 w ↦ rw w.self-inside-is
          (record { few = omega (arith, here); within = omega (arith, ints, total, c.self.invariant.within, c.get.ensures.bounded) })
      | else-self-eq0 w ↦ rw w.self-inside-is
          (record { few = omega (arith, here); within = omega (arith, ints, total, c.self.invariant.within, c.get.ensures.bounded) })
    ]
