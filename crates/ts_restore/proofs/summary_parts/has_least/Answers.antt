use Rattle.std.proofs.Common.{inl, inr, arith, tests}
use Rattle.std.proofs.lemmas.Int.{ints}
use Rattle.ts_restore.proofs.summary_parts.has_least.Goals as goal

pub returns-then-between-ge1 : goal.returns-then-between-ge1
returns-then-between-ge1 c =
    let middle = c.middle.ensures in
    let value = c.get.ensures in
    let product = c.times.ensures in
    let few = c.requires.few in (
      λ h. inr (inr (c.if-between-ge1.true, grind (arith, ints, middle.value, middle.bounded, value.value, value.bounded, product.value, product.bounded, few, h))),
      λ x. elim x [
        | inl e ↦ absurd (grind (arith, ints, tests, e, c.eq.ensures, c.if-eq.false))
        | inr y ↦ elim y [
          | inl e ↦ absurd (grind (arith, ints, tests, e, c.eq-else-eq.ensures, c.if-eq-2.false))
          | inr h ↦ grind (arith, ints, middle.value, middle.bounded, value.value, value.bounded, product.value, product.bounded, few, h.1)
        ]
      ],
    )
