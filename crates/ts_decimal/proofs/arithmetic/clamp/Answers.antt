use Rattle.std.proofs.Common.{◌∙◌, sym, refl}
use mir.Syntax.{w128}
use Rattle.std.proofs.lemmas.Int.{to_z-of_z}
use Rattle.ts_decimal.proofs.Quotients.{clamp-within, clamp-below, clamp-above, not_within}
use Rattle.ts_decimal.proofs.arithmetic.clamp.Goals as goal

pub returns-in-Some : goal.returns-in-Some
returns-in-Some c =
    let same = to_z-of_z w128 c.args.n c.ranges.n in
    c.in-Some.ensures.value ∙ same ∙ sym (clamp-within c.args.n (rw same at (c.in-Some.ensures.valid.0 refl)))

pub returns-in-None : goal.returns-in-None
returns-in-None c =
    let same = to_z-of_z w128 c.args.n c.ranges.n in
    let valid = rw same at c.in-None.ensures.valid in
    sym (clamp-below c.args.n (not_within _ valid.1) (rw same at c.if-n-lt0.true))

pub returns-in-None-2 : goal.returns-in-None-2
returns-in-None-2 c =
    let same = to_z-of_z w128 c.args.n c.ranges.n in
    let valid = rw same at c.in-None.ensures.valid in
    sym (clamp-above c.args.n (not_within _ valid.1) (rw same at c.if-n-lt0.false))
