use Rattle.std.proofs.Common.{Bool, subst, sym}
use Rattle.std.specs.Prelude.{◌↔◌, IsTrue}
use Rattle.ts_spec.specs.Encoded.{Fits}
use Rattle.ts_checkpoint.proofs.WithinLimits.{fits-both, some-words}
use Rattle.ts_checkpoint.proofs.fit.fits.Goals as goal

pub returns : goal.returns
returns c =
    let words = c.args.words.now in
    let some = some-words words c.is_empty.result c.if-is_empty.false c.is_empty.ensures in
    subst (λ (b : Bool). IsTrue b ↔ Fits c.args.limits words) (sym c.fit_within.ensures) (fits-both c.args.limits words some c.if-words-limits.false)
