use Rattle.std.proofs.Common.{◌∙◌, ap, pos, ◌*◌, ℕ, arith}
use Rattle.std.proofs.lemmas.Int.{ints}
use Rattle.ts_agg.proofs.Results.{counted}
use Rattle.ts_agg.proofs.tally.SampleCount.value.Goals as goal

pub returns : goal.returns
returns c =
    c.clamp.ensures
    ∙ counted c.self.inside.count _ c.self.invariant (omega (arith, ints, c.from.ensures))
    ∙ ap (λ (n : ℕ). pos (n * 1000000)) c.self.view_is
