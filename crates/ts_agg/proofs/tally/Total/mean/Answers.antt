use Rattle.std.proofs.Common.{◌∙◌, ap}
use Rattle.ts_spec.specs.Value.{div_round}
use Rattle.ts_agg.specs.Amounts.{Totals}
use Rattle.ts_agg.proofs.Results.{mean}
use Rattle.ts_agg.proofs.tally.Total.mean.Goals as goal

pub returns : goal.returns
returns c =
    let t = c.self.inside in
    c.clamp.ensures
    ∙ mean t.count t.sum c.div_round.result c.self.invariant.small c.div_round.ensures.value c.div_round.ensures.mean (record { sfits = c.div_round.type_inv })
    ∙ ap (λ (s : Totals). div_round s.sum s.count) c.self.view_is
