use Rattle.std.proofs.Common.{sym, ◌∙◌, ap, arith}
use Rattle.std.proofs.lemmas.Int.{ints}
use Rattle.ts_spec.specs.declared.bucket.Aggregator.{Aggregator}
use Rattle.ts_spec.specs.declared.bucket.Aggregator.TheVariants.{Avg, Count}
use Rattle.ts_spec.specs.Aggregate.{result_of}
use Rattle.ts_agg.proofs.Results.{mean, counted}
use Rattle.ts_agg.proofs.running.Running.value.Goals as goal

pub returns-in-Avg : goal.returns-in-Avg
returns-in-Avg c =
    let s = c.self.inside in
    c.clamp.ensures
    ∙ mean s.count s.sum c.div_round.result c.self.invariant c.div_round.ensures.value c.div_round.ensures.mean (record { sfits = c.div_round.type_inv })
    ∙ ap (result_of Avg) c.self.view_is
    ∙ ap (λ (a : Aggregator). result_of a c.args.self.now) (sym c.in-Avg.is)

pub returns-in-Count : goal.returns-in-Count
returns-in-Count c =
    c.clamp-in-Count.ensures
    ∙ counted c.self.inside.count _ c.self.invariant.few (omega (arith, ints, c.from.ensures))
    ∙ ap (result_of Count) c.self.view_is
    ∙ ap (λ (a : Aggregator). result_of a c.args.self.now) (sym c.in-Count.is)
