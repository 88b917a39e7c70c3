use Rattle.std.proofs.Common.{ℕ, ◌∙◌, ap}
use Rattle.ts_range.specs.AskedSamples.{last_before}
use Rattle.ts_questions.specs.Asking.{queried_samples}
use Rattle.ts_questions.proofs.gap_filled.known_before.Goals as goal

pub returns-clause-known : goal.returns-clause-known
returns-clause-known g c = λ last. record {
  first = c.before-ahead.ensures.before ∙ ap (λ (t : ℕ). last_before t (queried_samples c.args.series_query.now)) c.first.ensures.start;
  others = c.before-prior.ensures.before;
}
