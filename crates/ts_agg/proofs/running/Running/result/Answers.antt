use Rattle.std.proofs.Common.{◌≡◌, length, sym, ◌∙◌, ap, arith}
use Rattle.ts_spec.specs.Aggregate.{Summary}
use Rattle.ts_spec.proofs.Aggregates.{summary-count}
use Rattle.ts_agg.proofs.running.Running.result.Goals as goal

pub returns-then-self-eq0-clause-value : goal.returns-then-self-eq0-clause-value
returns-then-self-eq0-clause-value c = λ ps stands some.
    let none : 0 ≡ length ps = sym c.if-self-eq0.true ∙ ap (λ (s : Summary). s.count) (c.self.view_is ∙ stands) ∙ summary-count ps in
    absurd (omega arith)
