use Rattle.std.proofs.Common.{sym, ◌∙◌, ap}
use Rattle.ts_spec.specs.Sample.{Point}
use Rattle.ts_spec.specs.Rules.{raised}
use Rattle.ts_series.proofs.Mending.{high-last}
use Rattle.ts_series.proofs.Placing.{last-get}
use Rattle.ts_series.proofs.chunked_series.high_after.Goals as goal

pub returns-in-Some : goal.returns-in-Some
returns-in-Some c =
    c.raise.ensures ∙ ap (λ (p : Point). raised p.time c.args.high) c.last-in-Some.view_is
    ∙ high-last c.args.rows.now c.in-Some.last.now c.args.high c.requires (sym (last-get c.args.rows.now) ∙ sym c.in-Some.ensures.value)
