use Rattle.std.proofs.Common.{sym, ◌∙◌, ap}
use Rattle.ts_agg.specs.declared.tally.Tally.{Tally}
use Rattle.ts_agg.specs.declared.tally.Tally.TheVariants.{Min, Max, Range}
use Rattle.ts_agg.proofs.Tallies.{pushed, same_range, one-more}
use Rattle.ts_agg.proofs.tally.Tally.push.Goals as goal

pub returns-in-Min-clause-tells : goal.returns-in-Min-clause-tells
returns-in-Min-clause-tells c = λ agg ps.
    one-more agg c.args.self.now _ c.args.s.now ps
    (ap Min c.lesser.ensures ∙ ap (pushed (Min c.in-Min.least)) c.s.view_is ∙ ap (λ (t : Tally). pushed t c.args.s.now) (sym c.in-Min.is))

pub returns-in-Max-clause-tells : goal.returns-in-Max-clause-tells
returns-in-Max-clause-tells c = λ agg ps.
    one-more agg c.args.self.now _ c.args.s.now ps
    (ap Max c.greater.ensures ∙ ap (pushed (Max c.in-Max.greatest)) c.s.view_is ∙ ap (λ (t : Tally). pushed t c.args.s.now) (sym c.in-Max.is))

pub returns-in-Range-clause-tells : goal.returns-in-Range-clause-tells
returns-in-Range-clause-tells c = λ agg ps.
    one-more agg c.args.self.now _ c.args.s.now ps
    (same_range _ _ _ _ c.lesser-in-Range.ensures c.greater-in-Range.ensures
    ∙ ap (pushed (Range c.in-Range.least c.in-Range.greatest)) c.s.view_is ∙ ap (λ (t : Tally). pushed t c.args.s.now) (sym c.in-Range.is))

pub returns-in-First-clause-tells : goal.returns-in-First-clause-tells
returns-in-First-clause-tells c = λ agg ps.
    one-more agg c.args.self.now _ c.args.s.now ps
    (c.in-First.is ∙ ap (λ (t : Tally). pushed t c.args.s.now) (sym c.in-First.is))
