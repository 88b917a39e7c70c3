use Rattle.std.proofs.Common.{ap, ◌∙◌}
use Rattle.ts_spec.specs.Sample.{between, is_within}
use Rattle.ts_spec.proofs.Samples.{ascending-times}
use Rattle.ts_range.specs.RowScanState.{RowScanState}
use Rattle.ts_questions.specs.Asking.{queried_samples}
use Rattle.ts_range.proofs.Shown.{seen-visited, walk-emitted}
use Rattle.ts_questions.proofs.walked.walked.Goals as goal

pub returns-clause-rows : goal.returns-clause-rows
returns-clause-rows g c =
    let all = queried_samples c.args.series_query.now in
    walk-emitted (g.T.RowSink.has c.finish.result) c.args.walk c.visit.new.visit (between c.args.from c.args.to all) c.requires.none
    (ascending-times (is_within c.args.from c.args.to) all c.known.ensures.rising) c.visit.ensures.visited c.finish.ensures.rows all

pub returns-clause-limit : goal.returns-clause-limit
returns-clause-limit g c =
    c.finish.ensures.limit
    ∙ ap (λ (w : RowScanState). w.limit) (c.visit.ensures.visited ∙ seen-visited c.args.walk (between c.args.from c.args.to (queried_samples c.args.series_query.now)))
