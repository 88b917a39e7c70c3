use Rattle.std.proofs.Common.{max, ◌∙◌, ap, arith}
use Rattle.ts_spec.proofs.Buckets.{start-le}
use Rattle.ts_questions.proofs.RowsSplit.{begins-at}
use Rattle.ts_questions.proofs.reversed_samples.start_of_batch.Goals as goal

pub returns-clause-within : goal.returns-clause-within
returns-clause-within c =
    let at = start-le c.in-Some-buckets.buckets.grid c.min.result c.known.ensures.some in
    (omega (arith, c.max.ensures), omega (arith, at, c.max.ensures, c.start_of.ensures, c.min.ensures, c.start_for_count-near.ensures.within.1, c.requires.ordered.0))

pub returns-clause-bucket : goal.returns-clause-bucket
returns-clause-bucket c =
    begins-at c.args.series_query.now.query.now c.in-Some-buckets.buckets c.args.from c.max.result c.min.result c.in-Some-buckets.is c.known.ensures.some (c.max.ensures ∙ ap (max c.args.from) c.start_of.ensures)
