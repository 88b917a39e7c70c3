use Rattle.ts_range.proofs.Following.{following, in-it}
use Rattle.ts_range.proofs.bucket.span_past.Goals as goal

pub returns-then-t-end-clause-span : goal.returns-then-t-end-clause-span
returns-then-t-end-clause-span c = λ b span.
    following c.args.grid.now b c.args.last c.last_time_of_bucket-end.result c.args.t span c.requires.past c.requires.time c.last_time_of_bucket-end.ensures.last

pub returns-then-t-end-clause-start : goal.returns-then-t-end-clause-start
returns-then-t-end-clause-start c = λ b span.
    in-it c.args.grid.now b c.args.last c.last_time_of_bucket-end.result c.args.t span c.requires.past c.requires.time c.if-t-end.true c.last_time_of_bucket-end.ensures.last
