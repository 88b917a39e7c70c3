use Rattle.std.proofs.Common.{◌≡◌, arith}
use Rattle.ts_spec.specs.Bucket.{start}
use Rattle.ts_spec.proofs.Buckets.{start-start}
use Rattle.ts_range.proofs.bucket.span_of.Goals as goal

pub returns-clause-span : goal.returns-clause-span
returns-clause-span c =
    let begins : start c.args.grid.now c.start_of-start.result ≡ c.start_of-start.result =
    rw c.start_of-start.ensures (start-start c.args.grid.now c.args.t (omega (arith, c.known.ensures.some))) in
    record { grid = c.known.ensures; begins = begins; ends = c.last_time_of_bucket.ensures.last begins }
