use Rattle.std.proofs.Common.{◌<◌, ◌-◌, length, get_or, rules, arith}
use Rattle.std.specs.Prelude.{nat_lt}
use Rattle.std.proofs.lemmas.List.Sorted.{IsPartitionedBy-ltb, IsPartitionPoint-from_clause}
use Rattle.ts_spec.specs.Sample.{Point}
use Rattle.ts_sample.proofs.Parted.{rising, cut_at, past_all}
use Rattle.ts_sample.proofs.sample.lower_bound.Goals as goal

pub returns : goal.returns
returns c =
    let ps = c.args.list.now in
    let sorted = IsPartitionedBy-ltb (λ (p : Point). p.time) ps c.args.time (rising ps c.requires) in
    let point = IsPartitionPoint-from_clause (λ (p : Point). nat_lt p.time c.args.time) ps c.partition_point.result c.partition_point.ensures.partitioned sorted (λ a r f h. search rules) in
    let parts = cut_at c.args.time ps c.partition_point.result point c.partition_point.ensures.bound in
    record { within = c.partition_point.ensures.bound; before = parts.0; after = parts.1 }

pub returns-then-last-time : goal.returns-then-last-time
returns-then-last-time c =
    let ps = c.args.list.now in
    let last : (d : Point) → 0 < length ps → (get_or ps (length ps - 1) d).time < c.args.time = λ d some. search rules in
    let parts = cut_at c.args.time ps (length ps) (past_all c.args.time ps c.requires last) (omega arith) in
    record { within = omega arith; before = parts.0; after = parts.1 }
