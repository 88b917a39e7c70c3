use Rattle.std.proofs.Common.{◌<◌, ◌≤◌, ◌-◌, length, get_or, rules, arith}
use Rattle.std.specs.Prelude.{nat_le}
use Rattle.std.proofs.lemmas.List.Sorted.{IsPartitionedBy-leb, IsPartitionPoint-from_clause}
use Rattle.ts_spec.specs.Sample.{Point}
use Rattle.ts_sample.proofs.Parted.{rising, cut_past, upto_all}
use Rattle.ts_sample.proofs.sample.upper_bound.Goals as goal

pub returns : goal.returns
returns c =
    let ps = c.args.list.now in
    let sorted = IsPartitionedBy-leb (λ (p : Point). p.time) ps c.args.time (rising ps c.requires) in
    let point = IsPartitionPoint-from_clause (λ (p : Point). nat_le p.time c.args.time) ps c.partition_point.result c.partition_point.ensures.partitioned sorted (λ a r f h. search rules) in
    let parts = cut_past c.args.time ps c.partition_point.result point c.partition_point.ensures.bound in
    record { within = c.partition_point.ensures.bound; upto = parts.0; past = parts.1 }

pub returns-then-last-time : goal.returns-then-last-time
returns-then-last-time c =
    let ps = c.args.list.now in
    let last : (d : Point) → 0 < length ps → (get_or ps (length ps - 1) d).time ≤ c.args.time = λ d some. search rules in
    let parts = cut_past c.args.time ps (length ps) (upto_all c.args.time ps c.requires last) (omega arith) in
    record { within = omega arith; upto = parts.0; past = parts.1 }
