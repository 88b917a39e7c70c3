use Rattle.std.proofs.Common.{ℕ, nat_le, rules, arith}
use Rattle.std.proofs.lemmas.List.Sorted.{IsPartitionedBy-leb, IsPartitionPoint-from_clause}
use Rattle.ts_range.proofs.Listed.{last-is, past-last}
use Rattle.ts_range.proofs.filters.last_upto.Goals as goal

pub returns-then-count-eq0-clause-none : goal.returns-then-count-eq0-clause-none
returns-then-count-eq0-clause-none c = λ t le.
    let us = c.args.times.now in
    let count = c.partition_point-count.result in
    let parted = IsPartitionedBy-leb (λ (u : ℕ). u) us c.args.to c.requires in
    let point = IsPartitionPoint-from_clause (λ (u : ℕ). nat_le u c.args.to) us count c.partition_point-count.ensures.partitioned parted (λ a r f h. search rules) in
    past-last us c.requires count c.args.to (omega (arith, c.partition_point-count.ensures.bound)) point t le (λ some. absurd (omega (arith, c.if-count-eq0.true)))

pub returns-clause-last : goal.returns-clause-last
returns-clause-last c =
    let us = c.args.times.now in
    let count = c.partition_point-count.result in
    let parted = IsPartitionedBy-leb (λ (u : ℕ). u) us c.args.to c.requires in
    let point = IsPartitionPoint-from_clause (λ (u : ℕ). nat_le u c.args.to) us count c.partition_point-count.ensures.partitioned parted (λ a r f h. search rules) in
    let within = c.partition_point-count.ensures.bound in
    (last-is us c.requires count c.args.to (omega (arith, within)) point (omega (arith, c.if-count-eq0.false)), λ t past le. past-last us c.requires count c.args.to (omega (arith, within)) point t le (λ some. past))
