use Rattle.std.proofs.Common.{ℕ, nat_lt, rules, arith}
use Rattle.std.proofs.lemmas.List.Sorted.{IsPartitionedBy-ltb, IsPartitionPoint-from_clause}
use Rattle.ts_range.proofs.Listed.{first-is, before-first}
use Rattle.ts_range.proofs.filters.first_from.Goals as goal

pub returns-then-place-times-clause-none : goal.returns-then-place-times-clause-none
returns-then-place-times-clause-none c = λ t le.
    let us = c.args.times.now in
    let place = c.partition_point-place.result in
    let parted = IsPartitionedBy-ltb (λ (u : ℕ). u) us c.args.from c.requires in
    let point = IsPartitionPoint-from_clause (λ (u : ℕ). nat_lt u c.args.from) us place c.partition_point-place.ensures.partitioned parted (λ a r f h. search rules) in
    before-first us c.requires place c.args.from point t le (λ less. absurd (omega (arith, c.if-place-times.true)))

pub returns-clause-first : goal.returns-clause-first
returns-clause-first c =
    let us = c.args.times.now in
    let place = c.partition_point-place.result in
    let parted = IsPartitionedBy-ltb (λ (u : ℕ). u) us c.args.from c.requires in
    let point = IsPartitionPoint-from_clause (λ (u : ℕ). nat_lt u c.args.from) us place c.partition_point-place.ensures.partitioned parted (λ a r f h. search rules) in
    (first-is us c.requires place c.args.from point (omega (arith, c.partition_point-place.ensures.bound, c.if-place-times.false)), λ t le less. before-first us c.requires place c.args.from point t le (λ within. less))
