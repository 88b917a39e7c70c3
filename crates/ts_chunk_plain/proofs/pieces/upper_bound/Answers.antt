use Rattle.std.proofs.Common.{List, ℕ, rules}
use Rattle.std.specs.Prelude.{nat_le}
use Rattle.std.proofs.lemmas.List.Sorted.{IsPartitionedBy-leb, IsPartitionPoint-from_clause}
use Rattle.ts_chunk_plain.specs.Plain.{sample_of}
use Rattle.ts_chunk_plain.proofs.Walking.{rising_of, past_place}
use Rattle.ts_chunk_plain.proofs.pieces.upper_bound.Goals as goal

pub returns-clause-past : goal.returns-clause-past
returns-clause-past c =
    let bs = c.args.pieces.now in
    let sorted = IsPartitionedBy-leb (λ (b : List ℕ). (sample_of b).time) bs c.args.time (rising_of bs c.requires) in
    let point = IsPartitionPoint-from_clause (λ (b : List ℕ). nat_le (sample_of b).time c.args.time) bs c.partition_point.result c.partition_point.ensures.partitioned sorted (λ a r f h. search rules) in
    past_place c.args.time bs c.partition_point.result point c.partition_point.ensures.bound
