use Rattle.std.proofs.Common.{List, ℕ, rules}
use Rattle.std.specs.Prelude.{nat_lt}
use Rattle.std.proofs.lemmas.List.Sorted.{IsPartitionedBy-ltb, IsPartitionPoint-from_clause}
use Rattle.ts_chunk_plain.specs.Plain.{sample_of}
use Rattle.ts_chunk_plain.proofs.Walking.{rising_of, before_place, from_place}
use Rattle.ts_chunk_plain.proofs.pieces.lower_bound.Goals as goal

pub returns : goal.returns
returns c =
    let bs = c.args.pieces.now in
    let i = c.partition_point.result in
    let sorted = IsPartitionedBy-ltb (λ (b : List ℕ). (sample_of b).time) bs c.args.time (rising_of bs c.requires) in
    let point = IsPartitionPoint-from_clause (λ (b : List ℕ). nat_lt (sample_of b).time c.args.time) bs i c.partition_point.ensures.partitioned sorted (λ a r f h. search rules) in
    record {
      within = c.partition_point.ensures.bound;
      after = from_place c.args.time bs i point c.partition_point.ensures.bound;
      before = before_place c.args.time bs i point c.partition_point.ensures.bound;
    }
