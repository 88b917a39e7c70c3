use Rattle.std.proofs.Common.{◌≡◌, rules, [], map, subst, take, drop, arith}
use Rattle.std.specs.Prelude.{nat_le}
use Rattle.std.proofs.lemmas.List.Sorted.{IsPartitionPoint-from_clause}
use Rattle.ts_spec.specs.Sample.{first_of, at_times}
use Rattle.ts_sample.specs.Chunk.{joined}
use Rattle.ts_series.specs.Stored.{Stored, HaveBegun}
use Rattle.ts_series.proofs.EarlyLate.{is_upto}
use Rattle.ts_series.proofs.Meeting.{begins-parted, later, begun}
use Rattle.ts_series.proofs.chunks.Chunks.upto.Goals as goal
use Rattle.ts_series.proofs.Answering.{pieces-length}

pub returns : goal.returns
returns g c =
    let cs = c.self.inside.chunks.items in
    let ok = c.self.inside.chunks.ok in
    let kept = c.self.invariant in
    let i = c.partition_point.result in
    let parted = begins-parted g.C.Chunk.format g.C.Chunk.list cs (map g.C.Chunk.most cs) kept.chunks kept.ascending c.args.time in
    let point = IsPartitionPoint-from_clause (λ x. is_upto c.args.time (first_of (g.C.Chunk.list x))) cs i c.partition_point.ensures.partitioned
    parted (λ a r f h. search rules) in
    record {
      within = omega (arith, c.partition_point.ensures.bound, pieces-length g.C.Chunk.list cs _ _ c.args.self.now c.self.view_is);
      later = subst (λ (k : Stored). at_times (λ t. nat_le t c.args.time) (joined (drop i k.pieces)) ≡ []) c.self.view_is
          (later g.C.Chunk.format g.C.Chunk.list cs (map g.C.Chunk.most cs) kept.chunks kept.ascending c.args.time i point);
      begun = subst (λ (k : Stored). HaveBegun c.args.time (take i k.pieces)) c.self.view_is
          (begun g.C.Chunk.format g.C.Chunk.list cs (map g.C.Chunk.most cs) kept.chunks kept.ascending c.args.time i point (omega (arith, c.partition_point.ensures.bound)));
    }
