use Rattle.std.specs.Prelude.{Ok}
use Rattle.std.proofs.Common.{List, [], ◌∷◌, map, ◌∙◌, subst, arith}
use Rattle.ts_spec.specs.declared.wire.WireLimits.{WireLimits}
use Rattle.ts_checkpoint.specs.Restoring.{Chunk, chunk_part}
use Rattle.ts_execution.specs.Checkpoints.{Written, chunk_at}
use Rattle.ts_execution.proofs.Drafting.{drafts-then}
use Rattle.ts_execution.proofs.StoredChunks.{chunks-next, all-chunks}
use Rattle.ts_execution.proofs.checkpoint_records.RecordWriter.write_chunks.Goals as goal

pub loop-index-preserved : goal.loop-index-preserved
loop-index-preserved g c =
    let so_far = c.loop-index.invariant in
    let h = c.args.series.now in
    let one = subst
    (λ (limits : WireLimits). Written limits (g.J.Log.drafted c.loop-index.log) (g.J.Log.drafted c.write_chunk.new.log) (chunk_part (chunk_at h.held c.loop-index.index) ∷ []))
    so_far.limits c.in_ok-write_chunk.ensures.written in
    record {
      written = chunks-next h c.loop-index.index c.requires (omega arith) so_far.written one;
      drafts = drafts-then {result = Ok tt} so_far.drafts c.in_ok-write_chunk.ensures.drafts;
      limits = c.in_ok-write_chunk.ensures.limits ∙ so_far.limits;
    }

pub returns-clause-written : goal.returns-clause-written
returns-clause-written g c =
    subst
    (λ (l : List Chunk). Written c.args.self.now.limits (g.J.Log.drafted c.args.log.now) (g.J.Log.drafted c.loop-index.log) (map chunk_part l))
    (all-chunks c.args.series.now c.loop-index.index c.requires (omega arith)) c.loop-index.invariant.written
