use Rattle.std.proofs.Common.{◌≡◌, [], ◌∷◌, ◌∙◌, subst}
use Rattle.std.specs.Prelude.{OnOk}
use Rattle.ts_checkpoint.specs.Parts.{Part, Samples}
use Rattle.ts_checkpoint.specs.Restoring.{chunk_part}
use Rattle.ts_execution.specs.Checkpoints.{Written, chunk_at}
use Rattle.ts_execution.proofs.Drafting.{one-written}
use Rattle.ts_execution.proofs.checkpoint_records.RecordWriter.write_chunk.Goals as goal

pub returns-clause-written : goal.returns-clause-written
returns-clause-written g c =
    let p : Part = Samples (record { limit = c.chunk_limit-limit.result; samples = c.bytes-bytes.result.now }) in
    let same : p ≡ chunk_part (chunk_at c.args.series.now.held c.args.index) =
    λ i. Samples (record { limit = c.chunk_limit-limit.ensures.limit i; samples = (c.bytes-bytes.ensures ∙ c.in_ok-samples.ensures.bytes) i }) in
    subst
    (λ (q : Part). OnOk c.write.result (Written c.args.self.now.limits (g.J.Log.drafted c.args.log.now) (g.J.Log.drafted c.write.new.log) (q ∷ [])))
    same
    (one-written _ _ _ c.write.result _ _ p c.write.ensures.written c.deref.ensures.value c.in_ok-words.ensures (c.piece_reads_back.ensures.0 c.if-not-piece_reads_back.false))
