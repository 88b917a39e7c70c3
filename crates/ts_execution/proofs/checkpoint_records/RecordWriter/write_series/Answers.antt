use Rattle.std.proofs.Common.{◌≡◌, [], ◌∷◌, map, ◌∙◌, subst}
use Rattle.std.proofs.lemmas.Result.{on_ok_weaker}
use Rattle.ts_spec.specs.declared.wire.WireLimits.{WireLimits}
use Rattle.ts_spec.specs.Key.{Key}
use Rattle.ts_checkpoint.specs.Parts.{Part, Series}
use Rattle.ts_checkpoint.specs.Restoring.{chunk_part, head_of}
use Rattle.ts_execution.specs.Checkpoints.{Written, chunks_from, chunked}
use Rattle.ts_execution.proofs.Drafting.{this-written}
use Rattle.ts_execution.proofs.StoredChunks.{one-series}
use Rattle.ts_execution.proofs.checkpoint_records.RecordWriter.write_series.Goals as goal

pub returns-clause-written : goal.returns-clause-written
returns-clause-written g c =
    let db = c.args.db.now in
    let limits = c.args.self.now.limits in
    let h = c.series_of-series.result.now in
    let labels = c.labels_of.result.now in
    let Wrote : WireLimits → Type 0 =
    λ l. Written l (g.J.Log.drafted c.write.new.log) (g.J.Log.drafted c.write_chunks.new.log) (map chunk_part (chunks_from h.held.pieces h.held.limits)) in
    let head : Key → Part = λ key. Series (head_of (chunked key labels h)) in
    let first : Written limits (g.J.Log.drafted c.args.log.now) (g.J.Log.drafted c.write.new.log) (head c.key_of-key.result.now ∷ []) =
    this-written _ _ (head c.key_of-key.result.now) c.in_ok-write.ensures.written c.deref.ensures.value c.in_ok-words.ensures.words c.in_ok-words.ensures.sayable in
    on_ok_weaker c.write_chunks.result
    (λ (rest : Wrote c.write.new.self.limits). λ e is. (
    let key : c.key_of-key.result.now ≡ e.key = c.key_of-key.ensures.key ∙ c.key_of-key.ensures.one e.key is.numbered in
    one-series db e labels h (c.series_of-series.ensures.stored e.key is.numbered) c.series_of-series.ensures.kept c.chunk_count-chunks.ensures.shown is.there
    (c.labels_of.ensures.labels e.key is.numbered)
    (subst (λ (k : Key). Written limits (g.J.Log.drafted c.args.log.now) (g.J.Log.drafted c.write.new.log) (head k ∷ [])) key first)
    (subst Wrote c.in_ok-write.ensures.limits rest)))
    c.write_chunks.ensures.written
