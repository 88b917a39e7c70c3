use Rattle.std.proofs.Common.{sym, ap, ◌∙◌, ◌≡◌, subst}
use Rattle.ts_db.specs.DbState.{Simulates}
use Rattle.ts_restore.specs.Checkpoint.{SeriesPart}
use Rattle.ts_restore.specs.Restorable.{IsNewSeries}
use Rattle.ts_restore.specs.Restored.{with_series}
use Rattle.ts_db.specs.Restoring.{part_of_series}
use Rattle.ts_checkpoint.specs.Checks.{is_new_series}
use Rattle.ts_checkpoint.specs.Loading.{OpenSeries, series_so_far, with_whole}
use Rattle.ts_checkpoint.specs.Restoring.{shown_series}
use Rattle.ts_execution.specs.Stages.{GivesRestored, part_result_of}
use Rattle.ts_execution.proofs.OpenChunks.{shown-part}
use Rattle.ts_execution.proofs.StoredParts.{stored-by}
use Rattle.ts_execution.proofs.open_series.OpenSeries.store.Goals as goal

pub returns : goal.returns
returns g c =
    let s = c.self.inside in
    let p : SeriesPart = part_of_series s.key s.labels s.series in
    let made = c.restore_series.ensures in
    let same : p ≡ shown_series (series_so_far c.args.self) =
    sym (shown-part s.key s.labels s.pieces s.series c.self.invariant) ∙ ap (λ (o : OpenSeries). shown_series (series_so_far o)) c.self.view_is in
    subst (λ (q : SeriesPart). Simulates c.args.db.now c.restore_series.new.self (λ from to. GivesRestored (part_result_of c.restore_series.result) (with_whole from.limits from.state q) from to))
    same
    (stored-by (λ limits keys. is_new_series limits keys p) (λ limits keys. IsNewSeries limits keys p) (λ limits keys. c.checks_are_exact.ensures.series limits keys p) (with_series p)
    c.args.db.now c.restore_series.new.self c.restore_series.result made.valid made.refused made.each)
