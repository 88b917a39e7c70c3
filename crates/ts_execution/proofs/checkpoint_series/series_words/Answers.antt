use Rattle.std.proofs.Common.{◌≡◌, ◌∙◌, ap}
use Rattle.ts_checkpoint.specs.Parts.{SeriesHead, Series, series_of}
use Rattle.ts_checkpoint.specs.PartWords.{part_words}
use Rattle.ts_checkpoint.specs.Restoring.{head_of}
use Rattle.ts_checkpoint.specs.Sayable.{IsSayableSeries}
use Rattle.ts_execution.specs.Checkpoints.{chunked}
use Rattle.ts_execution.proofs.StoredChunks.{head-same, reads-back}
use Rattle.ts_execution.proofs.checkpoint_series.series_words.Goals as goal
use Rattle.ts_execution.proofs.checkpoint_series.series_words.Goals.{In-Some}

abbrev wanted : In-Some → SeriesHead
wanted c = head_of (chunked c.args.key.now c.args.labels.now c.args.series.now)

back : (c : In-Some) → IsSayableSeries (wanted c) × (series_of c.in-Some.head ≡ wanted c)
back c =
    reads-back _ _ c.in_ok-head.head c.in-Some.head
    (head-same c.args.key.now c.args.labels.now c.args.series.now c.requires.kept c.options.ensures c.high.ensures c.born.ensures c.requires.pieces) c.in-Some.is c.in_ok-head.ensures

pub returns-in_ok-series_record-in-Some-clause-words : goal.returns-in_ok-series_record-in-Some-clause-words
returns-in_ok-series_record-in-Some-clause-words c =
    c.in_ok-series_record-in-Some.ensures
    ∙ ap (λ (s : SeriesHead). part_words (Series s)) (back (goal.at.returns-in_ok-series_record-in-Some-clause-words c).In-Some).1

pub returns-in_ok-series_record-in-Some-clause-sayable : goal.returns-in_ok-series_record-in-Some-clause-sayable
returns-in_ok-series_record-in-Some-clause-sayable c = (back (goal.at.returns-in_ok-series_record-in-Some-clause-sayable c).In-Some).0
