use Rattle.ts_checkpoint.specs.Parts.{SeriesHead}
use Rattle.ts_checkpoint.proofs.SayableSeries.{found-created}
use Rattle.ts_checkpoint.proofs.sayable.series_head.Goals as goal

pub returns-in-None : goal.returns-in-None
returns-in-None c = λ h.
    let s : SeriesHead = record {
      key = c.args.key.now;
      spec = record { options = c.args.options.now; labels = c.args.labels.now };
      high = c.args.high;
      born = c.args.born;
      pieces = c.args.pieces;
    } in
    found-created c.records_read_back.ensures.words s h c.new-draft.ensures c.in_ok-put_create.ensures c.unchecked.ensures c.in_ok-created.field-0 c.in_ok-created.ensures c.in-None.is
