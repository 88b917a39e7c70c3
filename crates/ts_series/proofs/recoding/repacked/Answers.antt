use Rattle.ts_series.proofs.Formats.{some-packed}
use Rattle.ts_series.proofs.recoding.repacked.Goals as goal

pub unwrap-requires : goal.unwrap-requires
unwrap-requires c = some-packed c.in_ok-copy.copy c.args.chunk.now.limit c.args.chunk.now.list c.in_ok-copy.ensures.full c.known.ensures
