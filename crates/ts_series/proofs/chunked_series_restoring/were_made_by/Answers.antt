use Rattle.std.proofs.Common.{le-leb, leb-true}
use Rattle.ts_series.proofs.Restoring.{made-shown}
use Rattle.ts_series.proofs.chunked_series_restoring.were_made_by.Goals as goal

pub returns-then-made-born : goal.returns-then-made-born
returns-then-made-born g c =
    (λ _. made-shown c.args.made c.args.born c.args.from (g.C.Chunk.list c.args.chunk.now) c.known.ensures.ascending c.requires c.if-made-born.true, λ _. le-leb c.args.made c.args.born c.if-made-born.true)

pub returns-else-made-born : goal.returns-else-made-born
returns-else-made-born g c =
    let both = c.greatest_made.ensures c.args.born in
    (λ few. both.0 (leb-true c.greatest_made.result c.args.born few), λ each. le-leb c.greatest_made.result c.args.born (both.1 each))
