use Rattle.ts_io.proofs.Holding.{holds_all}
use Rattle.ts_io.proofs.streams.StdSink.new.Goals as goal

pub returns-clause-has : goal.returns-clause-has
returns-clause-has g c = holds_all (g.W.Write.contents c.args.inner)
