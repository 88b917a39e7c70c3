use Rattle.ts_series.specs.History.{history_of}
use Rattle.ts_series.proofs.Keeping.{kept-born}
use Rattle.ts_series.proofs.chunked_series.ChunkedSeries.raise_born.Goals as goal

pub invariant_of-self : goal.invariant_of-self
invariant_of-self g c = kept-born (history_of c.self.inside.options c.self.inside.high c.self.inside.born c.self.inside.chunks) c.self.invariant

pub returns-clause-kept : goal.returns-clause-kept
returns-clause-kept g c = kept-born (history_of c.self.inside.options c.self.inside.high c.self.inside.born c.self.inside.chunks) c.self.invariant
