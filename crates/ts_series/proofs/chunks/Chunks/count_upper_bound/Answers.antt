use Rattle.std.proofs.Common.{arith}
use Rattle.ts_series.proofs.TakenOut.{near-least, near-most}
use Rattle.ts_series.proofs.chunks.Chunks.count_upper_bound.Goals as goal

pub returns-clause-least : goal.returns-clause-least
returns-clause-least g c =
    let m = c.overlapping-places in
    omega (arith, c.count_of.ensures, near-least c.args.from c.args.to m.result.start m.result.end c.args.self.now.pieces m.ensures.overlapping)

pub returns-clause-most : goal.returns-clause-most
returns-clause-most g c =
    let m = c.overlapping-places in
    omega (arith, c.count_of.ensures, near-most c.args.from c.args.to m.result.start m.result.end c.args.self.now.pieces m.ensures.overlapping)
