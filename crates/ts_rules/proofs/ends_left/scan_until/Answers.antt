use Rattle.std.proofs.Common.{sym, ap}
use Rattle.ts_sample.specs.Visit.{visited}
use Rattle.ts_series.specs.History.{list_of}
use Rattle.ts_rules.proofs.Times.{until-none}
use Rattle.ts_rules.proofs.ends_left.scan_until.Goals as goal

pub returns-else-from-end-clause-visited : goal.returns-else-from-end-clause-visited
returns-else-from-end-clause-visited g c =
    sym (ap (visited g.V.Visit.step c.args.visit.now) (until-none c.args.from c.args.end (list_of c.args.source.now) c.if-from-end.false))
