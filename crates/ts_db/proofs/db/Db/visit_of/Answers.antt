use Rattle.std.proofs.Common.{◌<◌, ◌^◌, arith, rules}
use Rattle.ts_spec.specs.Sample.{is_within}
use Rattle.ts_series.specs.History.{list_of}
use Rattle.ts_series.proofs.Counting.{times-length}
use Rattle.ts_db.proofs.db.Db.visit_of.Goals as goal

pub scan_shown-requires : goal.scan_shown-requires
scan_shown-requires g c =
    let most : c.args.self.now.limits.samples < 2 ^ 32 = search rules in
    record { room = omega (arith, times-length (is_within c.args.from c.args.to) (list_of c.node.result.now.series), c.node.ensures.within, most, c.requires.room) }
