use Rattle.std.proofs.Common.{◌∙◌}
use Rattle.ts_spec.specs.Sample.{between, is_within}
use Rattle.ts_spec.proofs.Samples.{ascending-times}
use Rattle.ts_series.specs.History.{list_of}
use Rattle.ts_rules.proofs.LostBucketList.{lost-rising, lost-listed}
use Rattle.ts_rules.proofs.deletion_buffers.LostBuckets.starts.Goals as goal

pub returns-clause-rising : goal.returns-clause-rising
returns-clause-rising g c =
    lost-rising c.args.self.grid c.args.self _ (between c.args.from c.args.to (list_of c.args.source.now)) c.requires.room.grid c.requires.room.last c.requires.room.empty (c.self.view_is ∙ c.scan.ensures.visited)
    (ascending-times (is_within c.args.from c.args.to) (list_of c.args.source.now) c.known.ensures.kept.ascending)

pub returns-clause-lies : goal.returns-clause-lies
returns-clause-lies g c =
    lost-listed c.args.self.grid c.args.self _ (between c.args.from c.args.to (list_of c.args.source.now)) c.requires.room.grid c.requires.room.last c.requires.room.empty (c.self.view_is ∙ c.scan.ensures.visited)
