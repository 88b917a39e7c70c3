use Rattle.std.proofs.Common.{length}
use Rattle.ts_spec.specs.Sample.{between, is_within}
use Rattle.ts_spec.proofs.Samples.{ascending-times}
use Rattle.ts_series.specs.History.{list_of}
use Rattle.ts_db.proofs.RowWalks.{beside-room, room-still, still-same, in_key_order-with}
use Rattle.ts_db.proofs.row_merger.scan_merged.Goals as goal

pub scan-requires : goal.scan-requires
scan-requires g c = record { room = beside-room (g.V.Visit.room c.args.among.now.visit.now) (length (between c.args.from c.args.to (list_of c.args.series.now))) c.args.among.now.row c.requires.room }

pub finish-requires : goal.finish-requires
finish-requires g c row waits =
    room-still g.V.Visit.step g.V.Visit.room g.met.V.Visit.lowers c.args.among.now c.scan.new.visit row (between c.args.from c.args.to (list_of c.args.series.now)) c.requires.room c.scan.ensures.visited waits

pub returns-clause-same_reference : goal.returns-clause-same_reference
returns-clause-same_reference g c =
    still-same g.V.Visit.step c.args.among.now c.scan.new.visit c.finish.new.self (between c.args.from c.args.to (list_of c.args.series.now)) c.scan.ensures.visited c.finish.ensures

pub returns-clause-visited : goal.returns-clause-visited
returns-clause-visited g c row waits =
    in_key_order-with g.V.Visit.step c.args.among.now c.scan.new.visit c.finish.new.self row (between c.args.from c.args.to (list_of c.args.series.now))
    (ascending-times (is_within c.args.from c.args.to) (list_of c.args.series.now) c.known.ensures.kept.ascending) waits c.scan.ensures.visited c.finish.ensures
