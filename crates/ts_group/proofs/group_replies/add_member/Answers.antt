use Rattle.std.proofs.Common.{sym}
use Rattle.ts_group.specs.Grouped.{labelled_of}
use Rattle.ts_group.proofs.Gathered.{groups-kept}
use Rattle.ts_group.proofs.group_replies.add_member.Goals as goal

pub returns-in-None : goal.returns-in-None
returns-in-None c = λ ms. λ is. groups-kept c.args.label.now c.args.groups.now.entries ms (labelled_of c.args.member.now) (sym c.in-None.ensures) is
