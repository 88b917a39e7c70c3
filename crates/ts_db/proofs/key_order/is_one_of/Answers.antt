use Rattle.std.proofs.Common.{sym}
use Rattle.ts_db.proofs.Walked.{found-in, not-in}
use Rattle.ts_db.proofs.key_order.is_one_of.Goals as goal

pub returns-in-Ok : goal.returns-in-Ok
returns-in-Ok c = sym (found-in c.args.ids.now c.in-Ok._place c.args.id c.requires c.in-Ok.ensures.bound c.in-Ok.ensures.ok)

pub returns-in-Err : goal.returns-in-Err
returns-in-Err c = sym (not-in c.args.ids.now c.in-Err._place c.args.id c.requires c.in-Err.ensures.position)
