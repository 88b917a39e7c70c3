use Rattle.std.proofs.Common.{◌∙◌}
use Rattle.ts_engine.proofs.Openings.{opened-whole, opened-uncut, opened-not}
use Rattle.ts_engine.proofs.opened.open_journal.Goals as goal

pub returns-in-Ok-cut-clause-opened : goal.returns-in-Ok-cut-clause-opened
returns-in-Ok-cut-clause-opened g c =
    opened-whole c.args.db.now c.read_journal.new.db c.args.limits c.args.budget (g.J.Log.content c.args.log.now) c.in-Ok.extent (g.J.Log.content c.read_journal.new.log) (g.J.Log.content c.cut.new.self)
    c.in-Ok.ensures.read c.read_journal.ensures.content c.in-Ok-cut.ensures.cut

pub returns-in-Err-cut-clause-opened : goal.returns-in-Err-cut-clause-opened
returns-in-Err-cut-clause-opened g c =
    opened-uncut c.args.db.now c.read_journal.new.db c.args.limits c.args.budget (g.J.Log.content c.args.log.now) c.in-Ok.extent (g.J.Log.content c.cut.new.self)
    c.in-Ok.ensures.read (c.in-Err-cut.ensures.failed ∙ c.read_journal.ensures.content)

pub returns-in-Err-clause-opened : goal.returns-in-Err-clause-opened
returns-in-Err-clause-opened g c =
    opened-not c.args.db.now c.read_journal.new.db c.args.limits c.args.budget (g.J.Log.content c.args.log.now) c.in-Err.fault (g.J.Log.content c.read_journal.new.log)
    c.in-Err.ensures.read c.read_journal.ensures.content
