use Rattle.std.proofs.Common.{sym, ◌∙◌}
use Rattle.ts_db.proofs.Storing.{found-some}
use Rattle.ts_db.proofs.store.Store.has.Goals as goal

pub returns : goal.returns
returns c = c.contains_key.ensures ∙ sym (found-some c.args.self.now.limits c.args.self.now.nodes c.args.self.now.keys.entries c.requires c.args.key.now)
