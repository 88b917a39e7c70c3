use Rattle.std.proofs.Common.{arith}
use Rattle.ts_db.proofs.store.Store.can_restore_rule.Goals as goal

pub can_restore-requires-clause-few : goal.can_restore-requires-clause-few
can_restore-requires-clause-few g c =
    let node = c.requires.store.each c.args.id.0 c.node-source.result.now c.node-source.ensures in omega (arith, node.within, c.requires.store.bounded)
