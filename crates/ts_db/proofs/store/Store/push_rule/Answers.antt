use Rattle.ts_db.proofs.Applying.{elsewhere-turned}
use Rattle.ts_db.proofs.PushedRules.{name-pushed, store-pushed, kept-pushed, none-pushed}
use Rattle.ts_db.proofs.store.Store.push_rule.Goals as goal

pub returns-clause-store : goal.returns-clause-store
returns-clause-store c =
    store-pushed c.args.self.now c.requires.store c.args.id c.push_rule.new.self c.args.rule c.requires.dest c.push_rule.result c.push_rule.ensures c.known.ensures

pub returns-clause-pushed : goal.returns-clause-pushed
returns-clause-pushed c = kept-pushed c.args.self.now c.requires.store c.args.id c.push_rule.new.self c.args.rule c.requires.dest c.push_rule.result c.push_rule.ensures

pub returns-clause-unchanged : goal.returns-clause-unchanged
returns-clause-unchanged c = none-pushed c.args.self.now c.requires.store c.args.id c.push_rule.new.self c.args.rule c.requires.dest c.push_rule.result c.push_rule.ensures

pub returns-clause-elsewhere : goal.returns-clause-elsewhere
returns-clause-elsewhere c =
    elsewhere-turned c.args.self.now c.requires.store c.args.id c.push_rule.new.self c.push_rule.ensures
    (name-pushed c.args.self.now c.requires.store c.args.id c.push_rule.new.self c.args.rule c.requires.dest c.push_rule.result c.push_rule.ensures)
