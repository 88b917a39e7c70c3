use Rattle.ts_db.proofs.Applying.{elsewhere-turned}
use Rattle.ts_db.proofs.NewLinks.{name-more, store-more, kept-more, none-more}
use Rattle.ts_db.proofs.store.Store.add_rule.Goals as goal

pub add_rule-requires : goal.add_rule-requires
add_rule-requires c =
    let live = c.requires.live in
    record { node = live.node; there = live.there; holds = (c.requires.born live.node live.there).counts }

pub returns-clause-store : goal.returns-clause-store
returns-clause-store c =
    let t = c.add_rule.ensures in
    store-more c.args.self.now c.requires.store c.args.id c.add_rule.new.self c.args.dest c.args.agg c.args.grid c.requires.dest c.add_rule.result t (c.requires.born t.was t.there) c.known.ensures

pub returns-clause-added : goal.returns-clause-added
returns-clause-added c =
    kept-more c.args.self.now c.requires.store c.args.id c.add_rule.new.self c.args.dest c.args.agg c.args.grid c.requires.dest c.add_rule.result c.add_rule.ensures

pub returns-clause-unchanged : goal.returns-clause-unchanged
returns-clause-unchanged c =
    none-more c.args.self.now c.requires.store c.args.id c.add_rule.new.self c.args.dest c.args.agg c.args.grid c.requires.dest c.add_rule.result c.add_rule.ensures

pub returns-clause-elsewhere : goal.returns-clause-elsewhere
returns-clause-elsewhere c =
    let s = c.args.self.now in
    elsewhere-turned s c.requires.store c.args.id c.add_rule.new.self c.add_rule.ensures
    (name-more s c.requires.store c.args.id c.add_rule.new.self c.args.dest c.args.agg c.args.grid c.requires.dest c.add_rule.result c.add_rule.ensures)
