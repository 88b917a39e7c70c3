use Rattle.std.proofs.Common.{[], sym, ◌∙◌, ap}
use Rattle.ts_db.specs.declared.node.Node.{Node}
use Rattle.ts_db.specs.Linking.{stored_ruleless}
use Rattle.ts_db.proofs.Applying.{elsewhere-turned}
use Rattle.ts_db.proofs.NewLinks.{store-turned, kept-turned, kept-rules, live-rules, node-rules}
use Rattle.ts_spec.proofs.Tidy.{some-same}
use Rattle.ts_db.proofs.store.Store.take_rules.Goals as goal

pub returns-clause-rules : goal.returns-clause-rules
returns-clause-rules c n got =
    let t = c.take_rules.ensures in
    t.so.0 ∙ ap (λ (x : Node). x.rules.items) (some-same t.was n (sym t.there ∙ got))

pub returns-clause-store : goal.returns-clause-store
returns-clause-store c =
    let s = c.args.self.now in
    let t = c.take_rules.ensures in
    store-turned s c.requires.store c.args.id c.take_rules.new.self t (ap (λ (x : Node). x.key) t.so.1.rest)
    (live-rules s.nodes [] t.was t.now t.so.1 tt (c.requires.store.live c.args.id.0 t.was t.there).source)
    (node-rules s.limits [] t.was t.now t.so.1 tt (c.requires.store.each c.args.id.0 t.was t.there))

pub returns-clause-taken : goal.returns-clause-taken
returns-clause-taken c =
    let s = c.args.self.now in
    let t = c.take_rules.ensures in
    kept-turned s c.requires.store c.args.id c.take_rules.new.self t (ap (λ (x : Node). x.key) t.so.1.rest) stored_ruleless
    (live-rules s.nodes [] t.was t.now t.so.1 tt (c.requires.store.live c.args.id.0 t.was t.there).source) (kept-rules s.nodes [] t.was t.now t.so.1)

pub returns-clause-elsewhere : goal.returns-clause-elsewhere
returns-clause-elsewhere c = elsewhere-turned c.args.self.now c.requires.store c.args.id c.take_rules.new.self c.take_rules.ensures (ap (λ (x : Node). x.key) c.take_rules.ensures.so.1.rest)
