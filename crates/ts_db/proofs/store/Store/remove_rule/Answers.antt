use Rattle.std.proofs.Common.{◌==◌, not, filter, List, ◌∙◌, ap}
use Rattle.ts_spec.specs.StoredSeries.{StoredRule}
use Rattle.ts_rules.specs.declared.rule.Rule.{Rule}
use Rattle.ts_db.specs.declared.node.Node.{Node}
use Rattle.ts_db.specs.Linking.{stored_without_rule_to}
use Rattle.ts_db.specs.Store.{key_in, stored_node}
use Rattle.ts_db.proofs.Applying.{elsewhere-turned}
use Rattle.ts_db.proofs.NewLinks.{store-turned, kept-turned, kept-rules, live-rules, node-rules, unruled, live-left, grids-left}
use Rattle.ts_db.proofs.store.Store.remove_rule.Goals as goal

pub returns-clause-store : goal.returns-clause-store
returns-clause-store c =
    let s = c.args.self.now in
    let t = c.remove_rule.ensures in
    let live = c.requires.store.live c.args.id.0 t.was t.there in
    let fits = c.requires.store.each c.args.id.0 t.was t.there in
    let left : List Rule = filter (λ r. not (r.dest.0 == c.args.dest.0)) t.was.rules.items in
    store-turned s c.requires.store c.args.id c.remove_rule.new.self t (ap (λ (x : Node). x.key) t.so.rest)
    (live-rules s.nodes left t.was t.now t.so (live-left s c.requires.store c.args.dest c.requires.dest t.was.rules.items live.rules) live.source)
    (node-rules s.limits left t.was t.now t.so (grids-left s c.requires.store c.args.dest c.requires.dest t.was.rules.items fits.grids) fits)

pub returns-clause-removed : goal.returns-clause-removed
returns-clause-removed c =
    let s = c.args.self.now in
    let t = c.remove_rule.ensures in
    let live = c.requires.store.live c.args.id.0 t.was t.there in
    let left : List Rule = filter (λ r. not (r.dest.0 == c.args.dest.0)) t.was.rules.items in
    kept-turned s c.requires.store c.args.id c.remove_rule.new.self t (ap (λ (x : Node). x.key) t.so.rest) (stored_without_rule_to (key_in s.nodes c.args.dest))
    (live-rules s.nodes left t.was t.now t.so (live-left s c.requires.store c.args.dest c.requires.dest t.was.rules.items live.rules) live.source)
    (kept-rules s.nodes left t.was t.now t.so ∙ ap (λ (qs : List StoredRule). record (stored_node s.nodes t.was) { rules = qs }) (unruled s c.requires.store c.args.dest c.requires.dest t.was.rules.items live.rules))

pub returns-clause-elsewhere : goal.returns-clause-elsewhere
returns-clause-elsewhere c = elsewhere-turned c.args.self.now c.requires.store c.args.id c.remove_rule.new.self c.remove_rule.ensures (ap (λ (x : Node). x.key) c.remove_rule.ensures.so.rest)
