use Rattle.std.proofs.Common.{List, sym, ◌∙◌, ap, subst}
use Rattle.ts_spec.proofs.Tidy.{some-same}
use Rattle.ts_rules.specs.declared.rule.Rule.{Rule}
use Rattle.ts_db.specs.declared.node.Node.{Node}
use Rattle.ts_db.specs.Store.{AreLive}
use Rattle.ts_db.proofs.Ending.{all-alone}
use Rattle.ts_db.proofs.Freed.{live-after, all-live-after, source-live-after}
use Rattle.ts_db.proofs.store.Store.end_rules.Goals as goal

pub end_source-requires-clause-live : goal.end_source-requires-clause-live
end_source-requires-clause-live c =
    live-after c.args.self.now c.take_rules-rules.new.self c.requires.db.store c.take_rules-rules.ensures.store c.take_rules-rules.ensures.elsewhere.entries c.args.id
    (record { node = c.requires.there.node; there = c.requires.there.holds.node })

pub end_source-requires-clause-source : goal.end_source-requires-clause-source
end_source-requires-clause-source c =
    source-live-after c.args.self.now c.take_rules-rules.new.self c.requires.db.store c.take_rules-rules.ensures.store c.take_rules-rules.ensures.elsewhere.entries c.node-node.result.now.source
    (c.requires.db.store.live c.args.id.0 c.node-node.result.now c.node-node.ensures).source

pub free-requires-clause-live : goal.free-requires-clause-live
free-requires-clause-live c =
    all-live-after c.take_rules-rules.new.self c.end_source.new.self c.take_rules-rules.ensures.store c.end_source.ensures.store c.end_source.ensures.names.entries c.take_rules-rules.result.items
    (all-live-after c.args.self.now c.take_rules-rules.new.self c.requires.db.store c.take_rules-rules.ensures.store c.take_rules-rules.ensures.elsewhere.entries c.take_rules-rules.result.items
    (subst (λ (rs : List Rule). AreLive c.args.self.now.nodes rs) (sym (c.take_rules-rules.ensures.rules c.node-node.result.now c.node-node.ensures))
    (c.requires.db.store.live c.args.id.0 c.node-node.result.now c.node-node.ensures).rules))

pub returns-clause-alone : goal.returns-clause-alone
returns-clause-alone c key n holds =
    all-alone c.args.self.now c.requires.db key c.args.id n holds c.take_rules-rules.new.self c.end_source.new.self c.free.new.self c.node-node.result.now.source c.take_rules-rules.result.items
    (ap (λ (x : Node). x.source) (some-same c.node-node.result.now n (sym c.node-node.ensures ∙ holds.node))) (c.take_rules-rules.ensures.rules n holds.node) c.take_rules-rules.ensures.elsewhere c.take_rules-rules.ensures.taken
    c.end_source.ensures.names c.end_source.ensures.ended c.free.ensures.freed
