use Rattle.std.proofs.Common.{sym, ap, subst}
use Rattle.std.specs.Prelude.{option_map}
use Rattle.ts_db.specs.declared.node.Node.{Node}
use Rattle.ts_db.specs.Linking.{stored_with_source}
use Rattle.ts_db.specs.Store.{key_in, stored_node, HasLiveLinks, IsNode}
use Rattle.ts_db.proofs.Applying.{elsewhere-turned}
use Rattle.ts_db.proofs.NewLinks.{store-turned, kept-turned}
use Rattle.ts_db.proofs.store.Store.set_source.Goals as goal

pub returns-clause-store : goal.returns-clause-store
returns-clause-store c =
    let t = c.set_source.ensures in
    let fits = c.requires.store.each c.args.id.0 t.was t.there in
    store-turned c.args.self.now c.requires.store c.args.id c.set_source.new.self t (ap (λ (x : Node). x.key) t.so)
    (subst (HasLiveLinks c.args.self.now.nodes) (sym t.so) (record { rules = (c.requires.store.live c.args.id.0 t.was t.there).rules; source = c.requires.source }))
    (subst (IsNode c.args.self.now.limits) (sym t.so) (record { kept = fits.kept; within = fits.within; born = fits.born; labels = fits.labels; grids = fits.grids }))

pub returns-clause-set : goal.returns-clause-set
returns-clause-set c =
    let t = c.set_source.ensures in
    kept-turned c.args.self.now c.requires.store c.args.id c.set_source.new.self t (ap (λ (x : Node). x.key) t.so) (stored_with_source (option_map (key_in c.args.self.now.nodes) c.args.source))
    (subst (HasLiveLinks c.args.self.now.nodes) (sym t.so) (record { rules = (c.requires.store.live c.args.id.0 t.was t.there).rules; source = c.requires.source })) (ap (stored_node c.args.self.now.nodes) t.so)

pub returns-clause-elsewhere : goal.returns-clause-elsewhere
returns-clause-elsewhere c = elsewhere-turned c.args.self.now c.requires.store c.args.id c.set_source.new.self c.set_source.ensures (ap (λ (x : Node). x.key) c.set_source.ensures.so)
