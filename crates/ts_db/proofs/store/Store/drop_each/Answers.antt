use Rattle.std.proofs.Common.{◌≡◌, ◌+◌, ◌≤◌, ◌∷◌, List, Bool, drop, sym, ◌∙◌, ap, arith}
use Rattle.std.specs.Prelude.{if◌then◌else◌}
use Rattle.std.proofs.lemmas.List.{drop_more}
use Rattle.ts_spec.specs.Key.{Key}
use Rattle.ts_spec.specs.StoredStep.{stored_drop_keys}
use Rattle.ts_db.specs.Store.{db_view_of}
use Rattle.ts_db.proofs.Dropped.{db-less, goes-on}
use Rattle.ts_db.proofs.store.Store.drop_each.Goals as goal
use Rattle.ts_db.proofs.store.Store.drop_each.Goals.{then-drop_key, else-drop_key}

pub loop-key-preserved : goal.loop-key-preserved
loop-key-preserved c =
    let after : c.if-drop_key.count ≡ (if c.drop_key.result then c.loop-key.count + 1 else c.loop-key.count) = elim c.if-drop_key.branch [
      | then-drop_key w ↦ w.count-is ∙ ap (λ (b : Bool). if b then c.loop-key.count + 1 else c.loop-key.count) (sym w.if-drop_key.true)
      | else-drop_key w ↦ w.count-is ∙ ap (λ (b : Bool). if b then c.loop-key.count + 1 else c.loop-key.count) (sym w.if-drop_key.false)
    ] in
    let few : c.if-drop_key.count ≤ c.loop-key.count + 1 = elim c.if-drop_key.branch [
      | then-drop_key w ↦ omega (arith, w.count-is)
      | else-drop_key w ↦ omega (arith, w.count-is)
    ] in
    let rest = drop (c.loop-key.key-index + 1) c.args.keys.now in
    record {
      db = db-less c.loop-key.self c.drop_key.new.self c.key-item.result c.drop_key.result c.drop_key.ensures.there c.drop_key.ensures.keys c.drop_key.ensures.limits c.loop-key.invariant.db
          c.drop_key.ensures.store;
      limits = c.drop_key.ensures.limits ∙ c.loop-key.invariant.limits;
      goes_on = goes-on c.loop-key.self c.drop_key.new.self c.key-item.result c.drop_key.result c.drop_key.ensures.there c.drop_key.ensures.keys rest c.loop-key.count c.if-drop_key.count after
          ∙ ap (λ (ks : List Key). stored_drop_keys (db_view_of c.loop-key.self).keys c.loop-key.count ks)
          (sym (drop_more c.args.keys.now c.loop-key.key-index c.key-item.result c.loop-key-test.true ∙ ap (λ (k : Key). k ∷ rest) (sym c.key-item.is)))
          ∙ c.loop-key.invariant.goes_on;
      count = omega (arith, few, c.loop-key.invariant.count);
    }
