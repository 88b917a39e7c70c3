-- Removing a key and its series once no rule links it.
use Rattle.std.proofs.Common.{◌≡◌, ◌≢◌, ℕ, Bool, true, false, not, ◌||◌, cond, List, [], ◌∷◌, filter, if◌then◌else◌, Option, Some, None, is_some, option_map, refl, sym, ap, ◌∙◌}
use Rattle.slab.specs.Slab as slab
use Rattle.ts_spec.specs.declared.limits.Limits.{Limits}
use Rattle.ts_spec.specs.Key.{Key, same}
use Rattle.ts_spec.specs.Keyed.{get, without_key}
use Rattle.ts_spec.specs.StoredSeries.{StoredRule, StoredSeries, StoredKeys}
use Rattle.ts_spec.specs.StoredKeys.{source_left, stored_ended, keys_ended, keys_dropped}
use Rattle.ts_spec.specs.StoredUpdates.{stored_rule_to}
use Rattle.ts_spec.proofs.Keys.{same-refl, same-true}
use Rattle.ts_spec.proofs.Maps.{get-each, get-without}
use Rattle.ts_spec.proofs.Tidy.{some-same}
use Rattle.ts_sample.specs.declared.sample.Id.{Id}
use Rattle.ts_rules.specs.declared.rule.Rule.{Rule}
use Rattle.ts_rules.specs.Rules.{stored_rule_for}
use Rattle.ts_db.specs.declared.node.Node.{Node}
use Rattle.ts_db.specs.Linking.{AreFreeOf, IsFreeOf}
use Rattle.ts_db.specs.Store.{Nodes, Numbers, rules_by, key_at, key_in, stored_node, stored_by_key, has_key, id_for_key, HasNode, AreLive, IsLiveSource, HasLiveLinks, IsStore}
use Rattle.ts_db.proofs.Collecting.{stored_by_key-removed}
use Rattle.ts_db.proofs.Storing.{apart, there, missing, others-removed}

-- ---- the stored data of other keys once a key was dropped is free of it

module _ (key k : Key) where
  abbrev ends : Key → Key → Bool
  ends s d = same s key || same d key

  none-left : (qs : List StoredRule) → stored_rule_to key (filter (λ q. not (ends k q.dest)) qs) ≡ None
  none-left [] = refl
  none-left (q ∷ qs) = go (same k key) (same q.dest key) refl (none-left qs)
    where
      go : (a b : Bool) → same q.dest key ≡ b → stored_rule_to key (filter (λ q. not (ends k q.dest)) qs) ≡ None
          → stored_rule_to key (cond (not (a || b)) (q ∷ filter (λ q. not (ends k q.dest)) qs) (filter (λ q. not (ends k q.dest)) qs)) ≡ None
      go true b x ih = ih
      go false true x ih = ih
      go false false x ih = ap (λ b. if b then Some q else stored_rule_to key (filter (λ q. not (ends k q.dest)) qs)) x ∙ ih

  no-source : (o : Option Key) → source_left ends k o ≡ Some key → ⊥
  no-source None e = absurd (cc e)
  no-source (Some x) e = go (same x key) (same k key) refl e
    where
      go : (a b : Bool) → same x key ≡ a → (if a || b then None else Some x) ≡ Some key → ⊥
      go true b y e = absurd (cc e)
      go false true y e = absurd (cc e)
      go false false y e = absurd (cc (sym y ∙ ap (λ (j : Key). same j key) (some-same x key e) ∙ same-refl key))

  free-ended : (e d : StoredSeries) → stored_ended ends k e ≡ d → IsFreeOf key d
  free-ended e d is = record {
    rules = ap (λ (x : StoredSeries). stored_rule_to key x.rules) (sym is) ∙ none-left e.rules;
    source = λ x. no-source e.source (ap (λ (y : StoredSeries). y.source) is ∙ x);
  }

-- so it is with each key that is then left
pub free-of : (m new : StoredKeys) (key : Key) → without_key key new ≡ keys_dropped key m → AreFreeOf key new
free-of m new key same_keys k d at unlike = go (get k m) (sym (get-each (stored_ended (ends key k)) k m) ∙ left)
  where
    left : get k (keys_ended (ends key k) m) ≡ Some d
    left =
        ap (λ b. if b then None else get k (keys_ended (ends key k) m)) (sym unlike)
        ∙ sym (get-without k key (keys_ended (ends key k) m))
        ∙ ap (get k) (sym same_keys)
        ∙ get-without k key new
        ∙ ap (λ b. if b then None else get k new) unlike
        ∙ at

    go : (o : Option StoredSeries) → option_map (stored_ended (ends key k) k) o ≡ Some d → IsFreeOf key d
    go None e = absurd (cc e)
    go (Some x) e = free-ended key k x d (some-same (stored_ended (ends key k) k x) d e)

module _ (limits : Limits) (nodes : Nodes) (es : Numbers) (store : IsStore limits nodes es) (key : Key) where
  -- a key that is missing
  pub drops-nothing : id_for_key key es ≡ None → stored_by_key nodes es ≡ (if is_some (get key (stored_by_key nodes es)) then keys_dropped key (stored_by_key nodes es) else stored_by_key nodes es)
  drops-nothing is = ap (λ (o : Option StoredSeries). if is_some o then keys_dropped key (stored_by_key nodes es) else stored_by_key nodes es) (sym (missing limits nodes es store key is))

  module _ (new : Nodes) (id : Id) (is : id_for_key key es ≡ Some id) (change : slab.Updates nodes new id.0 None) (free : AreFreeOf key (stored_by_key nodes es)) where
    named : key_in nodes id ≡ key
    named = let n = store.stored key id is in ap key_at n.1 ∙ store.named key id n.0 is n.1

    live-still : (i : Id) → (i.0 ≡ id.0 → ⊥) → HasNode nodes i → HasNode new i
    live-still i other live = record { node = live.node; there = change.others i.0 other ∙ live.there }

    rules-live : (rs : List Rule) → stored_rule_to key (rules_by (key_in nodes) rs) ≡ None → AreLive nodes rs → AreLive new rs
    rules-live [] none live = tt
    rules-live (r ∷ rs) none live = go (same (key_in nodes r.dest) key) refl none (λ e. rules-live rs e live.1)
      where
        go : (b : Bool) → same (key_in nodes r.dest) key ≡ b → (if b then Some (stored_rule_for (key_in nodes r.dest) r) else stored_rule_to key (rules_by (key_in nodes) rs)) ≡ None
            → (stored_rule_to key (rules_by (key_in nodes) rs) ≡ None → AreLive new rs) → AreLive new (r ∷ rs)
        go true x e ih = absurd (cc e)
        go false x e ih =
            (live-still r.dest (λ here. absurd (cc (sym x ∙ ap (λ (k : Key). same k key) (ap key_at (ap (slab.get nodes) here) ∙ named) ∙ same-refl key))) live.0, ih e)

    source-live : (o : Option Id) → (option_map (key_in nodes) o ≡ Some key → ⊥) → IsLiveSource nodes o → IsLiveSource new o
    source-live None other live = tt
    source-live (Some i) other live = live-still i (λ here. other (ap (λ (k : Key). Some k) (ap key_at (ap (slab.get nodes) here) ∙ named))) live

    -- the other series are linked to none that goes
    pub links-left : (i : ℕ) (g : Node) → i ≢ id.0 → slab.get nodes i ≡ Some g → HasLiveLinks new g
    links-left i g other at =
        let number = store.owned i g at in
        let f : IsFreeOf key (stored_node nodes g) = free g.key (stored_node nodes g) (there limits nodes es store g.key (record { 0 = i }) g number at) (unlike (same key g.key) refl number) in
        record { rules = rules-live g.rules.items f.rules (store.live i g at).rules; source = source-live g.source f.source (store.live i g at).source }
      where
        unlike : (b : Bool) → same key g.key ≡ b → id_for_key g.key es ≡ Some (record { 0 = i }) → b ≡ false
        unlike true x number =
            let here : Id = record { 0 = i } in
            let ids : here ≡ id = some-same here id (sym number ∙ ap (λ (k : Key). id_for_key k es) (sym (same-true key g.key x)) ∙ is) in
            absurd (other (ap (λ (j : Id). j.0) ids))
        unlike false x number = refl

    -- a key that is there
    pub drops-key : (fs : Numbers) → ((q : Key) → id_for_key q fs ≡ cond (has_key key q) None (id_for_key q es)) → stored_by_key new fs ≡ without_key key (stored_by_key nodes es)
    drops-key fs differs = stored_by_key-removed nodes new es fs key id (apart limits nodes es store) is change (others-removed limits nodes es store new id change links-left) differs
