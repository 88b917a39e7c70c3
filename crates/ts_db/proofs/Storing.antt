-- Changes preserve the invariant of the store.
use Rattle.std.proofs.Common.{◌≡◌, ◌≢◌, ◌<◌, ◌≤◌, ◌+◌, ℕ, suc, Bool, true, false, cond, List, [], ◌∷◌, length, refl, sym, ◌∙◌, ap, subst, ◌⊎◌, inl, inr, arith}
use Rattle.std.specs.Prelude.{slice_index_or, Option, None, Some, is_some, option_map, count_by}
use Rattle.std.proofs.lemmas.Bool.{cases_eq}
use Rattle.slab.specs.Slab as slab
use Rattle.ts_spec.specs.declared.limits.Limits.{Limits}
use Rattle.ts_spec.specs.Sample.{MAX_TIME}
use Rattle.ts_spec.specs.Key.{Key, same}
use Rattle.ts_spec.specs.Keyed.{get, without_key, count_keys}
use Rattle.ts_spec.proofs.Keys.{same-refl, same-true}
use Rattle.ts_spec.proofs.Tidy.{some-same}
use Rattle.ts_sample.specs.declared.sample.Id.{Id}
use Rattle.ts_rules.specs.declared.rule.Rule.{Rule}
use Rattle.ts_db.specs.declared.node.Node.{Node}
use Rattle.ts_db.specs.Store.{Nodes, Numbers, key_at, key_in, stored_node, stored_by_key, has_key, id_for_key, HasNode, AreLive, IsLiveSource, HasLiveLinks, IsNode, IsStore}
use Rattle.ts_db.proofs.Counts.{count-more, count-same, count-less}
use Rattle.ts_db.proofs.Collecting.{same-at, found, get-stored_by_key, id-same, stored_by_key-written, stored_by_key-added, stored_by_key-removed, stored_by_key-slots, KeepsOthers, same-names}

-- what an id has after one was updated
after-update : (nodes new : Nodes) (i : ℕ) (n : Node) → slab.Updates nodes new i (Some n) → (P : Node → Type 0) → P n
    → ((j : ℕ) (g : Node) → slab.get nodes j ≡ Some g → P g) → (j : ℕ) (g : Node) → slab.get new j ≡ Some g → P g
after-update nodes new i n change P here old j g is = pick (cases_eq j i)
  where
    pick : (j ≡ i) ⊎ (j ≢ i) → P g
    pick (inl same) = subst P (some-same n g (sym change.changed ∙ ap (slab.get new) (sym same) ∙ is)) here
    pick (inr other) = old j g (sym (change.others j other) ∙ is)

still-there : (nodes new : Nodes) (i : ℕ) (n : Node) → slab.Updates nodes new i (Some n) → (j : ℕ) (g : Node) → slab.get nodes j ≡ Some g → (k : Node) × (slab.get new j ≡ Some k)
still-there nodes new i n change j g is = pick (cases_eq j i)
  where
    pick : (j ≡ i) ⊎ (j ≢ i) → (k : Node) × (slab.get new j ≡ Some k)
    pick (inl same) = (n, ap (slab.get new) same ∙ change.changed)
    pick (inr other) = (g, change.others j other ∙ is)

-- ---- live ids

-- where each id that is live is so after a change, links stay live
pub live-on : (nodes new : Nodes) (n : Node) → ((id : Id) → HasNode nodes id → HasNode new id) → HasLiveLinks nodes n → HasLiveLinks new n
live-on nodes new n on live = record { rules = rules n.rules.items live.rules; source = source n.source live.source }
  where
    rules : (rs : List Rule) → AreLive nodes rs → AreLive new rs
    rules [] x = tt
    rules (r ∷ rs) x = (on r.dest x.0, rules rs x.1)

    source : (o : Option Id) → IsLiveSource nodes o → IsLiveSource new o
    source None x = tt
    source (Some id) x = on id x

-- a node without rules and without a source
pub live-bare : (nodes : Nodes) (n : Node) → n.rules.items ≡ [] → n.source ≡ None → HasLiveLinks nodes n
live-bare nodes n rules source = record { rules = subst (AreLive nodes) (sym rules) tt; source = subst (IsLiveSource nodes) (sym source) tt }

pub live-written : (nodes new : Nodes) (i : ℕ) (n : Node) → slab.Updates nodes new i (Some n) → (id : Id) → HasNode nodes id → HasNode new id
live-written nodes new i n change id live = let g = still-there nodes new i n change id.0 live.node live.there in record { node = g.0; there = g.1 }

-- ids keep their keys where a node does
pub names-written : (nodes new : Nodes) (i : ℕ) (old n : Node) → slab.get nodes i ≡ Some old → slab.Updates nodes new i (Some n) → n.key ≡ old.key → (id : Id) → key_in new id ≡ key_in nodes id
names-written nodes new i old n at change name id = pick (cases_eq id.0 i)
  where
    pick : (id.0 ≡ i) ⊎ (id.0 ≢ i) → key_in new id ≡ key_in nodes id
    pick (inl here) = ap key_at (ap (slab.get new) here ∙ change.changed) ∙ name ∙ sym (ap key_at (ap (slab.get nodes) here ∙ at))
    pick (inr other) = ap key_at (change.others id.0 other)

-- a store without keys is in order
pub store-empty : (limits : Limits) (nodes : Nodes) (es : Numbers) → nodes.slots ≡ [] → es ≡ [] → 1 ≤ limits.samples → limits.samples ≤ MAX_TIME → IsStore limits nodes es
store-empty limits nodes es none is room bounded = subst (IsStore limits nodes) (sym is) (record {
  stored = λ k i e. absurd (cc e);
  named = λ k i n e. absurd (cc e);
  owned = λ i n e. absurd (vacant i n e);
  live = λ i n e. absurd (vacant i n e);
  each = λ i n e. absurd (vacant i n e);
  counted = refl;
  no_other = ap (λ (s : List (Option Node)). count_by is_some s) none;
  few = omega arith;
  some_samples = room;
  bounded = bounded;
})
  where
    vacant : (i : ℕ) (n : Node) → slab.get nodes i ≡ Some n → ⊥
    vacant i n e = let missing : None ≡ Some n = sym (ap (λ (s : List (Option Node)). slice_index_or s i None) none) ∙ e in cc missing

module _ (limits : Limits) (nodes : Nodes) (es : Numbers) (store : IsStore limits nodes es) where
  -- an id is that of one key
  pub apart : (j k : Key) (id : Id) → id_for_key j es ≡ Some id → id_for_key k es ≡ Some id → same j k ≡ true
  apart j k id x y =
      let of = store.stored j id x in
      let alike : j ≡ k = sym (store.named j id of.0 x of.1) ∙ store.named k id of.0 y of.1 in
      ap (same j) (sym alike) ∙ same-refl j

  pub there : (key : Key) (id : Id) (n : Node) → id_for_key key es ≡ Some id → slab.get nodes id.0 ≡ Some n → get key (stored_by_key nodes es) ≡ Some (stored_node nodes n)
  there key id n is at = get-stored_by_key key nodes es ∙ ap (found nodes) is ∙ ap (option_map (stored_node nodes)) at

  pub missing : (key : Key) → id_for_key key es ≡ None → get key (stored_by_key nodes es) ≡ None
  missing key is = get-stored_by_key key nodes es ∙ ap (found nodes) is

  -- a node that changes but keeps its key changes the stored data of that key alone
  pub others-written : (new : Nodes) (i : ℕ) (old n : Node) → slab.get nodes i ≡ Some old → slab.Updates nodes new i (Some n) → n.key ≡ old.key → KeepsOthers nodes new i
  others-written new i old n at change name j g other is = same-names nodes (key_in new) (key_in nodes) g (store.live j g is) (λ id x. names-written nodes new i old n at change name id)

  -- after a series changed
  pub store-written : (new : Nodes) (key : Key) (id : Id) (old n : Node) → id_for_key key es ≡ Some id → slab.get nodes id.0 ≡ Some old → slab.Updates nodes new id.0 (Some n)
      → slab.slab_len new ≡ slab.slab_len nodes → n.key ≡ old.key → HasLiveLinks nodes n → IsNode limits n → IsStore limits new es
  store-written new key id old n is at change as_many name links sound = record {
    stored = λ k i e. (let g = store.stored k i e in still-there nodes new id.0 n change i.0 g.0 g.1);
    named = λ k i g e f. keyed k i g e f (cases_eq i.0 id.0);
    owned = λ j g e. owner j g e (cases_eq j id.0);
    live = after-update nodes new id.0 n change (HasLiveLinks new) (live-on nodes new n (live-written nodes new id.0 n change) links)
        (λ j g e. live-on nodes new g (live-written nodes new id.0 n change) (store.live j g e));
    each = after-update nodes new id.0 n change (IsNode limits) sound store.each;
    counted = ap count_keys (stored_by_key-written nodes new es key id n apart is change (others-written new id.0 old n at change name))
        ∙ count-same key (stored_node new n) (stored_node nodes old) (stored_by_key nodes es) (there key id old is at) ∙ store.counted;
    no_other = as_many ∙ store.no_other;
    few = store.few;
    some_samples = store.some_samples;
    bounded = store.bounded;
  }
    where
      owner : (j : ℕ) (g : Node) → slab.get new j ≡ Some g → (j ≡ id.0) ⊎ (j ≢ id.0) → id_for_key g.key es ≡ Some (record { 0 = j })
      owner j g e (inl here) =
          ap (λ (x : Node). id_for_key x.key es) (sym (some-same n g (sym change.changed ∙ ap (slab.get new) (sym here) ∙ e)))
          ∙ ap (λ k. id_for_key k es) name ∙ store.owned id.0 old at ∙ ap (λ (x : ℕ). Some (record { 0 = x })) (sym here)
      owner j g e (inr other) = store.owned j g (sym (change.others j other) ∙ e)

      keyed : (k : Key) (i : Id) (g : Node) → id_for_key k es ≡ Some i → slab.get new i.0 ≡ Some g → (i.0 ≡ id.0) ⊎ (i.0 ≢ id.0) → g.key ≡ k
      keyed k i g e f (inl here) =
          ap (λ (x : Node). x.key) (sym (some-same n g (sym change.changed ∙ ap (slab.get new) (sym here) ∙ f)))
          ∙ name ∙ store.named k i old e (ap (slab.get nodes) here ∙ at)
      keyed k i g e f (inr other) = store.named k i g e (sym (change.others i.0 other) ∙ f)

  -- a node under a new id is linked to none that was there
  pub others-added : (new : Nodes) (id : Id) (n : Node) → slab.get nodes id.0 ≡ None → slab.Updates nodes new id.0 (Some n) → KeepsOthers nodes new id.0
  others-added new id n vacant change j g other is = same-names nodes (key_in new) (key_in nodes) g (store.live j g is)
      (λ i x. ap key_at (change.others i.0 (λ e. absurd (cc (x.there, ap (slab.get nodes) e, vacant)))))

  -- after a series was added
  pub store-added : (new : Nodes) (fs : Numbers) (key : Key) (id : Id) (n : Node) → id_for_key key es ≡ None → slab.get nodes id.0 ≡ None → slab.Updates nodes new id.0 (Some n)
      → ((q : Key) → id_for_key q fs ≡ cond (has_key key q) (Some id) (id_for_key q es)) → slab.slab_len new ≡ slab.slab_len nodes + 1 → length fs ≡ length es + 1 → length es < limits.keys
      → n.key ≡ key → (n.rules.items ≡ []) × (n.source ≡ None) → IsNode limits n → IsStore limits new fs
  store-added new fs key id n none vacant change differs one_more more room name without sound = record {
    stored = λ k i e. pick k i (has_key key k) refl e;
    named = λ k i g e f. keyed k i g (same key k) refl (sym (known k) ∙ e) f;
    owned = λ j g e. owner j g e (cases_eq j id.0);
    live = after-update nodes new id.0 n change (HasLiveLinks new) (live-bare new n without.0 without.1)
        (λ j g e. live-on nodes new g (live-written nodes new id.0 n change) (store.live j g e));
    each = after-update nodes new id.0 n change (IsNode limits) sound store.each;
    counted =
        (let size : count_keys (stored_by_key new fs) ≡ suc (count_keys (stored_by_key nodes es)) =
        ap count_keys (stored_by_key-added nodes new es fs key id n store.stored vacant change (others-added new id n vacant change) differs) ∙ count-more key (stored_node new n) (stored_by_key nodes es) (missing key none) in
        omega (arith, size, store.counted, more));
    no_other = omega (arith, one_more, store.no_other, more);
    few = omega (arith, more, room);
    some_samples = store.some_samples;
    bounded = store.bounded;
  }
    where
      known : (q : Key) → id_for_key q fs ≡ cond (same key q) (Some id) (id_for_key q es)
      known q = differs q ∙ ap (λ b. cond b (Some id) (id_for_key q es)) (sym (same-at key q))

      owner : (j : ℕ) (g : Node) → slab.get new j ≡ Some g → (j ≡ id.0) ⊎ (j ≢ id.0) → id_for_key g.key fs ≡ Some (record { 0 = j })
      owner j g e (inl here) =
          ap (λ (x : Node). id_for_key x.key fs) (sym (some-same n g (sym change.changed ∙ ap (slab.get new) (sym here) ∙ e)))
          ∙ ap (λ k. id_for_key k fs) name ∙ known key ∙ ap (λ b. cond b (Some id) (id_for_key key es)) (same-refl key) ∙ ap (λ (x : ℕ). Some (record { 0 = x })) (sym here)
      owner j g e (inr other) =
          let was : id_for_key g.key es ≡ Some (record { 0 = j }) = store.owned j g (sym (change.others j other) ∙ e) in
          known g.key ∙ apart_from (same key g.key) refl was
        where
          apart_from : (b : Bool) → same key g.key ≡ b → id_for_key g.key es ≡ Some (record { 0 = j }) → cond b (Some id) (id_for_key g.key es) ≡ Some (record { 0 = j })
          apart_from true x was = absurd (cc (ap (λ k. id_for_key k es) (sym (same-true key g.key x)) ∙ none, was))
          apart_from false x was = was

      pick : (k : Key) (i : Id) (b : Bool) → has_key key k ≡ b → id_for_key k fs ≡ Some i → (g : Node) × (slab.get new i.0 ≡ Some g)
      pick k i true x e =
          let same : id ≡ i = some-same id i (ap (λ b. cond b (Some id) (id_for_key k es)) (sym x) ∙ sym (differs k) ∙ e) in
          (n, ap (λ (j : Id). slab.get new j.0) (sym same) ∙ change.changed)
      pick k i false x e =
          let old = store.stored k i (ap (λ b. cond b (Some id) (id_for_key k es)) (sym x) ∙ sym (differs k) ∙ e) in
          still-there nodes new id.0 n change i.0 old.0 old.1

      keyed : (k : Key) (i : Id) (g : Node) (b : Bool) → same key k ≡ b → cond b (Some id) (id_for_key k es) ≡ Some i → slab.get new i.0 ≡ Some g → g.key ≡ k
      keyed k i g true x e f =
          ap (λ (y : Node). y.key) (sym (some-same n g (sym change.changed ∙ ap (λ (y : Id). slab.get new y.0) (some-same id i e) ∙ f)))
          ∙ name ∙ same-true key k x
      keyed k i g false x e f =
          let old = store.stored k i e in
          store.named k i g e (sym (change.others i.0 (λ here. absurd (cc (old.1, ap (slab.get nodes) here, vacant)))) ∙ f)

  -- a node that goes, and that no other is linked to
  pub others-removed : (new : Nodes) (id : Id) → slab.Updates nodes new id.0 None → ((i : ℕ) (g : Node) → i ≢ id.0 → slab.get nodes i ≡ Some g → HasLiveLinks new g) → KeepsOthers nodes new id.0
  others-removed new id change links j g other is = same-names new (key_in new) (key_in nodes) g (links j g other is)
      (λ i x. ap key_at (change.others i.0 (λ e. absurd (cc (x.there, ap (slab.get new) e, change.changed)))))

  -- after a series was taken away
  pub store-removed : (new : Nodes) (fs : Numbers) (key : Key) (id : Id) → id_for_key key es ≡ Some id → slab.Updates nodes new id.0 None
      → ((q : Key) → id_for_key q fs ≡ cond (has_key key q) None (id_for_key q es)) → slab.slab_len new + 1 ≡ slab.slab_len nodes → length fs + 1 ≡ length es
      → ((i : ℕ) (g : Node) → i ≢ id.0 → slab.get nodes i ≡ Some g → HasLiveLinks new g) → IsStore limits new fs
  store-removed new fs key id is change differs one_less fewer links = record {
    stored = λ k i e. (let before = was k i (has_key key k) refl (sym (differs k) ∙ e) in let g = store.stored k i before.1 in (g.0, change.others i.0 (apart_from k i before.0 before.1) ∙ g.1));
    named = λ k i n e f. store.named k i n (was k i (has_key key k) refl (sym (differs k) ∙ e)).1 (left i.0 n f);
    owned = λ i n e. differs n.key ∙ owner i n (has_key key n.key) refl e;
    live = λ i n e. links i n (not_gone i n e) (left i n e);
    each = λ i n e. store.each i n (left i n e);
    counted =
        (let n = store.stored key id is in
        let one : count_keys (stored_by_key new fs) ≡ count_keys (without_key key (stored_by_key nodes es)) = ap count_keys (stored_by_key-removed nodes new es fs key id apart is change (others-removed new id change links) differs) in
        let two : suc (count_keys (without_key key (stored_by_key nodes es))) ≡ count_keys (stored_by_key nodes es) = count-less key (stored_node nodes n.0) (stored_by_key nodes es) (there key id n.0 is n.1) in
        omega (arith, one, two, store.counted, fewer));
    no_other = omega (arith, one_less, store.no_other, fewer);
    few = omega (arith, store.few, fewer);
    some_samples = store.some_samples;
    bounded = store.bounded;
  }
    where
      was : (k : Key) (i : Id) (b : Bool) → has_key key k ≡ b → cond b None (id_for_key k es) ≡ Some i → (same key k ≡ false) × (id_for_key k es ≡ Some i)
      was k i true x e = absurd (cc e)
      was k i false x e = (same-at key k ∙ x, e)

      apart_from : (k : Key) (i : Id) → same key k ≡ false → id_for_key k es ≡ Some i → i.0 ≢ id.0
      apart_from k i unlike at e = cc (apart key k i (is ∙ ap (λ (x : Id). Some x) (sym (id-same i id e))) at, unlike)

      not_gone : (i : ℕ) (n : Node) → slab.get new i ≡ Some n → i ≢ id.0
      not_gone i n e same = absurd (cc (ap (slab.get new) same, change.changed, e))

      left : (i : ℕ) (n : Node) → slab.get new i ≡ Some n → slab.get nodes i ≡ Some n
      left i n e = sym (change.others i (not_gone i n e)) ∙ e

      owner : (i : ℕ) (n : Node) (b : Bool) → has_key key n.key ≡ b → slab.get new i ≡ Some n → cond b None (id_for_key n.key es) ≡ Some (record { 0 = i })
      owner i n true x e =
          let alike : key ≡ n.key = same-true key n.key (same-at key n.key ∙ x) in
          let one : Some id ≡ Some (record { 0 = i }) = sym is ∙ ap (λ k. id_for_key k es) alike ∙ store.owned i n (left i n e) in
          let number : id.0 ≡ i = ap (λ (y : Id). y.0) (some-same id (record { 0 = i }) one) in
          absurd (not_gone i n e (sym number))
      owner i n false x e = store.owned i n (left i n e)

  -- a key is there exactly where it has an id
  pub found-some : (key : Key) → is_some (get key (stored_by_key nodes es)) ≡ is_some (id_for_key key es)
  found-some key = ap is_some (get-stored_by_key key nodes es) ∙ go (id_for_key key es) refl
    where
      go : (o : Option Id) → id_for_key key es ≡ o → is_some (found nodes o) ≡ is_some o
      go None is = refl
      go (Some id) is = let of = store.stored key id is in ap (λ (o : Option Node). is_some (option_map (stored_node nodes) o)) of.1

  -- with more capacity alone
  pub store-slots : (new : Nodes) → new.slots ≡ nodes.slots → IsStore limits new es
  store-slots new same = record {
    stored = λ k i e. (let g = store.stored k i e in (g.0, ap (λ (s : List (Option Node)). slice_index_or s i.0 None) same ∙ g.1));
    named = λ k i n e f. store.named k i n e (ap (λ (s : List (Option Node)). slice_index_or s i.0 None) (sym same) ∙ f);
    owned = λ i n e. store.owned i n (ap (λ (s : List (Option Node)). slice_index_or s i None) (sym same) ∙ e);
    live = λ i n e. live-on nodes new n (λ id x. record { node = x.node; there = ap (λ (s : List (Option Node)). slice_index_or s id.0 None) same ∙ x.there })
        (store.live i n (ap (λ (s : List (Option Node)). slice_index_or s i None) (sym same) ∙ e));
    each = λ i n e. store.each i n (ap (λ (s : List (Option Node)). slice_index_or s i None) (sym same) ∙ e);
    counted = ap count_keys (stored_by_key-slots nodes new es same) ∙ store.counted;
    no_other = ap (λ (s : List (Option Node)). count_by is_some s) same ∙ store.no_other;
    few = store.few;
    some_samples = store.some_samples;
    bounded = store.bounded;
  }

  -- a key that is not there has no id
  pub number-none : (key : Key) → get key (stored_by_key nodes es) ≡ None → id_for_key key es ≡ None
  number-none key none = go (id_for_key key es) refl
    where
      go : (o : Option Id) → id_for_key key es ≡ o → o ≡ None
      go None is = refl
      go (Some id) is =
          let of = store.stored key id is in
          absurd (cc (there key id of.0 is of.1, none))
