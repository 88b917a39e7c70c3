-- The stored data of the nodes, key by key.
use Rattle.std.proofs.Common.{◌≡◌, ◌≢◌, ℕ, Bool, true, false, cond, List, [], ◌∷◌, refl, sym, ◌∙◌, ap, ◌⊎◌, inl, inr}
use Rattle.std.specs.Prelude.{slice_index_or, ◌&&◌, ◌==◌, Option, None, Some, option_map, if◌then◌else◌, nat_eq}
use Rattle.std.specs.Cmp.Lexicographic.{pointwise}
use Rattle.std.proofs.lemmas.Bool.{cases_Bool}
use Rattle.std.proofs.lemmas.Map.Text.{is_eq-slice_cmp}
use Rattle.slab.specs.Slab as slab
use Rattle.ts_spec.specs.Key.{Key, same}
use Rattle.ts_spec.specs.Keyed.{Keyed, get, with_key, without_key}
use Rattle.ts_spec.specs.StoredSeries.{StoredSeries}
use Rattle.ts_spec.proofs.Keys.{same-sym, same-true}
use Rattle.ts_spec.proofs.Maps.{get-with, get-without, maps-same}
use Rattle.ts_spec.proofs.Tidy.{some-same}
use Rattle.ts_sample.specs.declared.sample.Id.{Id}
use Rattle.ts_rules.specs.declared.rule.Rule.{Rule}
use Rattle.ts_rules.specs.Rules.{stored_rule_for}
use Rattle.ts_db.specs.declared.node.Node.{Node}
use Rattle.ts_db.specs.Store.{Nodes, Numbers, rules_by, key_at, key_in, stored_series, stored_named, stored_node, stored_at_id, with_found, stored_by_key, ids_of, has_key, id_for_key, HasNode, AreLive, IsLiveSource, HasLiveLinks}

same-pointwise : (j k : Key) → same j k ≡ pointwise nat_eq j k
same-pointwise [] [] = refl
same-pointwise [] (y ∷ ys) = refl
same-pointwise (x ∷ xs) [] = refl
same-pointwise (x ∷ xs) (y ∷ ys) = ap (λ b. (x == y) && b) (same-pointwise xs ys)

pub same-at : (j k : Key) → same j k ≡ has_key j k
same-at j k = same-pointwise j k ∙ sym (is_eq-slice_cmp j k)

-- the stored data of an id, if there is one
abbrev pub found : Nodes → Option Id → Option StoredSeries
found nodes None = None
found nodes (Some id) = stored_at_id nodes id

get-found : {X : Type 0} (q k : Key) (o : Option X) (m : Keyed X) → get q (with_found k o m) ≡ cond (same k q) o (get q m)
get-found {X} q k None m = get-without q k m
get-found {X} q k (Some d) m = get-with q k d m

found-cond : (nodes : Nodes) (b : Bool) (id : Id) (o : Option Id) → cond b (stored_at_id nodes id) (found nodes o) ≡ found nodes (cond b (Some id) o)
found-cond nodes true id o = refl
found-cond nodes false id o = refl

-- what a key has
pub get-stored_by_key : (q : Key) (nodes : Nodes) (es : Numbers) → get q (stored_by_key nodes es) ≡ found nodes (id_for_key q es)
get-stored_by_key q nodes [] = refl
get-stored_by_key q nodes (e ∷ es) =
    get-found q e.0 (stored_at_id nodes e.1) (stored_by_key nodes es)
    ∙ ap (λ b. cond b (stored_at_id nodes e.1) (get q (stored_by_key nodes es))) (same-sym e.0 q ∙ same-at q e.0)
    ∙ ap (cond (has_key q e.0) (stored_at_id nodes e.1)) (get-stored_by_key q nodes es)
    ∙ found-cond nodes (has_key q e.0) e.1 (id_for_key q es)

cond-same : (b : Bool) (id : Id) (o : Option Id) → cond b (Some id) o ≡ (if b then Some id else o)
cond-same true id o = refl
cond-same false id o = refl

-- the id of a key, by the map of all ids
pub get-ids : (q : Key) (es : Numbers) → get q (ids_of es) ≡ id_for_key q es
get-ids q [] = refl
get-ids q (e ∷ es) =
    get-with q e.0 e.1 (ids_of es)
    ∙ ap (λ b. if b then Some e.1 else get q (ids_of es)) (same-sym e.0 q ∙ same-at q e.0)
    ∙ sym (cond-same (has_key q e.0) e.1 (get q (ids_of es)))
    ∙ ap (cond (has_key q e.0) (Some e.1)) (get-ids q es)

-- a key has the id of any key that is the same
pub number-same : (j k : Key) (es : Numbers) → same j k ≡ true → id_for_key j es ≡ id_for_key k es
number-same j k es is = ap (λ q. id_for_key q es) (same-true j k is)

pub id-same : (a b : Id) → a.0 ≡ b.0 → a ≡ b
id-same a b is = λ i. record { 0 = is i }

-- ---- the stored data of a node where ids keep their keys

same-rules : (nodes : Nodes) (new old : Id → Key) (rs : List Rule) → AreLive nodes rs → ((id : Id) → HasNode nodes id → new id ≡ old id) → rules_by new rs ≡ rules_by old rs
same-rules nodes new old [] live same = refl
same-rules nodes new old (r ∷ rs) live same =
    let rest : rules_by new rs ≡ rules_by old rs = same-rules nodes new old rs live.1 same in
    let here : new r.dest ≡ old r.dest = same r.dest live.0 in
    λ i. stored_rule_for (here i) r ∷ rest i

same-source : (nodes : Nodes) (new old : Id → Key) (o : Option Id) → IsLiveSource nodes o → ((id : Id) → HasNode nodes id → new id ≡ old id) → option_map new o ≡ option_map old o
same-source nodes new old None live same = refl
same-source nodes new old (Some id) live same = ap (λ (k : Key). Some k) (same id live)

pub same-names : (nodes : Nodes) (new old : Id → Key) (n : Node) → HasLiveLinks nodes n → ((id : Id) → HasNode nodes id → new id ≡ old id) → stored_named new n ≡ stored_named old n
same-names nodes new old n live same =
    let rules : rules_by new n.rules.items ≡ rules_by old n.rules.items = same-rules nodes new old n.rules.items live.rules same in
    let source : option_map new n.source ≡ option_map old n.source = same-source nodes new old n.source live.source same in
    λ i. record { options = n.series.options; labels = n.labels; list = n.series.samples; high = n.series.high; born = n.series.born; rules = rules i; source = source i }

-- a node without rules and without a source
pub bare-kept : (nodes : Nodes) (n : Node) → n.rules.items ≡ [] → n.source ≡ None → stored_node nodes n ≡ stored_series n.labels n.series
bare-kept nodes n rules source = λ i. record (stored_series n.labels n.series) { rules = rules_by (key_in nodes) (rules i); source = option_map (key_in nodes) (source i) }

-- the nodes of other ids are stored unchanged
abbrev pub KeepsOthers : (nodes new : Nodes) → ℕ → Type 0
KeepsOthers nodes new i = (j : ℕ) (g : Node) → j ≢ i → slab.get nodes j ≡ Some g → stored_node new g ≡ stored_node nodes g

-- where one series changes, other keys have what they had
others-found : (nodes new : Nodes) (es : Numbers) (key : Key) (id : Id)
    → ((j k : Key) (i : Id) → id_for_key j es ≡ Some i → id_for_key k es ≡ Some i → same j k ≡ true)
    → id_for_key key es ≡ Some id → ((other : ℕ) → other ≢ id.0 → slab.get new other ≡ slab.get nodes other) → KeepsOthers nodes new id.0
    → (q : Key) (o : Option Id) → id_for_key q es ≡ o → same key q ≡ false → found new o ≡ found nodes o
others-found nodes new es key id apart is others kept q None at unlike = refl
others-found nodes new es key id apart is others kept q (Some i) at unlike =
    ap (option_map (stored_node new)) (others i.0 differ) ∙ go (slab.get nodes i.0) refl
  where
    differ : i.0 ≢ id.0
    differ e = absurd (cc (apart key q i (is ∙ ap (λ (x : Id). Some x) (sym (id-same i id e))) at, unlike))

    go : (o : Option Node) → slab.get nodes i.0 ≡ o → option_map (stored_node new) o ≡ option_map (stored_node nodes) o
    go None e = refl
    go (Some g) e = ap (λ (d : StoredSeries). Some d) (kept i.0 g differ e)

-- a series that changed is that of its key alone
pub stored_by_key-written : (nodes new : Nodes) (es : Numbers) (key : Key) (id : Id) (n : Node)
    → ((j k : Key) (i : Id) → id_for_key j es ≡ Some i → id_for_key k es ≡ Some i → same j k ≡ true)
    → id_for_key key es ≡ Some id → slab.Updates nodes new id.0 (Some n) → KeepsOthers nodes new id.0 → stored_by_key new es ≡ with_key key (stored_node new n) (stored_by_key nodes es)
stored_by_key-written nodes new es key id n apart is change kept = maps-same _ _ (λ q.
    get-stored_by_key q new es ∙ pick q (id_for_key q es) refl (cases_Bool (same key q)) ∙ sym (get-with q key (stored_node new n) (stored_by_key nodes es)))
  where
    here : found new (Some id) ≡ Some (stored_node new n)
    here = ap (option_map (stored_node new)) change.changed

    pick : (q : Key) (o : Option Id) → id_for_key q es ≡ o → (same key q ≡ true) ⊎ (same key q ≡ false)
        → found new o ≡ (if same key q then Some (stored_node new n) else get q (stored_by_key nodes es))
    pick q o at (inl alike) =
        ap (found new) (sym at ∙ sym (number-same key q es alike) ∙ is) ∙ here ∙ ap (λ b. if b then Some (stored_node new n) else get q (stored_by_key nodes es)) (sym alike)
    pick q o at (inr unlike) =
        others-found nodes new es key id apart is change.others kept q o at unlike ∙ ap (found nodes) (sym at) ∙ sym (get-stored_by_key q nodes es)
        ∙ ap (λ b. if b then Some (stored_node new n) else get q (stored_by_key nodes es)) (sym unlike)

-- a series under a new key
pub stored_by_key-added : (nodes new : Nodes) (es fs : Numbers) (key : Key) (id : Id) (n : Node)
    → ((k : Key) (i : Id) → id_for_key k es ≡ Some i → (g : Node) × (slab.get nodes i.0 ≡ Some g))
    → slab.get nodes id.0 ≡ None → slab.Updates nodes new id.0 (Some n) → KeepsOthers nodes new id.0 → ((q : Key) → id_for_key q fs ≡ cond (has_key key q) (Some id) (id_for_key q es))
    → stored_by_key new fs ≡ with_key key (stored_node new n) (stored_by_key nodes es)
stored_by_key-added nodes new es fs key id n stored vacant change kept differs = maps-same _ _ (λ q.
    get-stored_by_key q new fs ∙ ap (found new) (differs q ∙ ap (λ b. cond b (Some id) (id_for_key q es)) (sym (same-at key q)))
    ∙ pick q (same key q) (id_for_key q es) refl ∙ sym (get-with q key (stored_node new n) (stored_by_key nodes es)))
  where
    here : found new (Some id) ≡ Some (stored_node new n)
    here = ap (option_map (stored_node new)) change.changed

    other : (q : Key) (o : Option Id) → id_for_key q es ≡ o → found new o ≡ found nodes o
    other q None at = refl
    other q (Some i) at =
        let there = stored q i at in
        let differ : i.0 ≢ id.0 = λ e. absurd (cc (there.1, ap (slab.get nodes) e, vacant)) in
        ap (option_map (stored_node new)) (change.others i.0 differ ∙ there.1)
        ∙ ap (λ (d : StoredSeries). Some d) (kept i.0 there.0 differ there.1)
        ∙ sym (ap (option_map (stored_node nodes)) there.1)

    pick : (q : Key) (b : Bool) (o : Option Id) → id_for_key q es ≡ o → found new (cond b (Some id) o) ≡ (if b then Some (stored_node new n) else get q (stored_by_key nodes es))
    pick q true o at = here
    pick q false o at = other q o at ∙ ap (found nodes) (sym at) ∙ sym (get-stored_by_key q nodes es)

-- a key that is taken out, with its series
pub stored_by_key-removed : (nodes new : Nodes) (es fs : Numbers) (key : Key) (id : Id)
    → ((j k : Key) (i : Id) → id_for_key j es ≡ Some i → id_for_key k es ≡ Some i → same j k ≡ true)
    → id_for_key key es ≡ Some id → slab.Updates nodes new id.0 None → KeepsOthers nodes new id.0 → ((q : Key) → id_for_key q fs ≡ cond (has_key key q) None (id_for_key q es))
    → stored_by_key new fs ≡ without_key key (stored_by_key nodes es)
stored_by_key-removed nodes new es fs key id apart is change kept differs = maps-same _ _ (λ q.
    get-stored_by_key q new fs ∙ ap (found new) (differs q ∙ ap (λ b. cond b None (id_for_key q es)) (sym (same-at key q)))
    ∙ pick q (same key q) refl ∙ sym (get-without q key (stored_by_key nodes es)))
  where
    pick : (q : Key) (b : Bool) → same key q ≡ b → found new (cond b None (id_for_key q es)) ≡ (if b then None else get q (stored_by_key nodes es))
    pick q true x = refl
    pick q false x = others-found nodes new es key id apart is change.others kept q (id_for_key q es) refl x ∙ sym (get-stored_by_key q nodes es)

-- the series of the stored data
pub record IsOf (nodes : Nodes) (d : StoredSeries) : Type 0 where
  pub number : ℕ
  pub node : Node
  pub there : slab.get nodes number ≡ Some node
  pub same : d ≡ stored_node nodes node

pub node-of : (nodes : Nodes) (es : Numbers) (k : Key) (d : StoredSeries) → get k (stored_by_key nodes es) ≡ Some d → IsOf nodes d
node-of nodes es k d is = from (id_for_key k es) (sym (get-stored_by_key k nodes es) ∙ is)
  where
    of : (i : ℕ) (o : Option Node) → slab.get nodes i ≡ o → option_map (stored_node nodes) o ≡ Some d → IsOf nodes d
    of i None at e = absurd (cc e)
    of i (Some n) at e = record { number = i; node = n; there = at; same = some-same d (stored_node nodes n) (sym e) }

    from : (o : Option Id) → found nodes o ≡ Some d → IsOf nodes d
    from None e = absurd (cc e)
    from (Some id) e = of id.0 (slab.get nodes id.0) refl e

-- capacity alone changes nothing
pub stored_by_key-slots : (nodes new : Nodes) (es : Numbers) → new.slots ≡ nodes.slots → stored_by_key new es ≡ stored_by_key nodes es
stored_by_key-slots nodes new es same = maps-same _ _ (λ q. get-stored_by_key q new es ∙ go (id_for_key q es) ∙ sym (get-stored_by_key q nodes es))
  where
    go : (o : Option Id) → found new o ≡ found nodes o
    go None = refl
    go (Some id) = λ i. option_map (stored_named (λ j. key_at (slice_index_or (same i) j.0 None))) (slice_index_or (same i) id.0 None)
