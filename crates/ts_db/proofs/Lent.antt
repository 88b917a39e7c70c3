-- The candidate ids of the index, in terms of keys.
use Rattle.std.proofs.Common.{◌≡◌, ℕ, Bool, true, false, List, [], ◌∷◌, map, refl, sym, ◌∙◌, ap, subst, eq-eqb}
use Rattle.std.specs.Prelude.{◌==◌, ◌||◌, Option, None, Some, IsSome, option_map, if◌then◌else◌}
use Rattle.std.specs.Option.{unwrap_or}
use Rattle.std.specs.List.{All, AllByRecursion, IsDistinct, list_any}
use Rattle.std.specs.Cmp.{unsigned_tied}
use Rattle.std.specs.List.Sorted.{IsPermutation}
use Rattle.std.proofs.lemmas.List.Sorted.{IsPermutation-sym, IsPermutation-trans, IsPermutation-map}
use Rattle.std.proofs.lemmas.List.Elements.{All-from_recursion}
use Rattle.slab.specs.Slab as slab
use Rattle.ts_spec.specs.Filter.{Filter, all_hold}
use Rattle.ts_spec.specs.Key.{Key}
use Rattle.ts_spec.specs.Keyed.{Keyed, get}
use Rattle.ts_spec.specs.StoredSeries.{StoredKeys}
use Rattle.ts_spec.specs.StoredQueries.{stored_selection, stored_selected_in, stored_labels_at}
use Rattle.ts_spec.specs.State.{Label}
use Rattle.ts_sample.specs.declared.sample.Id.{Id}
use Rattle.ts_index.specs.Index.{Labelled, labels_of, ids_where}
use Rattle.ts_index.specs.Numbers.{has_id}
use Rattle.ts_index.specs.Candidates.{AreApart, AreLive, Covers as IndexCovers}
use Rattle.ts_index.proofs.ApartLemmas.{neither}
use Rattle.ts_db.specs.Indexed.{IsIndexed}
use Rattle.ts_db.specs.declared.node.Node.{Node}
use Rattle.ts_db.specs.DbState.{DbView, IsLive, AreIdsOf}
use Rattle.ts_db.specs.Candidates.{passing, Covers}
use Rattle.ts_db.specs.Store.{Nodes, Numbers, key_at, key_in, stored_node, stored_by_key, ids_of, id_for_key}
use Rattle.ts_db.proofs.Collecting.{get-ids, get-stored_by_key, found as node-found}
use Rattle.ts_db.proofs.Permuted.{at}
use Rattle.ts_db.proofs.Tagged.{IsKnown, told}
use Rattle.ts_db.proofs.Covering.{numbers, lent, lent-passing}
use Rattle.ts_db.proofs.Selecting.{onto, listing, listing-entries, HaveNodes}
use Rattle.ts_db.proofs.Choosing.{labels_in, tags, IsTold, there, known, is-index}

-- one more, where it passes
abbrev more : {X : Type 0} → Bool → X → List X → List X
more b x xs = if b then x ∷ xs else xs

names-more : (name : Id → Key) (b : Bool) (id : Id) (ids : List Id) → map name (more b id ids) ≡ more b (name id) (map name ids)
names-more name true id ids = refl
names-more name false id ids = refl

-- the keys of what passes are those that filters select
names-chosen : (nodes : Nodes) (fs : List Filter) (es : Numbers) → HaveNodes nodes es → AllByRecursion (IsKnown (labels_in nodes) (key_in nodes)) es
    → map (key_in nodes) (ids_where (all_hold fs) (tags nodes es)) ≡ stored_selected_in fs (listing nodes es)
names-chosen nodes fs [] there known = refl
names-chosen nodes fs (e ∷ es) there known =
    names-more (key_in nodes) (all_hold fs (unwrap_or (labels_in nodes e.1.0) [])) e.1 (ids_where (all_hold fs) (tags nodes es))
    ∙ (λ i. more (all_hold fs (unwrap_or (labels_in nodes e.1.0) [])) (known.0.named i) (names-chosen nodes fs es there.1 known.1 i))
    ∙ go (slab.get nodes e.1.0) there.0.1
  where
    go : (o : Option Node) → o ≡ Some there.0.0
        → more (all_hold fs (unwrap_or (option_map (λ (n : Node). n.labels) o) [])) e.0 (stored_selected_in fs (listing nodes es)) ≡ stored_selected_in fs (onto e.0 (option_map (stored_node nodes) o) (listing nodes es))
    go None at = absurd (cc at)
    go (Some n) at = refl

module _ (nodes : Nodes) (es : Numbers) (told_by : Labelled) (is : IsTold nodes es told_by) where
  open is use {stored, named, owned, sorted, indexed, once}

  -- a key by its id
  module _ (k : Key) (c : Id) (at : id_for_key k es ≡ Some c) where
    of : (n : Node) × (slab.get nodes c.0 ≡ Some n)
    of = stored k c at

    its-name : key_in nodes c ≡ k
    its-name = ap key_at of.1 ∙ named k c of.0 at of.1

    its-labels : stored_labels_at (get k (stored_by_key nodes es)) ≡ unwrap_or (labels_in nodes c.0) []
    its-labels =
        ap stored_labels_at (get-stored_by_key k nodes es ∙ ap (node-found nodes) at ∙ ap (option_map (stored_node nodes)) of.1)
        ∙ sym (ap (λ (o : Option Node). unwrap_or (option_map (λ (n : Node). n.labels) o) []) of.1)

  names-passing : (fs : List Filter) (keys : List Key) (cs : List Id) → AreIdsOf (ids_of es) keys cs
      → map (key_in nodes) (ids_where (all_hold fs) (lent (labels_in nodes) cs)) ≡ passing (stored_by_key nodes es) fs keys
  names-passing fs [] [] are = refl
  names-passing fs [] (c ∷ cs) are = absurd are
  names-passing fs (k ∷ ks) [] are = absurd are
  names-passing fs (k ∷ ks) (c ∷ cs) are =
      let at : id_for_key k es ≡ Some c = sym (get-ids k es) ∙ are.0 in
      names-more (key_in nodes) (all_hold fs (unwrap_or (labels_in nodes c.0) [])) c (ids_where (all_hold fs) (lent (labels_in nodes) cs))
      ∙ (λ i. more (all_hold fs (sym (its-labels k c at) i)) (its-name k c at i) (names-passing fs ks cs are.1 i))

  module _ (fs : List Filter) (cs : List Id) (live : AllByRecursion (λ c. (ls : List Label) × (labels_in nodes c.0 ≡ Some ls)) cs) (lent_once : IsDistinct at (numbers cs))
      (covers : (i : ℕ) (ls : List Label) → labels_in nodes i ≡ Some ls → all_hold fs ls ≡ true → list_any (at i) (numbers cs) ≡ true) where
    -- The keys of candidate ids whose labels pass are those that the filters select, in some order.
    pub lent-covers : (keys : List Key) → AreIdsOf (ids_of es) keys cs → IsPermutation (stored_selection (stored_by_key nodes es) fs) (passing (stored_by_key nodes es) fs keys)
    lent-covers keys are =
        let test = all_hold fs in
        let name = key_in nodes in
        let index_told = told (labels_in nodes) name told_by es (is-index nodes es told_by is) test in
        let moved : IsPermutation (ids_where test (tags nodes es)) (ids_where test (lent (labels_in nodes) cs)) =
        IsPermutation-trans (ids_where test (tags nodes es)) (ids_where test told_by) (ids_where test (lent (labels_in nodes) cs))
        (IsPermutation-sym (ids_where test told_by) (ids_where test (tags nodes es)) index_told)
        (lent-passing (labels_in nodes) test told_by cs once indexed live lent_once covers) in
        subst (λ (l : List Key). IsPermutation (stored_selection (stored_by_key nodes es) fs) l) (names-passing fs keys cs are)
        (subst (λ (l : List Key). IsPermutation l (map name (ids_where test (lent (labels_in nodes) cs))))
        (names-chosen nodes fs es (there nodes es told_by is) (known nodes es told_by is) ∙ sym (ap (stored_selected_in fs) (listing-entries nodes es sorted (there nodes es told_by is))))
        (IsPermutation-map name (ids_where test (tags nodes es)) (ids_where test (lent (labels_in nodes) cs)) moved))

    -- each is the id of a key
    pub lent-alive : AllByRecursion (IsLive (ids_of es)) cs
    lent-alive = go cs live
      where
        node-alive : (c : Id) (ls : List Label) (o : Option Node) → slab.get nodes c.0 ≡ o → option_map (λ (n : Node). n.labels) o ≡ Some ls → IsLive (ids_of es) c
        node-alive c ls None at e = absurd (cc e)
        node-alive c ls (Some n) at e = record { key = n.key; is = get-ids n.key es ∙ owned c.0 n at }

        go : (cs : List Id) → AllByRecursion (λ c. (ls : List Label) × (labels_in nodes c.0 ≡ Some ls)) cs → AllByRecursion (IsLive (ids_of es)) cs
        go [] live = tt
        go (c ∷ cs) live = (node-alive c live.0.0 (slab.get nodes c.0) refl live.0.1, go cs live.1)

-- ---- as the index says it

same-number : (q j : ℕ) → at q j ≡ (q == j)
same-number q j = unsigned_tied q j

among : (i : ℕ) (cs : List Id) → has_id i cs ≡ list_any (at i) (numbers cs)
among i [] = refl
among i (c ∷ cs) = λ k. sym (same-number i c.0) k || among i cs k

either : (a b : Bool) → b ≡ true → (a || b) ≡ true
either true b e = refl
either false b e = e

others-apart : (i : ℕ) (cs : List Id) → has_id i cs ≡ false → AllByRecursion (λ j. at i j ≡ false) (numbers cs)
others-apart i [] a = tt
others-apart i (c ∷ cs) a = let parts = neither (i == c.0) (has_id i cs) a in (same-number i c.0 ∙ parts.0, others-apart i cs parts.1)

-- ids that differ
pub apart-once : (cs : List Id) → AreApart cs → IsDistinct at (numbers cs)
unfolding IsDistinct
apart-once [] a = tt
apart-once (c ∷ cs) a = (others-apart c.0 cs a.0, apart-once cs a.1)

has-labels : (o : Option (List Label)) → IsSome o → (ls : List Label) × (o ≡ Some ls)
has-labels None is = absurd (cc is)
has-labels (Some ls) is = (ls, refl)

all-labelled : (nodes : Nodes) (index : Labelled) → IsIndexed nodes index → (cs : List Id) → AreLive index cs → AllByRecursion (λ c. (ls : List Label) × (labels_in nodes c.0 ≡ Some ls)) cs
all-labelled nodes index indexed [] live = tt
all-labelled nodes index indexed (c ∷ cs) live =
    let own = has-labels (labels_of c.0 index) (live c.0 (ap (λ (b : Bool). b || has_id c.0 cs) (eq-eqb c.0 c.0 refl))) in
    ((own.0, sym (indexed c.0) ∙ own.1), all-labelled nodes index indexed cs (λ q among_them. live q (either (q == c.0) (has_id q cs) among_them)))

module _ (nodes : Nodes) (es : Numbers) (index : Labelled) (is : IsTold nodes es index) (db_view : DbView) (kept : db_view.keys ≡ stored_by_key nodes es) (ids : db_view.ids ≡ ids_of es)
    (fs : List Filter) (cs : List Id) (live : AreLive index cs) (apart : AreApart cs) (covers : IndexCovers index fs cs) where
  labelled : AllByRecursion (λ c. (ls : List Label) × (labels_in nodes c.0 ≡ Some ls)) cs
  labelled = all-labelled nodes index is.indexed cs live

  covered : (i : ℕ) (ls : List Label) → labels_in nodes i ≡ Some ls → all_hold fs ls ≡ true → list_any (at i) (numbers cs) ≡ true
  covered i ls has pass = sym (among i cs) ∙ covers i ls (is.indexed i ∙ has) pass

  pub candidates-live : All (IsLive db_view.ids) cs
  candidates-live = All-from_recursion (IsLive db_view.ids) cs
      (subst (λ (m : Keyed Id). AllByRecursion (IsLive m) cs) (sym ids) (lent-alive nodes es index is fs cs labelled (apart-once cs apart) covered))

  pub candidates-cover : Covers db_view fs cs
  candidates-cover keys are =
      subst (λ (m : StoredKeys). IsPermutation (stored_selection m fs) (passing m fs keys)) (sym kept)
      (lent-covers nodes es index is fs cs labelled (apart-once cs apart) covered keys (subst (λ (m : Keyed Id). AreIdsOf m keys cs) ids are))
