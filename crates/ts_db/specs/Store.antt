-- The representation of a database: series by id, and ids by key.
use Rattle.std.specs.Prelude.{◌≡◌, ◌≤◌, ℕ, Bool, ⊤, List, [], ◌∷◌, length, map, Option, None, Some, option_map}
use Rattle.std.specs.Cmp.Lexicographic.{slice_cmp}
use Rattle.std.specs.Ordering.{nat_cmp}
use Rattle.std.specs.BTreeMap.{is_at}
use Rattle.std.specs.Map.{lookup}
use Rattle.slab.specs.Slab as slab
use Rattle.ts_spec.specs.declared.limits.Limits.{Limits}
use Rattle.ts_spec.specs.Sample.{Point, MAX_TIME}
use Rattle.ts_spec.specs.Key.{Key}
use Rattle.ts_spec.specs.Keyed.{Keyed, none, get, with_key, without_key, each, count_keys}
use Rattle.ts_spec.specs.State.{Label}
use Rattle.ts_spec.specs.StoredSeries.{StoredRule, StoredSeries, StoredKeys}
use Rattle.ts_spec.specs.StoredQueries.{stored_labels_at}
use Rattle.ts_spec.specs.StoredStep.{list_at}
use Rattle.ts_sample.specs.declared.sample.Id.{Id}
use Rattle.ts_bucket.specs.Grid.{IsGrid}
use Rattle.ts_series.specs.History.{History, list_of, reach, IsKept}
use Rattle.ts_rules.specs.declared.rule.Rule.{Rule}
use Rattle.ts_rules.specs.Rules.{stored_rule_for}
use Rattle.ts_db.specs.declared.node.Node.{Node}
use Rattle.ts_db.specs.declared.store.Store.{Store}
use Rattle.ts_db.specs.DbState.{DbView, RepresentsSome, reach_at, chunk_samples_at}

-- the stored data of a series with these labels, without rules and rule source
abbrev pub stored_series : List Label → History → StoredSeries
stored_series labels h = record { options = h.options; labels = labels; list = list_of h; high = h.high; born = h.born; rules = []; source = None }

-- the stored data of rules; `names` gives the key of an id
abbrev pub rules_by : (Id → Key) → List Rule → List StoredRule
rules_by names rs = map (λ r. stored_rule_for (names r.dest) r) rs

-- the stored data of a node; `names` gives the key of an id
abbrev pub stored_named : (Id → Key) → Node → StoredSeries
stored_named names n = record (stored_series n.labels n.series) { rules = rules_by names n.rules.items; source = option_map names n.source }

-- the nodes by id, and the keys with their ids
abbrev pub Nodes : Type 0
Nodes = slab.Slab Node

abbrev pub Numbers : Type 0
Numbers = List (Key × Id)

-- the key of a node, if there is one
abbrev pub key_at : Option Node → Key
key_at None = []
key_at (Some n) = n.key

-- the key of an id
abbrev pub key_in : Nodes → Id → Key
key_in nodes id = key_at (slab.get nodes id.0)

-- the stored data of a node
abbrev pub stored_node : Nodes → Node → StoredSeries
stored_node nodes n = stored_named (key_in nodes) n

-- the stored data of an id
abbrev pub stored_at_id : Nodes → Id → Option StoredSeries
stored_at_id nodes id = option_map (stored_node nodes) (slab.get nodes id.0)

-- the map with this value at the key, or without the key if there is no value
abbrev pub with_found : {X : Type 0} → Key → Option X → Keyed X → Keyed X
with_found k None m = without_key k m
with_found k (Some x) m = with_key k x m

-- the stored data of each key
abbrev pub stored_by_key : Nodes → Numbers → StoredKeys
stored_by_key nodes [] = none
stored_by_key nodes (e ∷ es) = with_found e.0 (stored_at_id nodes e.1) (stored_by_key nodes es)

-- the id of each key
abbrev pub ids_of : Numbers → Keyed Id
ids_of [] = none
ids_of (e ∷ es) = with_key e.0 e.1 (ids_of es)

-- whether an entry has this key
abbrev pub has_key : Key → Key → Bool
has_key k = is_at (slice_cmp nat_cmp k)

-- the id of a key
abbrev pub id_for_key : Key → Numbers → Option Id
id_for_key k es = lookup (has_key k) es

-- a function of each key's node
abbrev pub of_each_node : {X : Type 0} → (Option Node → X) → Nodes → Numbers → Keyed X
of_each_node tell nodes es = each (λ key id. tell (slab.get nodes id.0)) (ids_of es)

-- the reach of a series; 0 if there is none
abbrev pub node_reach : Option Node → ℕ
node_reach None = 0
node_reach (Some n) = reach n.series

-- the samples of each chunk of a series; none if there is no series
abbrev pub node_pieces : Option Node → List (List Point)
node_pieces None = []
node_pieces (Some n) = n.series.held.pieces

-- the capacity of each chunk of a series; none if there is no series
abbrev pub node_sizes : Option Node → List ℕ
node_sizes None = []
node_sizes (Some n) = n.series.held.limits

-- the view of a store
abbrev pub db_view_of : Store → DbView
db_view_of s = record {
  limits = s.limits;
  keys = stored_by_key s.nodes s.keys.entries;
  ids = ids_of s.keys.entries;
  reaches = of_each_node node_reach s.nodes s.keys.entries;
  pieces = of_each_node node_pieces s.nodes s.keys.entries;
  sizes = of_each_node node_sizes s.nodes s.keys.entries;
}

-- what a store holds, apart from the layout of its chunks
pub record Contents : Type 0 where
  pub limits : Limits
  pub keys : StoredKeys
  pub ids : Keyed Id

-- what this store holds, apart from the layout of its chunks
abbrev pub contents_of : Store → Contents
contents_of s = record { limits = s.limits; keys = stored_by_key s.nodes s.keys.entries; ids = ids_of s.keys.entries }

-- the id has a node
pub record HasNode (nodes : Nodes) (id : Id) : Type 0 where
  pub node : Node
  pub there : slab.get nodes id.0 ≡ Some node

-- the destinations of these rules have nodes
abbrev pub AreLive : Nodes → List Rule → Type 0
AreLive nodes [] = ⊤
AreLive nodes (r ∷ rs) = HasNode nodes r.dest × AreLive nodes rs

-- the source, if there is one, has a node
abbrev pub IsLiveSource : Nodes → Option Id → Type 0
IsLiveSource nodes None = ⊤
IsLiveSource nodes (Some id) = HasNode nodes id

-- The rules and the rule source of the node lead to existing nodes.
pub record HasLiveLinks (nodes : Nodes) (n : Node) : Type 0 where
  pub rules : AreLive nodes n.rules.items
  pub source : IsLiveSource nodes n.source

-- the grid of each rule is valid
abbrev pub HaveGrids : List Rule → Type 0
HaveGrids [] = ⊤
HaveGrids (r ∷ rs) = IsGrid r.grid × HaveGrids rs

-- The series is well formed, and it, its labels and its rules are within the limits.
pub record IsNode (limits : Limits) (n : Node) : Type 0 where
  pub kept : IsKept n.series
  pub within : length (list_of n.series) ≤ limits.samples
  pub born : n.series.born ≤ limits.born
  pub labels : length n.labels ≤ limits.labels
  pub grids : HaveGrids n.rules.items

-- The invariant of a store: keys and nodes correspond one to one, links lead to existing nodes, each node is well
-- formed, and the number of keys is within its limit.
pub record IsStore (limits : Limits) (nodes : Nodes) (es : Numbers) : Type 0 where
  pub stored : (k : Key) (id : Id) → id_for_key k es ≡ Some id → (n : Node) × (slab.get nodes id.0 ≡ Some n)
  pub named : (k : Key) (id : Id) (n : Node) → id_for_key k es ≡ Some id → slab.get nodes id.0 ≡ Some n → n.key ≡ k
  pub owned : (i : ℕ) (n : Node) → slab.get nodes i ≡ Some n → id_for_key n.key es ≡ Some (record { 0 = i })
  pub live : (i : ℕ) (n : Node) → slab.get nodes i ≡ Some n → HasLiveLinks nodes n
  pub each : (i : ℕ) (n : Node) → slab.get nodes i ≡ Some n → IsNode limits n
  pub counted : count_keys (stored_by_key nodes es) ≡ length es
  -- there are as many nodes as keys, so each node has a key
  pub no_other : slab.slab_len nodes ≡ length es
  pub few : length es ≤ limits.keys
  pub some_samples : 1 ≤ limits.samples
  pub bounded : limits.samples ≤ MAX_TIME

-- the store satisfies its invariant
abbrev pub IsInOrder : Store → Type 0
IsInOrder s = IsStore s.limits s.nodes s.keys.entries

-- The store satisfies its invariant and represents some state.
pub record IsDb (s : Store) : Type 0 where
  pub store : IsInOrder s
  pub stands : RepresentsSome (db_view_of s) (λ held. ⊤)

-- The store has this node under this key.
pub record Holds (s : Store) (key : Key) (id : Id) (n : Node) : Type 0 where
  pub number : id_for_key key s.keys.entries ≡ Some id
  pub node : slab.get s.nodes id.0 ≡ Some n

-- The id belongs to a key.
pub record IsThere (s : Store) (id : Id) : Type 0 where
  pub key : Key
  pub node : Node
  pub holds : Holds s key id node

-- the view of a key is what this node has
pub record Shows (db_view : DbView) (key : Key) (n : Node) : Type 0 where
  pub name : n.key ≡ key
  pub labels : stored_labels_at (get key db_view.keys) ≡ n.labels
  pub list : list_at (get key db_view.keys) ≡ list_of n.series
  pub reached : reach_at db_view key ≡ reach n.series
  pub pieces : chunk_samples_at db_view key ≡ n.series.held.pieces
