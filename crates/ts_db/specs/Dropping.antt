-- Keys that are to be deleted, and nodes that have lost their labels.
use Rattle.std.specs.Prelude.{◌≡◌, ℕ, true, List, [], ◌∷◌, Option, None, Some}
use Rattle.std.specs.List.{list_any}
use Rattle.slab.specs.Slab as slab
use Rattle.ts_spec.specs.Key.{Key, same}
use Rattle.ts_sample.specs.declared.sample.Id.{Id}
use Rattle.ts_db.specs.declared.node.Node.{Node}
use Rattle.ts_db.specs.Store.{Nodes, Numbers, id_for_key}

-- The id belongs to one of these keys.
pub record IsIdOf (keys : List Key) (es : Numbers) (id : Id) : Type 0 where
  pub key : Key
  pub among : list_any (λ k. same k key) keys ≡ true
  pub is : id_for_key key es ≡ Some id

-- a node without labels
abbrev pub unlabelled : Node → Node
unlabelled n = record n { labels = [] }

-- the nodes after the one at this id, if there is one, has lost its labels
abbrev pub unlabelled_at : ℕ → Nodes → Option Node → Nodes
unlabelled_at i nodes None = nodes
unlabelled_at i nodes (Some n) = slab.with_value nodes i (unlabelled n)

-- the nodes after all of these have lost their labels
abbrev pub all_unlabelled : List Id → Nodes → Nodes
all_unlabelled [] nodes = nodes
all_unlabelled (i ∷ is) nodes = all_unlabelled is (unlabelled_at i.0 nodes (slab.get nodes i.0))
