-- The label index and the nodes.
use Rattle.std.specs.Prelude.{◌≡◌, ℕ, option_map}
use Rattle.slab.specs.Slab as slab
use Rattle.ts_index.specs.Index.{Labelled, labels_of}
use Rattle.ts_db.specs.declared.node.Node.{Node}

-- the index has exactly the labels of each node
abbrev pub IsIndexed : slab.Slab Node → Labelled → Type 0
IsIndexed nodes index = (i : ℕ) → labels_of i index ≡ option_map (λ n. n.labels) (slab.get nodes i)
