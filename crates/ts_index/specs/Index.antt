-- The labels of each id, and selections among them.
use Rattle.std.specs.Prelude.{◌≡◌, ◌≢◌, ℕ, Bool, if◌then◌else◌, List, [], ◌∷◌, Option}
use Rattle.std.specs.BTreeMap.{is_at}
use Rattle.std.specs.Map.{lookup}
use Rattle.std.specs.Ordering.{nat_cmp}
use Rattle.ts_spec.specs.Filter.{has_one_of, value_of}
use Rattle.ts_spec.specs.State.{Label}
use Rattle.ts_sample.specs.declared.sample.Id.{Id}

-- the labels of each id, in ascending order of ids
abbrev pub Labelled : Type 0
Labelled = List (ℕ × List Label)

-- the labels of an id, if it is in the index
abbrev pub labels_of : ℕ → Labelled → Option (List Label)
labels_of i es = lookup (is_at (nat_cmp i)) es

-- An id has these labels, or is gone, and all other ids are unchanged.
pub record Relabels (id : Id) (labels : Option (List Label)) (old new : Labelled) : Type 0 where
  pub here : labels_of id.0 new ≡ labels
  pub others : (i : ℕ) → i ≢ id.0 → labels_of i new ≡ labels_of i old

-- the ids whose labels pass a test, in ascending order
abbrev pub ids_where : (List Label → Bool) → Labelled → List Id
ids_where test [] = []
ids_where test (e ∷ es) = if test e.1 then record { 0 = e.0 } ∷ ids_where test es else ids_where test es

-- whether the labels contain this name with this value
abbrev pub has_pair : (name value : List ℕ) → List Label → Bool
has_pair name value labels = has_one_of (value ∷ []) (value_of name labels)
