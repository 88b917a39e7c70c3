-- Posting lists by label and value.
use Rattle.std.specs.Prelude.{◌≡◌, ℕ, Bool, List, [], Option, None, Some, Vec}
use Rattle.std.specs.BTreeMap.{BTreeMap, get_by, is_at}
use Rattle.std.specs.Cmp.Lexicographic.{slice_cmp}
use Rattle.std.specs.Ordering.{nat_cmp}
use Rattle.ts_sample.specs.declared.sample.Id.{Id}
use Rattle.ts_index.specs.Index.{Labelled, ids_where, has_pair}

-- whether a map treats the two as the same key
abbrev pub alike : (one other : List ℕ) → Bool
alike one other = is_at (slice_cmp nat_cmp one) other

module _ {Z : Type 0} where
  -- the ids of a list, if there is one
  abbrev pub ids_in : Option (Vec Id Z) → List Id
  ids_in None = []
  ids_in (Some list) = list.items

  -- the posting list of a value
  abbrev pub by_value : (value : List ℕ) → BTreeMap (List ℕ) (Vec Id Z) → List Id
  by_value value values = ids_in (get_by (slice_cmp nat_cmp value) values)

  -- the same if there may be no lists
  abbrev pub value_in : (value : List ℕ) → Option (BTreeMap (List ℕ) (Vec Id Z)) → List Id
  value_in value None = []
  value_in value (Some values) = by_value value values

  -- the posting list of a label and value
  abbrev pub posting_in : (label value : List ℕ) → BTreeMap (List ℕ) (BTreeMap (List ℕ) (Vec Id Z)) → List Id
  posting_in label value lists = value_in value (get_by (slice_cmp nat_cmp label) lists)

  -- each posting list has exactly the ids that have its label with its value
  abbrev pub ArePosted : Labelled → BTreeMap (List ℕ) (BTreeMap (List ℕ) (Vec Id Z)) → Type 0
  ArePosted es lists = (l v : List ℕ) → posting_in l v lists ≡ ids_where (has_pair l v) es
