-- Label filters, and the keys that they select.
use Rattle.std.specs.Prelude.{ℕ, Bool, true, false, not, ◌&&◌, ◌||◌, if◌then◌else◌, List, [], ◌∷◌, Option, Some, None, is_some}
use Rattle.ts_spec.specs.Key.{Key, same}
use Rattle.ts_spec.specs.Keyed.{Entry}
use Rattle.ts_spec.specs.State.{Label, Record, State}

-- A filter on one label.
pub data Filter : Type 0 where
  -- the series has the label with one of these values
  OneOf : (label : List ℕ) → (values : List (List ℕ)) → Filter
  -- the series lacks the label, or has another value
  NoneOf : (label : List ℕ) → (values : List (List ℕ)) → Filter
  -- the series lacks the label
  Absent : (label : List ℕ) → Filter
  -- the series has the label
  Present : (label : List ℕ) → Filter

-- the value of a label, if the series has it
abbrev pub value_of : List ℕ → List Label → Option (List ℕ)
value_of name [] = None
value_of name (l ∷ ls) = if same l.name name then Some l.value else value_of name ls

-- whether the value is in the list
abbrev pub is_one_of : List (List ℕ) → List ℕ → Bool
is_one_of [] value = false
is_one_of (v ∷ vs) value = same v value || is_one_of vs value

-- whether the series has the label with one of these values
abbrev pub has_one_of : List (List ℕ) → Option (List ℕ) → Bool
has_one_of values None = false
has_one_of values (Some value) = is_one_of values value

-- whether a series with these labels passes the filter
abbrev pub holds : Filter → List Label → Bool
holds (OneOf label values) labels = has_one_of values (value_of label labels)
holds (NoneOf label values) labels = not (has_one_of values (value_of label labels))
holds (Absent label) labels = not (is_some (value_of label labels))
holds (Present label) labels = is_some (value_of label labels)

-- whether the labels pass all filters
abbrev pub all_hold : List Filter → List Label → Bool
all_hold [] labels = true
all_hold (f ∷ fs) labels = holds f labels && all_hold fs labels

-- whether a filter requires a value; a query needs at least one filter that does
abbrev pub is_positive : Filter → Bool
is_positive (OneOf label values) = true
is_positive other = false

-- whether at least one filter requires a value
abbrev pub has_positive : List Filter → Bool
has_positive [] = false
has_positive (f ∷ fs) = is_positive f || has_positive fs

-- the entries whose labels pass all filters
abbrev pub selected_in : List Filter → List (Entry Record) → List (Entry Record)
selected_in filters [] = []
selected_in filters (e ∷ es) = if all_hold filters e.value.labels then e ∷ selected_in filters es else selected_in filters es

-- the keys of the entries
abbrev pub keys_of : List (Entry Record) → List Key
keys_of [] = []
keys_of (e ∷ es) = e.key ∷ keys_of es

-- the keys whose labels pass all filters, in ascending order
abbrev pub selection : State → List Filter → List Key
selection m filters = keys_of (selected_in filters m.entries)
