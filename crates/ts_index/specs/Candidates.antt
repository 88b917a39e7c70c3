-- The candidates of a selection.
use Rattle.std.specs.Prelude.{◌≡◌, ℕ, false, true, ⊤, List, [], ◌∷◌, ◌++◌, IsSome, Some}
use Rattle.ts_spec.specs.Filter.{Filter, all_hold}
use Rattle.ts_spec.specs.State.{Label}
use Rattle.ts_sample.specs.declared.sample.Id.{Id}
use Rattle.ts_index.specs.Index.{Labelled, labels_of, ids_where, has_pair}
use Rattle.ts_index.specs.Numbers.{has_id}

-- the posting lists of these values, one after another
abbrev pub postings : (label : List ℕ) → (values : List (List ℕ)) → Labelled → List Id
postings label [] es = []
postings label (v ∷ vs) es = ids_where (has_pair label v) es ++ postings label vs es

-- all ids differ
abbrev pub AreApart : List Id → Type 0
AreApart [] = ⊤
AreApart (i ∷ is) = (has_id i.0 is ≡ false) × AreApart is

-- each id is in the index
abbrev pub AreLive : Labelled → List Id → Type 0
AreLive es is = (q : ℕ) → has_id q is ≡ true → IsSome (labels_of q es)

-- these include each id whose labels pass all filters
abbrev pub Covers : Labelled → List Filter → List Id → Type 0
Covers es filters is = (q : ℕ) (labels : List Label) → labels_of q es ≡ Some labels → all_hold filters labels ≡ true → has_id q is ≡ true
