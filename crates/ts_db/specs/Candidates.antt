-- Candidates of a query.
use Rattle.std.specs.Prelude.{if◌then◌else◌, List, [], ◌∷◌}
use Rattle.std.specs.List.Sorted.{IsPermutation}
use Rattle.ts_spec.specs.Filter.{Filter, all_hold}
use Rattle.ts_spec.specs.Key.{Key}
use Rattle.ts_spec.specs.Keyed.{get}
use Rattle.ts_spec.specs.StoredSeries.{StoredKeys}
use Rattle.ts_spec.specs.StoredQueries.{stored_labels_at, stored_selection}
use Rattle.ts_sample.specs.declared.sample.Id.{Id}
use Rattle.ts_db.specs.DbState.{DbView, AreIdsOf}

-- the keys among these whose labels pass all filters
abbrev pub passing : StoredKeys → List Filter → List Key → List Key
passing m fs [] = []
passing m fs (k ∷ ks) = if all_hold fs (stored_labels_at (get k m)) then k ∷ passing m fs ks else passing m fs ks

-- the candidates that pass all filters are exactly the selected keys, in some order
abbrev pub Covers : DbView → List Filter → List Id → Type 0
Covers db_view fs ids = (keys : List Key) → AreIdsOf db_view.ids keys ids → IsPermutation (stored_selection db_view.keys fs) (passing db_view.keys fs keys)
