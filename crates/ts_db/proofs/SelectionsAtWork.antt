-- Worked examples: the cost of selections.
use Rattle.std.specs.Prelude.{◌≡◌, refl, List, [], ◌∷◌, None, codes}
use Rattle.ts_spec.specs.declared.series.Options.{Options}
use Rattle.ts_spec.specs.Filter.{Filter, OneOf, NoneOf, Present}
use Rattle.ts_spec.specs.Key.{Key}
use Rattle.ts_spec.specs.Keyed.{none, with_key}
use Rattle.ts_spec.specs.StoredSeries.{StoredSeries, StoredKeys}
use Rattle.ts_spec.specs.StoredQueries.{stored_selection}
use Rattle.ts_spec.specs.Limits.{usual}
use Rattle.ts_spec.specs.State.{Label}
use Rattle.ts_db.specs.Bounds.{candidates, selection_steps}
use Rattle.ts_db.specs.DbState.{DbView}

module _ (options : Options) where
  -- a key without samples that has these labels
  abbrev with_labels : List Label → StoredSeries
  with_labels labels = record { options = options; labels = labels; list = []; high = None; born = 0; rules = []; source = None }

  abbrev kind : Label
  kind = record { name = codes "kind"; value = codes "s" }

  abbrev area : Label
  area = record { name = codes "area"; value = codes "x" }

  abbrev others : List Key → StoredKeys
  others [] = with_key (codes "k0") (with_labels (kind ∷ area ∷ [])) none
  others (k ∷ ks) = with_key k (with_labels (kind ∷ [])) (others ks)

  -- ten keys of one kind, of which the first has an area
  abbrev ten : DbView
  ten = record {
    limits = usual;
    keys = others (codes "k1" ∷ codes "k2" ∷ codes "k3" ∷ codes "k4" ∷ codes "k5" ∷ codes "k6" ∷ codes "k7" ∷ codes "k8" ∷ codes "k9" ∷ []);
    ids = none;
    reaches = none;
    pieces = none;
    sizes = none;
  }

  abbrev of_kind : Filter
  of_kind = OneOf (codes "kind") (codes "s" ∷ [])

  abbrev of_area : Filter
  of_area = OneOf (codes "area") (codes "x" ∷ [])

  -- the narrower of two filters bounds the steps of both
  pub narrower_selected : stored_selection ten.keys (of_kind ∷ of_area ∷ []) ≡ codes "k0" ∷ []
  narrower_selected = refl

  pub narrower_steps : selection_steps ten (of_kind ∷ of_area ∷ []) ≡ 2
  narrower_steps = refl

  pub wider_steps : selection_steps ten (of_kind ∷ []) ≡ 10
  wider_steps = refl

  -- a value that is there twice counts once
  pub values_once : candidates ten (OneOf (codes "kind") (codes "s" ∷ codes "t" ∷ codes "s" ∷ [])) ≡ 10
  values_once = refl

  pub values_narrow : selection_steps ten (OneOf (codes "area") (codes "x" ∷ codes "y" ∷ codes "x" ∷ []) ∷ of_kind ∷ []) ≡ 2
  values_narrow = refl

  -- a filter that asks for no value has no candidates of its own
  pub no_value : selection_steps ten (Present (codes "area") ∷ of_area ∷ []) ≡ 2
  no_value = refl

  pub no_positive : selection_steps ten (NoneOf (codes "area") (codes "x" ∷ []) ∷ []) ≡ 10
  no_positive = refl
