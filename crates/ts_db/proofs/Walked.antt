-- Scanning all keys and keeping the ids in a sorted list.
use Rattle.std.proofs.Common.{◌≡◌, ◌<◌, ℕ, ◌&&◌, Bool, true, false, List, [], ◌∷◌, length, refl, sym, ◌∙◌, ap, eq-eqb}
use Rattle.std.specs.Prelude.{Option, Err, if◌then◌else◌}
use Rattle.std.specs.Option.{unwrap_or}
use Rattle.std.specs.List.{AllByRecursion, HoldsAt}
use Rattle.std.specs.List.Sorted.{IsBinarySearchResult}
use Rattle.std.specs.Ordering.{nat_cmp}
use Rattle.std.specs.declared.cmp.Ordering.TheVariants.{Equal}
use Rattle.ts_spec.specs.Key.{Key}
use Rattle.ts_spec.specs.State.{Label}
use Rattle.ts_sample.specs.declared.sample.Id.{Id}
use Rattle.ts_index.specs.Index.{Labelled, labels_of, ids_where}
use Rattle.ts_index.specs.Numbers.{AreAscending, AreInOrder, has_id, pass}
use Rattle.ts_index.proofs.MemberLemmas.{has_id-with, has_id-without}
use Rattle.ts_index.proofs.NumberLemmas.{has_id-where}
use Rattle.ts_index.proofs.PlaceLemmas.{already, not_there}
use Rattle.ts_db.specs.KeyOrder.{among}
use Rattle.ts_db.specs.Store.{Numbers}
use Rattle.ts_db.proofs.Tagged.{tagged, IsKnown}

-- a search that finds an id
pub found-in : (xs : List Id) (p : ℕ) (i : Id) → AreAscending xs → p < length xs → HoldsAt (λ y. nat_cmp y.0 i.0 ≡ Equal) xs p → has_id i.0 xs ≡ true
found-in xs p i o l found = sym (ap (has_id i.0) (already xs p i o l found)) ∙ has_id-with i xs i.0 ∙ rw (eq-eqb i.0 i.0 refl) refl

-- and one that finds none
pub not-in : (xs : List Id) (p : ℕ) (i : Id) → AreAscending xs → IsBinarySearchResult (λ y. nat_cmp y.0 i.0) xs (Err p) → has_id i.0 xs ≡ false
not-in xs p i o found = sym (ap (has_id i.0) (not_there xs p i o found)) ∙ has_id-without i xs i.0 o ∙ rw (eq-eqb i.0 i.0 refl) (none (has_id i.0 xs))
  where
    none : (b : Bool) → (b && false) ≡ false
    none true = refl
    none false = refl

module _ (labels : ℕ → Option (List Label)) (name : Id → Key) (test : List Label → Bool) (index : Labelled) (ordered : AreInOrder index) (indexed : (i : ℕ) → labels_of i index ≡ labels i) where
  -- an id is among those whose labels pass, where the labels of its key pass
  one : (e : Key × Id) → IsKnown labels name e → has_id e.1.0 (ids_where test index) ≡ test (unwrap_or (labels e.1.0) [])
  one e known =
      has_id-where test index ordered e.1.0 ∙ ap (pass test) (indexed e.1.0 ∙ known.has) ∙ ap (λ (o : Option (List Label)). test (unwrap_or o [])) (sym known.has)

  -- The ids that a walk over the keys takes are those whose labels pass, in the order of the keys.
  pub in_key_order : (es : Numbers) → AllByRecursion (IsKnown labels name) es → among (ids_where test index) es ≡ ids_where test (tagged labels name es)
  in_key_order [] known = refl
  in_key_order (e ∷ es) known =
      let first : has_id e.1.0 (ids_where test index) ≡ test (unwrap_or (labels e.1.0) []) = one e known.0 in
      let rest : among (ids_where test index) es ≡ ids_where test (tagged labels name es) = in_key_order es known.1 in
      λ i. if first i then e.1 ∷ rest i else rest i
