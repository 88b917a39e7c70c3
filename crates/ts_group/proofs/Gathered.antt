-- The groups of series after adding one more series.
use Rattle.std.proofs.Common.{◌≡◌, ℕ, Bool, List, [], ◌∷◌, ◌++◌, map, Option, None, Some, refl, sym, ap, ◌∙◌, append-nil, append_assoc, subst}
use Rattle.std.specs.Cmp.Lexicographic.{slice_cmp}
use Rattle.std.specs.Ordering.{nat_cmp}
use Rattle.std.specs.BTreeMap.{is_at, insert_entry}
use Rattle.std.specs.Map.{lookup, set_value}
use Rattle.ts_spec.specs.Filter.{value_of}
use Rattle.ts_spec.specs.Command.{GroupBy, Show}
use Rattle.ts_spec.specs.Replies.{member_reply}
use Rattle.ts_spec.specs.Text.{Reply}
use Rattle.ts_spec.specs.Groups.{Labelled, with_value_of, values, having, group, groups}
use Rattle.ts_group.specs.Grouped.{grouped, by_values}
use Rattle.ts_group.specs.declared.one_group.Group.{Group}
use Rattle.ts_group.proofs.Ordered.{each, each-none, each-some, each-alike, each-inserted, each-set}
use Rattle.ts_group.proofs.Values.{in_bytes, rising-values, values-more, none_having, having-here, having-elsewhere, having-nowhere}

abbrev pub Groups : Type 0
Groups = List (List ℕ × Group)

-- a series that lacks the label
pub groups-kept : (label : List ℕ) (es : Groups) (ms : List Labelled) (m : Labelled) → value_of label m.labels ≡ None → es ≡ by_values label ms → es ≡ by_values label (ms ++ m ∷ [])
groups-kept label es ms m none is =
    is ∙ each-alike in_bytes (λ (v : List ℕ). grouped (having label v ms)) (λ (v : List ℕ). grouped (having label v (ms ++ m ∷ []))) (values label ms) (λ v. ap grouped (having-nowhere label v ms m none))
    ∙ ap (map (λ (v : List ℕ). (v, grouped (having label v (ms ++ m ∷ []))))) (sym (values-more label ms m ∙ ap (λ o. with_value_of o (values label ms)) none))

-- a series with a value that the others do not have
pub groups-inserted : (label v : List ℕ) (es new : Groups) (now : Group) (ms : List Labelled) (m : Labelled) → value_of label m.labels ≡ Some v → es ≡ by_values label ms
    → lookup (is_at (slice_cmp nat_cmp v)) es ≡ None → now ≡ grouped (m ∷ []) → new ≡ insert_entry (slice_cmp nat_cmp) es v now → new ≡ by_values label (ms ++ m ∷ [])
groups-inserted label v es new now ms m has is none alone made =
    let f = λ (w : List ℕ). grouped (having label w ms) in
    let g = λ (w : List ℕ). grouped (having label w (ms ++ m ∷ [])) in
    let absent = each-none in_bytes f v (values label ms) (ap (lookup (is_at (slice_cmp nat_cmp v))) (sym is) ∙ none) in
    let here : having label v (ms ++ m ∷ []) ≡ m ∷ [] = having-here label v ms m has ∙ ap (λ (l : List Labelled). l ++ m ∷ []) (none_having label v ms absent) in
    made ∙ ap (λ (l : Groups). insert_entry (slice_cmp nat_cmp) l v now) is
    ∙ ap (λ (x : Group). insert_entry (slice_cmp nat_cmp) (by_values label ms) v x) (alone ∙ ap grouped (sym here))
    ∙ each-inserted in_bytes f g v (values label ms) (rising-values label ms) (λ w. λ e. ap grouped (having-elsewhere label v w ms m has e))
    ∙ ap (each in_bytes g) (sym (values-more label ms m ∙ ap (λ o. with_value_of o (values label ms)) has))

-- a series with a value that others have
pub groups-added : (label v : List ℕ) (es new : Groups) (old now : Group) (ms : List Labelled) (m : Labelled) → value_of label m.labels ≡ Some v → es ≡ by_values label ms
    → lookup (is_at (slice_cmp nat_cmp v)) es ≡ Some old → ((ns : List Labelled) → old ≡ grouped ns → now ≡ grouped (ns ++ m ∷ []))
    → new ≡ set_value (is_at (slice_cmp nat_cmp v)) es now → new ≡ by_values label (ms ++ m ∷ [])
groups-added label v es new old now ms m has is found adds made =
    let f = λ (w : List ℕ). grouped (having label w ms) in
    let g = λ (w : List ℕ). grouped (having label w (ms ++ m ∷ [])) in
    let there = each-some in_bytes f v (values label ms) old (ap (lookup (is_at (slice_cmp nat_cmp v))) (sym is) ∙ found) in
    made ∙ ap (λ (l : Groups). set_value (is_at (slice_cmp nat_cmp v)) l now) is
    ∙ ap (λ (x : Group). set_value (is_at (slice_cmp nat_cmp v)) (by_values label ms) x) (adds (having label v ms) there.1 ∙ ap grouped (sym (having-here label v ms m has)))
    ∙ each-set in_bytes f g v (values label ms) (rising-values label ms) there.0 (λ w. λ e. ap grouped (having-elsewhere label v w ms m has e))
    ∙ ap (each in_bytes g) (sym (values-more label ms m ∙ ap (λ o. with_value_of o (values label ms)) has))

-- ---- their replies

-- the reply of the group of a value
abbrev pub reply_parts : GroupBy → Show → Option ℕ → Bool → List Labelled → List ℕ → Reply
reply_parts by show count back all value = member_reply (group by show count back value (having by.label value all))

-- these groups are left, after the replies of the others
pub record AreLeft (by : GroupBy) (show : Show) (count : Option ℕ) (back : Bool) (all : List Labelled) (es : Groups) (shown : List Reply) : Type 0 where
  pub left : List (List ℕ)
  pub entries : es ≡ map (λ value. (value, grouped (having by.label value all))) left
  pub so_far : shown ++ map (reply_parts by show count back all) left ≡ map (reply_parts by show count back all) (values by.label all)

module _ (by : GroupBy) (show : Show) (count : Option ℕ) (back : Bool) (all : List Labelled) where
  pub left-first : (es : Groups) (shown : List Reply) → es ≡ by_values by.label all → shown ≡ [] → AreLeft by show count back all es shown
  left-first es shown is none =
      record { left = values by.label all; entries = is; so_far = ap (λ (l : List Reply). l ++ map (reply_parts by show count back all) (values by.label all)) none }

  next-of : (es rest : Groups) (e : List ℕ × Group) (shown : List Reply) (reply : Reply) (left : List (List ℕ)) → es ≡ e ∷ rest
      → es ≡ map (λ value. (value, grouped (having by.label value all))) left
      → shown ++ map (reply_parts by show count back all) left ≡ map (reply_parts by show count back all) (values by.label all)
      → ((ms : List Labelled) → e.1 ≡ grouped ms → reply ≡ member_reply (group by show count back e.0 ms))
      → AreLeft by show count back all rest (shown ++ reply ∷ [])
  next-of es rest e shown reply [] is entries so_far tells = cc
  next-of es rest e shown reply (v ∷ vs) is entries so_far tells =
      let both : e ∷ rest ≡ (v, grouped (having by.label v all)) ∷ map (λ value. (value, grouped (having by.label value all))) vs = sym is ∙ entries in
      let one : e ≡ (v, grouped (having by.label v all)) = cc in
      let others : rest ≡ map (λ value. (value, grouped (having by.label value all))) vs = cc in
      let is_reply : reply ≡ reply_parts by show count back all v =
      tells (having by.label v all) (ap (λ (d : List ℕ × Group). d.1) one)
      ∙ ap (λ (d : List ℕ × Group). member_reply (group by show count back d.0 (having by.label v all))) one in
      record {
        left = vs;
        entries = others;
        so_far = append_assoc shown (reply ∷ []) (map (reply_parts by show count back all) vs)
            ∙ ap (λ (r : Reply). shown ++ r ∷ map (reply_parts by show count back all) vs) is_reply ∙ so_far;
      }

  pub left-next : (es rest : Groups) (e : List ℕ × Group) (shown now : List Reply) (reply : Reply) → AreLeft by show count back all es shown → es ≡ e ∷ rest
      → ((ms : List Labelled) → e.1 ≡ grouped ms → reply ≡ member_reply (group by show count back e.0 ms)) → now ≡ shown ++ reply ∷ []
      → AreLeft by show count back all rest now
  left-next es rest e shown now reply before is tells more =
      subst (AreLeft by show count back all rest) (sym more) (next-of es rest e shown reply before.left is before.entries before.so_far tells)

  pub reply_parts-each : (vs : List (List ℕ)) → map (reply_parts by show count back all) vs ≡ map member_reply (map (λ value. group by show count back value (having by.label value all)) vs)
  reply_parts-each [] = refl
  reply_parts-each (v ∷ vs) = ap (λ (l : List Reply). reply_parts by show count back all v ∷ l) (reply_parts-each vs)

  pub none-left : (vs : List (List ℕ)) → [] ≡ map {B = List ℕ × Group} (λ value. (value, grouped (having by.label value all))) vs → vs ≡ []
  none-left [] e = refl
  none-left (v ∷ vs) e = cc

  -- where none is left, these are the replies of all
  pub left-none : (es : Groups) (shown : List Reply) → AreLeft by show count back all es shown → es ≡ [] → shown ≡ map member_reply (groups by show count back all)
  left-none es shown before none =
      sym (append-nil shown) ∙ ap (λ (vs : List (List ℕ)). shown ++ map (reply_parts by show count back all) vs) (sym (none-left before.left (sym none ∙ before.entries)))
      ∙ before.so_far ∙ reply_parts-each (values by.label all)
