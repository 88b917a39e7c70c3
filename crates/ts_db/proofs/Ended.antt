-- The stored data of each key after rules are deleted.
use Rattle.std.proofs.Common.{◌≡◌, Bool, true, false, not, ◌&&◌, List, [], ◌∷◌, filter, refl, sym, ◌∙◌, ap}
use Rattle.std.specs.Prelude.{if◌then◌else◌, Option, None, Some, is_some, option_map}
use Rattle.ts_spec.specs.Key.{Key, same}
use Rattle.ts_spec.specs.Keyed.{get}
use Rattle.ts_spec.specs.StoredSeries.{StoredRule, StoredSeries, StoredKeys}
use Rattle.ts_spec.specs.StoredKeys.{keys_changed, source_left, stored_ended, keys_without_rule}
use Rattle.ts_spec.specs.StoredUpdates.{stored_rule_to}
use Rattle.ts_spec.proofs.Keys.{same-refl, same-true}
use Rattle.ts_spec.proofs.Maps.{get-each, maps-same}
use Rattle.ts_spec.proofs.Tidy.{some-same}
use Rattle.ts_db.specs.Linking.{stored_without_rule_to, stored_with_source}
use Rattle.ts_db.specs.Links.{IsLink, AreLinks}
use Rattle.ts_db.proofs.KeptLinks.{HasLinks}

-- all of a list
pub filter-all : (qs : List StoredRule) → filter (λ q. true) qs ≡ qs
filter-all [] = refl
filter-all (q ∷ qs) = ap (λ (ps : List StoredRule). q ∷ ps) (filter-all qs)

-- the rule that is found is among them, and leads there
pub record IsFound (m : StoredKeys) (k : Key) (all : List StoredRule) (dest : Key) : Type 0 where
  pub rule : StoredRule
  pub leads : rule.dest ≡ dest
  pub link : IsLink m k all rule

pub found-link : (m : StoredKeys) (k dest : Key) (all qs : List StoredRule) → AreLinks m k all qs → is_some (stored_rule_to dest qs) ≡ true → IsFound m k all dest
found-link m k dest all [] x e = absurd (cc e)
found-link m k dest all (q ∷ qs) x e = go (same q.dest dest) refl e (λ y. found-link m k dest all qs x.1 y)
  where
    go : (b : Bool) → same q.dest dest ≡ b → is_some (if b then Some q else stored_rule_to dest qs) ≡ true → (is_some (stored_rule_to dest qs) ≡ true → IsFound m k all dest) → IsFound m k all dest
    go true f e ih = record { rule = q; leads = same-true q.dest dest f; link = x.0 }
    go false f e ih = ih e

-- ---- the rule from one key to another

module _ (m : StoredKeys) (source dest : Key) (s : StoredSeries) (is : get source m ≡ Some s) (links : HasLinks m source s.rules) (some : is_some (stored_rule_to dest s.rules) ≡ true) where
  found : IsFound m source s.rules dest
  found = found-link m source dest s.rules s.rules links.links some

  apart : same dest source ≡ false
  apart = ap (λ (k : Key). same k source) (sym found.leads) ∙ found.link.apart

  -- the destination has this source
  sourced : (d : StoredSeries) → get dest m ≡ Some d → d.source ≡ Some source
  sourced d at = ap (λ (x : StoredSeries). x.source) (some-same d found.link.dest (sym at ∙ ap (λ (k : Key). get k m) (sym found.leads) ∙ found.link.there)) ∙ found.link.source

  -- the source that a key is left with, by whether it is the destination
  abbrev left_by : Bool → Option Key → Option Key
  left_by b None = None
  left_by b (Some x) = if same x source && b then None else Some x

  abbrev ends : Key → Key → Bool
  ends k d = same k source && same d dest

  left-by : (k : Key) (o : Option Key) → source_left ends k o ≡ left_by (same k dest) o
  left-by k None = refl
  left-by k (Some x) = refl

  left-other : (o : Option Key) → left_by false o ≡ o
  left-other None = refl
  left-other (Some x) = go (same x source)
    where
      go : (b : Bool) → (if b && false then None else Some x) ≡ Some x
      go true = refl
      go false = refl

  left-here : (o : Option Key) → o ≡ Some source → left_by true o ≡ None
  left-here o e = ap (left_by true) e ∙ ap (λ b. if b && true then None else Some source) (same-refl source)

  -- the stored data of a key then
  abbrev ended_by : Bool → Bool → StoredSeries → StoredSeries
  ended_by a b d = record d { rules = filter (λ q. not (a && same q.dest dest)) d.rules; source = left_by b d.source }

  ended-by : (k : Key) (a b : Bool) → same k source ≡ a → same k dest ≡ b → (d : StoredSeries) → stored_ended ends k d ≡ ended_by a b d
  ended-by k a b x y d =
      let left : source_left ends k d.source ≡ left_by b d.source = left-by k d.source ∙ ap (λ c. left_by c d.source) y in
      λ i. record d { rules = filter (λ q. not (x i && same q.dest dest)) d.rules; source = left i }

  abbrev changed : Bool → Bool → StoredSeries → StoredSeries
  changed a b d = if b then stored_with_source None (if a then stored_without_rule_to dest d else d) else (if a then stored_without_rule_to dest d else d)

  at : (k : Key) (a b : Bool) → same k source ≡ a → same k dest ≡ b → (d : StoredSeries) → get k m ≡ Some d → changed a b d ≡ ended_by a b d
  at k true true x y d is = absurd (cc (sym apart ∙ ap (λ (j : Key). same j source) (sym (same-true k dest y)) ∙ x))
  at k true false x y d is = ap (λ (o : Option Key). record (stored_without_rule_to dest d) { source = o }) (sym (left-other d.source))
  at k false true x y d is =
      let rules : d.rules ≡ filter (λ q. true) d.rules = sym (filter-all d.rules) in
      let left : None ≡ left_by true d.source = sym (left-here d.source (sourced d (ap (λ (j : Key). get j m) (sym (same-true k dest y)) ∙ is))) in
      λ i. record d { rules = rules i; source = left i }
  at k false false x y d is =
      let rules : d.rules ≡ filter (λ q. true) d.rules = sym (filter-all d.rules) in
      let left : d.source ≡ left_by false d.source = sym (left-other d.source) in
      λ i. record d { rules = rules i; source = left i }

  pub without-rule : keys_changed dest (stored_with_source None) (keys_changed source (stored_without_rule_to dest) m) ≡ keys_without_rule source dest m
  without-rule = maps-same _ _ (λ k.
      get-each (λ j d. if same j dest then stored_with_source None d else d) k (keys_changed source (stored_without_rule_to dest) m)
      ∙ ap (option_map (λ d. if same k dest then stored_with_source None d else d)) (get-each (λ j d. if same j source then stored_without_rule_to dest d else d) k m)
      ∙ go k (get k m) refl
      ∙ sym (get-each (stored_ended ends) k m))
    where
      go : (k : Key) (o : Option StoredSeries) → get k m ≡ o
          → option_map (λ d. if same k dest then stored_with_source None d else d) (option_map (λ d. if same k source then stored_without_rule_to dest d else d) o) ≡ option_map (stored_ended ends k) o
      go k None is = refl
      go k (Some d) is = ap (λ (x : StoredSeries). Some x) (at k (same k source) (same k dest) refl refl d is ∙ sym (ended-by k (same k source) (same k dest) refl refl d))
