-- Deleting all rules from a key and to it: the stored data afterwards, apart from the key itself.
use Rattle.std.proofs.Common.{◌≡◌, Bool, true, false, not, ◌||◌, cond, List, [], ◌∷◌, filter, refl, sym, ◌∙◌, ap}
use Rattle.std.specs.Prelude.{if◌then◌else◌, Option, None, Some, is_some, option_map}
use Rattle.ts_spec.specs.declared.limits.Limits.{Limits}
use Rattle.ts_spec.specs.Key.{Key, same}
use Rattle.ts_spec.specs.Keyed.{get, without_key}
use Rattle.ts_spec.specs.State.{State, Link, link_to}
use Rattle.ts_spec.specs.StoredSeries.{StoredRule, StoredSeries, StoredKeys, stored_rule, stored_record, kept}
use Rattle.ts_spec.specs.StoredKeys.{keys_changed, source_left, stored_ended, keys_ended, keys_dropped}
use Rattle.ts_spec.specs.StoredUpdates.{stored_rule_to}
use Rattle.ts_spec.specs.Represents.{RepresentsState}
use Rattle.ts_spec.proofs.Keys.{same-refl, same-true, same-sym}
use Rattle.ts_spec.proofs.StoredMaps.{get-kept, kept-there, rule_to-kept}
use Rattle.ts_spec.proofs.Linked.{From, mapped-from}
use Rattle.ts_spec.proofs.Links.{Found, link-found}
use Rattle.ts_spec.proofs.Maps.{get-each, get-without, maps-same}
use Rattle.ts_spec.proofs.Tidy.{some-same}
use Rattle.ts_db.specs.Linking.{stored_without_rule_to, stored_ruleless, stored_with_source, keys_unlinked, keys_rule_ended}
use Rattle.ts_db.proofs.Ended.{IsFound, found-link}
use Rattle.ts_db.proofs.KeptLinks.{HasLinks, links-of}

-- ---- the source of a key has a rule to it

pub record IsLed (m : StoredKeys) (k : Key) (source : Key) : Type 0 where
  pub from : StoredSeries
  pub there : get source m ≡ Some from
  pub rule : is_some (stored_rule_to k from.rules) ≡ true

pub led-by : (limits : Limits) (keys : StoredKeys) (m : State) → RepresentsState limits keys m → (k : Key) (d : StoredSeries) → get k keys ≡ Some d → (source : Key) → d.source ≡ Some source → IsLed keys k source
led-by limits keys m stands k d at source is =
    let from : From (stored_record (link_to m k)) (get k m) d = mapped-from (stored_record (link_to m k)) (get k m) d (sym (get-kept m k) ∙ ap (get k) (sym stands.kept) ∙ at) in
    go (link_to m k) refl (ap (λ (x : StoredSeries). x.source) from.gives ∙ is)
  where
    go : (o : Option Link) → link_to m k ≡ o → option_map (λ l. l.source) o ≡ Some source → IsLed keys k source
    go None x e = absurd (cc e)
    go (Some l) x e =
        let f : Found m.entries k l = link-found m k l x in
        let own : l.source ≡ source = some-same l.source source e in record {
          from = stored_record (link_to m l.source) f.record_of;
          there = ap (get source) stands.kept ∙ ap (λ (j : Key). get j (kept m)) (sym own) ∙ kept-there m l.source f.record_of f.there;
          rule = ap is_some (rule_to-kept k f.record_of.rules ∙ ap (option_map stored_rule) f.rule);
        }

-- ---- what each key has once the destinations of rules have no source

abbrev freed_by : Bool → StoredSeries → StoredSeries
freed_by b d = if b then stored_with_source None d else d

get-freed : (qs : List StoredRule) (m : StoredKeys) (k : Key) → get k (keys_unlinked qs m) ≡ option_map (freed_by (is_some (stored_rule_to k qs))) (get k m)
get-freed [] m k = go (get k m)
  where
    go : (o : Option StoredSeries) → o ≡ option_map (λ d. d) o
    go None = refl
    go (Some d) = refl
get-freed (q ∷ qs) m k =
    get-freed qs (keys_changed q.dest (stored_with_source None) m) k
    ∙ ap (option_map (freed_by (is_some (stored_rule_to k qs)))) (get-each (λ j d. if same j q.dest then stored_with_source None d else d) k m)
    ∙ ap (λ b. option_map (freed_by (is_some (stored_rule_to k qs))) (option_map (freed_by b) (get k m))) (same-sym k q.dest)
    ∙ go (same q.dest k) (is_some (stored_rule_to k qs)) refl (get k m)
  where
    pick : (b : Bool) (c : Bool) → is_some (stored_rule_to k qs) ≡ c → (d : StoredSeries) → freed_by c (freed_by b d) ≡ freed_by (is_some (if b then Some q else stored_rule_to k qs)) d
    pick true true x d = refl
    pick true false x d = refl
    pick false c x d = ap (λ a. freed_by a d) (sym x)

    go : (b : Bool) (c : Bool) → is_some (stored_rule_to k qs) ≡ c → (o : Option StoredSeries)
        → option_map (freed_by (is_some (stored_rule_to k qs))) (option_map (freed_by b) o) ≡ option_map (freed_by (is_some (if b then Some q else stored_rule_to k qs))) o
    go b c x None = refl
    go b c x (Some d) = ap (λ a. Some (freed_by a (freed_by b d))) x ∙ ap (λ (y : StoredSeries). Some y) (pick b c x d)

-- ---- without the rules to a key

abbrev leads_elsewhere : Key → StoredRule → Bool
leads_elsewhere key q = not (same q.dest key)

-- where there are none all stay
filter-none : (key : Key) (qs : List StoredRule) → stored_rule_to key qs ≡ None → filter (leads_elsewhere key) qs ≡ qs
filter-none key [] e = refl
filter-none key (q ∷ qs) e = go (same q.dest key) e (λ x. filter-none key qs x)
  where
    go : (b : Bool) → (if b then Some q else stored_rule_to key qs) ≡ None → (stored_rule_to key qs ≡ None → filter (leads_elsewhere key) qs ≡ qs)
        → cond (not b) (q ∷ filter (leads_elsewhere key) qs) (filter (leads_elsewhere key) qs) ≡ q ∷ qs
    go true e ih = absurd (cc e)
    go false e ih = ap (λ (ps : List StoredRule). q ∷ ps) (ih e)

module _ (m : StoredKeys) (key : Key) (own : StoredSeries) (is : get key m ≡ Some own) (links : (k : Key) (d : StoredSeries) → get k m ≡ Some d → HasLinks m k d.rules)
    (led : (k : Key) (d : StoredSeries) → get k m ≡ Some d → (source : Key) → d.source ≡ Some source → IsLed m k source) where
  abbrev ends : Key → Key → Bool
  ends s d = same s key || same d key

  -- a rule to the key comes from its source
  from-source : (k : Key) (d : StoredSeries) → get k m ≡ Some d → is_some (stored_rule_to key d.rules) ≡ true → own.source ≡ Some k
  from-source k d at some =
      let f : IsFound m k d.rules key = found-link m k key d.rules d.rules (links k d at).links some in
      ap (λ (x : StoredSeries). x.source) (some-same own f.link.dest (sym is ∙ ap (λ (j : Key). get j m) (sym f.leads) ∙ f.link.there)) ∙ f.link.source

  none-else : (k : Key) (d : StoredSeries) → get k m ≡ Some d → (own.source ≡ Some k → ⊥) → stored_rule_to key d.rules ≡ None
  none-else k d at not_source = go (stored_rule_to key d.rules) refl
    where
      go : (o : Option StoredRule) → stored_rule_to key d.rules ≡ o → o ≡ None
      go None e = refl
      go (Some q) e = absurd (not_source (from-source k d at (ap is_some e)))

  -- the key of a rule of the key has it as its source
  to-dest : (k : Key) (d : StoredSeries) → get k m ≡ Some d → is_some (stored_rule_to k own.rules) ≡ true → d.source ≡ Some key
  to-dest k d at some =
      let f : IsFound m key own.rules k = found-link m key k own.rules own.rules (links key own is).links some in
      ap (λ (x : StoredSeries). x.source) (some-same d f.link.dest (sym at ∙ ap (λ (j : Key). get j m) (sym f.leads) ∙ f.link.there)) ∙ f.link.source

  -- ---- the rules of another key

  abbrev unled_by : Option Key → Key → StoredSeries → StoredSeries
  unled_by None k d = d
  unled_by (Some source) k d = if same k source then stored_without_rule_to key d else d

  rules-left : (k : Key) (d : StoredSeries) → get k m ≡ Some d → unled_by own.source k d ≡ stored_without_rule_to key d
  rules-left k d at = go own.source refl
    where
      stays : (own.source ≡ Some k → ⊥) → d ≡ stored_without_rule_to key d
      stays not_source = ap (λ (qs : List StoredRule). record d { rules = qs }) (sym (filter-none key d.rules (none-else k d at not_source)))

      go : (o : Option Key) → own.source ≡ o → unled_by o k d ≡ stored_without_rule_to key d
      go None e = stays (λ x. absurd (cc (sym e ∙ x)))
      go (Some source) e = pick (same k source) refl
        where
          pick : (b : Bool) → same k source ≡ b → (if b then stored_without_rule_to key d else d) ≡ stored_without_rule_to key d
          pick true y = refl
          pick false y = stays (λ x. (
              let alike : source ≡ k = some-same source k (sym e ∙ x) in
              absurd (cc (sym y ∙ ap (same k) alike ∙ same-refl k))))

  -- ---- the source of another key

  source-gone : (k : Key) → same k key ≡ false → (o : Option Key) → o ≡ Some key → source_left ends k o ≡ None
  source-gone k unlike o e = ap (source_left ends k) e ∙ ap (λ b. if b || same k key then None else Some key) (same-refl key)

  source-stays : (k : Key) → same k key ≡ false → (o : Option Key) → (o ≡ Some key → ⊥) → source_left ends k o ≡ o
  source-stays k unlike None other = refl
  source-stays k unlike (Some x) other = pick (same x key) refl
    where
      pick : (b : Bool) → same x key ≡ b → source_left ends k (Some x) ≡ Some x
      pick true y = absurd (other (ap (λ (j : Key). Some j) (same-true x key y)))
      pick false y = ap (λ b. if b || same k key then None else Some x) y ∙ ap (λ b. if b then None else Some x) unlike

  source-of : (k : Key) (d : StoredSeries) → get k m ≡ Some d → same k key ≡ false → (b : Bool) → is_some (stored_rule_to k own.rules) ≡ b → (if b then None else d.source) ≡ source_left ends k d.source
  source-of k d at unlike true e = sym (source-gone k unlike d.source (to-dest k d at e))
  source-of k d at unlike false e = sym (source-stays k unlike d.source (λ x. (
      let l : IsLed m k key = led k d at key x in
      absurd (cc (sym e ∙ ap (λ (y : StoredSeries). is_some (stored_rule_to k y.rules)) (some-same own l.from (sym is ∙ l.there)) ∙ l.rule)))))

  -- ---- another key

  freed-source : (b : Bool) (d : StoredSeries) → freed_by b d ≡ record d { source = if b then None else d.source }
  freed-source true d = refl
  freed-source false d = refl

  other : (k : Key) (d : StoredSeries) → get k m ≡ Some d → same k key ≡ false → freed_by (is_some (stored_rule_to k own.rules)) (unled_by own.source k d) ≡ stored_ended ends k d
  other k d at unlike =
      ap (freed_by (is_some (stored_rule_to k own.rules))) (rules-left k d at)
      ∙ freed-source (is_some (stored_rule_to k own.rules)) (stored_without_rule_to key d)
      ∙ (let source : (if is_some (stored_rule_to k own.rules) then None else d.source) ≡ source_left ends k d.source = source-of k d at unlike (is_some (stored_rule_to k own.rules)) refl in
      let test : false ≡ same k key = sym unlike in
      λ i. record d { rules = filter (λ q. not (test i || same q.dest key)) d.rules; source = source i })

  get-unled : (k : Key) (o : Option Key) (n : StoredKeys) → get k (keys_rule_ended o key n) ≡ option_map (unled_by o k) (get k n)
  get-unled k None n = go (get k n)
    where
      go : (o : Option StoredSeries) → o ≡ option_map (λ d. d) o
      go None = refl
      go (Some d) = refl
  get-unled k (Some source) n = get-each (λ j d. if same j source then stored_without_rule_to key d else d) k n

  pub all-ended : without_key key (keys_unlinked own.rules (keys_rule_ended own.source key (keys_changed key stored_ruleless m))) ≡ keys_dropped key m
  all-ended = maps-same _ _ (λ k.
      get-without k key (keys_unlinked own.rules (keys_rule_ended own.source key (keys_changed key stored_ruleless m)))
      ∙ pick k (same key k) refl
      ∙ sym (get-without k key (keys_ended ends m)))
    where
      at-other : (k : Key) → same k key ≡ false → (o : Option StoredSeries) → get k m ≡ o
          → option_map (freed_by (is_some (stored_rule_to k own.rules))) (option_map (unled_by own.source k) (option_map (λ d. if same k key then stored_ruleless d else d) o)) ≡ option_map (stored_ended ends k) o
      at-other k unlike None at = refl
      at-other k unlike (Some d) at =
          ap (λ b. Some (freed_by (is_some (stored_rule_to k own.rules)) (unled_by own.source k (if b then stored_ruleless d else d)))) unlike
          ∙ ap (λ (y : StoredSeries). Some y) (other k d at unlike)

      pick : (k : Key) (b : Bool) → same key k ≡ b → (if b then None else get k (keys_unlinked own.rules (keys_rule_ended own.source key (keys_changed key stored_ruleless m)))) ≡ (if b then None else get k (keys_ended ends m))
      pick k true x = refl
      pick k false x =
          get-freed own.rules (keys_rule_ended own.source key (keys_changed key stored_ruleless m)) k
          ∙ ap (option_map (freed_by (is_some (stored_rule_to k own.rules)))) (get-unled k own.source (keys_changed key stored_ruleless m)
          ∙ ap (option_map (unled_by own.source k)) (get-each (λ j d. if same j key then stored_ruleless d else d) k m))
          ∙ at-other k (same-sym k key ∙ x) (get k m) refl
          ∙ sym (get-each (stored_ended ends) k m)

-- the same for stored data that represents a state
pub ended-alone : (limits : Limits) (keys : StoredKeys) (m : State) → RepresentsState limits keys m → (key : Key) (own : StoredSeries) → get key keys ≡ Some own
    → without_key key (keys_unlinked own.rules (keys_rule_ended own.source key (keys_changed key stored_ruleless keys))) ≡ keys_dropped key keys
ended-alone limits keys m stands key own is = all-ended keys key own is (λ k d at. links-of limits keys m stands k d at) (λ k d at. led-by limits keys m stands k d at)
