-- Creating a key keeps a state valid.
use Rattle.std.proofs.Common.{◌≡◌, suc, ◌≤◌, Bool, true, false, nat_le, if◌then◌else◌, List, [], ◌∷◌, map, length, Option, Some, None, option_map, refl, sym, ap, ◌∙◌, subst, arith}
use Rattle.ts_spec.specs.declared.limits.Limits.{Limits}
use Rattle.ts_spec.specs.Sample.{Point, at_times}
use Rattle.ts_spec.specs.Key.{Key, same, is_before}
use Rattle.ts_spec.specs.Keyed.{Entry, put_in, get, with_key, count_keys}
use Rattle.ts_spec.specs.State.{Rule, Record, State, Link, rule_to, link_to, rule_into, edge}
use Rattle.ts_spec.specs.Rules.{tidied_by, edge_at, expired, expired_in, expire_record, shown_by}
use Rattle.ts_spec.specs.Valid.{EachRule, IsSound, IsSoleLink, IsLinked, IsWithin, IsValid}
use Rattle.ts_spec.proofs.Keys.{same-true, same-refl}
use Rattle.ts_spec.proofs.Maps.{get-with}
use Rattle.ts_spec.proofs.Links.{Found, link-found}
use Rattle.ts_spec.proofs.Linked.{link-target, IsTarget}
use Rattle.ts_spec.proofs.Tidy.{some-same, record-tidy}
use Rattle.ts_spec.proofs.Unmoved.{no-link-no-rule, map-kept}
use Rattle.ts_spec.proofs.Sound.{each-rule-to}
use Rattle.ts_spec.proofs.Keeps.{shown-there}
use Rattle.ts_spec.proofs.RuleLists.{each-rule-both, rule-link, settled-by, rules-expired, tidy-unlinked}

-- ---- states with the same rules have the same links

-- a record at this key has this rule to the other
pub record HasRule (m : State) (s k : Key) (r : Rule) : Type 0 where
  pub record_of : Record
  pub there : get s m ≡ Some record_of
  pub rule : rule_to k record_of.rules ≡ Some r

pub link-agrees : (m n : State) (k : Key) → IsLinked m → ((s : Key) (r : Rule) → HasRule n s k r → HasRule m s k r) → ((s : Key) (r : Rule) → HasRule m s k r → HasRule n s k r) →
    link_to n k ≡ link_to m k
link-agrees m n k h down up = go (link_to m k) (link_to n k) refl refl
  where
    before : (l : Link) → link_to n k ≡ Some l → link_to m k ≡ Some l
    before l x =
        let f : Found n.entries k l = link-found n k l x in
        let w : HasRule m l.source k l.rule = down l.source l.rule (record { record_of = f.record_of; there = f.there; rule = f.rule }) in
        rule-link m l.source k w.record_of l.rule h w.there w.rule

    go : (o p : Option Link) → link_to m k ≡ o → link_to n k ≡ p → p ≡ o
    go o (Some l) x y = sym (before l y) ∙ x
    go None None x y = refl
    go (Some l) None x y =
        let f : Found m.entries k l = link-found m k l x in
        let w : HasRule n l.source k l.rule = up l.source l.rule (record { record_of = f.record_of; there = f.there; rule = f.rule }) in
        let one : None ≡ Some l.rule = sym (no-link-no-rule n l.source k w.record_of y w.there) ∙ w.rule in absurd (cc one)

-- ---- a new key

-- a record without rules, within the limits, for a key that is not there
pub record IsNew (limits : Limits) (m : State) (key : Key) (c : Record) : Type 0 where
  pub missing : get key m ≡ None
  pub sound : IsSound c
  pub no_rules : c.rules ≡ []
  pub from_edge : at_times (nat_le (edge c)) c.plain ≡ c.plain
  pub labels : length c.labels ≤ limits.labels
  pub born : c.born ≤ limits.born
  pub samples : length c.plain ≤ limits.samples
  pub room : suc (count_keys m) ≤ limits.keys

length-put : (k : Key) (c : Record) (es : List (Entry Record)) → length (put_in k c es) ≤ suc (length es)
length-put k c [] = omega arith
length-put k c (e ∷ es) = go (is_before e.key k) (is_before k e.key) (length-put k c es)
  where
    go : (s t : Bool) → length (put_in k c es) ≤ suc (length es) →
        length (if s then e ∷ put_in k c es else (if t then record { key = k; value = c } ∷ e ∷ es else record { key = e.key; value = c } ∷ es)) ≤ suc (suc (length es))
    go true t ih = omega arith
    go false true ih = omega arith
    go false false ih = omega arith

-- a record without rules put in at a key that is not there changes no link
module _ (m : State) (key : Key) (c : Record) (linked : IsLinked m) (missing : get key m ≡ None) (no_rules : c.rules ≡ []) where
  pub unlinked-new : link_to m key ≡ None
  unlinked-new = go (link_to m key) refl
    where
      go : (o : Option Link) → link_to m key ≡ o → o ≡ None
      go None x = refl
      go (Some l) x = let t : IsTarget m key = link-target m key l linked x in let one : None ≡ Some t.record_of = sym missing ∙ t.there in absurd (cc one)

  pub here-new : get key (with_key key c m) ≡ Some c
  here-new = get-with key key c m ∙ ap (λ (b : Bool). if b then Some c else get key m) (same-refl key)

  pub other-new : (k : Key) → same key k ≡ false → get k (with_key key c m) ≡ get k m
  other-new k x = get-with k key c m ∙ ap (λ (b : Bool). if b then Some c else get k m) x

  -- a key that is there is another one
  pub there-other : (k : Key) (d : Record) → get k m ≡ Some d → same key k ≡ false
  there-other k d x = go (same key k) refl
    where
      go : (b : Bool) → same key k ≡ b → b ≡ false
      go false y = refl
      go true y = let one : None ≡ Some d = sym missing ∙ ap (λ (j : Key). get j m) (same-true key k y) ∙ x in absurd (cc one)

  pub links-new : (k : Key) → link_to (with_key key c m) k ≡ link_to m k
  links-new k = link-agrees m (with_key key c m) k linked down up
    where
      down : (s : Key) (r : Rule) → HasRule (with_key key c m) s k r → HasRule m s k r
      down s r w = go (same key s) refl
        where
          go : (b : Bool) → same key s ≡ b → HasRule m s k r
          go false y = record { record_of = w.record_of; there = sym (other-new s y) ∙ w.there; rule = w.rule }
          go true y =
              let eq : c ≡ w.record_of = some-same c w.record_of (sym here-new ∙ ap (λ (j : Key). get j (with_key key c m)) (same-true key s y) ∙ w.there) in
              let one : None ≡ Some r = ap (rule_to k) (sym no_rules ∙ ap (λ (q : Record). q.rules) eq) ∙ w.rule in absurd (cc one)

      up : (s : Key) (r : Rule) → HasRule m s k r → HasRule (with_key key c m) s k r
      up s r w = record { record_of = w.record_of; there = other-new s (there-other s w.record_of w.there) ∙ w.there; rule = w.rule }

module _ (limits : Limits) (m : State) (key : Key) (c : Record) (v : IsValid limits m) (h : IsNew limits m key c) where
  other : (k : Key) → same key k ≡ false → get k (with_key key c m) ≡ get k m
  other k x = other-new m key c v.linked h.missing h.no_rules k x

  elsewhere : (k : Key) (d : Record) → get k m ≡ Some d → same key k ≡ false
  elsewhere k d x = there-other m key c v.linked h.missing h.no_rules k d x

  links : (k : Key) → link_to (with_key key c m) k ≡ link_to m k
  links k = links-new m key c v.linked h.missing h.no_rules k

  rule-new-key : (k : Key) → rule_into (with_key key c m) k ≡ rule_into m k
  rule-new-key k = ap (option_map (λ (l : Link). l.rule)) (links k)

  data WhichKey (k : Key) (e : Record) : Type 0 where
    IsNewOne : k ≡ key → e ≡ c → WhichKey k e
    IsOldOne : get k m ≡ Some e → WhichKey k e

  which-key : (k : Key) (e : Record) → get k (with_key key c m) ≡ Some e → WhichKey k e
  which-key k e x = go (same key k) refl
    where
      go : (b : Bool) → same key k ≡ b → WhichKey k e
      go true y = IsNewOne (sym (same-true key k y)) (some-same e c (sym x ∙ ap (λ (j : Key). get j (with_key key c m)) (sym (same-true key k y)) ∙ here-new m key c v.linked h.missing h.no_rules))
      go false y = IsOldOne (sym (other k y) ∙ x)

  none-new : rule_into (with_key key c m) key ≡ None
  none-new = rule-new-key key ∙ ap (option_map (λ (l : Link). l.rule)) (unlinked-new m key c v.linked h.missing h.no_rules)

  tidy-new : (k : Key) (e : Record) → WhichKey k e → tidied_by (rule_into (with_key key c m) k) e ≡ e
  tidy-new k e (IsOldOne x) = ap (λ (o : Option Rule). tidied_by o e) (rule-new-key k) ∙ record-tidy m k e v.settled x
  tidy-new k e (IsNewOne x y) =
      subst (λ (q : Record). tidied_by (rule_into (with_key key c m) k) q ≡ q) (sym y)
      (ap (λ (o : Option Rule). tidied_by o c) (ap (rule_into (with_key key c m)) x ∙ none-new) ∙ tidy-unlinked c h.from_edge)

  -- the destinations of rules are there, so their edges stay
  expired-new : (k : Key) (e : Record) → get k m ≡ Some e → EachRule (λ r. expired_in (with_key key c m) r ≡ r) e.rules
  expired-new k e x =
      each-rule-to (λ r. IsSoleLink m k r × (expired_in m r ≡ r)) (λ r. expired_in (with_key key c m) r ≡ r) e.rules
      (λ r y. ap (λ (o : Option Record). expired (edge_at o) r) (other r.dest (elsewhere r.dest y.0.dest y.0.there)) ∙ y.1)
      (each-rule-both (IsSoleLink m k) (λ r. expired_in m r ≡ r) e.rules (v.linked k e x) (rules-expired m k e v.settled x))

  expire-new : (k : Key) (e : Record) → WhichKey k e → expire_record (with_key key c m) e ≡ e
  expire-new k e (IsOldOne x) =
      let rules : map (expired_in (with_key key c m)) e.rules ≡ e.rules = map-kept (expired_in (with_key key c m)) (λ r. expired_in (with_key key c m) r ≡ r) e.rules (λ r y. y) (expired-new k e x) in
      λ i. record e { rules = rules i }
  expire-new k e (IsNewOne x y) =
      let none : e.rules ≡ [] = ap (λ (q : Record). q.rules) y ∙ h.no_rules in
      let rules : map (expired_in (with_key key c m)) e.rules ≡ e.rules = ap (map (expired_in (with_key key c m))) none ∙ sym none in
      λ i. record e { rules = rules i }

  linked-new : (k : Key) (e : Record) → WhichKey k e → EachRule (IsSoleLink (with_key key c m) k) e.rules
  linked-new k e (IsNewOne x y) = subst (EachRule (IsSoleLink (with_key key c m) k)) (sym (ap (λ (q : Record). q.rules) y ∙ h.no_rules)) tt
  linked-new k e (IsOldOne x) =
      each-rule-to (IsSoleLink m k) (IsSoleLink (with_key key c m) k) e.rules
      (λ r s. record { link = links r.dest ∙ s.link; dest = s.dest; there = other r.dest (elsewhere r.dest s.dest s.there) ∙ s.there; no_rules = s.no_rules }) (v.linked k e x)

  within-new : (k : Key) (e : Record) → get k (with_key key c m) ≡ Some e → WhichKey k e → IsWithin limits (with_key key c m) k e
  within-new k e z (IsOldOne x) =
      let w : IsWithin limits m k e = v.within k e x in
      record {
        labels = w.labels;
        rules = w.rules;
        born = w.born;
        samples = subst (λ (ps : List Point). length ps ≤ limits.samples)
            (shown-there m k e x ∙ ap (λ (o : Option Rule). shown_by o e) (sym (rule-new-key k)) ∙ sym (shown-there (with_key key c m) k e z)) w.samples;
      }
  within-new k e z (IsNewOne x y) = record {
    labels = subst (λ (q : Record). length q.labels ≤ limits.labels) (sym y) h.labels;
    rules = subst (λ (rs : List Rule). length rs ≤ limits.rules) (sym (ap (λ (q : Record). q.rules) y ∙ h.no_rules)) (omega arith);
    born = subst (λ (q : Record). q.born ≤ limits.born) (sym y) h.born;
    samples = subst (λ (ps : List Point). length ps ≤ limits.samples)
        (ap (λ (q : Record). q.plain) (sym y) ∙ ap (λ (o : Option Rule). shown_by o e) (sym (ap (rule_into (with_key key c m)) x ∙ none-new)) ∙ sym (shown-there (with_key key c m) k e z)) h.samples;
  }

  -- A new key keeps the state valid.
  pub valid-with : IsValid limits (with_key key c m)
  valid-with = record {
    sound = λ k e x. sound k e (which-key k e x);
    linked = λ k e x. linked-new k e (which-key k e x);
    settled = settled-by (with_key key c m) (λ k e x. tidy-new k e (which-key k e x)) (λ k e x. expire-new k e (which-key k e x));
    keys = (let more : length (put_in key c m.entries) ≤ suc (length m.entries) = length-put key c m.entries in let room : suc (length m.entries) ≤ limits.keys = h.room in omega arith);
    within = λ k e x. within-new k e x (which-key k e x);
  }
    where
      sound : (k : Key) (e : Record) → WhichKey k e → IsSound e
      sound k e (IsNewOne x y) = subst IsSound (sym y) h.sound
      sound k e (IsOldOne x) = v.sound k e x
