-- Links in stored data that represents a state.
use Rattle.std.proofs.Common.{◌≡◌, ℕ, ◌<◌, Bool, true, false, if◌then◌else◌, List, [], ◌∷◌, map, Option, Some, None, option_map, refl, sym, ap, ◌∙◌, subst, arith}
use Rattle.ts_spec.specs.declared.limits.Limits.{Limits}
use Rattle.ts_spec.specs.Key.{Key, same}
use Rattle.ts_spec.specs.Keyed.{get}
use Rattle.ts_spec.specs.State.{Rule, Record, State, Link, rule_to, link_to}
use Rattle.ts_spec.specs.Valid.{EachRule, IsSoleLink, IsMadeAfter, IsInOrder}
use Rattle.ts_spec.specs.StoredSeries.{StoredRule, StoredSeries, StoredKeys, stored_rule, stored_record}
use Rattle.ts_spec.specs.Represents.{RepresentsState}
use Rattle.ts_spec.proofs.Keys.{same-true}
use Rattle.ts_spec.proofs.Links.{Found, link-found, rule_to-dest}
use Rattle.ts_spec.proofs.Linked.{From, mapped-from}
use Rattle.ts_spec.proofs.Tidy.{some-same}
use Rattle.ts_spec.proofs.StoredMaps.{get-kept, kept-there, rule_to-kept}
use Rattle.ts_db.specs.Links.{IsLink, AreLinks, AreApart}

-- a rule that is found among those made after another was made after it
made-later : (n : ℕ) (k : Key) (rs : List Rule) (r : Rule) → IsMadeAfter n rs → rule_to k rs ≡ Some r → n < r.made
made-later n k [] r x e = absurd (cc e)
made-later n k (q ∷ rs) r x e = go (same q.dest k) e (λ y. made-later n k rs r x.1 y)
  where
    go : (b : Bool) → (if b then Some q else rule_to k rs) ≡ Some r → (rule_to k rs ≡ Some r → n < r.made) → n < r.made
    go true y ih = subst (λ (p : Rule). n < p.made) (some-same q r y) x.0
    go false y ih = ih y

module _ (limits : Limits) (keys : StoredKeys) (m : State) (stands : RepresentsState limits keys m) (k : Key) (d : Record) (there : get k m ≡ Some d) where
  -- the rule of a sole link is found in the record
  found : (r : Rule) → IsSoleLink m k r → rule_to r.dest d.rules ≡ Some r
  found r s =
      let f : Found m.entries r.dest (record { source = k; rule = r }) = link-found m r.dest (record { source = k; rule = r }) s.link in
      ap (λ (x : Record). rule_to r.dest x.rules) (some-same d f.record_of (sym there ∙ f.there)) ∙ f.rule

  one : (r : Rule) → IsSoleLink m k r → IsLink keys k (map stored_rule d.rules) (stored_rule r)
  one r s = record {
    found = rule_to-kept r.dest d.rules ∙ ap (option_map stored_rule) (found r s);
    apart = apart (same r.dest k) refl;
    dest = stored_record (link_to m r.dest) s.dest;
    there = ap (get r.dest) stands.kept ∙ kept-there m r.dest s.dest s.there;
    no_rules = ap (map stored_rule) s.no_rules;
    source = ap (option_map (λ (l : Link). l.source)) s.link;
  }
    where
      apart : (b : Bool) → same r.dest k ≡ b → b ≡ false
      apart true x =
          let alike : s.dest ≡ d = some-same s.dest d (sym s.there ∙ ap (λ (j : Key). get j m) (same-true r.dest k x) ∙ there) in
          let none : None ≡ Some r = sym (ap (rule_to r.dest) (ap (λ (x : Record). x.rules) (sym alike) ∙ s.no_rules)) ∙ found r s in
          absurd (cc none)
      apart false x = refl

  all : (rs : List Rule) → EachRule (IsSoleLink m k) rs → AreLinks keys k (map stored_rule d.rules) (map stored_rule rs)
  all [] x = tt
  all (r ∷ rs) x = (one r x.0, all rs x.1)

  -- two rules of one destination were one
  apart-from : (r : Rule) (rs : List Rule) → IsSoleLink m k r → EachRule (IsSoleLink m k) rs → IsMadeAfter r.made rs → rule_to r.dest rs ≡ None
  apart-from r rs s each later = go (rule_to r.dest rs) refl
    where
      at : (qs : List Rule) (q : Rule) → EachRule (IsSoleLink m k) qs → rule_to r.dest qs ≡ Some q → IsSoleLink m k q
      at [] q x e = absurd (cc e)
      at (p ∷ qs) q x e = pick (same p.dest r.dest) e (λ y. at qs q x.1 y)
        where
          pick : (b : Bool) → (if b then Some p else rule_to r.dest qs) ≡ Some q → (rule_to r.dest qs ≡ Some q → IsSoleLink m k q) → IsSoleLink m k q
          pick true y ih = subst (IsSoleLink m k) (some-same p q y) x.0
          pick false y ih = ih y

      go : (o : Option Rule) → rule_to r.dest rs ≡ o → o ≡ None
      go None e = refl
      go (Some q) e =
          let dest : q.dest ≡ r.dest = rule_to-dest r.dest rs q e in
          let alike : q ≡ r = some-same q r (sym (found q (at rs q each e)) ∙ ap (λ (j : Key). rule_to j d.rules) dest ∙ found r s) in
          let more : r.made < q.made = made-later r.made r.dest rs q later e in
          let same_made : q.made ≡ r.made = ap (λ (p : Rule). p.made) alike in
          absurd (omega (arith, more, same_made))

  apart-all : (rs : List Rule) → EachRule (IsSoleLink m k) rs → IsInOrder rs → AreApart (map stored_rule rs)
  apart-all [] x o = tt
  apart-all (r ∷ rs) x o = (rule_to-kept r.dest rs ∙ ap (option_map stored_rule) (apart-from r rs x.0 x.1 o.0), apart-all rs x.1 o.1)

-- the rules of a key are links, and no two have one destination
pub record HasLinks (m : StoredKeys) (k : Key) (qs : List StoredRule) : Type 0 where
  pub links : AreLinks m k qs qs
  pub apart : AreApart qs

pub links-of : (limits : Limits) (keys : StoredKeys) (m : State) → RepresentsState limits keys m → (k : Key) (c : StoredSeries) → get k keys ≡ Some c → HasLinks keys k c.rules
links-of limits keys m stands k c x =
    let from : From (stored_record (link_to m k)) (get k m) c = mapped-from (stored_record (link_to m k)) (get k m) c (sym (get-kept m k) ∙ ap (get k) (sym stands.kept) ∙ x) in
    subst (HasLinks keys k) (ap (λ (q : StoredSeries). q.rules) from.gives) (record {
      links = all limits keys m stands k from.value from.is from.value.rules (stands.valid.linked k from.value from.is);
      apart = apart-all limits keys m stands k from.value from.is from.value.rules (stands.valid.linked k from.value from.is) (stands.valid.sound k from.value from.is).in_order;
    })
