-- Deleting a key keeps a state valid.
use Rattle.std.proofs.Common.{◌≡◌, suc, ◌≤◌, Bool, true, false, not, ◌||◌, if◌then◌else◌, List, [], ◌∷◌, map, filter, length, Option, Some, None, option_map, refl, sym, ap, ◌∙◌, subst, arith}
use Rattle.std.proofs.lemmas.Bool.{false≢true}
use Rattle.ts_spec.specs.declared.limits.Limits.{Limits}
use Rattle.ts_spec.specs.Sample.{Point}
use Rattle.ts_spec.specs.Key.{Key, same}
use Rattle.ts_spec.specs.Keyed.{Entry, without_in, get, without_key}
use Rattle.ts_spec.specs.State.{Rule, Record, State, Link, rule_to, link_to, rule_into}
use Rattle.ts_spec.specs.Rules.{tidied_by, edge_at, expired, expired_in, expire_record, shown_by, ended, ended_in, dropped}
use Rattle.ts_spec.specs.Valid.{IsSoleLink, IsWithin, IsValid}
use Rattle.ts_spec.proofs.Keys.{same-true, same-refl}
use Rattle.ts_spec.proofs.Maps.{get-without}
use Rattle.ts_spec.proofs.Linked.{From, get-from}
use Rattle.ts_spec.proofs.Tidy.{record-tidy}
use Rattle.ts_spec.proofs.Unmoved.{map-kept}
use Rattle.ts_spec.proofs.Sound.{each-rule-to}
use Rattle.ts_spec.proofs.Keeps.{shown-there}
use Rattle.ts_spec.proofs.RuleLists.{each-rule-both, settled-by, rules-expired}
use Rattle.ts_spec.proofs.EndingRules as ending
use Rattle.ts_spec.proofs.KeysComeAndGo.{HasRule, link-agrees}

-- ---- deleting a key

length-without : (k : Key) (es : List (Entry Record)) → length (without_in k es) ≤ length es
length-without k [] = omega arith
length-without k (e ∷ es) = go (same e.key k) (length-without k es)
  where
    go : (s : Bool) → length (without_in k es) ≤ length es → length (if s then without_in k es else e ∷ without_in k es) ≤ suc (length es)
    go true ih = omega arith
    go false ih = omega arith

-- a key that no rule writes to and that has no rules
pub record IsLoose (m : State) (key : Key) : Type 0 where
  pub no_source : link_to m key ≡ None
  pub no_rules : (d : Record) → get key m ≡ Some d → d.rules ≡ []

module _ (limits : Limits) (m : State) (key : Key) (v : IsValid limits m) (h : IsLoose m key) where
  other-left : (k : Key) → same key k ≡ false → get k (without_key key m) ≡ get k m
  other-left k x = get-without k key m ∙ ap (λ (b : Bool). if b then None else get k m) x

  was-there-left : (k : Key) (e : Record) → get k (without_key key m) ≡ Some e → (same key k ≡ false) × (get k m ≡ Some e)
  was-there-left k e x = go (same key k) refl (sym (get-without k key m) ∙ x)
    where
      go : (b : Bool) → same key k ≡ b → (if b then None else get k m) ≡ Some e → (same key k ≡ false) × (get k m ≡ Some e)
      go true y z = absurd (cc z)
      go false y z = (y, z)

  -- the destinations of rules are other keys
  dest-left : (k : Key) (r : Rule) → IsSoleLink m k r → same key r.dest ≡ false
  dest-left k r s = go (same key r.dest) refl
    where
      go : (b : Bool) → same key r.dest ≡ b → b ≡ false
      go false y = refl
      go true y = let one : None ≡ Some (record { source = k; rule = r }) = sym h.no_source ∙ ap (link_to m) (same-true key r.dest y) ∙ s.link in absurd (cc one)

  pub links-left : (k : Key) → link_to (without_key key m) k ≡ link_to m k
  links-left k = link-agrees m (without_key key m) k v.linked down up
    where
      down : (s : Key) (r : Rule) → HasRule (without_key key m) s k r → HasRule m s k r
      down s r w = record { record_of = w.record_of; there = (was-there-left s w.record_of w.there).1; rule = w.rule }

      up : (s : Key) (r : Rule) → HasRule m s k r → HasRule (without_key key m) s k r
      up s r w = go (same key s) refl
        where
          go : (b : Bool) → same key s ≡ b → HasRule (without_key key m) s k r
          go false y = record { record_of = w.record_of; there = other-left s y ∙ w.there; rule = w.rule }
          go true y =
              let none : w.record_of.rules ≡ [] = h.no_rules w.record_of (ap (λ (j : Key). get j m) (same-true key s y) ∙ w.there) in
              let one : None ≡ Some r = ap (rule_to k) (sym none) ∙ w.rule in absurd (cc one)

  rule-left : (k : Key) → rule_into (without_key key m) k ≡ rule_into m k
  rule-left k = ap (option_map (λ (l : Link). l.rule)) (links-left k)

  expired-left : (k : Key) (e : Record) → get k m ≡ Some e → expire_record (without_key key m) e ≡ e
  expired-left k e x =
      let rules : map (expired_in (without_key key m)) e.rules ≡ e.rules =
      map-kept (expired_in (without_key key m)) (λ r. IsSoleLink m k r × (expired_in m r ≡ r)) e.rules
      (λ r y. ap (λ (o : Option Record). expired (edge_at o) r) (other-left r.dest (dest-left k r y.0)) ∙ y.1)
      (each-rule-both (IsSoleLink m k) (λ r. expired_in m r ≡ r) e.rules (v.linked k e x) (rules-expired m k e v.settled x)) in
      λ i. record e { rules = rules i }

  -- A state without a key that was loose in it is valid.
  pub valid-without : IsValid limits (without_key key m)
  valid-without = record {
    sound = λ k e x. v.sound k e (was-there-left k e x).1;
    linked = λ k e x. each-rule-to (IsSoleLink m k) (IsSoleLink (without_key key m) k) e.rules
        (λ r s. record { link = links-left r.dest ∙ s.link; dest = s.dest; there = other-left r.dest (dest-left k r s) ∙ s.there; no_rules = s.no_rules }) (v.linked k e (was-there-left k e x).1);
    settled = settled-by (without_key key m)
        (λ k e x. ap (λ (o : Option Rule). tidied_by o e) (rule-left k) ∙ record-tidy m k e v.settled (was-there-left k e x).1)
        (λ k e x. expired-left k e (was-there-left k e x).1);
    keys = (let fewer : length (without_in key m.entries) ≤ length m.entries = length-without key m.entries in let room : length m.entries ≤ limits.keys = v.keys in omega arith);
    within = λ k e x. (let w : IsWithin limits m k e = v.within k e (was-there-left k e x).1 in record {
      labels = w.labels;
      rules = w.rules;
      born = w.born;
      samples = subst (λ (ps : List Point). length ps ≤ limits.samples)
          (shown-there m k e (was-there-left k e x).1 ∙ ap (λ (o : Option Rule). shown_by o e) (sym (rule-left k)) ∙ sym (shown-there (without_key key m) k e x)) w.samples;
    });
  }

filter-none : (rs : List Rule) → filter (λ r. false) rs ≡ []
filter-none [] = refl
filter-none (r ∷ rs) = filter-none rs

-- after the end of each rule from a key or to it, the key is loose
pub loose-ended : (limits : Limits) (m : State) (key : Key) → IsValid limits m → IsLoose (ended (λ s d. same s key || same d key) m) key
loose-ended limits m key v = record { no_source = no_source; no_rules = no_rules }
  where
    no_source : link_to (ended (λ s d. same s key || same d key) m) key ≡ None
    no_source = go (link_to (ended (λ s d. same s key || same d key) m) key) refl
      where
        go : (o : Option Link) → link_to (ended (λ s d. same s key || same d key) m) key ≡ o → o ≡ None
        go None x = refl
        go (Some l) x = absurd (false≢true (sym (ending.link-before limits m (λ s d. same s key || same d key) v key l x).1 ∙ right (same l.source key) (same key key) (same-refl key)))
          where
            right : (a b : Bool) → b ≡ true → (a || b) ≡ true
            right true b e = refl
            right false b e = e

    no_rules : (d : Record) → get key (ended (λ s d. same s key || same d key) m) ≡ Some d → d.rules ≡ []
    no_rules d x =
        let f : From (ended_in (λ s d. same s key || same d key) m key) (get key m) d = get-from (λ k c. ended_in (λ s d. same s key || same d key) m k c) key m d x in
        ap (λ (q : Record). q.rules) (sym f.gives)
        ∙ ap (λ (b : Bool). filter (λ (r : Rule). not (b || same r.dest key)) f.value.rules) (same-refl key)
        ∙ filter-none f.value.rules

-- Deleting a key keeps the state valid.
pub valid-dropped : (limits : Limits) (m : State) (key : Key) → IsValid limits m → IsValid limits (dropped key m)
valid-dropped limits m key v =
    valid-without limits (ended (λ s d. same s key || same d key) m) key (ending.valid-ended limits m (λ s d. same s key || same d key) v) (loose-ended limits m key v)
