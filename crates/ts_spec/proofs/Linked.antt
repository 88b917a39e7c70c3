-- Links stay unique when records change.
use Rattle.std.proofs.Common.{◌≡◌, Bool, true, false, cond, List, [], ◌∷◌, map, Option, Some, None, option_map, refl, sym, ap, ◌∙◌, subst}
use Rattle.ts_spec.specs.Key.{Key, same}
use Rattle.ts_spec.specs.Keyed.{Entry, Keyed, each_in, get, each}
use Rattle.ts_spec.specs.State.{Rule, Record, State, Link, rule_to, linked_or, link_in, link_to, rule_into}
use Rattle.ts_spec.specs.Valid.{EachRule, IsSoleLink, IsLinked}
use Rattle.ts_spec.proofs.Maps.{get-each}
use Rattle.ts_spec.proofs.Links.{IsReshape, Found, rule_to-map, rule_to-dest, link-found, link-some}

-- the source of a response
pub record From {X Y : Type 0} (h : X → Y) (o : Option X) (y : Y) : Type 0 where
  pub value : X
  pub is : o ≡ Some value
  pub gives : h value ≡ y

pub mapped-from : {X Y : Type 0} (h : X → Y) (o : Option X) (y : Y) → option_map h o ≡ Some y → From h o y
mapped-from h None y e = absurd (cc e)
mapped-from h (Some x) y e = record { value = x; is = refl; gives = cc e }

-- the record of a key after each record changed
pub get-from : {X : Type 0} (f : Key → X → X) (k : Key) (m : Keyed X) (d : X) → get k (each f m) ≡ Some d → From (f k) (get k m) d
get-from f k m d h = mapped-from (f k) (get k m) d (sym (get-each f k m) ∙ h)

pub get-to : {X : Type 0} (f : Key → X → X) (k : Key) (m : Keyed X) (d : X) → get k m ≡ Some d → get k (each f m) ≡ Some (f k d)
get-to f k m d h = get-each f k m ∙ ap (option_map (f k)) h

pub each-rule-map : (P Q : Rule → Type 0) (g : Rule → Rule) (rs : List Rule) → ((r : Rule) → P r → Q (g r)) → EachRule P rs → EachRule Q (map g rs)
each-rule-map P Q g [] h x = tt
each-rule-map P Q g (r ∷ rs) h x = (h r x.0, each-rule-map P Q g rs h x.1)

pub each-rule-at : (P : Rule → Type 0) (k : Key) (rs : List Rule) (r : Rule) → rule_to k rs ≡ Some r → EachRule P rs → P r
each-rule-at P k [] r e x = absurd (cc e)
each-rule-at P k (q ∷ rs) r e x = go (same q.dest k) e (λ y. each-rule-at P k rs r y x.1)
  where
    go : (b : Bool) → cond b (Some q) (rule_to k rs) ≡ Some r → (rule_to k rs ≡ Some r → P r) → P r
    go true y ih = let eq : q ≡ r = cc y in subst P eq x.0
    go false y ih = ih y

-- the destination of a link is there, and has no rules
pub record IsTarget (m : State) (k : Key) : Type 0 where
  pub record_of : Record
  pub there : get k m ≡ Some record_of
  pub no_rules : record_of.rules ≡ []

pub link-sole : (m : State) (k : Key) (l : Link) → IsLinked m → link_to m k ≡ Some l → IsSoleLink m l.source l.rule
link-sole m k l h e =
    let f : Found m.entries k l = link-found m k l e in
    each-rule-at (IsSoleLink m l.source) k f.record_of.rules l.rule f.rule (h l.source f.record_of f.there)

pub link-dest : (m : State) (k : Key) (l : Link) → link_to m k ≡ Some l → l.rule.dest ≡ k
link-dest m k l e = let f : Found m.entries k l = link-found m k l e in rule_to-dest k f.record_of.rules l.rule f.rule

pub link-target : (m : State) (k : Key) (l : Link) → IsLinked m → link_to m k ≡ Some l → IsTarget m k
link-target m k l h e =
    let s : IsSoleLink m l.source l.rule = link-sole m k l h e in
    subst (IsTarget m) (link-dest m k l e) (record { record_of = s.dest; there = s.there; no_rules = s.no_rules })

sole-each : (f : Key → Record → Record) (g : Key → Record → Rule → Rule) → IsReshape f g → (m : State) (k : Key) (d : Record) (r : Rule) →
    get k m ≡ Some d → IsSoleLink m k r → IsSoleLink (each f m) k (g k d r)
sole-each f g h m k d r e s = record {
  link = ap (link_to (each f m)) (h.dest k d r) ∙ link-some f g h r.dest m (record { source = k; rule = r }) d s.link e;
  dest = f r.dest s.dest;
  there = ap (λ (j : Key). get j (each f m)) (h.dest k d r) ∙ get-to f r.dest m s.dest s.there;
  no_rules = h.rules r.dest s.dest ∙ ap (map (g r.dest s.dest)) s.no_rules;
}

-- links stay unique if records change but the destinations of their rules do not
pub linked-each : (f : Key → Record → Record) (g : Key → Record → Rule → Rule) → IsReshape f g → (m : State) → IsLinked m → IsLinked (each f m)
linked-each f g h m l k e x =
    let from : From (f k) (get k m) e = get-from f k m e x in
    let rules : map (g k from.value) from.value.rules ≡ e.rules = sym (h.rules k from.value) ∙ ap (λ (q : Record). q.rules) from.gives in
    subst (EachRule (IsSoleLink (each f m) k)) rules
    (each-rule-map (IsSoleLink m k) (IsSoleLink (each f m) k) (g k from.value) from.value.rules (λ r s. sole-each f g h m k from.value r from.is s) (l k from.value from.is))

-- ---- all rules change in the same way

-- the link with its rule changed
abbrev pub with_rule_by : (Rule → Rule) → Link → Link
with_rule_by h l = record { source = l.source; rule = h l.rule }

uniform-in : (f : Key → Record → Record) (h : Rule → Rule) → IsReshape f (λ k d. h) → (k : Key) (es : List (Entry Record)) →
    link_in k (each_in f es) ≡ option_map (with_rule_by h) (link_in k es)
uniform-in f h s k [] = refl
uniform-in f h s k (e ∷ es) =
    rw (s.rules e.key e.value, rule_to-map h k e.value.rules (s.dest e.key e.value)) (go (rule_to k e.value.rules) (uniform-in f h s k es))
  where
    go : (o : Option Rule) → link_in k (each_in f es) ≡ option_map (with_rule_by h) (link_in k es) →
        linked_or e.key (option_map h o) (link_in k (each_in f es)) ≡ option_map (with_rule_by h) (linked_or e.key o (link_in k es))
    go None ih = ih
    go (Some r) ih = refl

pub link-uniform : (f : Key → Record → Record) (h : Rule → Rule) → IsReshape f (λ k d. h) → (k : Key) (m : State) → link_to (each f m) k ≡ option_map (with_rule_by h) (link_to m k)
link-uniform f h s k m = uniform-in f h s k m.entries

pub rule-uniform : (f : Key → Record → Record) (h : Rule → Rule) → IsReshape f (λ k d. h) → (k : Key) (m : State) → rule_into (each f m) k ≡ option_map h (rule_into m k)
rule-uniform f h s k m = rw (link-uniform f h s k m) (go (link_to m k))
  where
    go : (o : Option Link) → option_map (λ (l : Link). l.rule) (option_map (with_rule_by h) o) ≡ option_map h (option_map (λ (l : Link). l.rule) o)
    go None = refl
    go (Some l) = refl
