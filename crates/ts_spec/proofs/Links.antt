-- Links from sources to destinations. They stay if records change but the destinations of their rules do not.
use Rattle.std.proofs.Common.{◌≡◌, Bool, true, false, cond, List, [], ◌∷◌, map, Option, Some, None, option_map, refl, sym, ap, ◌∙◌, subst}
use Rattle.std.proofs.lemmas.Bool.{false≢true, and_parts}
use Rattle.ts_spec.specs.Key.{Key, same}
use Rattle.ts_spec.specs.Keyed.{Entry, is_below, is_sorted, get_in, each_in, get, each}
use Rattle.ts_spec.specs.State.{Rule, Record, State, Link, rule_to, linked_or, link_in, link_to}
use Rattle.ts_spec.proofs.Keys.{same-true, same-refl}
use Rattle.ts_spec.proofs.Maps.{below-get}

-- f changes the rules of each record by g, and g keeps their destinations
pub record IsReshape (f : Key → Record → Record) (g : Key → Record → Rule → Rule) : Type 0 where
  pub rules : (k : Key) (d : Record) → (f k d).rules ≡ map (g k d) d.rules
  pub dest : (k : Key) (d : Record) (r : Rule) → (g k d r).dest ≡ r.dest

pub rule_to-map : (g : Rule → Rule) (k : Key) (rs : List Rule) → ((r : Rule) → (g r).dest ≡ r.dest) → rule_to k (map g rs) ≡ option_map g (rule_to k rs)
rule_to-map g k [] h = refl
rule_to-map g k (r ∷ rs) h = go (same r.dest k) (same (g r).dest k) (ap (λ (j : Key). same j k) (h r)) (rule_to-map g k rs h)
  where
    go : (b c : Bool) → c ≡ b → rule_to k (map g rs) ≡ option_map g (rule_to k rs) → cond c (Some (g r)) (rule_to k (map g rs)) ≡ option_map g (cond b (Some r) (rule_to k rs))
    go true true e ih = refl
    go true false e ih = absurd (false≢true e)
    go false true e ih = absurd (false≢true (sym e))
    go false false e ih = ih

-- the destination of the rule that is found
pub rule_to-dest : (k : Key) (rs : List Rule) (r : Rule) → rule_to k rs ≡ Some r → r.dest ≡ k
rule_to-dest k [] r h = absurd (cc h)
rule_to-dest k (q ∷ rs) r h = go (same q.dest k) refl h (rule_to-dest k rs r)
  where
    go : (b : Bool) → same q.dest k ≡ b → cond b (Some q) (rule_to k rs) ≡ Some r → (rule_to k rs ≡ Some r → r.dest ≡ k) → r.dest ≡ k
    go true e x ih = let eq : q ≡ r = cc x in ap (λ (y : Rule). y.dest) (sym eq) ∙ same-true q.dest k e
    go false e x ih = ih x

-- the entry where a link was found
pub record Found (es : List (Entry Record)) (k : Key) (l : Link) : Type 0 where
  pub record_of : Record
  pub there : get_in l.source es ≡ Some record_of
  pub rule : rule_to k record_of.rules ≡ Some l.rule

found-later : (e : Entry Record) (es : List (Entry Record)) (k : Key) (l : Link) → is_below e.key es ≡ true → Found es k l → Found (e ∷ es) k l
found-later e es k l h x = record { record_of = x.record_of; there = go (same e.key l.source) refl; rule = x.rule }
  where
    go : (b : Bool) → same e.key l.source ≡ b → cond b (Some e.value) (get_in l.source es) ≡ Some x.record_of
    go true eq =
        let none : get_in l.source es ≡ None = subst (λ (j : Key). get_in j es ≡ None) (same-true e.key l.source eq) (below-get e.key es h) in
        let one : Some x.record_of ≡ None = sym x.there ∙ none in absurd (cc)
    go false eq = x.there

found-in : (es : List (Entry Record)) (k : Key) (l : Link) → is_sorted es ≡ true → link_in k es ≡ Some l → Found es k l
found-in [] k l h e = absurd (cc e)
found-in (e ∷ es) k l h x = go (rule_to k e.value.rules) refl x (found-in es k l (and_parts (is_below e.key es) (is_sorted es) h).1)
  where
    go : (o : Option Rule) → rule_to k e.value.rules ≡ o → linked_or e.key o (link_in k es) ≡ Some l → (link_in k es ≡ Some l → Found es k l) → Found (e ∷ es) k l
    go None y z ih = found-later e es k l (and_parts (is_below e.key es) (is_sorted es) h).0 (ih z)
    go (Some r) y z ih =
        let eq : record { source = e.key; rule = r } ≡ l = cc z in
        subst (λ (j : Link). Found (e ∷ es) k j) eq (record { record_of = e.value; there = rw (same-refl e.key) refl; rule = y })

-- the source of a link is there, and the rule is one of its rules
pub link-found : (m : State) (k : Key) (l : Link) → link_to m k ≡ Some l → Found m.entries k l
link-found m k l h = found-in m.entries k l m.sorted h

none-each_in : (f : Key → Record → Record) (g : Key → Record → Rule → Rule) → IsReshape f g → (k : Key) (es : List (Entry Record)) → link_in k es ≡ None → link_in k (each_in f es) ≡ None
none-each_in f g h k [] x = refl
none-each_in f g h k (e ∷ es) x = go (rule_to k e.value.rules) refl x (none-each_in f g h k es)
  where
    go : (o : Option Rule) → rule_to k e.value.rules ≡ o → linked_or e.key o (link_in k es) ≡ None → (link_in k es ≡ None → link_in k (each_in f es) ≡ None) →
        linked_or e.key (rule_to k (f e.key e.value).rules) (link_in k (each_in f es)) ≡ None
    go None y z ih = rw (h.rules e.key e.value, rule_to-map (g e.key e.value) k e.value.rules (h.dest e.key e.value), y) (ih z)
    go (Some r) y z ih = absurd (cc z)

-- no link before, none after
pub link-none : (f : Key → Record → Record) (g : Key → Record → Rule → Rule) → IsReshape f g → (k : Key) (m : State) → link_to m k ≡ None → link_to (each f m) k ≡ None
link-none f g h k m x = none-each_in f g h k m.entries x

some-each_in : (f : Key → Record → Record) (g : Key → Record → Rule → Rule) → IsReshape f g → (k : Key) (es : List (Entry Record)) (l : Link) (d : Record) → is_sorted es ≡ true →
    link_in k es ≡ Some l → get_in l.source es ≡ Some d → link_in k (each_in f es) ≡ Some (record { source = l.source; rule = g l.source d l.rule })
some-each_in f g h k [] l d s x y = absurd (cc x)
some-each_in f g h k (e ∷ es) l d s x y = go (rule_to k e.value.rules) refl x y (some-each_in f g h k es l d (and_parts (is_below e.key es) (is_sorted es) s).1)
  where
    below : is_below e.key es ≡ true
    below = (and_parts (is_below e.key es) (is_sorted es) s).0

    go : (o : Option Rule) → rule_to k e.value.rules ≡ o → linked_or e.key o (link_in k es) ≡ Some l → cond (same e.key l.source) (Some e.value) (get_in l.source es) ≡ Some d →
        (link_in k es ≡ Some l → get_in l.source es ≡ Some d → link_in k (each_in f es) ≡ Some (record { source = l.source; rule = g l.source d l.rule })) →
        linked_or e.key (rule_to k (f e.key e.value).rules) (link_in k (each_in f es)) ≡ Some (record { source = l.source; rule = g l.source d l.rule })
    go None u z w ih =
        rw (h.rules e.key e.value, rule_to-map (g e.key e.value) k e.value.rules (h.dest e.key e.value), u)
        (ih z (later (same e.key l.source) refl w))
      where
        later : (b : Bool) → same e.key l.source ≡ b → cond b (Some e.value) (get_in l.source es) ≡ Some d → get_in l.source es ≡ Some d
        later true q w =
            let x' : Found es k l = found-in es k l (and_parts (is_below e.key es) (is_sorted es) s).1 z in
            let none : get_in l.source es ≡ None = subst (λ (j : Key). get_in j es ≡ None) (same-true e.key l.source q) (below-get e.key es below) in
            let one : Some x'.record_of ≡ None = sym x'.there ∙ none in absurd (cc)
        later false q w = w
    go (Some r) u z w ih =
        let eq : record { source = e.key; rule = r } ≡ l = cc z in
        let key : e.key ≡ l.source = ap (λ (j : Link). j.source) eq in
        let rule : r ≡ l.rule = ap (λ (j : Link). j.rule) eq in
        let first : Some e.value ≡ Some d = subst (λ (b : Bool). cond b (Some e.value) (get_in l.source es) ≡ Some d) (ap (λ (j : Key). same e.key j) (sym key) ∙ same-refl e.key) w in
        let here : e.value ≡ d = cc first in
        rw (h.rules e.key e.value, rule_to-map (g e.key e.value) k e.value.rules (h.dest e.key e.value), u) (λ i. Some (record { source = key i; rule = g (key i) (here i) (rule i) }))

-- a link stays, with the rule as it is after
pub link-some : (f : Key → Record → Record) (g : Key → Record → Rule → Rule) → IsReshape f g → (k : Key) (m : State) (l : Link) (d : Record) →
    link_to m k ≡ Some l → get l.source m ≡ Some d → link_to (each f m) k ≡ Some (record { source = l.source; rule = g l.source d l.rule })
link-some f g h k m l d x y = some-each_in f g h k m.entries l d m.sorted x y
