-- Lists of rule parts: those of one source, the source of a destination, and what holds of each.
use Rattle.std.proofs.Common.{◌≡◌, ℕ, ◌<◌, Bool, true, false, if◌then◌else◌, List, [], ◌∷◌, ◌++◌, map, Option, Some, None, option_map, refl, sym, ap, ◌∙◌, append-nil}
use Rattle.std.specs.Bool.{⊤}
use Rattle.std.specs.Option.{option_or}
use Rattle.std.proofs.lemmas.Bool.{false≢true, and_parts}
use Rattle.ts_spec.specs.Key.{Key, same}
use Rattle.ts_spec.specs.Keyed.{Entry, is_below, is_sorted, get_in, each_in}
use Rattle.ts_spec.specs.State.{Rule, Record, Link, rule_to, linked_or, link_in}
use Rattle.ts_spec.specs.StoredSeries.{StoredRule, StoredSeries, stored_rule}
use Rattle.ts_spec.specs.StoredStep.{stored_rules_at}
use Rattle.ts_spec.proofs.Keys.{same-true}
use Rattle.ts_spec.proofs.Maps.{below-get}
use Rattle.ts_restore.specs.Checkpoint.{RulePart, parts_from, rule_parts}
use Rattle.ts_restore.specs.Restorable.{AreMadeBefore}

-- the rules of this source
abbrev pub rules_from : Key → List RulePart → List StoredRule
rules_from k [] = []
rules_from k (p ∷ ps) = if same p.source k then p.rule ∷ rules_from k ps else rules_from k ps

-- the source of the first rule to this destination
abbrev pub source_to : Key → List RulePart → Option Key
source_to k [] = None
source_to k (p ∷ ps) = if same p.rule.dest k then Some p.source else source_to k ps

-- P holds for each part
abbrev pub AllParts : (RulePart → Type 0) → List RulePart → Type 0
AllParts P [] = ⊤
AllParts P (p ∷ ps) = P p × AllParts P ps

-- ---- two lists in a row

pub rules_from-append : (k : Key) (ps qs : List RulePart) → rules_from k (ps ++ qs) ≡ rules_from k ps ++ rules_from k qs
rules_from-append k [] qs = refl
rules_from-append k (p ∷ ps) qs = go (same p.source k) (rules_from-append k ps qs)
  where
    go : (b : Bool) → rules_from k (ps ++ qs) ≡ rules_from k ps ++ rules_from k qs →
        (if b then p.rule ∷ rules_from k (ps ++ qs) else rules_from k (ps ++ qs)) ≡ (if b then p.rule ∷ rules_from k ps else rules_from k ps) ++ rules_from k qs
    go true ih = ap (λ (xs : List StoredRule). p.rule ∷ xs) ih
    go false ih = ih

pub source_to-append : (k : Key) (ps qs : List RulePart) → source_to k (ps ++ qs) ≡ option_or (source_to k ps) (source_to k qs)
source_to-append k [] qs = refl
source_to-append k (p ∷ ps) qs = go (same p.rule.dest k) (source_to-append k ps qs)
  where
    go : (b : Bool) → source_to k (ps ++ qs) ≡ option_or (source_to k ps) (source_to k qs) →
        (if b then Some p.source else source_to k (ps ++ qs)) ≡ option_or (if b then Some p.source else source_to k ps) (source_to k qs)
    go true ih = refl
    go false ih = ih

pub parts-front : (P : RulePart → Type 0) (ps qs : List RulePart) → AllParts P (ps ++ qs) → AllParts P ps
parts-front P [] qs x = tt
parts-front P (p ∷ ps) qs x = (x.0, parts-front P ps qs x.1)

pub parts-at : (P : RulePart → Type 0) (ps : List RulePart) (p : RulePart) (qs : List RulePart) → AllParts P (ps ++ p ∷ qs) → P p
parts-at P [] p qs x = x.0
parts-at P (r ∷ ps) p qs x = parts-at P ps p qs x.1

pub parts-join : (P : RulePart → Type 0) (ps qs : List RulePart) → AllParts P ps → AllParts P qs → AllParts P (ps ++ qs)
parts-join P [] qs x y = y
parts-join P (p ∷ ps) qs x y = (x.0, parts-join P ps qs x.1 y)

-- a part whose destination is this key
pub record PartTo (P Q : RulePart → Type 0) (k : Key) : Type 0 where
  pub part : RulePart
  pub dest : part.rule.dest ≡ k
  pub holds : P part
  pub also : Q part

pub part-to : (P Q : RulePart → Type 0) (k x : Key) (ps : List RulePart) → AllParts P ps → AllParts Q ps → source_to k ps ≡ Some x → PartTo P Q k
part-to P Q k x [] h g e = absurd (cc e)
part-to P Q k x (p ∷ ps) h g e = go (same p.rule.dest k) refl (λ z. part-to P Q k x ps h.1 g.1 z) e
  where
    go : (b : Bool) → same p.rule.dest k ≡ b → (source_to k ps ≡ Some x → PartTo P Q k) → (if b then Some p.source else source_to k ps) ≡ Some x → PartTo P Q k
    go true y later z = record { part = p; dest = same-true p.rule.dest k y; holds = h.0; also = g.0 }
    go false y later z = later z

-- rules of one source that were all created before
pub before-parts : (n : ℕ) (k : Key) (ps : List RulePart) → AreMadeBefore n (rules_from k ps) → AllParts (λ p. same p.source k ≡ true → p.rule.made < n) ps
before-parts n k [] x = tt
before-parts n k (p ∷ ps) x = go (same p.source k) refl (λ y. before-parts n k ps y) x
  where
    go : (b : Bool) → same p.source k ≡ b → (AreMadeBefore n (rules_from k ps) → AllParts (λ p. same p.source k ≡ true → p.rule.made < n) ps) →
        AreMadeBefore n (if b then p.rule ∷ rules_from k ps else rules_from k ps) →
        (same p.source k ≡ true → p.rule.made < n) × AllParts (λ p. same p.source k ≡ true → p.rule.made < n) ps
    go true e later y = (λ h. y.0, later y.1)
    go false e later y = (λ h. absurd (false≢true (sym e ∙ h)), later y)

-- ---- the parts of stored data

rules-of-one : (k source : Key) (qs : List StoredRule) → rules_from k (parts_from source qs) ≡ (if same source k then qs else [])
rules-of-one k source [] = go (same source k)
  where
    go : (b : Bool) → rules_from k [] ≡ (if b then rules_from k [] else rules_from k [])
    go true = refl
    go false = refl
rules-of-one k source (q ∷ qs) = go (same source k) (rules-of-one k source qs)
  where
    go : (b : Bool) → rules_from k (parts_from source qs) ≡ (if b then qs else []) →
        (if b then q ∷ rules_from k (parts_from source qs) else rules_from k (parts_from source qs)) ≡ (if b then q ∷ qs else [])
    go true ih = ap (λ (xs : List StoredRule). q ∷ xs) ih
    go false ih = ih

-- The parts of a source are its rules.
pub rules-of-parts : (k : Key) (es : List (Entry StoredSeries)) → is_sorted es ≡ true → rules_from k (rule_parts es) ≡ stored_rules_at (get_in k es)
rules-of-parts k [] s = refl
rules-of-parts k (e ∷ es) s =
    let parts : (is_below e.key es ≡ true) × (is_sorted es ≡ true) = and_parts (is_below e.key es) (is_sorted es) s in
    rules_from-append k (parts_from e.key e.value.rules) (rule_parts es)
    ∙ ap (λ (xs : List StoredRule). xs ++ rules_from k (rule_parts es)) (rules-of-one k e.key e.value.rules)
    ∙ go (same e.key k) refl parts.0 (rules-of-parts k es parts.1)
  where
    go : (b : Bool) → same e.key k ≡ b → is_below e.key es ≡ true → rules_from k (rule_parts es) ≡ stored_rules_at (get_in k es) →
        (if b then e.value.rules else []) ++ rules_from k (rule_parts es) ≡ stored_rules_at (if b then Some e.value else get_in k es)
    go false x below ih = ih
    go true x below ih =
        let gone : get_in k es ≡ None = ap (λ (j : Key). get_in j es) (sym (same-true e.key k x)) ∙ below-get e.key es below in
        ap (λ (xs : List StoredRule). e.value.rules ++ xs) (ih ∙ ap stored_rules_at gone) ∙ append-nil e.value.rules

source-of-one : (k source : Key) (rs : List Rule) (ps : List RulePart) (l : Option Link) → source_to k ps ≡ option_map (λ l. l.source) l →
    source_to k (parts_from source (map stored_rule rs) ++ ps) ≡ option_map (λ l. l.source) (linked_or source (rule_to k rs) l)
source-of-one k source [] ps l h = h
source-of-one k source (r ∷ rs) ps l h = go (same r.dest k) (source-of-one k source rs ps l h)
  where
    go : (b : Bool) → source_to k (parts_from source (map stored_rule rs) ++ ps) ≡ option_map (λ l. l.source) (linked_or source (rule_to k rs) l) →
        (if b then Some source else source_to k (parts_from source (map stored_rule rs) ++ ps)) ≡ option_map (λ l. l.source) (linked_or source (if b then Some r else rule_to k rs) l)
    go true ih = refl
    go false ih = ih

-- The source of a destination among the parts is that of its link.
pub source-of-parts : (k : Key) (f : Key → Record → StoredSeries) → ((j : Key) (d : Record) → (f j d).rules ≡ map stored_rule d.rules) → (es : List (Entry Record)) →
    source_to k (rule_parts (each_in f es)) ≡ option_map (λ l. l.source) (link_in k es)
source-of-parts k f same_rules [] = refl
source-of-parts k f same_rules (e ∷ es) =
    ap (λ (qs : List StoredRule). source_to k (parts_from e.key qs ++ rule_parts (each_in f es))) (same_rules e.key e.value)
    ∙ source-of-one k e.key e.value.rules (rule_parts (each_in f es)) (link_in k es) (source-of-parts k f same_rules es)
