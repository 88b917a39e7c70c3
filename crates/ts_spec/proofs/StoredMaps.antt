-- The stored data of a state at each key, and the tests of a step on it.
use Rattle.std.proofs.Common.{◌≡◌, ℕ, Bool, true, false, cond, ◌||◌, nat_lt, List, [], ◌∷◌, map, length, Option, Some, None, is_some, option_map, refl, sym, ap, ◌∙◌}
use Rattle.std.proofs.lemmas.List.{length-map}
use Rattle.ts_spec.specs.Bucket.{start}
use Rattle.ts_spec.specs.Key.{Key, same}
use Rattle.ts_spec.specs.Keyed.{get, each, count_keys}
use Rattle.ts_spec.specs.State.{Rule, Record, State, Link, rule_to, link_to, rule_into}
use Rattle.ts_spec.specs.Rules.{shown, shown_at}
use Rattle.ts_spec.specs.Step.{shows_more, first_full, rules_at, meets_expired, has_rules}
use Rattle.ts_spec.specs.StoredSeries.{StoredSeries, StoredKeys, stored_rule, stored_record, kept}
use Rattle.ts_spec.specs.StoredUpdates.{stored_rule_to}
use Rattle.ts_spec.specs.StoredStep.{list_at, stores_more, stored_first_full, stored_rules_at, stored_meets_expired, any_rules}
use Rattle.ts_spec.specs.StoredQueries.{rule_from}
use Rattle.ts_spec.proofs.Maps.{get-each, count-each, maps-same}
use Rattle.ts_spec.proofs.Links.{Found, link-found}

-- ---- the map

pub get-kept : (m : State) (k : Key) → get k (kept m) ≡ option_map (stored_record (link_to m k)) (get k m)
get-kept m k = get-each (λ j d. stored_record (link_to m j) d) k m

pub kept-there : (m : State) (k : Key) (d : Record) → get k m ≡ Some d → get k (kept m) ≡ Some (stored_record (link_to m k) d)
kept-there m k d x = get-kept m k ∙ ap (option_map (stored_record (link_to m k))) x

pub kept-missing : (m : State) (k : Key) → get k m ≡ None → get k (kept m) ≡ None
kept-missing m k x = get-kept m k ∙ ap (option_map (stored_record (link_to m k))) x

pub count-kept : (m : State) → count_keys (kept m) ≡ count_keys m
count-kept m = count-each (λ j d. stored_record (link_to m j) d) m

pub some-mapped : {X Y : Type 0} (f : X → Y) (o : Option X) → is_some (option_map f o) ≡ is_some o
some-mapped f None = refl
some-mapped f (Some x) = refl

pub some-kept : (m : State) (k : Key) → is_some (get k (kept m)) ≡ is_some (get k m)
some-kept m k = ap is_some (get-kept m k) ∙ some-mapped (stored_record (link_to m k)) (get k m)

-- a function of the stored series equals a function of the record, if it does for a missing key and for an existing one
pub read-kept : {X : Type 0} (m : State) (k : Key) (f : Option StoredSeries → X) (g : Option Record → X) → f None ≡ g None → ((d : Record) → get k m ≡ Some d → f (Some (stored_record (link_to m k) d)) ≡ g (Some d)) →
    f (get k (kept m)) ≡ g (get k m)
read-kept m k f g none some = ap f (get-kept m k) ∙ go (get k m) refl
  where
    go : (o : Option Record) → get k m ≡ o → f (option_map (stored_record (link_to m k)) o) ≡ g o
    go None x = none
    go (Some d) x = some d x

-- Storing each key stores the state.
pub kept-same : (keys : StoredKeys) (n : State) → ((k : Key) → get k keys ≡ option_map (stored_record (link_to n k)) (get k n)) → keys ≡ kept n
kept-same keys n h = maps-same keys (kept n) (λ k. h k ∙ sym (get-kept n k))

-- the same where one map is changed at each key
pub kept-each : (keys : StoredKeys) (f : Key → StoredSeries → StoredSeries) (m n : State) → keys ≡ kept m →
    ((k : Key) → option_map (f k) (option_map (stored_record (link_to m k)) (get k m)) ≡ option_map (stored_record (link_to n k)) (get k n)) → each f keys ≡ kept n
kept-each keys f m n e h = ap (each f) e ∙ kept-same (each f (kept m)) n (λ k. get-each f k (kept m) ∙ ap (option_map (f k)) (get-kept m k) ∙ h k)

-- ---- what a key shows, its rules and its edge

pub list-kept : (m : State) (k : Key) → list_at (get k (kept m)) ≡ shown m k
list-kept m k = read-kept m k list_at (λ o. shown_at o (rule_into m k)) refl (λ d x. refl)

pub rules-kept : (m : State) (k : Key) → stored_rules_at (get k (kept m)) ≡ map stored_rule (rules_at (get k m))
rules-kept m k = read-kept m k stored_rules_at (λ o. map stored_rule (rules_at o)) refl (λ d x. refl)

-- ---- rules

pub rule_to-kept : (k : Key) (rs : List Rule) → stored_rule_to k (map stored_rule rs) ≡ option_map stored_rule (rule_to k rs)
rule_to-kept k [] = refl
rule_to-kept k (r ∷ rs) = go (same r.dest k) (rule_to-kept k rs)
  where
    go : (b : Bool) → stored_rule_to k (map stored_rule rs) ≡ option_map stored_rule (rule_to k rs) →
        cond b (Some (stored_rule r)) (stored_rule_to k (map stored_rule rs)) ≡ option_map stored_rule (cond b (Some r) (rule_to k rs))
    go true ih = refl
    go false ih = ih

pub any-rules : (rs : List Rule) → any_rules (map stored_rule rs) ≡ has_rules rs
any-rules [] = refl
any-rules (r ∷ rs) = refl

pub count-rules : (rs : List Rule) → length (map stored_rule rs) ≡ length rs
count-rules rs = length-map rs stored_rule

-- the rule that writes to a key, found by the key of its source
pub rule_from-kept : (m : State) (k : Key) → rule_from (kept m) k (option_map (λ l. l.source) (link_to m k)) ≡ option_map stored_rule (rule_into m k)
rule_from-kept m k = go (link_to m k) refl
  where
    go : (o : Option Link) → link_to m k ≡ o → rule_from (kept m) k (option_map (λ l. l.source) o) ≡ option_map stored_rule (option_map (λ l. l.rule) o)
    go None x = refl
    go (Some l) x =
        let f : Found m.entries k l = link-found m k l x in
        ap (stored_rule_to k) (rules-kept m l.source ∙ ap (λ (o : Option Record). map stored_rule (rules_at o)) f.there)
        ∙ rule_to-kept k f.record_of.rules ∙ ap (option_map stored_rule) f.rule

-- ---- the tests

pub more-kept : (limit : ℕ) (m : State) (k : Key) → stores_more limit (kept m) k ≡ shows_more limit m k
more-kept limit m k = ap (λ ps. nat_lt limit (length ps)) (list-kept m k)

pub first_full-kept : (limit : ℕ) (n : State) (rs : List Rule) → stored_first_full limit (kept n) (map stored_rule rs) ≡ first_full limit n rs
first_full-kept limit n [] = refl
first_full-kept limit n (r ∷ rs) = rw (more-kept limit n r.dest, first_full-kept limit n rs) refl

pub meets-kept : (from low : ℕ) (rs : List Rule) → stored_meets_expired from low (map stored_rule rs) ≡ meets_expired from low rs
meets-kept from low [] = refl
meets-kept from low (r ∷ rs) = ap (λ (b : Bool). nat_lt (start r.grid from) low || b) (meets-kept from low rs)
