-- Lists of rules, links found through rules, and how a state is shown to be settled.
use Rattle.std.proofs.Common.{◌≡◌, ℕ, suc, ◌<◌, ◌≤◌, ◌+◌, Bool, true, false, cond, ◌&&◌, nat_le, if◌then◌else◌, List, [], ◌∷◌, ◌++◌, map, filter, length, Option, Some, None, option_map, refl, sym, ap, ◌∙◌, arith}
use Rattle.std.specs.Option.{option_or}
use Rattle.std.proofs.lemmas.Bool.{false≢true}
use Rattle.std.proofs.Math.Bool.{and-true}
use Rattle.ts_spec.specs.Sample.{at_times}
use Rattle.ts_spec.specs.Key.{Key, same}
use Rattle.ts_spec.specs.Keyed.{get, each}
use Rattle.ts_spec.specs.State.{Rule, Record, State, Link, rule_to, link_to, rule_into, edge}
use Rattle.ts_spec.specs.Rules.{tidied_by, expired_in, expire_record, tidied, settled}
use Rattle.ts_spec.specs.Valid.{EachRule, IsMadeAfter, IsInOrder, IsSoleLink, IsLinked}
use Rattle.ts_spec.proofs.Keys.{same-true}
use Rattle.ts_spec.proofs.Maps.{get-each, maps-same}
use Rattle.ts_spec.proofs.Links.{rule_to-dest}
use Rattle.ts_spec.proofs.Linked.{each-rule-at}
use Rattle.ts_spec.proofs.Settles.{get-tidied}
use Rattle.ts_spec.proofs.Tidy.{record-expired}
use Rattle.ts_spec.proofs.Unmoved.{no-link-no-rule, times-same}
use Rattle.ts_spec.proofs.Keeps.{first-same, rest-same}

-- ---- one more rule at the end

pub rule_to-append : (k : Key) (rs qs : List Rule) → rule_to k (rs ++ qs) ≡ option_or (rule_to k rs) (rule_to k qs)
rule_to-append k [] qs = refl
rule_to-append k (r ∷ rs) qs = go (same r.dest k) (rule_to-append k rs qs)
  where
    go : (b : Bool) → rule_to k (rs ++ qs) ≡ option_or (rule_to k rs) (rule_to k qs) → cond b (Some r) (rule_to k (rs ++ qs)) ≡ option_or (cond b (Some r) (rule_to k rs)) (rule_to k qs)
    go true ih = refl
    go false ih = ih

pub each-rule-append : (P : Rule → Type 0) (rs : List Rule) (q : Rule) → EachRule P rs → P q → EachRule P (rs ++ q ∷ [])
each-rule-append P [] q x y = (y, tt)
each-rule-append P (r ∷ rs) q x y = (x.0, each-rule-append P rs q x.1 y)

made_after-append : (n : ℕ) (rs : List Rule) (q : Rule) → IsMadeAfter n rs → n < q.made → IsMadeAfter n (rs ++ q ∷ [])
made_after-append n [] q x y = (y, tt)
made_after-append n (r ∷ rs) q x y = (x.0, made_after-append n rs q x.1 y)

pub in_order-append : (rs : List Rule) (q : Rule) → IsInOrder rs → EachRule (λ r. r.made < q.made) rs → IsInOrder (rs ++ q ∷ [])
in_order-append [] q x y = (tt, tt)
in_order-append (r ∷ rs) q x y = (made_after-append r.made rs q x.0 y.0, in_order-append rs q x.1 y.1)

pub length-append_one : (rs : List Rule) (q : Rule) → length (rs ++ q ∷ []) ≡ length rs + 1
length-append_one [] q = refl
length-append_one (r ∷ rs) q = ap suc (length-append_one rs q) ∙ omega arith

-- ---- some rules left out

pub each-rule-filter : (P : Rule → Type 0) (test : Rule → Bool) (rs : List Rule) → EachRule P rs → EachRule P (filter test rs)
each-rule-filter P test [] x = tt
each-rule-filter P test (r ∷ rs) x = go (test r) (each-rule-filter P test rs x.1)
  where
    go : (b : Bool) → EachRule P (filter test rs) → EachRule P (cond b (r ∷ filter test rs) (filter test rs))
    go true ih = (x.0, ih)
    go false ih = ih

-- the rules that are left pass the test
pub each-rule-passes : (test : Rule → Bool) (rs : List Rule) → EachRule (λ r. test r ≡ true) (filter test rs)
each-rule-passes test [] = tt
each-rule-passes test (r ∷ rs) = go (test r) refl (each-rule-passes test rs)
  where
    go : (b : Bool) → test r ≡ b → EachRule (λ q. test q ≡ true) (filter test rs) → EachRule (λ q. test q ≡ true) (cond b (r ∷ filter test rs) (filter test rs))
    go true e ih = (e, ih)
    go false e ih = ih

pub each-rule-both : (P Q : Rule → Type 0) (rs : List Rule) → EachRule P rs → EachRule Q rs → EachRule (λ r. P r × Q r) rs
each-rule-both P Q [] x y = tt
each-rule-both P Q (r ∷ rs) x y = ((x.0, y.0), each-rule-both P Q rs x.1 y.1)

made_after-filter : (n : ℕ) (test : Rule → Bool) (rs : List Rule) → IsMadeAfter n rs → IsMadeAfter n (filter test rs)
made_after-filter n test [] x = tt
made_after-filter n test (r ∷ rs) x = go (test r) (made_after-filter n test rs x.1)
  where
    go : (b : Bool) → IsMadeAfter n (filter test rs) → IsMadeAfter n (cond b (r ∷ filter test rs) (filter test rs))
    go true ih = (x.0, ih)
    go false ih = ih

pub in_order-filter : (test : Rule → Bool) (rs : List Rule) → IsInOrder rs → IsInOrder (filter test rs)
in_order-filter test [] x = tt
in_order-filter test (r ∷ rs) x = go (test r) (in_order-filter test rs x.1)
  where
    go : (b : Bool) → IsInOrder (filter test rs) → IsInOrder (cond b (r ∷ filter test rs) (filter test rs))
    go true ih = (made_after-filter r.made test rs x.0, ih)
    go false ih = ih

pub length-filter : (test : Rule → Bool) (rs : List Rule) → length (filter test rs) ≤ length rs
length-filter test [] = omega arith
length-filter test (r ∷ rs) = go (test r) (length-filter test rs)
  where
    go : (b : Bool) → length (filter test rs) ≤ length rs → length (cond b (r ∷ filter test rs) (filter test rs)) ≤ suc (length rs)
    go true ih = omega arith
    go false ih = omega arith

-- the rule to a key, if a test of destinations lets it stay
pub rule_to-filter : (test : Key → Bool) (k : Key) (rs : List Rule) → rule_to k (filter (λ r. test r.dest) rs) ≡ (if test k then rule_to k rs else None)
rule_to-filter test k [] = go (test k)
  where
    go : (b : Bool) → rule_to k [] ≡ (if b then rule_to k [] else None)
    go true = refl
    go false = refl
rule_to-filter test k (r ∷ rs) = go (test r.dest) (same r.dest k) (test k) refl refl refl (rule_to-filter test k rs)
  where
    go : (x y z : Bool) → test r.dest ≡ x → same r.dest k ≡ y → test k ≡ z → rule_to k (filter (λ q. test q.dest) rs) ≡ (if test k then rule_to k rs else None) →
        rule_to k (cond x (r ∷ filter (λ q. test q.dest) rs) (filter (λ q. test q.dest) rs)) ≡ (if z then cond y (Some r) (rule_to k rs) else None)
    go true true true e f h ih = ap (λ (b : Bool). cond b (Some r) (rule_to k (filter (λ q. test q.dest) rs))) f
    go true true false e f h ih = absurd (false≢true (sym h ∙ sym (ap test (same-true r.dest k f)) ∙ e))
    go true false z e f h ih = ap (λ (b : Bool). cond b (Some r) (rule_to k (filter (λ q. test q.dest) rs))) f ∙ ih ∙ ap (λ (b : Bool). if b then rule_to k rs else None) h
    go false true true e f h ih = absurd (false≢true (sym e ∙ ap test (same-true r.dest k f) ∙ h))
    go false true false e f h ih = ih ∙ ap (λ (b : Bool). if b then rule_to k rs else None) h
    go false false z e f h ih = ih ∙ ap (λ (b : Bool). if b then rule_to k rs else None) h

-- ---- links found by rules

pub link-same : (l : Link) (s : Key) (r : Rule) → l.source ≡ s → l.rule ≡ r → l ≡ record { source = s; rule = r }
link-same l s r x y = λ i. record { source = x i; rule = y i }

-- a rule of a record makes a link, and it is this one if each link to the key is
pub link-by-rule : (n : State) (s k : Key) (c : Record) (r : Rule) → get s n ≡ Some c → rule_to k c.rules ≡ Some r →
    ((l : Link) → link_to n k ≡ Some l → l ≡ record { source = s; rule = r }) → link_to n k ≡ Some (record { source = s; rule = r })
link-by-rule n s k c r there x only = go (link_to n k) refl
  where
    go : (o : Option Link) → link_to n k ≡ o → o ≡ Some (record { source = s; rule = r })
    go None y = let one : None ≡ Some r = sym (no-link-no-rule n s k c y there) ∙ x in absurd (cc one)
    go (Some l) y = ap (λ (q : Link). Some q) (only l y)

-- in a linked state the rule that is found in a record is that of the link
pub rule-link : (m : State) (s k : Key) (c : Record) (r : Rule) → IsLinked m → get s m ≡ Some c → rule_to k c.rules ≡ Some r → link_to m k ≡ Some (record { source = s; rule = r })
rule-link m s k c r h there x =
    let sole : IsSoleLink m s r = each-rule-at (IsSoleLink m s) k c.rules r x (h s c there) in
    ap (link_to m) (sym (rule_to-dest k c.rules r x)) ∙ sole.link

-- ---- settled states

-- a state is settled where each record is tidy and expired
pub settled-by : (n : State) → ((k : Key) (d : Record) → get k n ≡ Some d → tidied_by (rule_into n k) d ≡ d) → ((k : Key) (d : Record) → get k n ≡ Some d → expire_record n d ≡ d) → settled n ≡ n
settled-by n tidy expire =
    ap (λ (x : State). each (λ k d. expire_record x d) x) (maps-same (tidied n) n (λ k. get-tidied n k ∙ first k (get k n) refl))
    ∙ maps-same (each (λ k d. expire_record n d) n) n (λ k. get-each (λ k d. expire_record n d) k n ∙ second k (get k n) refl)
  where
    first : (k : Key) (o : Option Record) → get k n ≡ o → option_map (tidied_by (rule_into n k)) o ≡ o
    first k None x = refl
    first k (Some d) x = ap (λ (q : Record). Some q) (tidy k d x)

    second : (k : Key) (o : Option Record) → get k n ≡ o → option_map (expire_record n) o ≡ o
    second k None x = refl
    second k (Some d) x = ap (λ (q : Record). Some q) (expire k d x)

-- in a settled state each rule is expired
pub rules-expired : (m : State) (k : Key) (d : Record) → settled m ≡ m → get k m ≡ Some d → EachRule (λ r. expired_in m r ≡ r) d.rules
rules-expired m k d h e = fixed d.rules (ap (λ (q : Record). q.rules) (record-expired m k d h e))
  where
    fixed : (rs : List Rule) → map (expired_in m) rs ≡ rs → EachRule (λ r. expired_in m r ≡ r) rs
    fixed [] x = tt
    fixed (r ∷ rs) x = (first-same (expired_in m r) r (map (expired_in m) rs) rs x, fixed rs (rest-same (expired_in m r) r (map (expired_in m) rs) rs x))

-- a record without a rule that writes to it is tidy where none of its samples is before its edge
pub tidy-unlinked : (d : Record) → at_times (nat_le (edge d)) d.plain ≡ d.plain → tidied_by None d ≡ d
tidy-unlinked d h =
    let plain : at_times (λ t. nat_le (edge d) t && true) d.plain ≡ d.plain = times-same (λ t. nat_le (edge d) t && true) (nat_le (edge d)) d.plain (λ t. and-true (nat_le (edge d) t)) ∙ h in
    λ i. record d { plain = plain i }
