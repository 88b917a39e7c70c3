-- Facts on settled states.
use Rattle.std.proofs.Common.{◌≡◌, ℕ, Bool, true, false, not, nat_le, if◌then◌else◌, List, [], ◌∷◌, map, Option, Some, None, option_map, refl, sym, ap, ◌∙◌, subst}
use Rattle.std.proofs.lemmas.Bool.{false≢true, and_parts}
use Rattle.ts_spec.specs.Sample.{Point, at, at_times}
use Rattle.ts_spec.specs.Key.{Key, same}
use Rattle.ts_spec.specs.Keyed.{get, each}
use Rattle.ts_spec.specs.State.{Rule, Record, State, Link, rule_to, link_to, rule_into, edge}
use Rattle.ts_spec.specs.Rules.{is_row_by, risen_by, tidied_by, expire_record, tidied, settled}
use Rattle.ts_spec.specs.Valid.{IsUpTo}
use Rattle.ts_spec.proofs.Keys.{same-true}
use Rattle.ts_spec.proofs.Samples.{at-times}
use Rattle.ts_spec.proofs.Links.{IsReshape, Found, link-found}
use Rattle.ts_spec.proofs.Linked.{get-to}
use Rattle.ts_spec.proofs.Settles.{stays, get-tidied, settled-tidy, high-covers}

pub some-same : {X : Type 0} (x y : X) → Some x ≡ Some y → x ≡ y
some-same x y h = cc h

pub tidied-settled : (m : State) → settled m ≡ m → tidied m ≡ m
tidied-settled m h = ap tidied (sym h) ∙ settled-tidy m ∙ h

pub record-tidy : (m : State) (k : Key) (d : Record) → settled m ≡ m → get k m ≡ Some d → tidied_by (rule_into m k) d ≡ d
record-tidy m k d h e =
    some-same (tidied_by (rule_into m k) d) d
    (ap (option_map (tidied_by (rule_into m k))) (sym e) ∙ sym (get-tidied m k) ∙ ap (get k) (tidied-settled m h) ∙ e)

pub record-expired : (m : State) (k : Key) (d : Record) → settled m ≡ m → get k m ≡ Some d → expire_record m d ≡ d
record-expired m k d h e =
    let whole : each (λ j c. expire_record m c) m ≡ m = ap (λ (x : State). each (λ j c. expire_record x c) x) (sym (tidied-settled m h)) ∙ h in
    some-same (expire_record m d) d (sym (get-to (λ j c. expire_record m c) k m d e) ∙ ap (get k) whole ∙ e)

-- the highest time is at least each closed bucket with counted samples
pub high-tidy : (m : State) (k : Key) (d : Record) (b : ℕ) → settled m ≡ m → get k m ≡ Some d → is_row_by (rule_into m k) b ≡ true → IsUpTo d.high b
high-tidy m k d b h e t =
    subst (λ (x : Option ℕ). IsUpTo x b) (ap (λ (x : Record). x.high) (record-tidy m k d h e)) (high-covers (rule_into m k) d.high b t)

-- none of its own samples is before the edge or at the start of such a bucket
pub own-tidy : (m : State) (k : Key) (d : Record) (t : ℕ) (p : Point) → settled m ≡ m → get k m ≡ Some d → at t d.plain ≡ Some p →
    (nat_le (edge d) t ≡ true) × (is_row_by (rule_into m k) t ≡ false)
own-tidy m k d t p h e x =
    let tidy : tidied_by (rule_into m k) d ≡ d = record-tidy m k d h e in
    let plain : at_times (stays (edge (risen_by (rule_into m k) d)) (rule_into m k)) d.plain ≡ d.plain = ap (λ (y : Record). y.plain) tidy in
    let low : edge (risen_by (rule_into m k) d) ≡ edge d = ap edge tidy in
    let passed : (if stays (edge (risen_by (rule_into m k) d)) (rule_into m k) t then at t d.plain else None) ≡ Some p =
    sym (at-times t (stays (edge (risen_by (rule_into m k) d)) (rule_into m k)) d.plain) ∙ ap (at t) plain ∙ x in
    let test : stays (edge (risen_by (rule_into m k) d)) (rule_into m k) t ≡ true = tested (stays (edge (risen_by (rule_into m k) d)) (rule_into m k) t) passed in
    let parts : (nat_le (edge (risen_by (rule_into m k) d)) t ≡ true) × (not (is_row_by (rule_into m k) t) ≡ true) =
    and_parts (nat_le (edge (risen_by (rule_into m k) d)) t) (not (is_row_by (rule_into m k) t)) test in
    (ap (λ (y : ℕ). nat_le y t) (sym low) ∙ parts.0, untrue (is_row_by (rule_into m k) t) parts.1)
  where
    tested : (b : Bool) → (if b then at t d.plain else None) ≡ Some p → b ≡ true
    tested true y = refl
    tested false y = absurd (cc y)

    untrue : (b : Bool) → not b ≡ true → b ≡ false
    untrue true y = absurd (false≢true y)
    untrue false y = refl

-- ---- one record changed

-- f changes the rules of a record by g, and g keeps their destinations
pub record KeepsRules (f : Record → Record) (g : Record → Rule → Rule) : Type 0 where
  pub rules : (d : Record) → (f d).rules ≡ map (g d) d.rules
  pub dest : (d : Record) (r : Rule) → (g d r).dest ≡ r.dest

pub map-id-rules : (rs : List Rule) → rs ≡ map (λ (r : Rule). r) rs
map-id-rules [] = refl
map-id-rules (r ∷ rs) = let ih : rs ≡ map (λ (r : Rule). r) rs = map-id-rules rs in λ i. r ∷ ih i

pub change-keeps : (key : Key) (f : Record → Record) (g : Record → Rule → Rule) → KeepsRules f g →
    IsReshape (λ k d. if same k key then f d else d) (λ k d r. if same k key then g d r else r)
change-keeps key f g h = record { rules = λ k d. rules (same k key) d; dest = λ k d r. dest (same k key) d r }
  where
    rules : (b : Bool) (d : Record) → (if b then f d else d).rules ≡ map (λ r. if b then g d r else r) d.rules
    rules true d = h.rules d
    rules false d = map-id-rules d.rules

    dest : (b : Bool) (d : Record) (r : Rule) → (if b then g d r else r).dest ≡ r.dest
    dest true d r = h.dest d r
    dest false d r = refl

-- a link leads from a key with that rule
pub link-not-from : (m : State) (k : Key) (l : Link) (key : Key) (d : Record) → get key m ≡ Some d → d.rules ≡ [] → link_to m k ≡ Some l → same l.source key ≡ false
link-not-from m k l key d e none x = go (same l.source key) refl
  where
    go : (b : Bool) → same l.source key ≡ b → b ≡ false
    go false y = refl
    go true y =
        let f : Found m.entries k l = link-found m k l x in
        let eq : Some f.record_of ≡ Some d = sym f.there ∙ ap (λ (j : Key). get j m) (same-true l.source key y) ∙ e in
        let one : f.record_of ≡ d = some-same f.record_of d eq in
        let two : None ≡ Some l.rule = sym (ap (rule_to k) (ap (λ (q : Record). q.rules) one ∙ none)) ∙ f.rule in
        absurd (cc two)
