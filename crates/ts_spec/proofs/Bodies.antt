-- The state after a write or a deletion and before settling, as one change of each record.
use Rattle.std.proofs.Common.{◌≡◌, ℕ, Bool, true, false, if◌then◌else◌, Option, Some, None, option_map, refl, ap, ◌∙◌}
use Rattle.ts_spec.specs.Key.{Key, same}
use Rattle.ts_spec.specs.Keyed.{get}
use Rattle.ts_spec.specs.State.{Rule, Record, State, Link, link_to, rule_into, change}
use Rattle.ts_spec.specs.Rules.{lost_from, lost, cleared_to, clear_record, clear_into, tidied_by, expired_in, expire_record, tidied, settled, shown_by}
use Rattle.ts_spec.specs.Valid.{EachRecord, IsSound, IsLinked}
use Rattle.ts_spec.proofs.Maps.{get-each}
use Rattle.ts_spec.proofs.Links.{IsReshape, Found, link-found, link-none, link-some}
use Rattle.ts_spec.proofs.Linked.{get-to, linked-each, link-dest}
use Rattle.ts_spec.proofs.Settles.{tidied-keeps, expire-keeps}
use Rattle.ts_spec.proofs.Tidy.{KeepsRules, change-keeps, map-id-rules}
use Rattle.ts_spec.proofs.PlainWrite.{get-change}
use Rattle.ts_spec.proofs.Unmoved.{lost-elsewhere, lost-unlinked, cleared-elsewhere}
use Rattle.ts_spec.proofs.Sound.{sound-each, sound-settled, sound-lost, sound-clear_record}

-- the three changes of a command on a key: to its own record, to its destinations, and to the rule that writes to it
abbrev pub bodies : Key → (Record → Record) → (Rule → ℕ → Bool) → (ℕ → Bool) → State → State
bodies key f touches test m = clear_into key test (lost key touches (change key f m))

pub lost-keeps : (key : Key) (touches : Rule → ℕ → Bool) (n : State) → IsReshape (λ k d. lost_from key touches (link_to n k) d) (λ k d r. r)
lost-keeps key touches n = record { rules = λ k d. map-id-rules d.rules; dest = λ k d r. refl }

pub clear-keeps : (key : Key) (test : ℕ → Bool) → IsReshape (λ k d. clear_record key test d) (λ k d r. cleared_to key test r)
clear-keeps key test = record { rules = λ k d. refl; dest = λ k d r. refl }

-- ---- they keep states sound and linked

pub sound-bodies : (key : Key) (f : Record → Record) (touches : Rule → ℕ → Bool) (test : ℕ → Bool) (m : State) → ((d : Record) → IsSound d → IsSound (f d)) →
    EachRecord (λ k d. IsSound d) m → EachRecord (λ k d. IsSound d) (settled (bodies key f touches test m))
sound-bodies key f touches test m h s =
    sound-settled (bodies key f touches test m)
    (sound-each (λ k d. clear_record key test d) (lost key touches (change key f m)) (λ k d x. sound-clear_record key test d x)
    (sound-each (λ k d. lost_from key touches (link_to (change key f m) k) d) (change key f m) (λ k d x. sound-lost key touches (link_to (change key f m) k) d x)
    (sound-each (λ k d. if same k key then f d else d) m (λ k d x. changed (same k key) d x) s)))
  where
    changed : (b : Bool) (d : Record) → IsSound d → IsSound (if b then f d else d)
    changed true d x = h d x
    changed false d x = x

pub linked-settled : (m : State) → IsLinked m → IsLinked (settled m)
linked-settled m h =
    linked-each (λ k d. expire_record (tidied m) d) (λ k d r. expired_in (tidied m) r) (expire-keeps (tidied m)) (tidied m)
    (linked-each (λ k d. tidied_by (rule_into m k) d) (λ k d r. r) (tidied-keeps m) m h)

pub linked-bodies : (key : Key) (f : Record → Record) (g : Record → Rule → Rule) (touches : Rule → ℕ → Bool) (test : ℕ → Bool) (m : State) → KeepsRules f g →
    IsLinked m → IsLinked (settled (bodies key f touches test m))
linked-bodies key f g touches test m h l =
    linked-settled (bodies key f touches test m)
    (linked-each (λ k d. clear_record key test d) (λ k d r. cleared_to key test r) (clear-keeps key test) (lost key touches (change key f m))
    (linked-each (λ k d. lost_from key touches (link_to (change key f m) k) d) (λ k d r. r) (lost-keeps key touches (change key f m)) (change key f m)
    (linked-each (λ k d. if same k key then f d else d) (λ k d r. if same k key then g d r else r) (change-keeps key f g h) m l)))

-- ---- the links

-- the link to a key before settling: none where there was none, else its rule changed
pub link-bodies-none : (key : Key) (f : Record → Record) (g : Record → Rule → Rule) (touches : Rule → ℕ → Bool) (test : ℕ → Bool) (m : State) (k : Key) → KeepsRules f g →
    link_to m k ≡ None → link_to (bodies key f touches test m) k ≡ None
link-bodies-none key f g touches test m k h x =
    link-none (λ k d. clear_record key test d) (λ k d r. cleared_to key test r) (clear-keeps key test) k (lost key touches (change key f m))
    (link-none (λ k d. lost_from key touches (link_to (change key f m) k) d) (λ k d r. r) (lost-keeps key touches (change key f m)) k (change key f m)
    (link-none (λ k d. if same k key then f d else d) (λ k d r. if same k key then g d r else r) (change-keeps key f g h) k m x))

-- the link to a key after the change of the key's own record
pub link-changed : (key : Key) (f : Record → Record) (g : Record → Rule → Rule) (m : State) (k : Key) (l : Link) (s : Record) → KeepsRules f g →
    link_to m k ≡ Some l → get l.source m ≡ Some s →
    link_to (change key f m) k ≡ Some (record { source = l.source; rule = if same l.source key then g s l.rule else l.rule })
link-changed key f g m k l s h x y = link-some (λ k d. if same k key then f d else d) (λ k d r. if same k key then g d r else r) (change-keeps key f g h) k m l s x y

pub link-bodies-some : (key : Key) (f : Record → Record) (g : Record → Rule → Rule) (touches : Rule → ℕ → Bool) (test : ℕ → Bool) (m : State) (k : Key) (l : Link) (s : Record) → KeepsRules f g →
    link_to m k ≡ Some l → get l.source m ≡ Some s →
    link_to (bodies key f touches test m) k ≡ Some (record { source = l.source; rule = cleared_to key test (if same l.source key then g s l.rule else l.rule) })
link-bodies-some key f g touches test m k l s h x y =
    link-some (λ k d. clear_record key test d) (λ k d r. cleared_to key test r) (clear-keeps key test) k (lost key touches (change key f m)) l' (lost_from key touches (link_to (change key f m) l.source) s')
    (link-some (λ k d. lost_from key touches (link_to (change key f m) k) d) (λ k d r. r) (lost-keeps key touches (change key f m)) k (change key f m) l' s' (link-changed key f g m k l s h x y) there)
    (get-to (λ k d. lost_from key touches (link_to (change key f m) k) d) l.source (change key f m) s' there)
  where
    l' : Link
    l' = record { source = l.source; rule = if same l.source key then g s l.rule else l.rule }

    s' : Record
    s' = if same l.source key then f s else s

    there : get l.source (change key f m) ≡ Some (if same l.source key then f s else s)
    there = get-change m key l.source f ∙ ap (option_map (λ d. if same l.source key then f d else d)) y

-- ---- the records

-- the record of a key before settling
abbrev pub body : Key → (Record → Record) → (Rule → ℕ → Bool) → (ℕ → Bool) → State → Key → Record → Record
body key f touches test m k d = clear_record key test (lost_from key touches (link_to (change key f m) k) (if same k key then f d else d))

pub get-bodies : (key : Key) (f : Record → Record) (touches : Rule → ℕ → Bool) (test : ℕ → Bool) (m : State) (k : Key) →
    get k (bodies key f touches test m) ≡ option_map (body key f touches test m k) (get k m)
get-bodies key f touches test m k =
    get-each (λ k d. clear_record key test d) k (lost key touches (change key f m))
    ∙ ap (option_map (clear_record key test))
    (get-each (λ k d. lost_from key touches (link_to (change key f m) k) d) k (change key f m)
    ∙ ap (option_map (lost_from key touches (link_to (change key f m) k))) (get-change m key k f))
    ∙ go (get k m)
  where
    go : (o : Option Record) → option_map (clear_record key test) (option_map (lost_from key touches (link_to (change key f m) k)) (option_map (λ d. if same k key then f d else d) o)) ≡ option_map (body key f touches test m k) o
    go None = refl
    go (Some d) = refl

-- ---- keys that are neither the written one nor one of its destinations

-- no rule of the key leads to this one
pub record IsElsewhere (m : State) (key k : Key) : Type 0 where
  pub other : same k key ≡ false
  pub linked : (l : Link) → link_to m k ≡ Some l → same l.source key ≡ false

-- such a link stays as it is
pub link-elsewhere : (key : Key) (f : Record → Record) (g : Record → Rule → Rule) (touches : Rule → ℕ → Bool) (test : ℕ → Bool) (m : State) (k : Key) → KeepsRules f g → IsElsewhere m key k →
    link_to (bodies key f touches test m) k ≡ link_to m k
link-elsewhere key f g touches test m k h e = go (link_to m k) refl
  where
    go : (o : Option Link) → link_to m k ≡ o → link_to (bodies key f touches test m) k ≡ o
    go None x = link-bodies-none key f g touches test m k h x
    go (Some l) x =
        let from : Found m.entries k l = link-found m k l x in
        link-bodies-some key f g touches test m k l from.record_of h x from.there
        ∙ ap (λ (b : Bool). Some (record { source = l.source; rule = cleared_to key test (if b then g from.record_of l.rule else l.rule) })) (e.linked l x)
        ∙ ap (λ (r : Rule). Some (record { source = l.source; rule = r }))
        (cleared-elsewhere key test l.rule (ap (λ (j : Key). same j key) (link-dest m k l x) ∙ e.other))

-- only rules of its record may change
pub body-elsewhere : (key : Key) (f : Record → Record) (g : Record → Rule → Rule) (touches : Rule → ℕ → Bool) (test : ℕ → Bool) (m : State) (k : Key) (d : Record) → KeepsRules f g → IsElsewhere m key k →
    body key f touches test m k d ≡ clear_record key test d
body-elsewhere key f g touches test m k d h e =
    ap (λ (b : Bool). clear_record key test (lost_from key touches (link_to (change key f m) k) (if b then f d else d))) e.other
    ∙ ap (clear_record key test) (go (link_to m k) refl)
  where
    go : (o : Option Link) → link_to m k ≡ o → lost_from key touches (link_to (change key f m) k) d ≡ d
    go None x = ap (λ (l : Option Link). lost_from key touches l d) (link-none (λ k d. if same k key then f d else d) (λ k d r. if same k key then g d r else r) (change-keeps key f g h) k m x) ∙ lost-unlinked key touches d
    go (Some l) x =
        let from : Found m.entries k l = link-found m k l x in
        ap (λ (q : Option Link). lost_from key touches q d) (link-changed key f g m k l from.record_of h x from.there)
        ∙ lost-elsewhere key touches (record { source = l.source; rule = if same l.source key then g from.record_of l.rule else l.rule }) d (e.linked l x)

-- the same record but for its rules
pub record SameButRules (d e : Record) : Type 0 where
  pub options : d.options ≡ e.options
  pub labels : d.labels ≡ e.labels
  pub plain : d.plain ≡ e.plain
  pub high : d.high ≡ e.high
  pub born : d.born ≡ e.born

pub shown-alike : (o : Option Rule) (d e : Record) → SameButRules d e → shown_by o d ≡ shown_by o e
shown-alike None d e h = h.plain
shown-alike (Some r) d e h = λ i. shown_by (Some r) (record { options = h.options i; labels = h.labels i; plain = h.plain i; high = h.high i; born = h.born i; rules = d.rules })
