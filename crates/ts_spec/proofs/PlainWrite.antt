-- A command on a series without rules and without a source changes only that series.
use Rattle.std.proofs.Common.{◌≡◌, ℕ, ℤ, Bool, true, false, cond, not, ◌&&◌, ◌==◌, nat_le, if◌then◌else◌, List, [], ◌∷◌, map, Option, Some, None, option_map, refl, sym, ap, ◌∙◌, subst}
use Rattle.std.proofs.Math.Bool.{and-true}
use Rattle.std.proofs.lemmas.Bool.{and_parts}
use Rattle.ts_spec.specs.Sample.{is_within, Point, at_times, outside, between, put}
use Rattle.ts_spec.specs.Key.{Key, same}
use Rattle.ts_spec.specs.Keyed.{get, with_key}
use Rattle.ts_spec.specs.State.{Rule, Record, State, Link, link_to, rule_into, change, edge, edge_of}
use Rattle.ts_spec.specs.Rules.{plain_at, meets, deleted, risen_by, is_row_by, raised, sample_for, with_sample, counted, without, recounted, lost_from, lost, cleared_to, clear_record, clear_into, write_touches, high_at, tidied_by, edge_at, expired, expired_in, expire_record, tidied, settled, written}
use Rattle.ts_spec.proofs.Keys.{same-true, same-refl, same-sym}
use Rattle.ts_spec.proofs.Maps.{get-each, get-with, maps-same}
use Rattle.ts_spec.proofs.Links.{Found, link-found, link-none, link-some}
use Rattle.ts_spec.specs.Command.{Change}
use Rattle.ts_spec.specs.Step.{altered}
use Rattle.ts_spec.proofs.Settles.{stays, times-within, settled_record, get-settled, get-tidied}
use Rattle.ts_spec.proofs.Tidy.{tidied-settled, record-tidy, record-expired, KeepsRules, map-id-rules, change-keeps, link-not-from}
use Rattle.ts_spec.proofs.Unmoved.{cleared-elsewhere, leads-elsewhere, lost-elsewhere, lost-unlinked, map-kept, map-same, no-link-no-rule, times-same}

-- ---- a change of a series without rules or source

-- the record without the samples before its edge
abbrev pub kept : Record → Record
kept d = record d { plain = at_times (nat_le (edge d)) d.plain }

-- the key's record, of a settled state, has no rules, and no rule writes to it
pub record IsPlain (m : State) (key : Key) (d : Record) : Type 0 where
  pub settled : settled m ≡ m
  pub there : get key m ≡ Some d
  pub no_rules : d.rules ≡ []
  pub no_source : link_to m key ≡ None

unlinked-change : (m : State) (key : Key) (d : Record) (f : Record → Record) (g : Record → Rule → Rule) → IsPlain m key d → KeepsRules f g → link_to (change key f m) key ≡ None
unlinked-change m key d f g h s = link-none (λ k d. if same k key then f d else d) (λ k d r. if same k key then g d r else r) (change-keeps key f g s) key m h.no_source

-- links to other keys stay
links-stay : (m : State) (key : Key) (d : Record) (f : Record → Record) (g : Record → Rule → Rule) → IsPlain m key d → KeepsRules f g → (k : Key) → link_to (change key f m) k ≡ link_to m k
links-stay m key d f g h s k = go (link_to m k) refl
  where
    go : (o : Option Link) → link_to m k ≡ o → link_to (change key f m) k ≡ o
    go None x = link-none (λ k d. if same k key then f d else d) (λ k d r. if same k key then g d r else r) (change-keeps key f g s) k m x
    go (Some l) x =
        let from : Found m.entries k l = link-found m k l x in
        let other : same l.source key ≡ false = link-not-from m k l key d h.there h.no_rules x in
        link-some (λ k d. if same k key then f d else d) (λ k d r. if same k key then g d r else r) (change-keeps key f g s) k m l from.record_of x from.there
        ∙ ap (λ (b : Bool). Some (record { source = l.source; rule = if b then g from.record_of l.rule else l.rule })) other

rules-stay : (m : State) (key : Key) (d : Record) (f : Record → Record) (g : Record → Rule → Rule) → IsPlain m key d → KeepsRules f g → (k : Key) → rule_into (change key f m) k ≡ rule_into m k
rules-stay m key d f g h s k = ap (option_map (λ (l : Link). l.rule)) (links-stay m key d f g h s k)

pub get-change : (m : State) (key k : Key) (f : Record → Record) → get k (change key f m) ≡ option_map (λ d. if same k key then f d else d) (get k m)
get-change m key k f = get-each (λ k d. if same k key then f d else d) k m

-- the records of other keys stay
pub others-stay : (m : State) (key k : Key) (f : Record → Record) → same k key ≡ false → get k (change key f m) ≡ get k m
others-stay m key k f h = get-change m key k f ∙ ap (λ (b : Bool). option_map (λ (d : Record). if b then f d else d) (get k m)) h ∙ same-option (get k m)
  where
    same-option : (o : Option Record) → option_map (λ d. d) o ≡ o
    same-option None = refl
    same-option (Some d) = refl

others-tidy : (m : State) (key : Key) (d : Record) (f : Record → Record) (g : Record → Rule → Rule) → IsPlain m key d → KeepsRules f g → (k : Key) → same k key ≡ false → get k (tidied (change key f m)) ≡ get k m
others-tidy m key d f g h s k other =
    get-tidied (change key f m) k
    ∙ ap (λ (o : Option Rule). option_map (tidied_by o) (get k (change key f m))) (rules-stay m key d f g h s k)
    ∙ ap (option_map (tidied_by (rule_into m k))) (others-stay m key k f other)
    ∙ sym (get-tidied m k)
    ∙ ap (get k) (tidied-settled m h.settled)

-- A change of a plain series changes nothing else.
pub settled-change : (m : State) (key : Key) (d : Record) (f : Record → Record) (g : Record → Rule → Rule) → IsPlain m key d → KeepsRules f g →
    settled (change key f m) ≡ with_key key (kept (f d)) m
settled-change m key d f g h s = maps-same (settled (change key f m)) (with_key key (kept (f d)) m) (λ k. go k (same k key) refl)
  where
    none : (f d).rules ≡ []
    none = s.rules d ∙ ap (map (g d)) h.no_rules

    here : settled_record (change key f m) key (f d) ≡ kept (f d)
    here =
        let rules : map (expired_in (tidied (change key f m))) (f d).rules ≡ (f d).rules = ap (map (expired_in (tidied (change key f m)))) none ∙ sym none in
        let plain : at_times (λ t. nat_le (edge (f d)) t && true) (f d).plain ≡ at_times (nat_le (edge (f d))) (f d).plain =
        times-same (λ t. nat_le (edge (f d)) t && true) (nat_le (edge (f d))) (f d).plain (λ t. and-true (nat_le (edge (f d)) t)) in
        ap (λ (o : Option Rule). expire_record (tidied (change key f m)) (tidied_by o (f d))) (ap (option_map (λ (l : Link). l.rule)) (unlinked-change m key d f g h s))
        ∙ (λ i. record (f d) { plain = plain i; rules = rules i })

    there : (k : Key) (e : Record) → get k m ≡ Some e → same k key ≡ false → settled_record (change key f m) k e ≡ e
    there k e x other =
        ap (λ (o : Option Rule). expire_record (tidied (change key f m)) (tidied_by o e)) (rules-stay m key d f g h s k)
        ∙ ap (expire_record (tidied (change key f m))) (record-tidy m k e h.settled x)
        ∙ (let rules : map (expired_in (tidied (change key f m))) e.rules ≡ map (expired_in m) e.rules =
        map-same (expired_in (tidied (change key f m))) (expired_in m) (λ r. same r.dest key ≡ false) e.rules
        (λ r o. ap (λ (q : Option Record). expired (edge_at q) r) (others-tidy m key d f g h s r.dest o))
        (leads-elsewhere key e.rules (no-link-no-rule m k key e h.no_source x)) in
        λ i. record e { rules = rules i })
        ∙ record-expired m k e h.settled x

    there-all : (k : Key) (o : Option Record) → get k m ≡ o → same k key ≡ false → option_map (settled_record (change key f m) k) o ≡ o
    there-all k None x other = refl
    there-all k (Some e) x other = ap (λ (q : Record). Some q) (there k e x other)

    go : (k : Key) (b : Bool) → same k key ≡ b → get k (settled (change key f m)) ≡ get k (with_key key (kept (f d)) m)
    go k true x =
        subst (λ (j : Key). get j (settled (change key f m)) ≡ get j (with_key key (kept (f d)) m)) (sym (same-true k key x))
        (get-settled (change key f m) key
        ∙ ap (option_map (settled_record (change key f m) key)) (get-change m key key f ∙ ap (option_map (λ c. if same key key then f c else c)) h.there ∙ ap (λ (b : Bool). Some (if b then f d else d)) (same-refl key))
        ∙ ap (λ (q : Record). Some q) here
        ∙ ap (λ (b : Bool). if b then Some (kept (f d)) else get key m) (sym (same-refl key))
        ∙ sym (get-with key key (kept (f d)) m))
    go k false x =
        get-settled (change key f m) k
        ∙ ap (option_map (settled_record (change key f m) k)) (others-stay m key k f x)
        ∙ there-all k (get k m) refl x
        ∙ ap (λ (b : Bool). if b then Some (kept (f d)) else get k m) (sym (same-sym key k ∙ x))
        ∙ sym (get-with k key (kept (f d)) m)

-- and nothing was lost or cleared
pub cleared-nothing : (m : State) (key : Key) (d : Record) (f : Record → Record) (g : Record → Rule → Rule) (touches : Rule → ℕ → Bool) (test : ℕ → Bool) → IsPlain m key d → KeepsRules f g →
    clear_into key test (lost key touches (change key f m)) ≡ change key f m
cleared-nothing m key d f g touches test h s =
    maps-same (clear_into key test (lost key touches (change key f m))) (change key f m)
    (λ k. get-each (λ j c. clear_record key test c) k (lost key touches (change key f m))
    ∙ ap (option_map (clear_record key test)) (get-each (λ j c. lost_from key touches (link_to (change key f m) j) c) k (change key f m))
    ∙ go k (get k (change key f m)) refl)
  where
    there : get key (change key f m) ≡ Some (f d)
    there = get-change m key key f ∙ ap (option_map (λ c. if same key key then f c else c)) h.there ∙ ap (λ (b : Bool). Some (if b then f d else d)) (same-refl key)

    lost-nothing : (k : Key) (o : Option Link) (c : Record) → link_to (change key f m) k ≡ o → lost_from key touches o c ≡ c
    lost-nothing k None c x = lost-unlinked key touches c
    lost-nothing k (Some l) c x = lost-elsewhere key touches l c (link-not-from (change key f m) k l key (f d) there (s.rules d ∙ ap (map (g d)) h.no_rules) x)

    go : (k : Key) (o : Option Record) → get k (change key f m) ≡ o → option_map (clear_record key test) (option_map (lost_from key touches (link_to (change key f m) k)) o) ≡ o
    go k None x = refl
    go k (Some c) x =
        let rules : map (cleared_to key test) c.rules ≡ c.rules =
        map-kept (cleared_to key test) (λ r. same r.dest key ≡ false) c.rules (λ r o. cleared-elsewhere key test r o)
        (leads-elsewhere key c.rules (no-link-no-rule (change key f m) k key c (unlinked-change m key d f g h s) x)) in
        ap (λ (q : Record). Some (clear_record key test q)) (lost-nothing k (link_to (change key f m) k) c refl) ∙ (λ i. Some (record c { rules = rules i }))

-- ---- the laws

pub sample-keeps : (t : ℕ) (v : ℤ) → KeepsRules (with_sample t v) (λ d r. counted (sample_for t v d) d.high (put (sample_for t v d) d.plain) r)
sample-keeps t v = record { rules = λ d. refl; dest = λ d r. refl }

pub deletion-keeps : (from to : ℕ) → KeepsRules (without from to) (λ d r. recounted (between from to d.plain) (outside from to d.plain) r)
deletion-keeps from to = record { rules = λ d. refl; dest = λ d r. refl }

-- the record after a plain write
abbrev pub plainly_written : (time : ℕ) (value : ℤ) → Record → Record
plainly_written t v d = record d {
  plain = at_times (nat_le (edge_of d.options.retention (raised t d.high))) (put (sample_for t v d) d.plain);
  high = raised t d.high;
}

kept-sample : (t : ℕ) (v : ℤ) (d : Record) → d.rules ≡ [] → kept (with_sample t v d) ≡ plainly_written t v d
kept-sample t v d h =
    let rules : map (counted (sample_for t v d) d.high (put (sample_for t v d) d.plain)) d.rules ≡ d.rules = ap (map (counted (sample_for t v d) d.high (put (sample_for t v d) d.plain))) h ∙ sym h in
    λ i. record (plainly_written t v d) { rules = rules i }

-- A write to a series without rules or source is a plain write.
pub plain-written : (m : State) (key : Key) (d : Record) (t : ℕ) (v : ℤ) → IsPlain m key d → written key t v m ≡ with_key key (plainly_written t v d) m
plain-written m key d t v h =
    ap settled (cleared-nothing m key d (with_sample t v) (λ d r. counted (sample_for t v d) d.high (put (sample_for t v d) d.plain) r) (write_touches t (high_at (get key m))) (λ b. b == t) h (sample-keeps t v))
    ∙ settled-change m key d (with_sample t v) (λ d r. counted (sample_for t v d) d.high (put (sample_for t v d) d.plain) r) h (sample-keeps t v)
    ∙ ap (λ (q : Record). with_key key q m) (kept-sample t v d h.no_rules)

pub times-swap : (a b : ℕ → Bool) (ps : List Point) → at_times a (at_times b ps) ≡ at_times b (at_times a ps)
times-swap a b [] = refl
times-swap a b (p ∷ ps) = go (a p.time) (b p.time) refl refl (times-swap a b ps)
  where
    go : (x y : Bool) → a p.time ≡ x → b p.time ≡ y → at_times a (at_times b ps) ≡ at_times b (at_times a ps) →
        at_times a (cond y (p ∷ at_times b ps) (at_times b ps)) ≡ at_times b (cond x (p ∷ at_times a ps) (at_times a ps))
    go true true e f ih = rw (e, f, ih) refl
    go true false e f ih = rw f ih
    go false true e f ih = rw e ih
    go false false e f ih = ih

-- no sample of a settled series is before its edge
pub own-kept : (m : State) (k : Key) (d : Record) → settled m ≡ m → get k m ≡ Some d → at_times (nat_le (edge d)) d.plain ≡ d.plain
own-kept m k d h e =
    let tidy : tidied_by (rule_into m k) d ≡ d = record-tidy m k d h e in
    let plain : at_times (stays (edge (risen_by (rule_into m k) d)) (rule_into m k)) d.plain ≡ d.plain = ap (λ (y : Record). y.plain) tidy in
    let low : edge (risen_by (rule_into m k) d) ≡ edge d = ap edge tidy in
    ap (at_times (nat_le (edge d))) (sym plain)
    ∙ times-within (nat_le (edge d)) (stays (edge (risen_by (rule_into m k) d)) (rule_into m k)) d.plain
    (λ t x. ap (λ (y : ℕ). nat_le y t) (sym low) ∙ (and_parts (nat_le (edge (risen_by (rule_into m k) d)) t) (not (is_row_by (rule_into m k) t)) x).0)
    ∙ plain

-- the record after a plain deletion
abbrev pub plainly_deleted : (from to : ℕ) → Record → Record
plainly_deleted from to d = record d { plain = outside from to d.plain }

-- A deletion on a series without rules or source is a plain deletion.
pub plain-deleted : (m : State) (key : Key) (d : Record) (from to : ℕ) → IsPlain m key d → deleted key from to m ≡ with_key key (plainly_deleted from to d) m
plain-deleted m key d from to h =
    ap settled (cleared-nothing m key d (without from to) (λ d r. recounted (between from to d.plain) (outside from to d.plain) r) (meets (between from to (plain_at (get key m)))) (is_within from to) h (deletion-keeps from to))
    ∙ settled-change m key d (without from to) (λ d r. recounted (between from to d.plain) (outside from to d.plain) r) h (deletion-keeps from to)
    ∙ ap (λ (q : Record). with_key key q m) same
  where
    same : kept (without from to d) ≡ plainly_deleted from to d
    same =
        let rules : map (recounted (between from to d.plain) (outside from to d.plain)) d.rules ≡ d.rules = ap (map (recounted (between from to d.plain) (outside from to d.plain))) h.no_rules ∙ sym h.no_rules in
        let plain : at_times (nat_le (edge d)) (outside from to d.plain) ≡ outside from to d.plain =
        times-swap (nat_le (edge d)) (λ t. not (is_within from to t)) d.plain ∙ ap (outside from to) (own-kept m key d h.settled h.there) in
        λ i. record d { plain = plain i; rules = rules i }

-- New options of such a series take away the samples before its new edge.
pub plain-altered : (m : State) (key : Key) (d : Record) (c : Change) → IsPlain m key d → settled (change key (altered c) m) ≡ with_key key (kept (altered c d)) m
plain-altered m key d c h = settled-change m key d (altered c) (λ d r. r) h (record { rules = λ d. map-id-rules d.rules; dest = λ d r. refl })
