-- A write and a deletion keep a state valid.
use Rattle.std.proofs.Common.{◌≡◌, ℕ, suc, ℤ, ◌≤◌, Bool, true, false, ◌==◌, if◌then◌else◌, List, [], ◌∷◌, map, length, Option, Some, None, option_map, refl, sym, ap, ◌∙◌, subst}
use Rattle.ts_spec.specs.declared.limits.Limits.{Limits}
use Rattle.ts_spec.specs.Sample.{Point, is_within, put, between, outside}
use Rattle.ts_spec.specs.Key.{Key, same}
use Rattle.ts_spec.specs.Keyed.{get, count_keys}
use Rattle.ts_spec.specs.State.{Rule, Record, State, Link, rule_to, link_to, rule_into, change, edge}
use Rattle.ts_spec.specs.Rules.{sample_for, counted, with_sample, recounted, without, lost_from, lost, cleared_to, clear_record, write_touches, meets, high_at, plain_at, tidied_by, edge_at, expired, expired_in, expire_record, tidied, settled, shown, shown_at, shown_by, written, deleted}
use Rattle.ts_spec.specs.Valid.{EachRule, IsSound, IsWithin, IsValid}
use Rattle.ts_spec.proofs.Keys.{same-true}
use Rattle.ts_spec.proofs.Maps.{count-each}
use Rattle.ts_spec.proofs.Links.{Found, link-found}
use Rattle.ts_spec.proofs.Linked.{From, mapped-from, each-rule-at, link-dest}
use Rattle.ts_spec.proofs.Settles.{settled_record, get-settled, get-tidied, rule-settled, settled-twice}
use Rattle.ts_spec.proofs.Tidy.{some-same, record-tidy, record-expired, KeepsRules}
use Rattle.ts_spec.proofs.PlainWrite.{sample-keeps, deletion-keeps}
use Rattle.ts_spec.proofs.SoundWrites.{sound-written, sound-without}
use Rattle.ts_spec.proofs.Bodies.{bodies, body, get-bodies, link-elsewhere, body-elsewhere, IsElsewhere, shown-alike, sound-bodies, linked-bodies}

-- ---- what a key shows

pub shown-there : (m : State) (k : Key) (d : Record) → get k m ≡ Some d → shown m k ≡ shown_by (rule_into m k) d
shown-there m k d e = ap (λ (o : Option Record). shown_at o (rule_into m k)) e

pub shown-missing : (m : State) (k : Key) → get k m ≡ None → shown m k ≡ []
shown-missing m k e = ap (λ (o : Option Record). shown_at o (rule_into m k)) e

pub first-same : (a b : Rule) (xs ys : List Rule) → a ∷ xs ≡ b ∷ ys → a ≡ b
first-same a b xs ys h = cc h

pub rest-same : (a b : Rule) (xs ys : List Rule) → a ∷ xs ≡ b ∷ ys → xs ≡ ys
rest-same a b xs ys h = cc h

-- the rule of a link, of a settled state, has no counted samples to expire
pub link-expired : (m : State) (k : Key) (l : Link) → settled m ≡ m → link_to m k ≡ Some l → expired_in m l.rule ≡ l.rule
link-expired m k l h x =
    let f : Found m.entries k l = link-found m k l x in
    each-rule-at (λ r. expired_in m r ≡ r) k f.record_of.rules l.rule f.rule
    (fixed f.record_of.rules (ap (λ (q : Record). q.rules) (record-expired m l.source f.record_of h f.there)))
  where
    fixed : (rs : List Rule) → map (expired_in m) rs ≡ rs → EachRule (λ r. expired_in m r ≡ r) rs
    fixed [] e = tt
    fixed (r ∷ rs) e = (first-same (expired_in m r) r (map (expired_in m) rs) rs e, fixed rs (rest-same (expired_in m r) r (map (expired_in m) rs) rs e))

-- ---- what other keys show stays

-- its edge stays
pub edge-elsewhere : (key : Key) (f : Record → Record) (g : Record → Rule → Rule) (touches : Rule → ℕ → Bool) (test : ℕ → Bool) (m : State) (k : Key) (d : Record) → KeepsRules f g → settled m ≡ m → IsElsewhere m key k → get k m ≡ Some d →
    edge_at (get k (tidied (bodies key f touches test m))) ≡ edge_at (get k m)
edge-elsewhere key f g touches test m k d h s e x =
    ap edge_at (get-tidied (bodies key f touches test m) k
    ∙ ap (option_map (tidied_by (rule_into (bodies key f touches test m) k))) (get-bodies key f touches test m k ∙ ap (option_map (body key f touches test m k)) x ∙ ap (λ (q : Record). Some q) (body-elsewhere key f g touches test m k d h e)))
    ∙ ap (λ (o : Option Rule). edge (tidied_by o d)) (ap (option_map (λ (l : Link). l.rule)) (link-elsewhere key f g touches test m k h e))
    ∙ ap edge (record-tidy m k d s x)
    ∙ ap edge_at (sym x)

-- and the rule that writes to it
pub rule-elsewhere : (key : Key) (f : Record → Record) (g : Record → Rule → Rule) (touches : Rule → ℕ → Bool) (test : ℕ → Bool) (m : State) (k : Key) (d : Record) → KeepsRules f g → settled m ≡ m → IsElsewhere m key k → get k m ≡ Some d →
    rule_into (settled (bodies key f touches test m)) k ≡ rule_into m k
rule-elsewhere key f g touches test m k d h s e x =
    rule-settled (bodies key f touches test m) k
    ∙ ap (option_map (expired_in (tidied (bodies key f touches test m)))) (ap (option_map (λ (l : Link). l.rule)) (link-elsewhere key f g touches test m k h e))
    ∙ unexpired (link_to m k) refl
  where
    unexpired : (o : Option Link) → link_to m k ≡ o → option_map (expired_in (tidied (bodies key f touches test m))) (option_map (λ (l : Link). l.rule) o) ≡ option_map (λ (l : Link). l.rule) o
    unexpired None y = refl
    unexpired (Some l) y =
        let dest : l.rule.dest ≡ k = link-dest m k l y in
        let same_edge : edge_at (get l.rule.dest (tidied (bodies key f touches test m))) ≡ edge_at (get l.rule.dest m) =
        subst (λ (j : Key). edge_at (get j (tidied (bodies key f touches test m))) ≡ edge_at (get j m)) (sym dest) (edge-elsewhere key f g touches test m k d h s e x) in
        ap (λ (q : Rule). Some q) (ap (λ (n : ℕ). expired n l.rule) same_edge ∙ link-expired m k l s y)

-- A command that writes to one key changes what is shown only at that key and its destinations.
pub shown-elsewhere : (key : Key) (f : Record → Record) (g : Record → Rule → Rule) (touches : Rule → ℕ → Bool) (test : ℕ → Bool) (m : State) (k : Key) → KeepsRules f g → settled m ≡ m → IsElsewhere m key k →
    shown (settled (bodies key f touches test m)) k ≡ shown m k
shown-elsewhere key f g touches test m k h s e = go (get k m) refl
  where
    there : (d : Record) → get k m ≡ Some d → get k (bodies key f touches test m) ≡ Some (clear_record key test d)
    there d x = get-bodies key f touches test m k ∙ ap (option_map (body key f touches test m k)) x ∙ ap (λ (q : Record). Some q) (body-elsewhere key f g touches test m k d h e)

    go : (o : Option Record) → get k m ≡ o → shown (settled (bodies key f touches test m)) k ≡ shown m k
    go None x =
        shown-missing (settled (bodies key f touches test m)) k
        (get-settled (bodies key f touches test m) k ∙ ap (option_map (settled_record (bodies key f touches test m) k)) (get-bodies key f touches test m k ∙ ap (option_map (body key f touches test m k)) x))
        ∙ sym (shown-missing m k x)
    go (Some d) x =
        shown-there (settled (bodies key f touches test m)) k (settled_record (bodies key f touches test m) k (clear_record key test d))
        (get-settled (bodies key f touches test m) k ∙ ap (option_map (settled_record (bodies key f touches test m) k)) (there d x))
        ∙ ap (λ (o : Option Rule). shown_by o (settled_record (bodies key f touches test m) k (clear_record key test d))) (rule-elsewhere key f g touches test m k d h s e x)
        ∙ ap (λ (o : Option Rule). shown_by (rule_into m k) (expire_record (tidied (bodies key f touches test m)) (tidied_by o (clear_record key test d)))) (ap (option_map (λ (l : Link). l.rule)) (link-elsewhere key f g touches test m k h e))
        ∙ shown-alike (rule_into m k) (expire_record (tidied (bodies key f touches test m)) (tidied_by (rule_into m k) (clear_record key test d))) (tidied_by (rule_into m k) d) (record { options = refl; labels = refl; plain = refl; high = refl; born = refl })
        ∙ ap (shown_by (rule_into m k)) (record-tidy m k d s x)
        ∙ sym (shown-there m k d x)

-- the role of a key in a command: the written key, a destination of it, or another key
pub data Place (m : State) (key k : Key) : Type 0 where
  Here : same k key ≡ true → Place m key k
  Destination : (l : Link) → link_to m k ≡ Some l → same l.source key ≡ true → Place m key k
  Elsewhere : IsElsewhere m key k → Place m key k

pub place-of : (m : State) (key k : Key) → Place m key k
place-of m key k = go (same k key) refl (link_to m k) refl
  where
    go : (b : Bool) → same k key ≡ b → (o : Option Link) → link_to m k ≡ o → Place m key k
    go true x o y = Here x
    go false x None y = Elsewhere (record { other = x; linked = λ l z. absurd (no-link l (sym y ∙ z)) })
      where
        no-link : (l : Link) → None ≡ Some l → ⊥
        no-link l z = cc z
    go false x (Some l) y = linked (same l.source key) refl
      where
        linked : (c : Bool) → same l.source key ≡ c → Place m key k
        linked true z = Destination l y z
        linked false z = Elsewhere (record { other = x; linked = λ q w. ap (λ (j : Link). same j.source key) (some-same q l (sym w ∙ y)) ∙ z })

-- ---- the limits

-- f leaves the labels within the limit, and the number of rules ever made
pub record KeepsLimits (limits : Limits) (f : Record → Record) : Type 0 where
  pub labels : (d : Record) → length d.labels ≤ limits.labels → length (f d).labels ≤ limits.labels
  pub born : (d : Record) → (f d).born ≡ d.born

length-map : (g : Rule → Rule) (rs : List Rule) → length (map g rs) ≡ length rs
length-map g [] = refl
length-map g (r ∷ rs) = ap suc (length-map g rs)

-- A command on a key keeps the state valid, if the key and its destinations stay within the limit on samples.
pub valid-bodies : (limits : Limits) (m : State) (key : Key) (d : Record) (f : Record → Record) (g : Record → Rule → Rule) (touches : Rule → ℕ → Bool) (test : ℕ → Bool) →
    KeepsRules f g → KeepsLimits limits f → ((c : Record) → IsSound c → IsSound (f c)) → IsValid limits m → get key m ≡ Some d →
    length (shown (settled (bodies key f touches test m)) key) ≤ limits.samples →
    EachRule (λ r. length (shown (settled (bodies key f touches test m)) r.dest) ≤ limits.samples) d.rules →
    IsValid limits (settled (bodies key f touches test m))
valid-bodies limits m key d f g touches test h keeps sound v there own dests = record {
  sound = sound-bodies key f touches test m sound v.sound;
  linked = linked-bodies key f g touches test m h v.linked;
  settled = settled-twice (bodies key f touches test m);
  keys = subst (λ (n : ℕ). n ≤ limits.keys) (sym count) v.keys;
  within = λ k e x. within k e x;
}
  where
    count : count_keys (settled (bodies key f touches test m)) ≡ count_keys m
    count =
        count-each (λ k c. expire_record (tidied (bodies key f touches test m)) c) (tidied (bodies key f touches test m))
        ∙ count-each (λ k c. tidied_by (rule_into (bodies key f touches test m) k) c) (bodies key f touches test m)
        ∙ count-each (λ k c. clear_record key test c) (lost key touches (change key f m))
        ∙ count-each (λ k c. lost_from key touches (link_to (change key f m) k) c) (change key f m)
        ∙ count-each (λ k c. if same k key then f c else c) m

    samples : (k : Key) (c : Record) → get k m ≡ Some c → Place m key k → length (shown (settled (bodies key f touches test m)) k) ≤ limits.samples
    samples k c x (Here y) = subst (λ (j : Key). length (shown (settled (bodies key f touches test m)) j) ≤ limits.samples) (sym (same-true k key y)) own
    samples k c x (Destination l y z) =
        let from : Found m.entries k l = link-found m k l y in
        let eq : from.record_of ≡ d = some-same from.record_of d (sym from.there ∙ ap (λ (j : Key). get j m) (same-true l.source key z) ∙ there) in
        let rule : rule_to k d.rules ≡ Some l.rule = ap (λ (q : Record). rule_to k q.rules) (sym eq) ∙ from.rule in
        subst (λ (j : Key). length (shown (settled (bodies key f touches test m)) j) ≤ limits.samples) (link-dest m k l y)
        (each-rule-at (λ r. length (shown (settled (bodies key f touches test m)) r.dest) ≤ limits.samples) k d.rules l.rule rule dests)
    samples k c x (Elsewhere y) =
        subst (λ (ps : List Point). length ps ≤ limits.samples) (sym (shown-elsewhere key f g touches test m k h v.settled y)) (v.within k c x).samples

    labels : (b : Bool) (c : Record) → length c.labels ≤ limits.labels → length (if b then f c else c).labels ≤ limits.labels
    labels true c x = keeps.labels c x
    labels false c x = x

    born : (b : Bool) (c : Record) → (if b then f c else c).born ≡ c.born
    born true c = keeps.born c
    born false c = refl

    rules : (b : Bool) (c : Record) → length (if b then f c else c).rules ≡ length c.rules
    rules true c = ap length (h.rules c) ∙ length-map (g c) c.rules
    rules false c = refl

    within : (k : Key) (e : Record) → get k (settled (bodies key f touches test m)) ≡ Some e → IsWithin limits (settled (bodies key f touches test m)) k e
    within k e x =
        let outer : From (settled_record (bodies key f touches test m) k) (get k (bodies key f touches test m)) e = mapped-from (settled_record (bodies key f touches test m) k) (get k (bodies key f touches test m)) e (sym (get-settled (bodies key f touches test m) k) ∙ x) in
        let inner : From (body key f touches test m k) (get k m) outer.value = mapped-from (body key f touches test m k) (get k m) outer.value (sym (get-bodies key f touches test m k) ∙ outer.is) in
        let old : IsWithin limits m k inner.value = v.within k inner.value inner.is in
        let all : settled_record (bodies key f touches test m) k (body key f touches test m k inner.value) ≡ e = ap (settled_record (bodies key f touches test m) k) inner.gives ∙ outer.gives in
        subst (IsWithin limits (settled (bodies key f touches test m)) k) all (record {
          labels = labels (same k key) inner.value old.labels;
          rules = subst (λ (n : ℕ). n ≤ limits.rules) (sym (length-map (expired_in (tidied (bodies key f touches test m))) (body key f touches test m k inner.value).rules ∙ length-map (cleared_to key test) (if same k key then f inner.value else inner.value).rules ∙ rules (same k key) inner.value)) old.rules;
          born = subst (λ (n : ℕ). n ≤ limits.born) (sym (born (same k key) inner.value)) old.born;
          samples = samples k inner.value inner.is (place-of m key k);
        })

-- A write keeps the state valid, if the key and its destinations stay within the limit on samples.
pub valid-written : (limits : Limits) (m : State) (key : Key) (d : Record) (t : ℕ) (v : ℤ) → IsValid limits m → get key m ≡ Some d →
    length (shown (written key t v m) key) ≤ limits.samples → EachRule (λ r. length (shown (written key t v m) r.dest) ≤ limits.samples) d.rules →
    IsValid limits (written key t v m)
valid-written limits m key d t v h there own dests =
    valid-bodies limits m key d (with_sample t v) (λ c r. counted (sample_for t v c) c.high (put (sample_for t v c) c.plain) r) (write_touches t (high_at (get key m))) (λ b. b == t)
    (sample-keeps t v) (record { labels = λ c x. x; born = λ c. refl }) (λ c x. sound-written t v c x) h there own dests

-- A deletion keeps the state valid, if the key and its destinations stay within the limit on samples.
pub valid-deleted : (limits : Limits) (m : State) (key : Key) (d : Record) (from to : ℕ) → IsValid limits m → get key m ≡ Some d →
    length (shown (deleted key from to m) key) ≤ limits.samples → EachRule (λ r. length (shown (deleted key from to m) r.dest) ≤ limits.samples) d.rules →
    IsValid limits (deleted key from to m)
valid-deleted limits m key d from to h there own dests =
    valid-bodies limits m key d (without from to) (λ c r. recounted (between from to c.plain) (outside from to c.plain) r) (meets (between from to (plain_at (get key m)))) (is_within from to)
    (deletion-keeps from to) (record { labels = λ c x. x; born = λ c. refl }) (λ c x. sound-without from to c x) h there own dests
