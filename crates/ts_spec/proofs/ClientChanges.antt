-- What a key shows after a client writes to it or deletes from it, and what a destination shows after a command on
-- its source.
use Rattle.std.proofs.Common.{◌≡◌, ℕ, ℤ, ◌≤◌, Bool, true, false, not, ◌&&◌, ◌==◌, nat_le, if◌then◌else◌, List, map, length, Option, Some, None, option_map, refl, sym, ap, ◌∙◌, subst, arith, eqb-true, eq-eqb, ne_eqb, leb-true, le-leb, zero, suc}
use Rattle.std.specs.Option.{option_or}
use Rattle.std.proofs.lemmas.Bool.{false≢true}
use Rattle.ts_spec.specs.declared.limits.Limits.{Limits}
use Rattle.ts_spec.specs.Sample.{Point, IsAscending, at, at_times, between, outside, is_within, put}
use Rattle.ts_spec.specs.Key.{Key, same}
use Rattle.ts_spec.specs.Keyed.{get}
use Rattle.ts_spec.specs.State.{Rule, Record, State, Link, link_to, rule_into, edge, edge_of}
use Rattle.ts_spec.specs.Rules.{tidied, has_row_of, is_row_by, bucket_sample, shown, shown_by, cleared_to, risen_by, tidied_by, expired, edge_at, raised, sample_for, counted, with_sample, without, recounted, write_touches, meets, high_at, plain_at, lost_by, lost_from, settled, written, deleted}
use Rattle.ts_spec.specs.Valid.{EachRule, EachRecord, IsUpTo, IsSound, IsValid}
use Rattle.ts_spec.proofs.Keys.{same-refl}
use Rattle.ts_spec.proofs.Samples.{at-times, at-put, ascending-times, ascending-put, ascending-same}
use Rattle.ts_spec.proofs.Linked.{link-dest}
use Rattle.ts_spec.proofs.Shows.{at-shown, ascending-shown}
use Rattle.ts_spec.proofs.Settles.{stays, rule-settled, upto-raised}
use Rattle.ts_spec.proofs.Tidy.{high-tidy}
use Rattle.ts_spec.proofs.PlainWrite.{times-swap, own-kept, sample-keeps, deletion-keeps}
use Rattle.ts_spec.proofs.SoundWrites.{sound-written, sound-without}
use Rattle.ts_spec.proofs.Bodies.{sound-bodies, bodies, link-bodies-none}
use Rattle.ts_spec.proofs.Keeps.{shown-missing, shown-there, valid-deleted}
use Rattle.ts_spec.proofs.Exact.{IsDone, source-after, own-after, own-rule-after, dest-after, dest-rule-after}
use Rattle.ts_spec.proofs.ShownAfter.{tells, tells-expired, shown-tidied, length-times}

-- ---- the command on a key, in general

-- without a rule that writes to the key: its own samples from the edge on
pub shown-source : (m : State) (key : Key) (d : Record) (f : Record → Record) (g : Record → Rule → Rule) (touches : Rule → ℕ → Bool) (test : ℕ → Bool) → IsDone m key d f g → link_to m key ≡ None →
    shown (settled (bodies key f touches test m)) key ≡ at_times (nat_le (edge (f d))) (f d).plain
shown-source m key d f g touches test h x =
    shown-there (settled (bodies key f touches test m)) key (record (f d) { plain = at_times (nat_le (edge (f d))) (f d).plain; rules = map (λ r. expired (edge_at (get r.dest (settled (bodies key f touches test m)))) r) (f d).rules })
    (source-after m key d f g touches test h x)
    ∙ ap (λ (o : Option Rule). shown_by o (record (f d) { plain = at_times (nat_le (edge (f d))) (f d).plain; rules = map (λ r. expired (edge_at (get r.dest (settled (bodies key f touches test m)))) r) (f d).rules }))
    (rule-settled (bodies key f touches test m) key
    ∙ ap (λ (o : Option Link). option_map (λ r. expired (edge_at (get r.dest (tidied (bodies key f touches test m)))) r) (option_map (λ (l : Link). l.rule) o)) (link-bodies-none key f g touches test m key h.keeps x))

-- with such a rule: at each time, the row of the rule if it is not cleared, or else the own sample
pub shown-own : (m : State) (key : Key) (d : Record) (f : Record → Record) (g : Record → Rule → Rule) (touches : Rule → ℕ → Bool) (test : ℕ → Bool) (l : Link) → IsDone m key d f g → link_to m key ≡ Some l →
    ((b : ℕ) → IsUpTo d.high b → IsUpTo (f d).high b) → (t : ℕ) →
    at t (shown (settled (bodies key f touches test m)) key) ≡ (if nat_le (edge (f d)) t then option_or (if test t then None else tells l.rule (f d).born t) (at t (f d).plain) else None)
shown-own m key d f g touches test l h x up t =
    ap (at t) (shown-there (settled (bodies key f touches test m)) key (tidied_by (Some (cleared_to key test l.rule)) (f d)) (own-after m key d f g touches test h l x)
    ∙ ap (λ (o : Option Rule). shown_by o (tidied_by (Some (cleared_to key test l.rule)) (f d))) (own-rule-after m key d f g touches test h l x)
    ∙ ap (λ (o : Option Record). shown_by (Some (expired (edge_at o) (cleared_to key test l.rule))) (tidied_by (Some (cleared_to key test l.rule)) (f d))) (own-after m key d f g touches test h l x))
    ∙ shown-tidied (λ b. same l.rule.dest key && test b) l.rule (f d) t
    (λ b y z. up b (high-tidy m key d b h.settled h.there (ap (λ (o : Option Link). is_row_by (option_map (λ (q : Link). q.rule) o) b) x ∙ y)))
    ∙ ap (λ (b : Bool). if nat_le (edge (f d)) t then option_or (if b && test t then None else tells l.rule (f d).born t) (at t (f d).plain) else None)
    (ap (λ (j : Key). same j key) (link-dest m key l x) ∙ same-refl key)

-- ---- a deletion

pub deletion-done : (limits : Limits) (m : State) (key : Key) (d : Record) (from to : ℕ) → IsValid limits m → get key m ≡ Some d →
    IsDone m key d (without from to) (λ c r. recounted (between from to c.plain) (outside from to c.plain) r)
deletion-done limits m key d from to v there = record { linked = v.linked; settled = v.settled; there = there; keeps = deletion-keeps from to }

-- what a key shows is ascending
pub ascending-key : (m : State) (key : Key) → EachRecord (λ k c. IsSound c) m → IsAscending (shown m key)
ascending-key m key s = go (get key m) refl
  where
    go : (o : Option Record) → get key m ≡ o → IsAscending (shown m key)
    go None x = subst IsAscending (sym (shown-missing m key x)) tt
    go (Some d) x = subst IsAscending (sym (shown-there m key d x)) (ascending-shown (rule_into m key) d (s key d x).ascending)

-- A deletion removes the samples of the interval from what the key shows, and no others.
pub shown-deleted : (limits : Limits) (m : State) (key : Key) (d : Record) (from to : ℕ) → IsValid limits m → get key m ≡ Some d →
    shown (deleted key from to m) key ≡ outside from to (shown m key)
shown-deleted limits m key d from to v there = go (link_to m key) refl
  where
    go : (o : Option Link) → link_to m key ≡ o → shown (deleted key from to m) key ≡ outside from to (shown m key)
    go None x =
        shown-source m key d (without from to) (λ c r. recounted (between from to c.plain) (outside from to c.plain) r) (meets (between from to (plain_at (get key m)))) (is_within from to) (deletion-done limits m key d from to v there) x
        ∙ times-swap (nat_le (edge d)) (λ t. not (is_within from to t)) d.plain
        ∙ ap (outside from to) (own-kept m key d v.settled there ∙ sym (shown-there m key d there ∙ ap (λ (o : Option Link). shown_by (option_map (λ (l : Link). l.rule) o) d) x))
    go (Some l) x =
        ascending-same (shown (deleted key from to m) key) (outside from to (shown m key))
        (ascending-key (deleted key from to m) key (sound-bodies key (without from to) (meets (between from to (plain_at (get key m)))) (is_within from to) m (λ c y. sound-without from to c y) v.sound))
        (ascending-times (λ t. not (is_within from to t)) (shown m key) (ascending-key m key v.sound))
        (λ t. shown-own m key d (without from to) (λ c r. recounted (between from to c.plain) (outside from to c.plain) r) (meets (between from to (plain_at (get key m)))) (is_within from to) l (deletion-done limits m key d from to v there) x (λ b y. y) t
        ∙ ap (λ (o : Option Point). if nat_le (edge d) t then option_or (if is_within from to t then None else tells l.rule d.born t) o else None) (at-times t (λ u. not (is_within from to u)) d.plain)
        ∙ cases t (is_within from to t) (nat_le (edge d) t)
        ∙ ap (λ (o : Option Point). if not (is_within from to t) then o else None) (sym (at-shown l.rule d t) ∙ ap (at t) (sym (shown-there m key d there ∙ ap (λ (o : Option Link). shown_by (option_map (λ (q : Link). q.rule) o) d) x)))
        ∙ sym (at-times t (λ u. not (is_within from to u)) (shown m key)))
      where
        cases : (t : ℕ) (b c : Bool) → (if c then option_or (if b then None else tells l.rule d.born t) (if not b then at t d.plain else None) else None) ≡
            (if not b then (if c then option_or (tells l.rule d.born t) (at t d.plain) else None) else None)
        cases t true true = refl
        cases t true false = refl
        cases t false true = refl
        cases t false false = refl

-- A deletion keeps the state valid, if the destinations of the key stay within the limit on samples.
pub deletion-valid : (limits : Limits) (m : State) (key : Key) (d : Record) (from to : ℕ) → IsValid limits m → get key m ≡ Some d →
    EachRule (λ r. length (shown (deleted key from to m) r.dest) ≤ limits.samples) d.rules → IsValid limits (deleted key from to m)
deletion-valid limits m key d from to v there dests =
    valid-deleted limits m key d from to v there
    (let few : length (shown m key) ≤ limits.samples = (v.within key d there).samples in
    let fewer : length (outside from to (shown m key)) ≤ length (shown m key) = length-times (λ t. not (is_within from to t)) (shown m key) in
    subst (λ (ps : List Point). length ps ≤ limits.samples) (sym (shown-deleted limits m key d from to v there)) (omega arith))
    dests

-- ---- a write

pub write-done : (limits : Limits) (m : State) (key : Key) (d : Record) (t : ℕ) (v : ℤ) → IsValid limits m → get key m ≡ Some d →
    IsDone m key d (with_sample t v) (λ c r. counted (sample_for t v c) c.high (put (sample_for t v c) c.plain) r)
write-done limits m key d t v h there = record { linked = h.linked; settled = h.settled; there = there; keeps = sample-keeps t v }

-- a write moves no edge back
pub edge-raised : (retention t : ℕ) (high : Option ℕ) → edge_of retention high ≤ edge_of retention (raised t high)
edge-raised retention t None = omega arith
edge-raised zero t (Some h) = omega arith
edge-raised (suc n) t (Some h) = omega arith

-- A write puts its sample into what the key shows, and removes what is then before the edge.
pub shown-written : (limits : Limits) (m : State) (key : Key) (d : Record) (t : ℕ) (v : ℤ) → IsValid limits m → get key m ≡ Some d →
    shown (written key t v m) key ≡ at_times (nat_le (edge_of d.options.retention (raised t d.high))) (put (sample_for t v d) (shown m key))
shown-written limits m key d t v h there = go (link_to m key) refl
  where
    go : (o : Option Link) → link_to m key ≡ o → shown (written key t v m) key ≡ at_times (nat_le (edge_of d.options.retention (raised t d.high))) (put (sample_for t v d) (shown m key))
    go None x =
        shown-source m key d (with_sample t v) (λ c r. counted (sample_for t v c) c.high (put (sample_for t v c) c.plain) r) (write_touches t (high_at (get key m))) (λ b. b == t) (write-done limits m key d t v h there) x
        ∙ ap (λ (ps : List Point). at_times (nat_le (edge_of d.options.retention (raised t d.high))) (put (sample_for t v d) ps)) (sym (shown-there m key d there ∙ ap (λ (o : Option Link). shown_by (option_map (λ (l : Link). l.rule) o) d) x))
    go (Some l) x =
        ascending-same (shown (written key t v m) key) (at_times (nat_le (edge_of d.options.retention (raised t d.high))) (put (sample_for t v d) (shown m key)))
        (ascending-key (written key t v m) key (sound-bodies key (with_sample t v) (write_touches t (high_at (get key m))) (λ b. b == t) m (λ c y. sound-written t v c y) h.sound))
        (ascending-times (nat_le (edge_of d.options.retention (raised t d.high))) (put (sample_for t v d) (shown m key)) (ascending-put (sample_for t v d) (shown m key) (ascending-key m key h.sound)))
        (λ u. shown-own m key d (with_sample t v) (λ c r. counted (sample_for t v c) c.high (put (sample_for t v c) c.plain) r) (write_touches t (high_at (get key m))) (λ b. b == t) l (write-done limits m key d t v h there) x (λ b y. upto-raised t b d.high y) u
        ∙ ap (λ (o : Option Point). if nat_le (edge_of d.options.retention (raised t d.high)) u then option_or (if u == t then None else tells l.rule d.born u) o else None) (at-put u (sample_for t v d) d.plain)
        ∙ cases u (nat_le (edge_of d.options.retention (raised t d.high)) u) (t == u) refl refl
        ∙ ap (λ (o : Option Point). if nat_le (edge_of d.options.retention (raised t d.high)) u then (if t == u then Some (sample_for t v d) else o) else None)
        (sym (at-shown l.rule d u) ∙ ap (at u) (sym (shown-there m key d there ∙ ap (λ (o : Option Link). shown_by (option_map (λ (q : Link). q.rule) o) d) x)))
        ∙ ap (λ (o : Option Point). if nat_le (edge_of d.options.retention (raised t d.high)) u then o else None) (sym (at-put u (sample_for t v d) (shown m key)))
        ∙ sym (at-times u (nat_le (edge_of d.options.retention (raised t d.high))) (put (sample_for t v d) (shown m key))))
      where
        cases : (u : ℕ) (c b : Bool) → nat_le (edge_of d.options.retention (raised t d.high)) u ≡ c → (t == u) ≡ b →
            (if c then option_or (if u == t then None else tells l.rule d.born u) (if b then Some (sample_for t v d) else at u d.plain) else None) ≡
            (if c then (if b then Some (sample_for t v d) else (if nat_le (edge d) u then option_or (tells l.rule d.born u) (at u d.plain) else None)) else None)
        cases u false b y z = refl
        cases u true true y z = ap (λ (w : Bool). option_or (if w then None else tells l.rule d.born u) (Some (sample_for t v d))) (eq-eqb u t (sym (eqb-true t u z)))
        cases u true false y z =
            let up : edge d ≤ edge_of d.options.retention (raised t d.high) = edge-raised d.options.retention t d.high in
            let at_least : edge_of d.options.retention (raised t d.high) ≤ u = leb-true (edge_of d.options.retention (raised t d.high)) u y in
            ap (λ (w : Bool). option_or (if w then None else tells l.rule d.born u) (at u d.plain)) (ne_eqb u t (λ e. absurd (false≢true (sym z ∙ eq-eqb t u (sym e)))))
            ∙ ap (λ (w : Bool). if w then option_or (tells l.rule d.born u) (at u d.plain) else None) (sym (le-leb (edge d) u (omega arith)))

-- ---- a destination of the key

-- What a destination shows at a time after a command on its source: the new row of the rule, or its own sample
-- unless that was lost.
pub shown-dest : (m : State) (key : Key) (d : Record) (f : Record → Record) (g : Record → Rule → Rule) (touches : Rule → ℕ → Bool) (test : ℕ → Bool) → IsDone m key d f g →
    (k : Key) (r : Rule) (e : Record) → link_to m k ≡ Some (record { source = key; rule = r }) → get k m ≡ Some e → (t : ℕ) →
    at t (shown (settled (bodies key f touches test m)) k) ≡
    (if nat_le (edge (risen_by (Some (g d r)) e)) t then option_or (tells (g d r) e.born t) (if not (lost_by key touches (Some (record { source = key; rule = g d r })) t) then at t e.plain else None) else None)
shown-dest m key d f g touches test h k r e x there t =
    ap (at t) (shown-there (settled (bodies key f touches test m)) k after (dest-after m key d f g touches test h k r e x there)
    ∙ ap (λ (o : Option Rule). shown_by o after) (dest-rule-after m key d f g touches test h k r x)
    ∙ ap (λ (o : Option Record). shown_by (Some (expired (edge_at o) (g d r))) after) (dest-after m key d f g touches test h k r e x there))
    ∙ at-shown (expired (edge (risen_by (Some (g d r)) e)) (g d r)) after t
    ∙ go (nat_le (edge (risen_by (Some (g d r)) e)) t) refl
  where
    after : Record
    after = tidied_by (Some (g d r)) (lost_from key touches (Some (record { source = key; rule = g d r })) e)

    go : (b : Bool) → nat_le (edge (risen_by (Some (g d r)) e)) t ≡ b →
        (if b then option_or (tells (expired (edge (risen_by (Some (g d r)) e)) (g d r)) e.born t) (at t (tidied_by (Some (g d r)) (lost_from key touches (Some (record { source = key; rule = g d r })) e)).plain) else None) ≡
        (if b then option_or (tells (g d r) e.born t) (if not (lost_by key touches (Some (record { source = key; rule = g d r })) t) then at t e.plain else None) else None)
    go false y = refl
    go true y =
        ap (λ (o : Option Point). option_or o (at t (tidied_by (Some (g d r)) (lost_from key touches (Some (record { source = key; rule = g d r })) e)).plain)) (tells-expired (edge (risen_by (Some (g d r)) e)) (g d r) e.born t y)
        ∙ ap (option_or (tells (g d r) e.born t))
        (at-times t (stays (edge (risen_by (Some (g d r)) e)) (Some (g d r))) (lost_from key touches (Some (record { source = key; rule = g d r })) e).plain
        ∙ ap (λ (b : Bool). if b && not (has_row_of (g d r) t) then at t (lost_from key touches (Some (record { source = key; rule = g d r })) e).plain else None) y)
        ∙ hidden (has_row_of (g d r) t)
        ∙ ap (option_or (tells (g d r) e.born t)) (at-times t (λ u. not (lost_by key touches (Some (record { source = key; rule = g d r })) u)) e.plain)
      where
        hidden : (c : Bool) → option_or (if c then Some (bucket_sample (g d r) e.born t) else None) (if not c then at t (lost_from key touches (Some (record { source = key; rule = g d r })) e).plain else None) ≡
            option_or (if c then Some (bucket_sample (g d r) e.born t) else None) (at t (lost_from key touches (Some (record { source = key; rule = g d r })) e).plain)
        hidden true = refl
        hidden false = refl
