-- A rule that counts all eligible samples of its source still does after a write and after a deletion, if neither
-- series has a retention and the command is not on the destination.
use Rattle.std.proofs.Common.{[], ◌+◌, ◌≤◌}
use Rattle.std.proofs.lemmas.Bool.{lt-leb}
use Rattle.ts_spec.specs.declared.bucket.Aggregator.{Aggregator}
use Rattle.ts_spec.specs.Sample.{at}
use Rattle.ts_spec.specs.Bucket.{Grid}
use Rattle.ts_spec.specs.Step.{with_rule}
use Rattle.ts_spec.proofs.Samples.{passing, at-filter, ascending-filter, ascending-same}
use Rattle.ts_spec.proofs.MakingRules.{new_rule}
use Rattle.std.proofs.Common.{◌≡◌, if◌then◌else◌, ℕ, ℤ, zero, ◌==◌, Bool, true, false, not, ◌&&◌, nat_lt, nat_le, List, map, filter, Option, Some, None, option_map, refl, sym, ap, ◌∙◌, subst, arith, le-ltb, le-leb}
use Rattle.ts_spec.specs.declared.limits.Limits.{Limits}
use Rattle.ts_spec.specs.Sample.{Point, at_times, put, between, outside, is_within}
use Rattle.ts_spec.specs.Bucket.{start}
use Rattle.ts_spec.specs.Key.{Key, same}
use Rattle.ts_spec.specs.Keyed.{get}
use Rattle.ts_spec.specs.State.{Rule, Record, State, Link, rule_to, link_to, rule_into, edge, edge_of}
use Rattle.ts_spec.specs.Rules.{cleared_to, high_by, touched, counted_samples, is_closed, is_eligible, sample_for, counted, with_sample, recounted, without, write_touches, meets, high_at, plain_at, clear_record, tidied_by, edge_at, expired, expired_in, expire_record, tidied, settled, written, deleted}
use Rattle.ts_spec.specs.Valid.{IsSound, IsSoundRule, IsValid}
use Rattle.ts_spec.proofs.Keys.{same-true}
use Rattle.ts_spec.proofs.Links.{Found, link-found}
use Rattle.ts_spec.proofs.Linked.{with_rule_by, link-uniform, link-target, IsTarget, each-rule-at}
use Rattle.ts_spec.proofs.Settles.{tidied-keeps, expire-keeps, settled_record, get-settled}
use Rattle.ts_spec.proofs.Tidy.{some-same, record-tidy}
use Rattle.ts_spec.proofs.Unmoved.{times-kept}
use Rattle.ts_spec.proofs.Bodies.{link-bodies-some, bodies, body, get-bodies, link-elsewhere, body-elsewhere, IsElsewhere}
use Rattle.ts_spec.proofs.Keeps.{rule-elsewhere}
use Rattle.ts_spec.proofs.Exact.{IsDone, source-after, dest-after, dest-rule-after}
use Rattle.ts_spec.proofs.ClientChanges.{write-done, deletion-done}
use Rattle.ts_spec.specs.CountsAll.{CountsAll}
use Rattle.ts_spec.proofs.Counting.{counts-all-written, counts-all-deleted}

-- the rule from one key to another counts all eligible samples of its source
pub record CountsFrom (m : State) (s k : Key) : Type 0 where
  pub source : Record
  pub rule : Rule
  pub there : get s m ≡ Some source
  pub linked : link_to m k ≡ Some (record { source = s; rule = rule })
  pub counts : CountsAll source.plain rule

pub edge-zero : (retention : ℕ) (high : Option ℕ) → retention ≡ 0 → edge_of retention high ≡ 0
edge-zero retention high e = ap (λ (n : ℕ). edge_of n high) e ∙ zero-edge high
  where
    zero-edge : (o : Option ℕ) → edge_of zero o ≡ 0
    zero-edge None = refl
    zero-edge (Some x) = refl

pub expired-zero : (low : ℕ) (r : Rule) → low ≡ 0 → expired low r ≡ r
expired-zero low r e =
    ap (λ (n : ℕ). expired n r) e
    ∙ (let seen : at_times (λ t. not (nat_lt (start r.grid t) 0 && is_closed r (start r.grid t))) r.seen ≡ r.seen =
    times-kept (λ t. not (nat_lt (start r.grid t) 0 && is_closed r (start r.grid t))) r.seen
    (λ t. ap (λ (b : Bool). not (b && is_closed r (start r.grid t))) (le-ltb (start r.grid t) 0 (omega arith))) in
    λ i. record r { seen = seen i })

pub kept-zero : (low : ℕ) (ps : List Point) → low ≡ 0 → at_times (nat_le low) ps ≡ ps
kept-zero low ps e = ap (λ (n : ℕ). at_times (nat_le n) ps) e ∙ times-kept (nat_le 0) ps (λ t. le-leb 0 t (omega arith))

-- settling leaves each link, with its rule expired
pub link-settled : (m : State) (k : Key) → link_to (settled m) k ≡ option_map (with_rule_by (expired_in (tidied m))) (link_to m k)
link-settled m k =
    link-uniform (λ j d. expire_record (tidied m) d) (expired_in (tidied m)) (expire-keeps (tidied m)) k (tidied m)
    ∙ ap (option_map (with_rule_by (expired_in (tidied m)))) (link-uniform (λ j d. tidied_by (rule_into m j) d) (λ r. r) (tidied-keeps m) k m ∙ same_link (link_to m k))
  where
    same_link : (o : Option Link) → option_map (with_rule_by (λ r. r)) o ≡ o
    same_link None = refl
    same_link (Some l) = refl

-- a link from this key whose rule is known
known-link : (n : State) (s k : Key) (q r : Rule) → link_to n k ≡ Some (record { source = s; rule = q }) → rule_into n k ≡ Some r → link_to n k ≡ Some (record { source = s; rule = r })
known-link n s k q r x y =
    x ∙ ap (λ (p : Rule). Some (record { source = s; rule = p })) (some-same q r (sym (ap (option_map (λ (l : Link). l.rule)) x) ∙ y))

module _ (m : State) (key : Key) (c : Record) (f : Record → Record) (g : Record → Rule → Rule) (touches : Rule → ℕ → Bool) (test : ℕ → Bool) (h : IsDone m key c f g) where
  -- the command is on the source
  pub counts-from-source : (k : Key) (r : Rule) (e : Record) → link_to m k ≡ Some (record { source = key; rule = r }) → get k m ≡ Some e → link_to m key ≡ None → (f c).options.retention ≡ 0 → e.options.retention ≡ 0 →
      CountsAll (f c).plain (g c r) → CountsFrom (settled (bodies key f touches test m)) key k
  counts-from-source k r e x there free s d counts = record {
    source = record (f c) { plain = at_times (nat_le (edge (f c))) (f c).plain; rules = map (λ r. expired (edge_at (get r.dest (settled (bodies key f touches test m)))) r) (f c).rules };
    rule = g c r;
    there = source-after m key c f g touches test h free;
    linked = known-link (settled (bodies key f touches test m)) key k
        (expired_in (tidied (bodies key f touches test m)) (cleared_to key test (if same key key then g c r else r))) (g c r)
        (link-settled (bodies key f touches test m) k
        ∙ ap (option_map (with_rule_by (expired_in (tidied (bodies key f touches test m))))) (link-bodies-some key f g touches test m k (record { source = key; rule = r }) c h.keeps x h.there))
        rule;
    counts = counts ∙ ap (filter (is_eligible (g c r))) (sym (kept-zero (edge (f c)) (f c).plain (edge-zero (f c).options.retention (f c).high s)));
  }
    where
      rule : rule_into (settled (bodies key f touches test m)) k ≡ Some (g c r)
      rule =
          dest-rule-after m key c f g touches test h k r x
          ∙ ap (λ (q : Rule). Some q)
          (expired-zero (edge_at (get k (settled (bodies key f touches test m)))) (g c r)
          (ap edge_at (dest-after m key c f g touches test h k r e x there) ∙ edge-zero e.options.retention (high_by (Some (g c r)) e.high) d))

  -- the command is on another key than the source and the destination
  pub counts-elsewhere : (s k : Key) (e : Record) → (w : CountsFrom m s k) → get k m ≡ Some e → same k key ≡ false → same s key ≡ false → link_to m s ≡ None →
      CountsFrom (settled (bodies key f touches test m)) s k
  counts-elsewhere s k e w there dest_other source_other free = record {
    source = settled_record (bodies key f touches test m) s (clear_record key test w.source);
    rule = w.rule;
    there = get-settled (bodies key f touches test m) s
        ∙ ap (option_map (settled_record (bodies key f touches test m) s)) (get-bodies key f touches test m s ∙ ap (option_map (body key f touches test m s)) w.there ∙ ap (λ (q : Record). Some q) (body-elsewhere key f g touches test m s w.source h.keeps source_there));
    linked = known-link (settled (bodies key f touches test m)) s k (expired_in (tidied (bodies key f touches test m)) w.rule) w.rule
        (link-settled (bodies key f touches test m) k ∙ ap (option_map (with_rule_by (expired_in (tidied (bodies key f touches test m))))) (link-elsewhere key f g touches test m k h.keeps dest_there ∙ w.linked))
        (rule-elsewhere key f g touches test m k e h.keeps h.settled dest_there there ∙ ap (option_map (λ (l : Link). l.rule)) w.linked);
    counts = w.counts ∙ ap (filter (is_eligible w.rule)) (sym plain);
  }
    where
      source_there : IsElsewhere m key s
      source_there = record { other = source_other; linked = λ l x. (let one : None ≡ Some l = sym free ∙ x in absurd (cc one)) }

      dest_there : IsElsewhere m key k
      dest_there = record { other = dest_other; linked = λ l x. ap (λ (q : Link). same q.source key) (some-same l (record { source = s; rule = w.rule }) (sym x ∙ w.linked)) ∙ source_other }

      plain : (settled_record (bodies key f touches test m) s (clear_record key test w.source)).plain ≡ w.source.plain
      plain =
          ap (λ (o : Option Rule). (tidied_by o w.source).plain) (ap (option_map (λ (l : Link). l.rule)) (link-elsewhere key f g touches test m s h.keeps source_there))
          ∙ ap (λ (q : Record). q.plain) (record-tidy m s w.source h.settled w.there)

-- ---- writes and deletions

-- A rule between series without retention, that counts all eligible samples, of a valid state
pub record CountsForEver (limits : Limits) (m : State) (s k : Key) : Type 0 where
  pub valid : IsValid limits m
  pub from : CountsFrom m s k
  pub dest : Record
  pub dest_there : get k m ≡ Some dest
  pub source_for_ever : from.source.options.retention ≡ 0
  pub dest_for_ever : dest.options.retention ≡ 0

pub source-free : (limits : Limits) (m : State) (s k : Key) (h : CountsForEver limits m s k) → link_to m s ≡ None
source-free limits m s k h = go (link_to m s) refl
  where
    go : (o : Option Link) → link_to m s ≡ o → o ≡ None
    go None x = refl
    go (Some l) x =
        let t : IsTarget m s = link-target m s l h.valid.linked x in
        let fnd : Found m.entries k (record { source = s; rule = h.from.rule }) = link-found m k (record { source = s; rule = h.from.rule }) h.from.linked in
        let eq : t.record_of ≡ fnd.record_of = some-same t.record_of fnd.record_of (sym t.there ∙ fnd.there) in
        let one : None ≡ Some h.from.rule = ap (rule_to k) (sym t.no_rules ∙ ap (λ (q : Record). q.rules) eq) ∙ fnd.rule in absurd (cc one)

source-rule : (limits : Limits) (m : State) (s k : Key) (h : CountsForEver limits m s k) → IsSoundRule h.from.source h.from.rule
source-rule limits m s k h =
    let fnd : Found m.entries k (record { source = s; rule = h.from.rule }) = link-found m k (record { source = s; rule = h.from.rule }) h.from.linked in
    let eq : fnd.record_of ≡ h.from.source = some-same fnd.record_of h.from.source (sym fnd.there ∙ h.from.there) in
    each-rule-at (IsSoundRule h.from.source) k h.from.source.rules h.from.rule (ap (λ (q : Record). rule_to k q.rules) (sym eq) ∙ fnd.rule) (h.valid.sound s h.from.source h.from.there).rules

-- A write to a key other than the destination leaves all eligible samples counted.
pub counts-all-after-write : (limits : Limits) (m : State) (s k key : Key) (c : Record) (t : ℕ) (v : ℤ) → CountsForEver limits m s k → get key m ≡ Some c → same k key ≡ false → CountsFrom (written key t v m) s k
counts-all-after-write limits m s k key c t v h there other = go (same s key) refl
  where
    go : (b : Bool) → same s key ≡ b → CountsFrom (written key t v m) s k
    go false x =
        counts-elsewhere m key c (with_sample t v) (λ d r. counted (sample_for t v d) d.high (put (sample_for t v d) d.plain) r) (write_touches t (high_at (get key m))) (λ b. b == t)
        (write-done limits m key c t v h.valid there) s k h.dest h.from h.dest_there other x (source-free limits m s k h)
    go true x =
        let keys : s ≡ key = same-true s key x in
        let eq : h.from.source ≡ c = some-same h.from.source c (sym h.from.there ∙ ap (λ (j : Key). get j m) keys ∙ there) in
        subst (λ (j : Key). CountsFrom (written key t v m) j k) (sym keys)
        (counts-from-source m key c (with_sample t v) (λ d r. counted (sample_for t v d) d.high (put (sample_for t v d) d.plain) r) (write_touches t (high_at (get key m))) (λ b. b == t)
        (write-done limits m key c t v h.valid there) k h.from.rule h.dest
        (h.from.linked ∙ ap (λ (j : Key). Some (record { source = j; rule = h.from.rule })) keys) h.dest_there
        (ap (link_to m) (sym keys) ∙ source-free limits m s k h) (ap (λ (q : Record). q.options.retention) (sym eq) ∙ h.source_for_ever) h.dest_for_ever
        (subst (λ (q : Record). counted_samples (sample_for t v q) q.high (put (sample_for t v q) q.plain) h.from.rule ≡ filter (is_eligible h.from.rule) (put (sample_for t v q) q.plain)) eq
        (counts-all-written t v h.from.source h.from.rule (h.valid.sound s h.from.source h.from.there) (source-rule limits m s k h) h.from.counts)))

-- A deletion on a key other than the destination leaves all eligible samples counted.
pub counts-all-after-deletion : (limits : Limits) (m : State) (s k key : Key) (c : Record) (from to : ℕ) → CountsForEver limits m s k → get key m ≡ Some c → same k key ≡ false → CountsFrom (deleted key from to m) s k
counts-all-after-deletion limits m s k key c from to h there other = go (same s key) refl
  where
    go : (b : Bool) → same s key ≡ b → CountsFrom (deleted key from to m) s k
    go false x =
        counts-elsewhere m key c (without from to) (λ d r. recounted (between from to d.plain) (outside from to d.plain) r) (meets (between from to (plain_at (get key m)))) (is_within from to)
        (deletion-done limits m key c from to h.valid there) s k h.dest h.from h.dest_there other x (source-free limits m s k h)
    go true x =
        let keys : s ≡ key = same-true s key x in
        let eq : h.from.source ≡ c = some-same h.from.source c (sym h.from.there ∙ ap (λ (j : Key). get j m) keys ∙ there) in
        subst (λ (j : Key). CountsFrom (deleted key from to m) j k) (sym keys)
        (counts-from-source m key c (without from to) (λ d r. recounted (between from to d.plain) (outside from to d.plain) r) (meets (between from to (plain_at (get key m)))) (is_within from to)
        (deletion-done limits m key c from to h.valid there) k h.from.rule h.dest
        (h.from.linked ∙ ap (λ (j : Key). Some (record { source = j; rule = h.from.rule })) keys) h.dest_there
        (ap (link_to m) (sym keys) ∙ source-free limits m s k h) (ap (λ (q : Record). q.options.retention) (sym eq) ∙ h.source_for_ever) h.dest_for_ever
        (subst (λ (q : Record). touched (meets (between from to q.plain) h.from.rule) (outside from to q.plain) h.from.rule ≡ filter (is_eligible h.from.rule) (outside from to q.plain)) eq
        (counts-all-deleted from to h.from.source h.from.rule (h.valid.sound s h.from.source h.from.there) (source-rule limits m s k h) h.from.counts)))

-- ---- a new rule

-- A new rule has counted all eligible samples: there are none yet.
pub counts-all-made : (dest : Key) (agg : Aggregator) (grid : Grid) (d : Record) → IsSound d → CountsAll (with_rule dest agg grid d).plain (new_rule dest agg grid d)
counts-all-made dest agg grid d s =
    ascending-same [] (filter (is_eligible (new_rule dest agg grid d)) d.plain) tt (ascending-filter (is_eligible (new_rule dest agg grid d)) d.plain s.ascending)
    (λ t. sym (at-filter t (is_eligible (new_rule dest agg grid d)) d.plain s.ascending ∙ none t (at t d.plain) refl))
  where
    none : (t : ℕ) (o : Option Point) → at t d.plain ≡ o → passing (is_eligible (new_rule dest agg grid d)) (at t d.plain) ≡ None
    none t None x = ap (passing (is_eligible (new_rule dest agg grid d))) x
    none t (Some p) x =
        let up : p.made ≤ d.born = (s.own t p x).made in
        ap (passing (is_eligible (new_rule dest agg grid d))) x ∙ ap (λ (b : Bool). if b then Some p else None) (lt-leb (d.born + 1) p.made (omega arith))
