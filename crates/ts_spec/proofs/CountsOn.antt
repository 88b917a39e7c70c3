-- A rule between series without retention is unchanged and counts all of its source after a write or a deletion on
-- another key.
use Rattle.std.proofs.Common.{◌≡◌, ℕ, ℤ, Bool, true, false, ◌==◌, if◌then◌else◌, filter, Option, Some, None, option_map, refl, sym, ap, ◌∙◌, subst}
use Rattle.ts_spec.specs.declared.limits.Limits.{Limits}
use Rattle.ts_spec.specs.Sample.{between, outside, is_within, put}
use Rattle.ts_spec.specs.Key.{Key, same}
use Rattle.ts_spec.specs.Keyed.{get}
use Rattle.ts_spec.specs.State.{Rule, Record, State, Link, link_to}
use Rattle.ts_spec.specs.Rules.{is_eligible, sample_for, counted, with_sample, without, recounted, write_touches, meets, high_at, plain_at, cleared_to, expired_in, tidied, settled, written, deleted}
use Rattle.ts_spec.specs.Valid.{IsValid}
use Rattle.ts_spec.specs.CountsAll.{CountsAll, retention_at, IsSameRule, StillCountsAll}
use Rattle.ts_spec.proofs.Links.{Found, link-found}
use Rattle.ts_spec.proofs.Linked.{link-target, IsTarget, with_rule_by}
use Rattle.ts_spec.proofs.Tidy.{some-same, KeepsRules}
use Rattle.ts_spec.proofs.Settles.{settled_record, get-settled}
use Rattle.ts_spec.proofs.Bodies.{bodies, body, get-bodies, link-bodies-none, link-bodies-some}
use Rattle.ts_spec.proofs.Exact.{IsDone}
use Rattle.ts_spec.proofs.ClientChanges.{write-done, deletion-done}
use Rattle.ts_spec.proofs.CountsAll.{CountsFrom, CountsForEver, link-settled, counts-all-after-write, counts-all-after-deletion}

-- If a rule connects two keys and neither has a retention, it is unchanged and counts all samples.
abbrev pub CountsOn : Rule → State → Key → Key → Type 0
CountsOn old m s k = (r : Rule) → link_to m k ≡ Some (record { source = s; rule = r }) → retention_at (get s m) ≡ 0 → retention_at (get k m) ≡ 0 → StillCountsAll m s old r

same-then : (p q r : Rule) → IsSameRule p q → IsSameRule q r → IsSameRule p r
same-then p q r a b = record { dest = b.dest ∙ a.dest; agg = b.agg ∙ a.agg; grid = b.grid ∙ a.grid; made = b.made ∙ a.made }

-- only one rule leads from a key to another
pub rule-only : (m : State) (s k : Key) (q r : Rule) → link_to m k ≡ Some (record { source = s; rule = q }) → link_to m k ≡ Some (record { source = s; rule = r }) → q ≡ r
rule-only m s k q r x y =
    ap (λ (l : Link). l.rule) (some-same (record { source = s; rule = q }) (record { source = s; rule = r }) (sym x ∙ y))

-- what is counted of the same samples
pub counts-moved : (m n : State) (s : Key) (old r : Rule) → plain_at (get s n) ≡ plain_at (get s m) → StillCountsAll m s old r → StillCountsAll n s old r
counts-moved m n s old r e c = record { same_rule = c.same_rule; counts = c.counts ∙ ap (filter (is_eligible r)) (sym e) }

-- what is there in a valid state with such a rule
pub for-ever : (limits : Limits) (m : State) (s k : Key) (q : Rule) → IsValid limits m → link_to m k ≡ Some (record { source = s; rule = q }) →
    retention_at (get s m) ≡ 0 → retention_at (get k m) ≡ 0 → CountsAll (plain_at (get s m)) q → CountsForEver limits m s k
for-ever limits m s k q v x u w c =
    let f : Found m.entries k (record { source = s; rule = q }) = link-found m k (record { source = s; rule = q }) x in
    let t : IsTarget m k = link-target m k (record { source = s; rule = q }) v.linked x in
    record {
      valid = v;
      from = record { source = f.record_of; rule = q; there = f.there; linked = x; counts = c ∙ ap (λ (o : Option Record). filter (is_eligible q) (plain_at o)) f.there };
      dest = t.record_of;
      dest_there = t.there;
      source_for_ever = sym (ap retention_at f.there) ∙ u;
      dest_for_ever = sym (ap retention_at t.there) ∙ w;
    }

counted-from : (n : State) (s k : Key) (r : Rule) → CountsFrom n s k → link_to n k ≡ Some (record { source = s; rule = r }) → CountsAll (plain_at (get s n)) r
counted-from n s k r c x =
    subst (λ (q : Rule). CountsAll (plain_at (get s n)) q) (rule-only n s k c.rule r c.linked x)
    (c.counts ∙ ap (λ (o : Option Record). filter (is_eligible c.rule) (plain_at o)) (sym c.there))

-- ---- a command on a key

-- the rule that a link had before
record Before (m : State) (s k : Key) (r : Rule) : Type 0 where
  rule : Rule
  linked : link_to m k ≡ Some (record { source = s; rule = rule })
  same_rule : IsSameRule rule r

module _ (m : State) (key : Key) (f : Record → Record) (g : Record → Rule → Rule) (touches : Rule → ℕ → Bool) (test : ℕ → Bool) (keeps : KeepsRules f g) where
  before : ((d : Record) (q : Rule) → IsSameRule q (g d q)) → (s k : Key) (r : Rule) → link_to (settled (bodies key f touches test m)) k ≡ Some (record { source = s; rule = r }) → Before m s k r
  before h s k r x = go (link_to m k) refl
    where
      after : (l : Link) (b : Bool) (d : Record) → IsSameRule l.rule (expired_in (tidied (bodies key f touches test m)) (cleared_to key test (if b then g d l.rule else l.rule)))
      after l true d = (let e : IsSameRule l.rule (g d l.rule) = h d l.rule in record { dest = e.dest; agg = e.agg; grid = e.grid; made = e.made })
      after l false d = record { dest = refl; agg = refl; grid = refl; made = refl }

      go : (o : Option Link) → link_to m k ≡ o → Before m s k r
      go None y =
          let one : None ≡ Some (record { source = s; rule = r }) =
          ap (option_map (with_rule_by (expired_in (tidied (bodies key f touches test m))))) (sym (link-bodies-none key f g touches test m k keeps y))
          ∙ sym (link-settled (bodies key f touches test m) k) ∙ x in absurd (cc one)
      go (Some l) y =
          let from : Found m.entries k l = link-found m k l y in
          let eq : record { source = l.source; rule = expired_in (tidied (bodies key f touches test m)) (cleared_to key test (if same l.source key then g from.record_of l.rule else l.rule)) } ≡ record { source = s; rule = r } =
          some-same (record { source = l.source; rule = expired_in (tidied (bodies key f touches test m)) (cleared_to key test (if same l.source key then g from.record_of l.rule else l.rule)) }) (record { source = s; rule = r })
          (ap (option_map (with_rule_by (expired_in (tidied (bodies key f touches test m))))) (sym (link-bodies-some key f g touches test m k l from.record_of keeps y from.there))
          ∙ sym (link-settled (bodies key f touches test m) k) ∙ x) in
          record {
            rule = l.rule;
            linked = y ∙ ap (λ (q : Link). Some (record { source = q.source; rule = l.rule })) eq;
            same_rule = subst (IsSameRule l.rule) (ap (λ (q : Link). q.rule) eq) (after l (same l.source key) from.record_of);
          }

  -- retentions are those of the changed records
  retention-after : (k : Key) → retention_at (get k (settled (bodies key f touches test m))) ≡ retention_at (option_map (λ d. if same k key then f d else d) (get k m))
  retention-after k =
      ap retention_at (get-settled (bodies key f touches test m) k ∙ ap (option_map (settled_record (bodies key f touches test m) k)) (get-bodies key f touches test m k))
      ∙ go (get k m)
    where
      go : (o : Option Record) → retention_at (option_map (settled_record (bodies key f touches test m) k) (option_map (body key f touches test m k) o)) ≡ retention_at (option_map (λ d. if same k key then f d else d) o)
      go None = refl
      go (Some d) = refl

  retention-kept : ((d : Record) → (f d).options.retention ≡ d.options.retention) → (k : Key) → retention_at (get k (settled (bodies key f touches test m))) ≡ retention_at (get k m)
  retention-kept h k = retention-after k ∙ go (same k key) (get k m)
    where
      go : (b : Bool) (o : Option Record) → retention_at (option_map (λ d. if b then f d else d) o) ≡ retention_at o
      go b None = refl
      go true (Some d) = h d
      go false (Some d) = refl

pub counts-on-written : (limits : Limits) (m : State) (s k key : Key) (old : Rule) (c : Record) (t : ℕ) (v : ℤ) → IsValid limits m → get key m ≡ Some c → same k key ≡ false → CountsOn old m s k → CountsOn old (written key t v m) s k
counts-on-written limits m s k key old c t v valid there other h r x u w =
    let d : IsDone m key c (with_sample t v) (λ d r. counted (sample_for t v d) d.high (put (sample_for t v d) d.plain) r) = write-done limits m key c t v valid there in
    let b : Before m s k r = before m key (with_sample t v) (λ d r. counted (sample_for t v d) d.high (put (sample_for t v d) d.plain) r) (write_touches t (high_at (get key m))) (λ b. b == t) d.keeps
    (λ e q. record { dest = refl; agg = refl; grid = refl; made = refl }) s k r x in
    let kept : (j : Key) → retention_at (get j (written key t v m)) ≡ retention_at (get j m) =
    retention-kept m key (with_sample t v) (λ d r. counted (sample_for t v d) d.high (put (sample_for t v d) d.plain) r) (write_touches t (high_at (get key m))) (λ b. b == t) d.keeps (λ e. refl) in
    let c' : StillCountsAll m s old b.rule = h b.rule b.linked (sym (kept s) ∙ u) (sym (kept k) ∙ w) in
    record {
      same_rule = same-then old b.rule r c'.same_rule b.same_rule;
      counts = counted-from (written key t v m) s k r
          (counts-all-after-write limits m s k key c t v (for-ever limits m s k b.rule valid b.linked (sym (kept s) ∙ u) (sym (kept k) ∙ w) c'.counts) there other) x;
    }

pub counts-on-deleted : (limits : Limits) (m : State) (s k key : Key) (old : Rule) (c : Record) (from to : ℕ) → IsValid limits m → get key m ≡ Some c → same k key ≡ false → CountsOn old m s k → CountsOn old (deleted key from to m) s k
counts-on-deleted limits m s k key old c from to valid there other h r x u w =
    let d : IsDone m key c (without from to) (λ d r. recounted (between from to d.plain) (outside from to d.plain) r) = deletion-done limits m key c from to valid there in
    let b : Before m s k r = before m key (without from to) (λ d r. recounted (between from to d.plain) (outside from to d.plain) r) (meets (between from to (plain_at (get key m)))) (is_within from to) d.keeps
    (λ e q. record { dest = refl; agg = refl; grid = refl; made = refl }) s k r x in
    let kept : (j : Key) → retention_at (get j (deleted key from to m)) ≡ retention_at (get j m) =
    retention-kept m key (without from to) (λ d r. recounted (between from to d.plain) (outside from to d.plain) r) (meets (between from to (plain_at (get key m)))) (is_within from to) d.keeps (λ e. refl) in
    let c' : StillCountsAll m s old b.rule = h b.rule b.linked (sym (kept s) ∙ u) (sym (kept k) ∙ w) in
    record {
      same_rule = same-then old b.rule r c'.same_rule b.same_rule;
      counts = counted-from (deleted key from to m) s k r
          (counts-all-after-deletion limits m s k key c from to (for-ever limits m s k b.rule valid b.linked (sym (kept s) ∙ u) (sym (kept k) ∙ w) c'.counts) there other) x;
    }
