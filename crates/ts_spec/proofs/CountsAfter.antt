-- A rule between series without retention is unchanged and counts all of its source after TS.ALTER, a new key, new or
-- ended rules, and the deletion of a key.
use Rattle.std.proofs.Common.{◌≡◌, Bool, true, false, ◌||◌, if◌then◌else◌, [], Option, Some, None, option_map, refl, sym, ap, ◌∙◌, subst}
use Rattle.ts_spec.specs.declared.limits.Limits.{Limits}
use Rattle.ts_spec.specs.declared.bucket.Aggregator.{Aggregator}
use Rattle.ts_spec.specs.Bucket.{Grid}
use Rattle.ts_spec.specs.Key.{Key, same}
use Rattle.ts_spec.specs.Keyed.{get, with_key, without_key}
use Rattle.ts_spec.specs.State.{Rule, Record, State, Link, rule_to, link_to, rule_into, change, edge}
use Rattle.ts_spec.specs.Rules.{plain_at, tidied_by, edge_at, expired_in, tidied, settled, ends_into, ended_in, ended, dropped}
use Rattle.ts_spec.specs.Command.{Change}
use Rattle.ts_spec.specs.Step.{altered, with_rule, ruled}
use Rattle.ts_spec.specs.Valid.{IsValid}
use Rattle.ts_spec.specs.CountsAll.{CountsAll, retention_at, StillCountsAll}
use Rattle.ts_spec.proofs.Keys.{same-true}
use Rattle.ts_spec.proofs.Maps.{get-each, get-without}
use Rattle.ts_spec.proofs.Links.{Found, link-found, link-none}
use Rattle.ts_spec.proofs.Linked.{link-target, link-dest, IsTarget, with_rule_by}
use Rattle.ts_spec.proofs.Tidy.{change-keeps}
use Rattle.ts_spec.proofs.Settles.{settled_record, get-settled}
use Rattle.ts_spec.proofs.PlainWrite.{get-change}
use Rattle.ts_spec.proofs.RuleLists.{tidy-unlinked}
use Rattle.ts_spec.proofs.Bodies.{link-changed}
use Rattle.ts_spec.proofs.Exact.{edges-settled}
use Rattle.ts_spec.proofs.Altering.{altered-keeps}
use Rattle.ts_spec.proofs.KeysComeAndGo.{links-new, other-new, there-other}
use Rattle.ts_spec.proofs.KeysGo.{IsLoose, links-left, loose-ended}
use Rattle.ts_spec.proofs.EndingRules as ending
use Rattle.ts_spec.proofs.MakingRules.{IsRulable, link-stays}
use Rattle.ts_spec.proofs.CountsAll.{CountsForEver, edge-zero, expired-zero, kept-zero, link-settled, source-free}
use Rattle.ts_spec.proofs.CountsOn.{CountsOn, counts-moved, for-ever, rule-only}

-- it counts all now
pub counts-now : (m : State) (s k : Key) (old : Rule) → link_to m k ≡ Some (record { source = s; rule = old }) → CountsAll (plain_at (get s m)) old → CountsOn old m s k
counts-now m s k old x c r y u w =
    subst (StillCountsAll m s old) (rule-only m s k old r x y) (record { same_rule = record { dest = refl; agg = refl; grid = refl; made = refl }; counts = c })

-- ---- a new key

pub counts-on-new : (m : State) (s k key : Key) (old : Rule) (c : Record) (limits : Limits) → IsValid limits m → get key m ≡ None → c.rules ≡ [] → CountsOn old m s k → CountsOn old (with_key key c m) s k
counts-on-new m s k key old c limits v missing none h r x u w =
    let y : link_to m k ≡ Some (record { source = s; rule = r }) = sym (links-new m key c v.linked missing none k) ∙ x in
    let f : Found m.entries k (record { source = s; rule = r }) = link-found m k (record { source = s; rule = r }) y in
    let t : IsTarget m k = link-target m k (record { source = s; rule = r }) v.linked y in
    let source : get s (with_key key c m) ≡ get s m = other-new m key c v.linked missing none s (there-other m key c v.linked missing none s f.record_of f.there) in
    let dest : get k (with_key key c m) ≡ get k m = other-new m key c v.linked missing none k (there-other m key c v.linked missing none k t.record_of t.there) in
    counts-moved m (with_key key c m) s old r (ap plain_at source) (h r y (sym (ap retention_at source) ∙ u) (sym (ap retention_at dest) ∙ w))

-- ---- creating a rule

pub counts-on-ruled : (limits : Limits) (m : State) (s k source dest : Key) (agg : Aggregator) (grid : Grid) (c d : Record) (old : Rule) → IsValid limits m → IsRulable limits m source dest c d →
    link_to m k ≡ Some (record { source = s; rule = old }) → CountsOn old m s k → CountsOn old (ruled source dest agg grid m) s k
counts-on-ruled limits m s k source dest agg grid c d old v i there h r x u w =
    counts-moved m (ruled source dest agg grid m) s old r (ap plain_at (get-change m source s (with_rule dest agg grid)) ∙ plain (same s source) (get s m))
    (h r (sym (link-stays limits m source dest agg grid c d v i k (other (same dest k) refl)) ∙ x) (sym (kept s) ∙ u) (sym (kept k) ∙ w))
  where
    other : (b : Bool) → same dest k ≡ b → b ≡ false
    other false e = refl
    other true e = let one : None ≡ Some (record { source = s; rule = old }) = sym i.dest_free ∙ ap (link_to m) (same-true dest k e) ∙ there in absurd (cc one)

    plain : (b : Bool) (o : Option Record) → plain_at (option_map (λ e. if b then with_rule dest agg grid e else e) o) ≡ plain_at o
    plain b None = refl
    plain true (Some e) = refl
    plain false (Some e) = refl

    retained : (b : Bool) (o : Option Record) → retention_at (option_map (λ e. if b then with_rule dest agg grid e else e) o) ≡ retention_at o
    retained b None = refl
    retained true (Some e) = refl
    retained false (Some e) = refl

    kept : (j : Key) → retention_at (get j (ruled source dest agg grid m)) ≡ retention_at (get j m)
    kept j = ap retention_at (get-change m source j (with_rule dest agg grid)) ∙ retained (same j source) (get j m)

-- ---- the end of rules and of keys

module _ (limits : Limits) (m : State) (ends : Key → Key → Bool) (v : IsValid limits m) where
  retention-ended : (j : Key) → retention_at (get j (ended ends m)) ≡ retention_at (get j m)
  retention-ended j = ap retention_at (get-each (λ i c. ended_in ends m i c) j m) ∙ go (get j m)
    where
      go : (o : Option Record) → retention_at (option_map (ended_in ends m j) o) ≡ retention_at o
      go None = refl
      go (Some d) = refl

  plain-ended : (j : Key) → link_to m j ≡ None → plain_at (get j (ended ends m)) ≡ plain_at (get j m)
  plain-ended j x = ap plain_at (get-each (λ i c. ended_in ends m i c) j m) ∙ go (get j m)
    where
      go : (o : Option Record) → plain_at (option_map (ended_in ends m j) o) ≡ plain_at o
      go None = refl
      go (Some d) = ending.plain-left limits m ends v j d (ap (ends_into ends j) x)

  pub counts-on-ended : (s k : Key) (old : Rule) → CountsOn old m s k → CountsOn old (ended ends m) s k
  counts-on-ended s k old h r x u w =
      let y : link_to m k ≡ Some (record { source = s; rule = r }) = (ending.link-before limits m ends v k (record { source = s; rule = r }) x).0 in
      let c : StillCountsAll m s old r = h r y (sym (retention-ended s) ∙ u) (sym (retention-ended k) ∙ w) in
      let e : CountsForEver limits m s k = for-ever limits m s k r v y (sym (retention-ended s) ∙ u) (sym (retention-ended k) ∙ w) c.counts in
      counts-moved m (ended ends m) s old r (plain-ended s (source-free limits m s k e)) c

counts-on-left : (limits : Limits) (m : State) (s k key : Key) (old : Rule) → IsValid limits m → IsLoose m key → CountsOn old m s k → CountsOn old (without_key key m) s k
counts-on-left limits m s k key old v loose h r x u w =
    counts-moved m (without_key key m) s old r (ap plain_at (left s (no-source (same key s) refl)))
    (h r linked (sym (ap retention_at (left s (no-source (same key s) refl))) ∙ u) (sym (ap retention_at (left k (no-dest (same key k) refl))) ∙ w))
  where
    linked : link_to m k ≡ Some (record { source = s; rule = r })
    linked = sym (links-left limits m key v loose k) ∙ x

    left : (j : Key) → same key j ≡ false → get j (without_key key m) ≡ get j m
    left j e = get-without j key m ∙ ap (λ (b : Bool). if b then None else get j m) e

    no-source : (b : Bool) → same key s ≡ b → b ≡ false
    no-source false e = refl
    no-source true e =
        let f : Found m.entries k (record { source = s; rule = r }) = link-found m k (record { source = s; rule = r }) linked in
        let none : f.record_of.rules ≡ [] = loose.no_rules f.record_of (ap (λ (j : Key). get j m) (same-true key s e) ∙ f.there) in
        let one : None ≡ Some r = ap (rule_to k) (sym none) ∙ f.rule in absurd (cc one)

    no-dest : (b : Bool) → same key k ≡ b → b ≡ false
    no-dest false e = refl
    no-dest true e = let one : None ≡ Some (record { source = s; rule = r }) = sym loose.no_source ∙ ap (link_to m) (same-true key k e) ∙ linked in absurd (cc one)

pub counts-on-dropped : (limits : Limits) (m : State) (s k key : Key) (old : Rule) → IsValid limits m → CountsOn old m s k → CountsOn old (dropped key m) s k
counts-on-dropped limits m s k key old v h =
    counts-on-left limits (ended (λ i j. same i key || same j key) m) s k key old (ending.valid-ended limits m (λ i j. same i key || same j key) v) (loose-ended limits m key v)
    (counts-on-ended limits m (λ i j. same i key || same j key) v s k old h)

-- ---- new options

edge-for-ever : (o : Option Record) → retention_at o ≡ 0 → edge_at o ≡ 0
edge-for-ever None e = refl
edge-for-ever (Some d) e = edge-zero d.options.retention d.high e

pub counts-on-altered : (limits : Limits) (m : State) (s k key : Key) (c : Change) (old : Rule) → IsValid limits m → link_to m k ≡ Some (record { source = s; rule = old }) →
    retention_at (get s m) ≡ 0 → retention_at (get k m) ≡ 0 → CountsAll (plain_at (get s m)) old → CountsOn old (settled (change key (altered c) m)) s k
counts-on-altered limits m s k key c old v there p q counts r x u w =
    counts-moved m n s old r plain (counts-now m s k old there counts r linked p q)
  where
    b : State
    b = change key (altered c) m

    n : State
    n = settled (change key (altered c) m)

    f : Found m.entries k (record { source = s; rule = old })
    f = link-found m k (record { source = s; rule = old }) there

    -- the rule stays
    chosen : (t : Bool) → (if t then old else old) ≡ old
    chosen true = refl
    chosen false = refl

    low : edge_at (get old.dest (tidied (change key (altered c) m))) ≡ 0
    low =
        ap (λ (j : Key). edge_at (get j (tidied (change key (altered c) m)))) (link-dest m k (record { source = s; rule = old }) there)
        ∙ sym (edges-settled (change key (altered c) m) k) ∙ edge-for-ever (get k (settled (change key (altered c) m))) w

    after : link_to (settled (change key (altered c) m)) k ≡ Some (record { source = s; rule = old })
    after =
        link-settled (change key (altered c) m) k
        ∙ ap (option_map (with_rule_by (expired_in (tidied (change key (altered c) m)))))
        (link-changed key (altered c) (λ d r. r) m k (record { source = s; rule = old }) f.record_of (altered-keeps c) there f.there ∙ ap (λ (e : Rule). Some (record { source = s; rule = e })) (chosen (same s key)))
        ∙ ap (λ (e : Rule). Some (record { source = s; rule = e })) (expired-zero (edge_at (get old.dest (tidied (change key (altered c) m)))) old low)

    linked : link_to m k ≡ Some (record { source = s; rule = r })
    linked = there ∙ sym after ∙ x

    -- and so do the samples of its source
    free : rule_into (change key (altered c) m) s ≡ None
    free =
        ap (option_map (λ (l : Link). l.rule))
        (link-none (λ j d. if same j key then altered c d else d) (λ j d r. if same j key then r else r) (change-keeps key (altered c) (λ d r. r) (altered-keeps c)) s m
        (source-free limits m s k (for-ever limits m s k old v there p q counts)))

    record_after : get s (settled (change key (altered c) m)) ≡ Some (settled_record (change key (altered c) m) s (if same s key then altered c f.record_of else f.record_of))
    record_after =
        get-settled (change key (altered c) m) s
        ∙ ap (option_map (settled_record (change key (altered c) m) s)) (get-change m key s (altered c) ∙ ap (option_map (λ d. if same s key then altered c d else d)) f.there)

    own : (t : Bool) → (if t then altered c f.record_of else f.record_of).plain ≡ f.record_of.plain
    own true = refl
    own false = refl

    plain : plain_at (get s (settled (change key (altered c) m))) ≡ plain_at (get s m)
    plain =
        ap plain_at record_after
        ∙ ap (λ (o : Option Rule). (tidied_by o (if same s key then altered c f.record_of else f.record_of)).plain) free
        ∙ ap (λ (d : Record). d.plain) (tidy-unlinked (if same s key then altered c f.record_of else f.record_of)
        (kept-zero (edge (if same s key then altered c f.record_of else f.record_of)) (if same s key then altered c f.record_of else f.record_of).plain
        (edge-zero (if same s key then altered c f.record_of else f.record_of).options.retention (if same s key then altered c f.record_of else f.record_of).high (sym (ap retention_at record_after) ∙ u))))
        ∙ own (same s key) ∙ sym (ap plain_at f.there)
