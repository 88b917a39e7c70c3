-- The open bucket of a rule can count one more sample: it never has more samples than milliseconds.
use Rattle.std.proofs.Common.{◌≡◌, ℕ, suc, ◌+◌, ◌-◌, ◌<◌, ◌≤◌, Bool, true, false, ◌==◌, if◌then◌else◌, List, [], ◌∷◌, map, length, Option, Some, None, refl, sym, ap, ◌∙◌, subst, arith, ltb-true}
use Rattle.std.specs.Bool.{⊤}
use Rattle.ts_spec.specs.declared.limits.Limits.{Limits}
use Rattle.ts_spec.specs.Sample.{Point, IsAscending, at}
use Rattle.ts_spec.specs.Bucket.{Grid, start, members}
use Rattle.ts_spec.specs.Key.{Key}
use Rattle.ts_spec.specs.Keyed.{get}
use Rattle.ts_spec.specs.State.{Rule, Record, State, link_to}
use Rattle.ts_spec.specs.Rules.{open_of, is_append}
use Rattle.ts_spec.specs.Valid.{EachRule, IsUpTo, IsSoundRule}
use Rattle.ts_spec.specs.StoredSeries.{StoredRule, StoredSeries, StoredKeys, summary_at, stored_rule, stored_record}
use Rattle.ts_spec.specs.Represents.{RepresentsState, HaveDurations, AllHaveDurations}
use Rattle.ts_spec.proofs.Samples.{IsBefore, each_before, at-times, ascending-times}
use Rattle.ts_spec.proofs.Linked.{From, mapped-from}
use Rattle.ts_spec.proofs.StoredMaps.{get-kept}
use Rattle.ts_spec.proofs.DeletedRules.{count-summary}
use Rattle.ts_spec.proofs.BucketSize.{IsIn, members-in, same-bucket, few-between}

-- The members of a bucket before one of its times are fewer than it has milliseconds.
pub members-room : (g : Grid) (t : ℕ) (ps : List Point) → 1 ≤ g.duration → IsAscending ps → IsBefore t (members g (start g t) ps) → length (members g (start g t) ps) < g.duration
members-room g t ps h a before = go (members g (start g t) ps) (ascending-times (λ u. start g u == start g t) ps a) (members-in g (start g t) ps) before
  where
    go : (qs : List Point) → IsAscending qs → IsIn g (start g t) qs → IsBefore t qs → length qs < g.duration
    go [] k x b = omega arith
    go (q ∷ qs) k x b =
        let rest : length qs ≤ t - suc q.time = few-between q.time t qs k.1 k.0 b.1 in
        let first : q.time < t = b.0 in
        let near : t < q.time + g.duration = same-bucket g q.time t h x.0 in
        omega arith

-- no sample that a rule counts is at an appended time or past it
counted-before : (d : Record) (r : Rule) (t u : ℕ) (p : Point) → IsSoundRule d r → is_append t d.high ≡ true → at u r.seen ≡ Some p → p.time < t
counted-before d r t u p s h x = go r.top refl d.high refl
  where
    go : (top : Option ℕ) → r.top ≡ top → (high : Option ℕ) → d.high ≡ high → p.time < t
    go None e high f = absurd (subst (λ (o : Option ℕ). IsUpTo o p.time) e (s.seen u p x).time)
    go (Some top) e None f = absurd (subst (λ (o : Option ℕ). IsUpTo o top) f (s.top top e))
    go (Some top) e (Some high) f =
        let one : p.time ≤ top = subst (λ (o : Option ℕ). IsUpTo o p.time) e (s.seen u p x).time in
        let two : top ≤ high = subst (λ (o : Option ℕ). IsUpTo o top) f (s.top top e) in
        let three : high < t = ltb-true high t (ap (is_append t) (sym f) ∙ h) in
        omega arith

-- If a sample is appended to the open bucket of a rule, the running summary counts fewer samples than the bucket has
-- milliseconds.
pub running-room : (d : Record) (r : Rule) (t : ℕ) → IsSoundRule d r → 1 ≤ r.grid.duration → is_append t d.high ≡ true → open_of r ≡ Some (start r.grid t) →
    (stored_rule r).running.count < r.grid.duration
running-room d r t s h fresh here =
    let count : (stored_rule r).running.count ≡ length (members r.grid (start r.grid t) r.seen) =
    ap (λ (o : Option ℕ). (summary_at r o).count) here ∙ count-summary (members r.grid (start r.grid t) r.seen) in
    let room : length (members r.grid (start r.grid t) r.seen) < r.grid.duration =
    members-room r.grid t r.seen h s.ascending
    (each_before t (members r.grid (start r.grid t) r.seen) (ascending-times (λ u. start r.grid u == start r.grid t) r.seen s.ascending)
    (λ u p x. counted-before d r t u p s fresh (passed u p (start r.grid u == start r.grid t) (sym (at-times u (λ w. start r.grid w == start r.grid t) r.seen) ∙ x)))) in
    omega arith
  where
    passed : (u : ℕ) (p : Point) (b : Bool) → (if b then at u r.seen else None) ≡ Some p → at u r.seen ≡ Some p
    passed u p true e = e
    passed u p false e = absurd (cc e)

-- each of these rules can count one more sample at this time, if that is in its open bucket
abbrev pub CanCountOneMore : ℕ → List StoredRule → Type 0
CanCountOneMore t [] = ⊤
CanCountOneMore t (q ∷ qs) = (q.current ≡ Some (start q.grid t) → q.running.count < q.grid.duration) × CanCountOneMore t qs

rules-room : (d : Record) (t : ℕ) (rs : List Rule) → is_append t d.high ≡ true → HaveDurations (map stored_rule rs) → EachRule (IsSoundRule d) rs → CanCountOneMore t (map stored_rule rs)
rules-room d t [] fresh h x = tt
rules-room d t (r ∷ rs) fresh h x = (λ here. running-room d r t x.0 h.0 fresh here, rules-room d t rs fresh h.1 x.1)

-- The same for each stored rule, and a sample that is appended.
pub stands-room : (limits : Limits) (keys : StoredKeys) (m : State) (k : Key) (c : StoredSeries) (t : ℕ) → RepresentsState limits keys m → AllHaveDurations keys → get k keys ≡ Some c → is_append t c.high ≡ true →
    CanCountOneMore t c.rules
stands-room limits keys m k c t s h x fresh =
    let from : From (stored_record (link_to m k)) (get k m) c = mapped-from (stored_record (link_to m k)) (get k m) c (sym (get-kept m k) ∙ ap (get k) (sym s.kept) ∙ x) in
    let same_rules : map stored_rule from.value.rules ≡ c.rules = ap (λ (q : StoredSeries). q.rules) from.gives in
    let same_high : from.value.high ≡ c.high = ap (λ (q : StoredSeries). q.high) from.gives in
    subst (CanCountOneMore t) same_rules
    (rules-room from.value t from.value.rules (ap (is_append t) same_high ∙ fresh) (subst HaveDurations (sym same_rules) (h k c x)) (s.valid.sound k from.value from.is).rules)
