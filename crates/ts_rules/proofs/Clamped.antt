-- A deletion that removes nothing, and one up to the greatest time.
use Rattle.std.proofs.Common.{◌≡◌, ℕ, ◌<◌, ◌≤◌, min, Bool, true, false, not, ◌&&◌, ◌||◌, if◌then◌else◌, List, [], ◌∷◌, length, Option, None, Some, refl, sym, ap, ◌∙◌, subst, arith, eq-eqb}
use Rattle.std.specs.Prelude.{Result, Ok}
use Rattle.std.proofs.lemmas.Bool.{false≢true}
use Rattle.ts_spec.specs.Sample.{Point, MAX_TIME, IsAscending, at, at_times, between, is_within}
use Rattle.ts_spec.specs.Answer.{contains_time}
use Rattle.ts_spec.specs.Bucket.{Grid, start, starts}
use Rattle.ts_spec.specs.Key.{Key}
use Rattle.ts_spec.specs.Valid.{Every}
use Rattle.ts_spec.specs.Rules.{is_past}
use Rattle.ts_spec.specs.StoredUpdates.{lies_in, running_without, deleted_rule, deleted_rows, loses, rows_of}
use Rattle.ts_spec.proofs.Samples.{at-time, at-times, ascending-times, ascending-same}
use Rattle.ts_series.specs.History.{History, IsKept, list_of}
use Rattle.ts_rules.specs.declared.rule.Rule.{Rule}
use Rattle.ts_rules.specs.declared.plan.RulePlan.{RulePlan}
use Rattle.ts_rules.specs.declared.plan.RuleFault.{RuleFault}
use Rattle.ts_rules.specs.declared.shared_bucket.SharedBuckets.{SharedBuckets}
use Rattle.ts_rules.specs.SharedBuckets.{AreShared}
use Rattle.ts_rules.specs.Rules.{stored_rule_for, IsChanged}
use Rattle.ts_rules.specs.Plans.{IsUpdatedBy, IsPlanned}
use Rattle.ts_rules.specs.PlansOfDeletions.{IsPlanOfDeletion}
use Rattle.ts_rules.specs.Deletions.{gone_of, left_of, is_lost, rows_left, rule_left}
use Rattle.ts_rules.proofs.Mended.{stays}
use Rattle.ts_rules.proofs.DestLeft.{none-pass}
use Rattle.ts_series.specs.Plan.{Plan}
use Rattle.ts_rules.proofs.Times.{same-test, times-none, true-unless, within, within-from, within-to, and-false}

-- ---- without a sample

empty : (ps : List Point) → length ps ≡ 0 → ps ≡ []
empty [] e = refl
empty (p ∷ ps) e = absurd (omega (arith, e))

same-rule : (left : List Point) (r : Rule) → IsChanged (deleted_rule [] left) r r
same-rule left r = record { dest = refl; kept = λ k. (λ i. record (stored_rule_for k r) { running = go k r.current i }) }
  where
    go : (k : Key) (o : Option ℕ) → r.running ≡ running_without [] left (stored_rule_for k r) o
    go k None = refl
    go k (Some o) = refl

module _ (r : Rule) (source h : History) (from to limit : ℕ) (none : length (between from to (list_of source)) ≡ 0) (kept : IsKept h) (fits : length (list_of h) ≤ limit) where
  gone-none : gone_of source from to ≡ []
  gone-none = empty (gone_of source from to) none

  lost-none : (t : ℕ) → is_lost r source from to t ≡ false
  lost-none t = ap (λ (ps : List Point). is_past r.current t && lies_in r.grid ps t) gone-none ∙ and-false (is_past r.current t)

  -- Nothing changes.
  nothing-left : IsChanged (rule_left source from to) r r × IsUpdatedBy limit (is_lost r source from to) (rows_left r source from to h.born) h None
  nothing-left = (
    subst (λ (ps : List Point). IsChanged (deleted_rule ps (left_of source from to)) r r) (sym gone-none) (same-rule (left_of source from to) r),
    stays limit (is_lost r source from to) (rows_left r source from to h.born) h kept fits
        (ap (rows_of (left_of source from to) h.born (stored_rule_for [] r)) (none-pass (is_lost r source from to) (starts r.grid (left_of source from to)) lost-none)) lost-none,
  )

  -- So the plan that leaves both as they are is that of the deletion.
  pub unchanged-planned : (plan : RulePlan) → plan.rule ≡ r → plan.dest ≡ None → IsPlanOfDeletion limit r source from to h (Ok plan)
  unchanged-planned plan rule dest =
      subst (λ (x : Rule × Option Plan). IsChanged (rule_left source from to) r x.0 × IsUpdatedBy limit (is_lost r source from to) (rows_left r source from to h.born) h x.1)
      (λ i. (sym rule i, sym dest i)) nothing-left

-- an interval that ends before it begins has no samples
pub none-between : (from to : ℕ) (ps : List Point) → to < from → length (between from to ps) ≡ 0
none-between from to ps h =
    ap length (times-none (is_within from to) ps (λ t. true-unless (is_within from to t)
    (λ e. (let low : from ≤ t = within-from from to t e in let up : t ≤ to = within-to from to t e in absurd (omega (arith, h, low, up))))))

-- there are no samples where none lies in a bucket
pub none-lies : (g : Grid) (ps : List Point) (bs : List ℕ) → ((b : ℕ) → contains_time bs b ≡ lies_in g ps b) → length bs ≡ 0 → length ps ≡ 0
none-lies g [] bs h e = refl
none-lies g (p ∷ ps) [] h e = absurd (false≢true (h (start g p.time) ∙ ap (λ (x : Bool). x || lies_in g ps (start g p.time)) (eq-eqb (start g p.time) (start g p.time) refl)))
none-lies g (p ∷ ps) (b ∷ bs) h e = absurd (omega (arith, e))

-- ---- up to the greatest time

-- a test that is another one at each time of a list picks the same
alike : (a b : ℕ → Bool) (ps : List Point) → IsAscending ps → ((t : ℕ) (p : Point) → at t ps ≡ Some p → a t ≡ b t) → at_times a ps ≡ at_times b ps
alike a b ps h same =
    ascending-same (at_times a ps) (at_times b ps) (ascending-times a ps h) (ascending-times b ps h)
    (λ t. at-times t a ps ∙ go t (at t ps) refl ∙ sym (at-times t b ps))
  where
    nothing : (x : Bool) (o : Option Point) → o ≡ None → (if x then o else None) ≡ None
    nothing true o e = e
    nothing false o e = refl

    go : (t : ℕ) (o : Option Point) → at t ps ≡ o → (if a t then at t ps else None) ≡ (if b t then at t ps else None)
    go t None e = nothing (a t) (at t ps) e ∙ sym (nothing (b t) (at t ps) e)
    go t (Some p) e = ap (λ (x : Bool). if x then at t ps else None) (same t p e)

module _ (source : History) (from to : ℕ) (a : IsAscending (list_of source)) (times : Every (λ p. p.time ≤ MAX_TIME) (list_of source)) where
  clamped : (t : ℕ) (p : Point) → at t (list_of source) ≡ Some p → is_within from (min to MAX_TIME) t ≡ is_within from to t
  clamped t p e =
      let most : p.time ≤ MAX_TIME = times t p e in
      let here : p.time ≡ t = at-time t (list_of source) p e in
      same-test (is_within from (min to MAX_TIME) t) (is_within from to t)
      (λ x. (let up : t ≤ min to MAX_TIME = within-to from (min to MAX_TIME) t x in within from to t (within-from from (min to MAX_TIME) t x) (omega (arith, up))))
      (λ x. (let up : t ≤ to = within-to from to t x in within from (min to MAX_TIME) t (within-from from to t x) (omega (arith, up, most, here))))

  gone-clamped : gone_of source from (min to MAX_TIME) ≡ gone_of source from to
  gone-clamped = alike (is_within from (min to MAX_TIME)) (is_within from to) (list_of source) a clamped

  left-clamped : left_of source from (min to MAX_TIME) ≡ left_of source from to
  left-clamped = alike (λ t. not (is_within from (min to MAX_TIME) t)) (λ t. not (is_within from to t)) (list_of source) a (λ t p e. ap not (clamped t p e))

  -- A plan up to the greatest time is one past it.
  pub plan-clamped : (r : Rule) (dest : History) (limit end : ℕ) (result : Result RulePlan RuleFault) → end ≡ min to MAX_TIME → IsPlanOfDeletion limit r source from end dest result → IsPlanOfDeletion limit r source from to dest result
  plan-clamped r dest limit end result e x =
      subst (λ (ps : List Point × List Point). IsPlanned limit (deleted_rule ps.0 ps.1) (loses ps.0 (stored_rule_for [] r)) (deleted_rows ps.0 ps.1 dest.born (stored_rule_for [] r)) r dest result)
      (λ i. (gone-clamped i, left-clamped i)) (subst (λ n. IsPlanOfDeletion limit r source from n dest result) e x)

  -- What rules share of the buckets up to the greatest time is what they share of them past it, and the other way round.
  pub shared-clamped : (end : ℕ) (t : SharedBuckets) → end ≡ min to MAX_TIME → AreShared (left_of source from end) t → AreShared (left_of source from to) t
  shared-clamped end t e x = subst (λ (ps : List Point). AreShared ps t) (ap (left_of source from) e ∙ left-clamped) x

  pub clamped-shared : (end : ℕ) (t : SharedBuckets) → end ≡ min to MAX_TIME → AreShared (left_of source from to) t → AreShared (left_of source from end) t
  clamped-shared end t e x = subst (λ (ps : List Point). AreShared ps t) (sym (ap (left_of source from) e ∙ left-clamped)) x
