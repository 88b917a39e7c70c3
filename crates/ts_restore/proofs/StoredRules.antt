-- What a valid state stores of a rule is a valid rule of a checkpoint.
use Rattle.std.proofs.Common.{◌≡◌, ℕ, suc, ◌+◌, ◌-◌, ◌≤◌, Bool, true, false, cond, ◌==◌, nat_le, if◌then◌else◌, inl, inr, List, [], ◌∷◌, length, Option, Some, None, option_map, refl, sym, ap, ◌∙◌, subst, arith}
use Rattle.std.proofs.lemmas.Bool.{cases_lt}
use Rattle.ts_spec.specs.Sample.{Point, IsAscending, at}
use Rattle.ts_spec.specs.Bucket.{Grid, start, members}
use Rattle.ts_spec.specs.Aggregate.{Summary, summary}
use Rattle.ts_spec.specs.State.{Rule, Record}
use Rattle.ts_spec.specs.Valid.{Every, IsUpTo, IsSoundRule}
use Rattle.ts_spec.specs.StoredSeries.{StoredSeries, summary_at, stored_rule}
use Rattle.ts_spec.proofs.Aggregates.{summary-count}
use Rattle.ts_spec.proofs.Samples.{IsBefore, each_before, at-times, ascending-times, at-after}
use Rattle.ts_spec.proofs.BucketSize.{IsIn, members-in, few-between}
use Rattle.ts_spec.proofs.Buckets.{start-le}
use Rattle.ts_restore.specs.Restored.{last_since, top_at}
use Rattle.ts_restore.specs.Restorable.{IsBucket, IsRule}
use Rattle.ts_restore.proofs.LaidRules.{within-bucket, last-low}

-- P holds for the first sample, and for the others
pub every-first : (P : Point → Type 0) (p : Point) (ps : List Point) → Every P (p ∷ ps) → P p
every-first P p ps h = h p.time p (ap (λ (b : Bool). cond b (Some p) (at p.time ps)) (same p.time))
  where
    same : (t : ℕ) → (t == t) ≡ true
    same t = grind arith

pub every-rest : (P : Point → Type 0) (p : Point) (ps : List Point) → IsAscending (p ∷ ps) → Every P (p ∷ ps) → Every P ps
every-rest P p ps up h t q e = h t q (go (p.time == t) refl)
  where
    go : (b : Bool) → (p.time == t) ≡ b → cond b (Some p) (at t ps) ≡ Some q
    go false x = e
    go true x =
        let same : p.time ≡ t = grind arith in
        let none : at t ps ≡ None = at-after t p.time ps up.0 (omega arith) in
        let one : None ≡ Some q = sym none ∙ e in absurd (cc one)

-- no time is past t if none of a sample that counts is
last-most : (made low t : ℕ) (ps : List Point) → IsAscending ps → low ≤ t → Every (λ p. made ≤ p.made → p.time ≤ t) ps → last_since made low ps ≤ t
last-most made low t [] up l h = l
last-most made low t (p ∷ ps) up l h =
    let rest : last_since made low ps ≤ t = last-most made low t ps up.1 l (every-rest (λ q. made ≤ q.made → q.time ≤ t) p ps up h) in
    let here : (if nat_le made p.made then p.time else low) ≤ t = go (nat_le made p.made) refl in
    omega arith
  where
    go : (b : Bool) → nat_le made p.made ≡ b → (if b then p.time else low) ≤ t
    go false x = l
    go true x = every-first (λ q. made ≤ q.made → q.time ≤ t) p ps h (grind arith)

-- samples of one bucket up to a time are no more than the milliseconds from its start
few-members : (g : Grid) (b t : ℕ) (ps : List Point) → 1 ≤ g.duration → IsAscending ps → IsIn g b ps → Every (λ p. p.time ≤ t) ps → b ≤ t → b + length ps ≤ suc t
few-members g b t [] h up i most l = omega arith
few-members g b t (p ∷ ps) h up i most l =
    let first : p.time ≤ t = every-first (λ q. q.time ≤ t) p ps most in
    let low : start g p.time ≤ p.time = start-le g p.time (omega arith) in
    let here : start g p.time ≡ b = i.0 in
    let rest : IsBefore (suc t) ps = each_before (suc t) ps up.1 (λ u q e. (let one : q.time ≤ t = every-rest (λ r. r.time ≤ t) p ps up most u q e in omega arith)) in
    let few : length ps ≤ suc t - suc p.time = few-between p.time (suc t) ps up.1 up.0 rest in
    omega arith

-- what a bucket has passes each test that all counted samples pass
in-bucket : (P : Point → Type 0) (g : Grid) (b : ℕ) (ps : List Point) → Every P ps → Every P (members g b ps)
in-bucket P g b ps h t p e = h t p (go (start g t == b) (sym (at-times t (λ u. start g u == b) ps) ∙ e))
  where
    go : (x : Bool) → (if x then at t ps else None) ≡ Some p → at t ps ≡ Some p
    go true y = y
    go false y = absurd (cc y)

module _ (d : Record) (s : StoredSeries) (same_list : s.list ≡ d.plain) (same_high : s.high ≡ d.high) (same_born : s.born ≡ d.born) (up : IsAscending d.plain) (r : Rule) (sound : IsSoundRule d r) (duration : 1 ≤ r.grid.duration) where
  bucket-by : (o : Option ℕ) → r.top ≡ o → IsBucket s (stored_rule r) (option_map (start r.grid) o)
  bucket-by None e = record {
    running = ap (λ (o : Option ℕ). summary_at r (option_map (start r.grid) o)) e;
    list = λ t p x. elim (cases_lt p.made r.made) [
      | inl before ↦ before
      | inr since ↦ absurd (subst (λ (o : Option ℕ). IsUpTo o p.time) e (sound.eligible t p (ap (at t) (sym same_list) ∙ x) since))
    ];
  }
  bucket-by (Some t) e =
      let running : (stored_rule r).running ≡ summary (members r.grid (start r.grid t) r.seen) = ap (λ (o : Option ℕ). summary_at r (option_map (start r.grid) o)) e in
      let count : (stored_rule r).running.count ≡ length (members r.grid (start r.grid t) r.seen) = ap (λ (x : Summary). x.count) running ∙ summary-count (members r.grid (start r.grid t) r.seen) in
      let low : start r.grid t ≤ t = start-le r.grid t (omega arith) in
      let seen : Every (λ p. p.time ≤ t) r.seen = λ u p x. subst (λ (o : Option ℕ). IsUpTo o p.time) e (sound.seen u p x).time in
      let few : start r.grid t + length (members r.grid (start r.grid t) r.seen) ≤ suc t =
      few-members r.grid (start r.grid t) t (members r.grid (start r.grid t) r.seen) duration (ascending-times (λ u. start r.grid u == start r.grid t) r.seen sound.ascending)
      (members-in r.grid (start r.grid t) r.seen) (in-bucket (λ p. p.time ≤ t) r.grid (start r.grid t) r.seen seen) low in
      let since : last_since r.made (start r.grid t) d.plain ≤ t = last-most r.made (start r.grid t) t d.plain up low (λ u p x k. subst (λ (o : Option ℕ). IsUpTo o p.time) e (sound.eligible u p x k)) in
      let start_low : start r.grid t ≤ last_since r.made (start r.grid t) d.plain = last-low r.made (start r.grid t) d.plain in
      let top : top_at (stored_rule r) (start r.grid t) d.plain ≤ t = omega arith in
      let from : start r.grid t ≤ top_at (stored_rule r) (start r.grid t) d.plain = omega arith in
      record {
        running = (members r.grid (start r.grid t) r.seen, sym running);
        same = ap (λ (ps : List Point). start r.grid (top_at (stored_rule r) (start r.grid t) ps)) same_list
            ∙ within-bucket r.grid (start r.grid t) t (top_at (stored_rule r) (start r.grid t) d.plain) duration refl from top;
        high = subst (λ (ps : List Point). IsUpTo s.high (top_at (stored_rule r) (start r.grid t) ps)) (sym same_list)
            (subst (λ (o : Option ℕ). IsUpTo o (top_at (stored_rule r) (start r.grid t) d.plain)) (sym same_high) (lower d.high (top_at (stored_rule r) (start r.grid t) d.plain) t top (sound.top t e)));
      }
    where
      lower : (o : Option ℕ) (x y : ℕ) → x ≤ y → IsUpTo o y → IsUpTo o x
      lower None x y l h = h
      lower (Some high) x y l h = omega arith

  pub rule-stored : IsRule s (stored_rule r)
  rule-stored = record {
    made_from = sound.made_from;
    made_to = subst (λ (n : ℕ). r.made ≤ n) (sym same_born) sound.made_to;
    duration = duration;
    bucket = bucket-by r.top refl;
  }
