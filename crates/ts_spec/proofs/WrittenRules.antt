-- The stored form of a rule after a write to its source.
use Rattle.std.proofs.Common.{◌≡◌, ℕ, ℤ, ◌<◌, max, Bool, true, false, ◌==◌, if◌then◌else◌, Option, Some, None, option_map, refl, sym, ap, ◌∙◌, arith, inl, inr, eq-eqb, ne_eqb, lt-ltb, le-ltb}
use Rattle.std.proofs.lemmas.Bool.{cases_order}
use Rattle.ts_spec.specs.Sample.{put}
use Rattle.ts_spec.specs.Bucket.{start, members}
use Rattle.ts_spec.specs.Aggregate.{nothing, push, summary}
use Rattle.ts_spec.specs.State.{Rule, Record}
use Rattle.ts_spec.specs.Rules.{raised, is_append, open_of, sample_for}
use Rattle.ts_spec.specs.Valid.{IsSoundRule, IsSound}
use Rattle.ts_spec.specs.StoredSeries.{summary_at, stored_rule}
use Rattle.ts_spec.specs.StoredUpdates.{recounted_bucket, by_bucket, written_rule}
use Rattle.ts_spec.proofs.Aggregates.{summary-push}
use Rattle.ts_spec.proofs.WrittenCounts.{open-raised, counted_by, fresh-none, fresh-past, members-other, members-here, members-anew, members-fresh}

-- ---- the position of a bucket

pub by-before : {X : Type 0} (b o : ℕ) (x y z : X) → b < o → by_bucket b (Some o) x y z ≡ x
by-before b o x y z h = ap (λ (c : Bool). if c then x else (if b == o then y else z)) (lt-ltb b o h)

pub by-here : {X : Type 0} (b o : ℕ) (x y z : X) → b ≡ o → by_bucket b (Some o) x y z ≡ y
by-here b o x y z h = ap (λ (c : Bool). if c then x else (if b == o then y else z)) (le-ltb b o (omega arith)) ∙ ap (λ (c : Bool). if c then y else z) (eq-eqb b o h)

pub by-past : {X : Type 0} (b o : ℕ) (x y z : X) → o < b → by_bucket b (Some o) x y z ≡ z
by-past b o x y z h = ap (λ (c : Bool). if c then x else (if b == o then y else z)) (le-ltb b o (omega arith)) ∙ ap (λ (c : Bool). if c then y else z) (ne_eqb b o (λ e. absurd (omega arith)))

-- ---- the stored rule

module _ (t : ℕ) (v : ℤ) (d : Record) (own : IsSound d) (r : Rule) (s : IsSoundRule d r) where
  -- what its open bucket counts, if that is the one of the sample
  here : summary (members r.grid (start r.grid t) (counted_by t v d r).seen) ≡
      (if is_append t d.high then push (summary (members r.grid (start r.grid t) r.seen)) (sample_for t v d) else recounted_bucket (stored_rule r) (start r.grid t) (put (sample_for t v d) d.plain))
  here = go (is_append t d.high) refl
    where
      go : (c : Bool) → is_append t d.high ≡ c → summary (members r.grid (start r.grid t) (counted_by t v d r).seen) ≡
          (if c then push (summary (members r.grid (start r.grid t) r.seen)) (sample_for t v d) else recounted_bucket (stored_rule r) (start r.grid t) (put (sample_for t v d) d.plain))
      go true x = ap summary (members-here t v d own r s x) ∙ summary-push (members r.grid (start r.grid t) r.seen) (sample_for t v d)
      go false x = ap summary (members-anew t v d own r s x)

  -- what it counts, if the rule had an open bucket
  running-after : (h : ℕ) → r.top ≡ Some h → summary (members r.grid (max (start r.grid h) (start r.grid t)) (counted_by t v d r).seen) ≡
      by_bucket (start r.grid t) (Some (start r.grid h)) (summary (members r.grid (start r.grid h) r.seen))
      (if is_append t d.high then push (summary (members r.grid (start r.grid h) r.seen)) (sample_for t v d) else recounted_bucket (stored_rule r) (start r.grid t) (put (sample_for t v d) d.plain))
      (push nothing (sample_for t v d))
  running-after h e = elim (cases_order (start r.grid t) (start r.grid h)) [
    | inl x ↦
        (let open_at : max (start r.grid h) (start r.grid t) ≡ start r.grid t = omega arith in
        ap (λ (b : ℕ). summary (members r.grid b (counted_by t v d r).seen)) open_at
        ∙ here
        ∙ ap (λ (b : ℕ). if is_append t d.high then push (summary (members r.grid b r.seen)) (sample_for t v d) else recounted_bucket (stored_rule r) (start r.grid t) (put (sample_for t v d) d.plain)) x
        ∙ sym (by-here (start r.grid t) (start r.grid h) _ _ _ x))
    | inr (inl x) ↦
        (let open_at : max (start r.grid h) (start r.grid t) ≡ start r.grid h = omega arith in
        ap (λ (b : ℕ). summary (members r.grid b (counted_by t v d r).seen)) open_at
        ∙ ap summary (members-other t v d own r s (start r.grid h) (λ y. absurd (omega arith)))
        ∙ sym (by-before (start r.grid t) (start r.grid h) _ _ _ x))
    | inr (inr x) ↦
        (let open_at : max (start r.grid h) (start r.grid t) ≡ start r.grid t = omega arith in
        ap (λ (b : ℕ). summary (members r.grid b (counted_by t v d r).seen)) open_at
        ∙ ap summary (members-fresh t v d own r s (fresh-past r t h e x))
        ∙ sym (by-past (start r.grid t) (start r.grid h) _ _ _ x))
  ]

  running-written : summary_at (counted_by t v d r) (raised (start r.grid t) (open_of r)) ≡
      by_bucket (start r.grid t) (open_of r) (summary_at r (open_of r))
      (if is_append t d.high then push (summary_at r (open_of r)) (sample_for t v d) else recounted_bucket (stored_rule r) (start r.grid t) (put (sample_for t v d) d.plain))
      (push nothing (sample_for t v d))
  running-written = go r.top refl
    where
      go : (top : Option ℕ) → r.top ≡ top → summary_at (counted_by t v d r) (raised (start r.grid t) (option_map (start r.grid) top)) ≡
          by_bucket (start r.grid t) (option_map (start r.grid) top) (summary_at r (option_map (start r.grid) top))
          (if is_append t d.high then push (summary_at r (option_map (start r.grid) top)) (sample_for t v d) else recounted_bucket (stored_rule r) (start r.grid t) (put (sample_for t v d) d.plain))
          (push nothing (sample_for t v d))
      go None e = ap summary (members-fresh t v d own r s (fresh-none r (start r.grid t) e))
      go (Some h) e = running-after h e

  -- Storing a rule and writing commute.
  pub kept-counted : stored_rule (counted_by t v d r) ≡ written_rule (is_append t d.high) (sample_for t v d) (put (sample_for t v d) d.plain) (stored_rule r)
  kept-counted =
      let current : open_of (counted_by t v d r) ≡ raised (start r.grid t) (open_of r) = open-raised r.grid t r.top in
      (λ i. record (stored_rule r) { current = current i; running = summary_at (counted_by t v d r) (current i) })
      ∙ (λ i. record (stored_rule r) { current = raised (start r.grid t) (open_of r); running = running-written i })
