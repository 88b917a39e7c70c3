-- The result of TS.INCRBY and TS.DECRBY.
use Rattle.std.proofs.Common.{◌≡◌, ℕ, ℤ, Bool, true, false, refl, sym, ◌∙◌, ap, subst}
use Rattle.std.specs.Prelude.{nat_lt, nat_le, unsigned_abs, if◌then◌else◌, Option, None, Some}
use Rattle.ts_spec.specs.Value.{bound}
use Rattle.ts_spec.specs.Refusal as refusal
use Rattle.ts_spec.specs.declared.series.Merge.TheVariants.{Set}
use Rattle.ts_spec.specs.Sample.{last_of}
use Rattle.ts_spec.specs.Key.{Key}
use Rattle.ts_spec.specs.Command.{Spec}
use Rattle.ts_spec.specs.Rules.{Merged, Refuse, To, merge, within_bound}
use Rattle.ts_spec.specs.Step.{value_at, is_before_last, changed_value}
use Rattle.ts_spec.specs.Ignoring.{stored_ignored}
use Rattle.ts_spec.specs.StoredSeries.{StoredSeries}
use Rattle.ts_spec.specs.StoredStep.{stored_refused, list_at, stored_write_merged, stored_unless_ignored, stored_increased, stored_incr_at, stored_incr}
use Rattle.ts_sample.specs.declared.sample.Id.{Id}
use Rattle.ts_series.specs.History.{list_of, low}
use Rattle.ts_db.specs.declared.node.Node.{Node}
use Rattle.ts_db.specs.declared.store.Store.{Store}
use Rattle.ts_db.specs.Store.{stored_node, db_view_of, IsInOrder, Holds}
use Rattle.ts_db.specs.Writes.{IsChanged, ignored_by}
use Rattle.ts_db.specs.Bounds.{IsIgnored, IsChangeIgnored}
use Rattle.ts_db.specs.PutBy.{stored_merge_at, stored_merge}
use Rattle.ts_db.proofs.Applying.{there}
use Rattle.ts_db.proofs.Ignoring.{kept-by}

module _ (s : Store) (store : IsInOrder s) (key : Key) (id : Id) (n : Node) (holds : Holds s key id n) (x : ℤ) (t : ℕ) (spec : Spec) where
  -- the step, by what its tests say
  tested : (a b : Bool) → is_before_last t (last_of (list_of n.series)) ≡ a → nat_lt t (low n.series) ≡ b
      → stored_incr s.limits (db_view_of s).keys key x t spec ≡ (if a then stored_refused (db_view_of s).keys refusal.BeforeLast
      else (if b then stored_refused (db_view_of s).keys refusal.TooOld else stored_increased s.limits (db_view_of s).keys key (stored_node s.nodes n) t (within_bound (changed_value x (last_of (list_of n.series))))))
  tested a b e f =
      ap (stored_incr_at s.limits (db_view_of s).keys key x t spec) (there s store key id n holds)
      ∙ ap (λ c. if c then stored_refused (db_view_of s).keys refusal.BeforeLast
      else (if nat_lt t (low n.series) then stored_refused (db_view_of s).keys refusal.TooOld else stored_increased s.limits (db_view_of s).keys key (stored_node s.nodes n) t (within_bound (changed_value x (last_of (list_of n.series)))))) e
      ∙ ap (λ c. if a then stored_refused (db_view_of s).keys refusal.BeforeLast
      else (if c then stored_refused (db_view_of s).keys refusal.TooOld else stored_increased s.limits (db_view_of s).keys key (stored_node s.nodes n) t (within_bound (changed_value x (last_of (list_of n.series)))))) f

  pub incr-before : is_before_last t (last_of (list_of n.series)) ≡ true → stored_incr s.limits (db_view_of s).keys key x t spec ≡ stored_refused (db_view_of s).keys refusal.BeforeLast
  incr-before e = tested true (nat_lt t (low n.series)) e refl

  pub incr-old : is_before_last t (last_of (list_of n.series)) ≡ false → nat_lt t (low n.series) ≡ true
      → stored_incr s.limits (db_view_of s).keys key x t spec ≡ stored_refused (db_view_of s).keys refusal.TooOld
  incr-old e f = tested false true e f

  out : (v : ℤ) → IsChanged (within_bound v) None → within_bound v ≡ Refuse refusal.OutOfRange
  out v is = go (nat_le (unsigned_abs v) bound) is
    where
      go : (b : Bool) → IsChanged (if b then To v else Refuse refusal.OutOfRange) None → (if b then To v else Refuse refusal.OutOfRange) ≡ Refuse refusal.OutOfRange
      go true e = absurd (cc e)
      go false e = refl

  pub incr-out : is_before_last t (last_of (list_of n.series)) ≡ false → nat_lt t (low n.series) ≡ false → IsChanged (within_bound (changed_value x (last_of (list_of n.series)))) None
      → stored_incr s.limits (db_view_of s).keys key x t spec ≡ stored_refused (db_view_of s).keys refusal.OutOfRange
  incr-out e f is = tested false false e f ∙ ap (stored_increased s.limits (db_view_of s).keys key (stored_node s.nodes n) t) (out (changed_value x (last_of (list_of n.series))) is)

  within : (w v : ℤ) → IsChanged (within_bound w) (Some v) → within_bound w ≡ To v
  within w v is = go (nat_le (unsigned_abs w) bound) is
    where
      go : (b : Bool) → IsChanged (if b then To w else Refuse refusal.OutOfRange) (Some v) → (if b then To w else Refuse refusal.OutOfRange) ≡ To v
      go true e = let same : w ≡ v = cc e in ap (λ (y : ℤ). To y) same
      go false e = absurd (cc e)

  -- where the result is in range, by whether it is ignored
  in-range : (v : ℤ) → is_before_last t (last_of (list_of n.series)) ≡ false → nat_lt t (low n.series) ≡ false → IsChanged (within_bound (changed_value x (last_of (list_of n.series)))) (Some v)
      → stored_incr s.limits (db_view_of s).keys key x t spec ≡ stored_unless_ignored (db_view_of s).keys (ignored_by n t v) (stored_write_merged s.limits (db_view_of s).keys key t (To v))
  in-range v e f is =
      tested false false e f
      ∙ ap (stored_increased s.limits (db_view_of s).keys key (stored_node s.nodes n) t) (within (changed_value x (last_of (list_of n.series))) v is)
      ∙ ap (λ (o : Option ℕ). stored_unless_ignored (db_view_of s).keys o (stored_write_merged s.limits (db_view_of s).keys key t (To v))) (kept-by s store key id n holds t v)

  -- and then it is a write of the result
  pub incr-merges : (v : ℤ) → is_before_last t (last_of (list_of n.series)) ≡ false → nat_lt t (low n.series) ≡ false
      → IsChanged (within_bound (changed_value x (last_of (list_of n.series)))) (Some v)
      → stored_incr s.limits (db_view_of s).keys key x t spec ≡ stored_merge s.limits (db_view_of s).keys key t v (Some Set)
  incr-merges v e f is =
      in-range v e f is
      ∙ sym (ap (stored_merge_at s.limits (db_view_of s).keys key t v (Some Set)) (there s store key id n holds)
      ∙ ap (λ (m : Merged). if nat_lt t (low n.series) then stored_refused (db_view_of s).keys refusal.TooOld else stored_unless_ignored (db_view_of s).keys (stored_ignored (stored_node s.nodes n) t v) (stored_write_merged s.limits (db_view_of s).keys key t m)) (set-to (value_at t (list_of n.series)))
      ∙ ap (λ (b : Bool). if b then stored_refused (db_view_of s).keys refusal.TooOld else stored_unless_ignored (db_view_of s).keys (stored_ignored (stored_node s.nodes n) t v) (stored_write_merged s.limits (db_view_of s).keys key t (To v))) f
      ∙ ap (λ (o : Option ℕ). stored_unless_ignored (db_view_of s).keys o (stored_write_merged s.limits (db_view_of s).keys key t (To v))) (kept-by s store key id n holds t v))
    where
      set-to : (o : Option ℤ) → merge Set o v ≡ To v
      set-to None = refl
      set-to (Some w) = refl

  -- a change that is ignored is a write that is
  pub change-ignored : (v : ℤ) → IsChanged (within_bound (changed_value x (last_of (list_of n.series)))) (Some v) → IsChangeIgnored (db_view_of s) key t x → IsIgnored (db_view_of s) key t v
  change-ignored v is told =
      subst (λ (w : ℤ). IsIgnored (db_view_of s) key t w) (value-of (changed_value x (last_of (list_of n.series))) v is)
      (subst (λ (o : Option StoredSeries). IsIgnored (db_view_of s) key t (changed_value x (last_of (list_at o)))) (there s store key id n holds) told)
    where
      value-of : (w y : ℤ) → IsChanged (within_bound w) (Some y) → w ≡ y
      value-of w y h = go (nat_le (unsigned_abs w) bound) h
        where
          go : (b : Bool) → IsChanged (if b then To w else Refuse refusal.OutOfRange) (Some y) → w ≡ y
          go true e = cc e
          go false e = absurd (cc e)
