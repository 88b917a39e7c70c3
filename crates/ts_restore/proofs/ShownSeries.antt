-- What a valid state stores of a series is a valid part of a checkpoint.
use Rattle.std.proofs.Common.{◌≡◌, ℕ, ◌≤◌, Bool, true, false, nat_le, if◌then◌else◌, List, length, Option, Some, None, refl, sym, ap, ◌∙◌, subst, arith, leb-true}
use Rattle.std.specs.Option.{option_or}
use Rattle.ts_spec.specs.declared.limits.Limits.{Limits}
use Rattle.ts_spec.specs.Sample.{Point, at}
use Rattle.ts_spec.specs.Key.{Key}
use Rattle.ts_spec.specs.Keyed.{get}
use Rattle.ts_spec.specs.State.{Rule, Record, State, link_to, rule_into, edge}
use Rattle.ts_spec.specs.Rules.{shown_by, has_row_of, bucket_sample, is_row_by}
use Rattle.ts_spec.specs.Valid.{IsUpTo, IsOwn, IsWithin, IsValid}
use Rattle.ts_spec.specs.StoredSeries.{stored_record}
use Rattle.ts_spec.proofs.Samples.{at-time}
use Rattle.ts_spec.proofs.Tidy.{some-same, own-tidy, high-tidy}
use Rattle.ts_spec.proofs.Keeps.{shown-there}
use Rattle.ts_spec.proofs.Shows.{at-shown, ascending-shown}
use Rattle.ts_restore.specs.Checkpoint.{series_part}
use Rattle.ts_restore.specs.Restorable.{IsSeries}

-- a sample that a key shows
record IsShown (d : Record) (p : Point) : Type 0 where
  from_edge : edge d ≤ p.time
  to_high : IsUpTo d.high p.time
  made : p.made ≤ d.born

module _ (limits : Limits) (m : State) (k : Key) (d : Record) (v : IsValid limits m) (there : get k m ≡ Some d) where
  own-shown : (t : ℕ) (p : Point) → at t d.plain ≡ Some p → IsShown d p
  own-shown t p e =
      let o : IsOwn d p = (v.sound k d there).own t p e in
      let time : p.time ≡ t = at-time t d.plain p e in
      let low : edge d ≤ t = leb-true (edge d) t (own-tidy m k d t p v.settled there e).0 in
      record { from_edge = omega arith; to_high = o.time; made = o.made }

  one-shown : (o : Option Rule) → rule_into m k ≡ o → (t : ℕ) (p : Point) → at t (shown_by o d) ≡ Some p → IsShown d p
  one-shown None x t p e = own-shown t p e
  one-shown (Some r) x t p e = go (nat_le (edge d) t) refl (has_row_of r t) refl (sym (at-shown r d t) ∙ e)
    where
      go : (a : Bool) → nat_le (edge d) t ≡ a → (b : Bool) → has_row_of r t ≡ b →
          (if a then option_or (if b then Some (bucket_sample r d.born t) else None) (at t d.plain) else None) ≡ Some p → IsShown d p
      go false y b z w = absurd (cc w)
      go true y false z w = own-shown t p w
      go true y true z w =
          let high : IsUpTo d.high t = high-tidy m k d t v.settled there (ap (λ (q : Option Rule). is_row_by q t) x ∙ z) in
          subst (IsShown d) (some-same (bucket_sample r d.born t) p w)
          (record { from_edge = leb-true (edge d) t y; to_high = high; made = omega arith })

  pub series-stored : IsSeries limits (series_part (record { key = k; value = stored_record (link_to m k) d }))
  series-stored =
      let w : IsWithin limits m k d = v.within k d there in
      record {
        labels = w.labels;
        born = w.born;
        samples = subst (λ (ps : List Point). length ps ≤ limits.samples) (shown-there m k d there) w.samples;
        ascending = ascending-shown (rule_into m k) d (v.sound k d there).ascending;
        list = λ t p e. (let s : IsShown d p = one-shown (rule_into m k) refl t p e in record { from_edge = s.from_edge; to_high = s.to_high; made = s.made });
      }
