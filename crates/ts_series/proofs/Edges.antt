-- A series' samples within retention, after a change that raises the retention edge.
use Rattle.std.proofs.Common.{◌≡◌, ℕ, ◌≤◌, Bool, true, false, not, List, refl, sym, ◌∙◌, ap, arith}
use Rattle.std.specs.Prelude.{nat_le, if◌then◌else◌, Option, None, Some}
use Rattle.std.specs.Option.{option_or}
use Rattle.std.proofs.lemmas.Bool.Decides.{nat_tests}
use Rattle.ts_spec.specs.Sample.{Point, IsAscending, is_within, at, at_times, put_all}
use Rattle.ts_spec.proofs.Samples.{at-times, at-put_all, ascending-times, ascending-put_all, ascending-same}
use Rattle.ts_spec.proofs.Sound.{IsPart}
use Rattle.ts_series.specs.declared.chunked_series_plan.Interval.{Interval}
use Rattle.ts_series.specs.Plan.{without_cut}
use Rattle.ts_series.proofs.Cutting.{part-cut}

-- what a change takes out is told from the edge on alone
left-edge : (t low : ℕ) (c : Option Interval) (ps : List Point) → nat_le low t ≡ true → at t (without_cut c ps) ≡ at t (without_cut c (at_times (nat_le low) ps))
left-edge t low None ps up = sym (at-times t (nat_le low) ps ∙ ap (λ b. if b then at t ps else None) up)
left-edge t low (Some i) ps up =
    at-times t (λ u. not (is_within i.from i.to u)) ps
    ∙ ap (λ (o : Option Point). if not (is_within i.from i.to t) then o else None) (sym (at-times t (nat_le low) ps ∙ ap (λ b. if b then at t ps else None) up))
    ∙ sym (at-times t (λ u. not (is_within i.from i.to u)) (at_times (nat_le low) ps))

module _ (low edge : ℕ) (rows : List Point) (c : Option Interval) (ps : List Point) (rises : low ≤ edge) (sorted : IsAscending ps) where
  abbrev changed : List Point → List Point
  changed l = put_all rows (without_cut c l)

  pick : (t : ℕ) (b : Bool) → nat_le edge t ≡ b → (if b then at t (changed ps) else None) ≡ (if b then at t (changed (at_times (nat_le low) ps)) else None)
  pick t false is = refl
  pick t true is =
      let up : nat_le low t ≡ true = grind (arith, nat_tests) in
      at-put_all t rows (without_cut c ps) ∙ ap (λ (o : Option Point). option_or (at t rows) o) (left-edge t low c ps up) ∙ sym (at-put_all t rows (without_cut c (at_times (nat_le low) ps)))

  -- samples before the edge make no difference to what is from a later edge on
  pub from-edge : at_times (nat_le edge) (put_all rows (without_cut c ps)) ≡ at_times (nat_le edge) (put_all rows (without_cut c (at_times (nat_le low) ps)))
  from-edge =
      let old = ascending-times (nat_le low) ps sorted in
      ascending-same _ _ (ascending-times (nat_le edge) (changed ps) (ascending-put_all rows (without_cut c ps) (IsPart.ascending (part-cut c ps sorted))))
      (ascending-times (nat_le edge) (changed (at_times (nat_le low) ps)) (ascending-put_all rows (without_cut c (at_times (nat_le low) ps)) (IsPart.ascending (part-cut c (at_times (nat_le low) ps) old))))
      (λ t. at-times t (nat_le edge) (changed ps) ∙ pick t (nat_le edge t) refl ∙ sym (at-times t (nat_le edge) (changed (at_times (nat_le low) ps))))
