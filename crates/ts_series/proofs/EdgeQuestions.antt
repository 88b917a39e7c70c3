-- Queries on the samples within retention, answered from all samples.
use Rattle.std.proofs.Common.{◌≡◌, ℕ, ◌+◌, ◌<◌, ◌≤◌, false, ◌&&◌, List, length, sym, ◌∙◌, ap, arith, le-leb}
use Rattle.std.specs.Prelude.{nat_lt, nat_le, max, not, if◌then◌else◌, Option, None, Some}
use Rattle.std.proofs.lemmas.Bool.Decides.{nat_tests}
use Rattle.std.proofs.lemmas.List.Filters.{length-filter_both}
use Rattle.ts_spec.specs.declared.series.Options.{Options}
use Rattle.ts_spec.specs.Sample.{Point, IsAscending, at, at_times, is_within, between, last_of}
use Rattle.ts_spec.proofs.Samples.{at-times, ascending-times}
use Rattle.ts_sample.proofs.Parted.{filter_alike}
use Rattle.ts_sample.proofs.Between.{filter-filter}
use Rattle.ts_series.specs.Stored.{Stored, points}
use Rattle.ts_series.specs.History.{History, history_of, list_of, low}
use Rattle.ts_series.proofs.Trimmed.{last-from}
use Rattle.ts_series.proofs.Expired.{none-last, none-kept, last-kept}

module _ (edge : ℕ) (ps : List Point) where
  pub at-from : (t : ℕ) → edge ≤ t → at t ps ≡ at t (at_times (nat_le edge) ps)
  at-from t up = sym (at-times t (nat_le edge) ps ∙ ap (λ b. if b then at t ps else None) (le-leb edge t up))

  pub at-below : (t : ℕ) → t < edge → None ≡ at t (at_times (nat_le edge) ps)
  at-below t less = let no : nat_le edge t ≡ false = grind (arith, nat_tests) in sym (at-times t (nat_le edge) ps ∙ ap (λ b. if b then at t ps else None) no)

  pub between-from : (start to : ℕ) → between (max start edge) to ps ≡ between start to (at_times (nat_le edge) ps)
  between-from start to =
      filter_alike (λ (p : Point). is_within (max start edge) to p.time) (λ (p : Point). nat_le edge p.time && is_within start to p.time) (λ p. both p.time) ps
      ∙ sym (filter-filter (λ (p : Point). is_within start to p.time) (λ (p : Point). nat_le edge p.time) ps)
    where
      both : (t : ℕ) → is_within (max start edge) to t ≡ (nat_le edge t && is_within start to t)
      both t = grind (arith, nat_tests)

  pub times-from : (start : ℕ) → at_times (nat_le (max start edge)) ps ≡ at_times (nat_le start) (at_times (nat_le edge) ps)
  times-from start =
      filter_alike (λ (p : Point). nat_le (max start edge) p.time) (λ (p : Point). nat_le edge p.time && nat_le start p.time) (λ p. later p.time) ps
      ∙ sym (filter-filter (λ (p : Point). nat_le start p.time) (λ (p : Point). nat_le edge p.time) ps)
    where
      later : (t : ℕ) → nat_le (max start edge) t ≡ (nat_le edge t && nat_le start t)
      later t = grind (arith, nat_tests)

  -- those before the edge and those from it on are all
  pub length-from : length (at_times (λ t. nat_lt t edge) ps) + length (at_times (nat_le edge) ps) ≡ length ps
  length-from = length-filter_both (λ (p : Point). nat_lt p.time edge) (λ (p : Point). nat_le edge p.time) (λ p. other p.time) ps
    where
      other : (t : ℕ) → nat_le edge t ≡ not (nat_lt t edge)
      other t = grind (arith, nat_tests)

  module _ (time : ℕ) where
    turned : at_times (λ t. nat_lt t time) (at_times (nat_le edge) ps) ≡ at_times (nat_le edge) (at_times (λ t. nat_lt t time) ps)
    turned =
        filter-filter (λ (p : Point). nat_lt p.time time) (λ (p : Point). nat_le edge p.time) ps
        ∙ filter_alike (λ (p : Point). nat_le edge p.time && nat_lt p.time time) (λ (p : Point). nat_lt p.time time && nat_le edge p.time) (λ p. either p.time) ps
        ∙ sym (filter-filter (λ (p : Point). nat_le edge p.time) (λ (p : Point). nat_lt p.time time) ps)
      where
        either : (t : ℕ) → (nat_le edge t && nat_lt t time) ≡ (nat_lt t time && nat_le edge t)
        either t = grind (arith, nat_tests)

    -- the last sample before a time, where there is none, where it is before the edge, and where it is not
    pub last-none : None ≡ last_of (at_times (λ t. nat_lt t time) ps) → None ≡ last_of (at_times (λ t. nat_lt t time) (at_times (nat_le edge) ps))
    last-none is = sym (ap last_of (turned ∙ none-last edge (at_times (λ t. nat_lt t time) ps) is))

    module _ (q : Point) (rises : IsAscending ps) (is : last_of (at_times (λ t. nat_lt t time) ps) ≡ Some q) where
      pub last-below : q.time < edge → None ≡ last_of (at_times (λ t. nat_lt t time) (at_times (nat_le edge) ps))
      last-below less = sym (ap last_of (turned ∙ none-kept edge (at_times (λ t. nat_lt t time) ps) q (ascending-times (λ t. nat_lt t time) ps rises) is less))

      pub last-within : edge ≤ q.time → Some q ≡ last_of (at_times (λ t. nat_lt t time) (at_times (nat_le edge) ps))
      last-within up =
          sym (ap last_of turned
          ∙ last-from edge (at_times (λ t. nat_lt t time) ps) (ascending-times (λ t. nat_lt t time) ps rises) (last-kept edge (at_times (λ t. nat_lt t time) ps) q is up) ∙ is)

module _ {o : Options} {high : Option ℕ} {born : ℕ} {held : Stored} {h : History} {edge : ℕ} (view : history_of o high born held ≡ h) (is : edge ≡ low h) where
  -- the samples that a series shows
  pub shown : at_times (nat_le edge) (points held) ≡ list_of h
  shown = ap (λ e. at_times (nat_le e) (points held)) (is ∙ ap low (sym view)) ∙ ap list_of view

  -- and those of them in an interval
  pub between-shown : (from to : ℕ) {start : ℕ} → start ≡ max from edge → between start to (points held) ≡ between from to (list_of h)
  between-shown from to later = ap (λ s. between s to (points held)) later ∙ between-from edge (points held) from to ∙ ap (between from to) shown

  -- and those of them from a time on
  pub from-shown : (from : ℕ) {start : ℕ} → start ≡ max from edge → at_times (nat_le start) (points held) ≡ at_times (nat_le from) (list_of h)
  from-shown from later =
      ap (λ s. at_times (nat_le s) (points held)) later ∙ times-from edge (points held) from ∙ ap (at_times (nat_le from)) shown
