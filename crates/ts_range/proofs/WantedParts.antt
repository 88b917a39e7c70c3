-- The part of an interval that can contain samples that pass the filters.
use Rattle.std.proofs.Common.{◌≡◌, ℕ, Bool, false, ◌&&◌, List, [], ◌∷◌, refl, sym, ◌∙◌}
use Rattle.std.specs.Prelude.{filter, Option, None, Some, IfNone}
use Rattle.ts_spec.specs.Sample.{Point, is_within, between}
use Rattle.ts_sample.proofs.Between.{filter-filter}
use Rattle.ts_sample.proofs.Parted.{filter_alike}

none-kept : (ps : List Point) → filter (λ (p : Point). false) ps ≡ []
none-kept [] = refl
none-kept (p ∷ ps) = none-kept ps

module _ (test : Point → Bool) (from to : ℕ) where
  -- the samples of two intervals that are let through are the same, where each alone is
  pub same-part : (first last : ℕ) → ((p : Point) → (is_within first last p.time && test p) ≡ (is_within from to p.time && test p)) → (ps : List Point)
      → filter test (between first last ps) ≡ filter test (between from to ps)
  same-part first last same ps =
      filter-filter test (λ (p : Point). is_within first last p.time) ps
      ∙ filter_alike (λ (p : Point). is_within first last p.time && test p) (λ (p : Point). is_within from to p.time && test p) same ps
      ∙ sym (filter-filter test (λ (p : Point). is_within from to p.time) ps)

  pub empty-part : ((p : Point) → (is_within from to p.time && test p) ≡ false) → (ps : List Point) → filter test (between from to ps) ≡ []
  empty-part none ps =
      filter-filter test (λ (p : Point). is_within from to p.time) ps
      ∙ filter_alike (λ (p : Point). is_within from to p.time && test p) (λ (p : Point). false) none ps
      ∙ none-kept ps

pub if-none : {X P Q : Type 0} (o : Option X) → (P → Q) → IfNone o P → IfNone o Q
if-none None f h = f h
if-none (Some x) f h = tt
