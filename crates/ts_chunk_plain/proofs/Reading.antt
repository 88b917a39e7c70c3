-- The sample at an index.
use Rattle.std.proofs.Common.{◌≡◌, ℕ, zero, suc, ◌<◌, List, [], ◌∷◌, length, map, drop, get_or, sym, ap, ◌∙◌, subst, arith}
use Rattle.std.specs.Prelude.{nat_le, Some}
use Rattle.std.proofs.lemmas.List.{drop-map, drop_more}
use Rattle.ts_spec.specs.Sample.{Point, at_times, first_of}
use Rattle.ts_sample.specs.Chunk.{AreInBounds}
use Rattle.ts_sample.specs.Sample.{IsInBounds}
use Rattle.ts_chunk_plain.specs.Plain.{sample_of}

fine-at : (bs : List (List ℕ)) (i : ℕ) (b : List ℕ) → AreInBounds (map sample_of bs) → i < length bs → IsInBounds (sample_of (get_or bs i b))
fine-at [] i b fine less = absurd (omega arith)
fine-at (c ∷ bs) zero b fine less = fine.0
fine-at (c ∷ bs) (suc i) b fine less = fine-at bs i b fine.1 (omega (arith, less))

-- what is left from a place on
pub left_from : (bs : List (List ℕ)) (list : List Point) (i time : ℕ) → map sample_of bs ≡ list → map sample_of (drop i bs) ≡ at_times (nat_le time) (map sample_of bs) → drop i list ≡ at_times (nat_le time) list
left_from bs list i time are left =
    ap (drop i) (sym are) ∙ drop-map sample_of i bs ∙ left ∙ ap (at_times (nat_le time)) are

module _ (bs : List (List ℕ)) (i : ℕ) (b : List ℕ) (less : i < length bs) (here : b ≡ get_or bs i b) where
  pub fine_here : AreInBounds (map sample_of bs) → IsInBounds (sample_of b)
  fine_here fine = subst (λ (c : List ℕ). IsInBounds (sample_of c)) (sym here) (fine-at bs i b fine less)

  pub next_here : (list : List Point) → map sample_of bs ≡ list → (p : Point) → p ≡ sample_of b → Some p ≡ first_of (drop i list)
  next_here list are p is =
      ap Some (is ∙ ap sample_of here)
      ∙ sym (ap (λ (l : List Point). first_of (drop i l)) (sym are) ∙ ap first_of (drop-map sample_of i bs ∙ ap (map sample_of) (drop_more bs i b less)))
