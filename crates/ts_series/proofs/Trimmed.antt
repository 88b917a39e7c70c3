-- The last sample of a series is that of its chunks.
use Rattle.std.proofs.Common.{◌≡◌, ◌≢◌, ℕ, ◌≤◌, Bool, true, false, cond, List, [], ◌∷◌, ◌++◌, refl, sym, ◌∙◌, ap, arith}
use Rattle.std.specs.Prelude.{nat_le}
use Rattle.std.proofs.lemmas.Bool.Decides.{nat_tests}
use Rattle.ts_spec.specs.Sample.{Point, IsAscending, at_times, last_of}
use Rattle.ts_sample.specs.Chunk.{joined}
use Rattle.ts_series.specs.Stored.{IsTrimmed}
use Rattle.ts_series.proofs.Counting.{times-append}
use Rattle.ts_series.proofs.Placing.{all-kept}

later : (p : Point) (ps : List Point) → ps ≢ [] → last_of (p ∷ ps) ≡ last_of ps
later p [] some = absurd (some refl)
later p (q ∷ ps) some = refl

-- where some sample is from the edge on, the last one is
pub last-from : (edge : ℕ) (ps : List Point) → IsAscending ps → at_times (nat_le edge) ps ≢ [] → last_of (at_times (nat_le edge) ps) ≡ last_of ps
last-from edge [] rises some = refl
last-from edge (p ∷ ps) rises some = go (last-from edge ps rises.1) (nat_le edge p.time) refl
  where
    go : (at_times (nat_le edge) ps ≢ [] → last_of (at_times (nat_le edge) ps) ≡ last_of ps) → (b : Bool) → nat_le edge p.time ≡ b → last_of (at_times (nat_le edge) (p ∷ ps)) ≡ last_of (p ∷ ps)
    go rest_is true is = let up : edge ≤ p.time = grind (arith, nat_tests) in sym (ap last_of (all-kept edge p ps rises up))
    go rest_is false is =
        let rest : at_times (nat_le edge) (p ∷ ps) ≡ at_times (nat_le edge) ps = ap (λ b. cond b (p ∷ at_times (nat_le edge) ps) (at_times (nat_le edge) ps)) is in
        ap last_of rest ∙ rest_is (λ none. some (rest ∙ none)) ∙ sym (later p ps (λ none. some (rest ∙ ap (at_times (nat_le edge)) none)))

pub last-trimmed : (edge : ℕ) (pss : List (List Point)) → IsAscending (joined pss) → IsTrimmed edge pss → last_of (joined pss) ≡ last_of (at_times (nat_le edge) (joined pss))
last-trimmed edge [] rises trimmed = refl
last-trimmed edge (ps ∷ pss) rises trimmed = sym (last-from edge (ps ++ joined pss) rises (λ none. trimmed (front (at_times (nat_le edge) ps) (at_times (nat_le edge) (joined pss)) (sym (times-append (nat_le edge) ps (joined pss)) ∙ none))))
  where
    front : (xs ys : List Point) → xs ++ ys ≡ [] → xs ≡ []
    front [] ys is = refl
    front (x ∷ xs) ys is = absurd (cc is)
