-- Inserting a sample into a list.
use Rattle.std.proofs.Common.{◌≡◌, ℕ, zero, suc, ◌<◌, ◌≤◌, true, cond, List, [], ◌∷◌, length, refl, sym, ◌∙◌, ap, arith}
use Rattle.std.specs.Prelude.{◌-◌, nat_le, slice_get}
use Rattle.std.proofs.lemmas.Bool.Decides.{nat_tests}
use Rattle.ts_spec.specs.Sample.{Point, IsAscending, IsAfter, at_times, last_of}

last-at : (p : Point) (ps : List Point) (i : ℕ) → i ≡ length ps → slice_get (p ∷ ps) i ≡ last_of (p ∷ ps)
last-at p [] zero is = refl
last-at p [] (suc i) is = absurd (omega arith)
last-at p (q ∷ ps) zero is = absurd (omega arith)
last-at p (q ∷ ps) (suc i) is = last-at q ps i (omega arith)

-- the last of a list
pub last-get : (ps : List Point) → slice_get ps (length ps - 1) ≡ last_of ps
last-get [] = refl
last-get (p ∷ ps) = last-at p ps (length (p ∷ ps) - 1) (omega arith)

-- nothing is before the edge of an ascending list that begins at it
pub all-kept : (low : ℕ) (p : Point) (ps : List Point) → IsAscending (p ∷ ps) → low ≤ p.time → p ∷ ps ≡ at_times (nat_le low) (p ∷ ps)
all-kept low p ps h le = sym (here ∙ ap (λ (l : List Point). p ∷ l) (later low p.time ps h.0 le))
  where
    yes : nat_le low p.time ≡ true
    yes = grind (arith, nat_tests)

    here : at_times (nat_le low) (p ∷ ps) ≡ p ∷ at_times (nat_le low) ps
    here = ap (λ b. cond b (p ∷ at_times (nat_le low) ps) (at_times (nat_le low) ps)) yes

    later : (low t : ℕ) (ps : List Point) → IsAfter t ps → low ≤ t → at_times (nat_le low) ps ≡ ps
    later low t [] h le = refl
    later low t (q ∷ qs) h le =
        let up : t < q.time = h.0 in
        let passes : nat_le low q.time ≡ true = grind (arith, nat_tests) in
        ap (λ b. cond b (q ∷ at_times (nat_le low) qs) (at_times (nat_le low) qs)) passes ∙ ap (λ (l : List Point). q ∷ l) (later low t qs h.1 le)
