-- Seams at the ends of a share of the samples.
use Rattle.std.proofs.Common.{◌≡◌, ◌⊎◌, inl, inr, ℕ, zero, suc, ◌+◌, ◌≤◌, List, [], ◌∷◌, get_or, drop, refl, subst, arith}
use Rattle.std.specs.Prelude.{nat_le, min, max, Some}
use Rattle.ts_spec.specs.Sample.{Point, IsAscending, at_times, first_of, last_of}
use Rattle.ts_sample.specs.Chunk.{joined}
use Rattle.ts_sample.proofs.Lists.{ascending-right}
use Rattle.ts_series.specs.Stored.{IsTrimmed}
use Rattle.ts_series.specs.Seams.{IsSeam}
use Rattle.ts_series.proofs.EarlyLate.{after-none, after-some}
use Rattle.ts_series.proofs.Seams.{both-orders, seam-at, first-early, first-late, last-early, last-late}

-- past a piece that has a sample from a time on
pub past-trimmed : (t k : ℕ) (pss : List (List Point)) → IsAscending (joined pss) → IsTrimmed t (drop k pss) → at_times (λ u. nat_le u t) (joined (drop (suc k) pss)) ≡ []
past-trimmed t zero [] rises h = refl
past-trimmed t zero (ps ∷ pss) rises h = after-none t t (joined pss) (omega arith) (after-some t ps (joined pss) rises h)
past-trimmed t (suc k) [] rises h = refl
past-trimmed t (suc k) (ps ∷ pss) rises h = past-trimmed t k pss (ascending-right ps (joined pss) rises) h

-- the time past the earlier of a piece's last time and the end of an interval
pub end-seam : (to k end : ℕ) (p : Point) (pss : List (List Point)) → IsAscending (joined pss) → last_of (get_or pss k []) ≡ Some p → end ≡ min p.time to → (end ≡ to) ⊎ IsSeam (end + 1) pss
end-seam to k end p pss rises is least = go (both-orders to p.time)
  where
    go : (to ≤ p.time) ⊎ (p.time ≤ to) → (end ≡ to) ⊎ IsSeam (end + 1) pss
    go (inl le) = inl (omega arith)
    go (inr le) = let same : suc p.time ≡ end + 1 = omega arith in inr (subst (λ t. IsSeam t pss) same (seam-at (suc p.time) (suc k) pss (last-early k p pss rises is) (last-late k p pss rises is)))

-- the later of a piece's first time and the start of an interval
pub start-seam : (from k start : ℕ) (p : Point) (pss : List (List Point)) → IsAscending (joined pss) → first_of (get_or pss k []) ≡ Some p → start ≡ max p.time from → (start ≡ from) ⊎ IsSeam start pss
start-seam from k start p pss rises is most = go (both-orders from p.time)
  where
    go : (from ≤ p.time) ⊎ (p.time ≤ from) → (start ≡ from) ⊎ IsSeam start pss
    go (inl le) = let same : p.time ≡ start = omega arith in inr (subst (λ t. IsSeam t pss) same (seam-at p.time k pss (first-early k p pss rises is) (first-late k p pss rises is)))
    go (inr le) = inl (omega arith)
