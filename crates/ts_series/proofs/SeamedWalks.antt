-- What a scan decodes, between any two seams around it.
use Rattle.std.proofs.Common.{◌≡◌, ◌≢◌, ◌⊎◌, inl, inr, ℕ, zero, suc, ◌+◌, ◌≤◌, false, List, [], ◌∷◌, length, take, arith, length-append}
use Rattle.std.specs.Prelude.{nat_lt, nat_le}
use Rattle.std.proofs.lemmas.Bool.Decides.{nat_tests}
use Rattle.ts_spec.specs.Sample.{Point, at_times, between}
use Rattle.ts_sample.specs.Chunk.{joined}
use Rattle.ts_series.specs.Stored.{AllOverlap}
use Rattle.ts_series.specs.Seams.{IsSeam, IsSeamed}
use Rattle.ts_series.proofs.EarlyLate.{none-less}
use Rattle.ts_series.proofs.TimeFrom.{both-parts, all-between}

module _ (from to s e : ℕ) (low : s ≤ from) (high : to ≤ e) where
  early-fails : (t : ℕ) → nat_le s t ≡ false → nat_le from t ≡ false
  early-fails t h = grind (arith, nat_tests)

  late-fails : (t : ℕ) → nat_lt t (suc e) ≡ false → nat_le t to ≡ false
  late-fails t h = grind (arith, nat_tests)

  -- a piece that has a sample from the first time on, and one up to the last time, lies whole between the seams
  whole : (ps : List Point) → (at_times (nat_le s) ps ≡ []) ⊎ (at_times (λ u. nat_lt u s) ps ≡ []) → (at_times (nat_le (suc e)) ps ≡ []) ⊎ (at_times (λ u. nat_lt u (suc e)) ps ≡ [])
      → at_times (nat_le from) ps ≢ [] → at_times (λ t. nat_le t to) ps ≢ [] → length (between s e ps) ≡ length ps
  whole ps (inl n) x f g = absurd (f (none-less (nat_le s) (nat_le from) early-fails ps n))
  whole ps (inr n) (inr m) f g = absurd (g (none-less (λ u. nat_lt u (suc e)) (λ t. nat_le t to) late-fails ps m))
  whole ps (inr n) (inl m) f g = all-between s e ps n (none-less (nat_le (suc e)) (nat_lt e) (λ t h. grind (arith, nat_tests)) ps m)

  pub overlapping-between : (start end : ℕ) (pss : List (List Point)) → start ≤ end → AllOverlap from to pss start end → IsSeam s pss → IsSeam (suc e) pss
      → length (joined (take end pss)) ≤ length (joined (take start pss)) + length (between s e (joined pss))
  overlapping-between zero zero pss le meet x y = omega arith
  overlapping-between (suc start) zero pss le meet x y = absurd (omega arith)
  overlapping-between zero (suc end) [] le meet x y = omega arith
  overlapping-between (suc start) (suc end) [] le meet x y = omega arith
  overlapping-between zero (suc end) (ps ∷ pss) le meet x y =
      let here = meet zero (omega arith) (omega arith) in
      omega (
        arith,
        length-append ps (joined (take end pss)),
        both-parts s e ps (joined pss),
        whole ps x.0 y.0 here.0 here.1,
        overlapping-between zero end pss (omega arith) (λ k more less. meet (suc k) (omega arith) (omega arith)) x.1 y.1,
      )
  overlapping-between (suc start) (suc end) (ps ∷ pss) le meet x y =
      omega (
        arith,
        length-append ps (joined (take end pss)),
        length-append ps (joined (take start pss)),
        both-parts s e ps (joined pss),
        overlapping-between start end pss (omega arith) (λ k more less. meet (suc k) (omega arith) (omega arith)) x.1 y.1,
      )

-- a walk over whole pieces that meet an interval
pub seamed-walk : (from to start end old new : ℕ) (pss : List (List Point)) → start ≤ end → AllOverlap from to pss start end
    → new + length (joined (take start pss)) ≤ old + length (joined (take end pss)) → IsSeamed pss from to old new
seamed-walk from to start end old new pss le meet steps s e x y low high = omega (arith, steps, overlapping-between from to s e low high start end pss le meet x y)
