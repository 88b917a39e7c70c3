-- The times of a bucket.
use Rattle.std.proofs.Common.{◌≡◌, ℕ, ◌<◌, ◌≤◌, arith, inl, inr}
use Rattle.std.proofs.lemmas.Bool.{cases_lt}
use Rattle.ts_spec.specs.Sample.{MAX_TIME}
use Rattle.ts_spec.specs.Bucket.{Grid, start}
use Rattle.ts_spec.proofs.Buckets.{start-mono}
use Rattle.ts_bucket.specs.Grid.{IsLastOf}

-- ---- by the first and the last time of a bucket

module _ (g : Grid) (some : 0 < g.duration) (b last : ℕ) (begins : start g b ≡ b) (ends : IsLastOf g b last) where
  pub late : (u : ℕ) → u ≤ MAX_TIME → last < u → b < start g u
  late u time past =
      let le : start g last ≤ start g u = start-mono g last u some (omega arith) in
      let same = ends.same in
      elim (cases_lt b (start g u)) [
        | inl less ↦ less
        | inr more ↦ (let e = ends.latest u time (omega arith) in absurd (omega arith))
      ]

  pub inside : (u : ℕ) → b ≤ u → u ≤ last → start g u ≡ b
  inside u from to =
      let low = start-mono g b u some from in
      let high = start-mono g u last some to in
      let same = ends.same in
      omega arith
