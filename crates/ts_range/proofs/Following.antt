-- The bucket after another one.
use Rattle.std.proofs.Common.{◌≡◌, ℕ, ◌+◌, ◌-◌, ◌<◌, ◌≤◌, min, inl, inr, sym, ap, subst, arith}
use Rattle.std.specs.Prelude.{ℤ, pos, negsuc, ◌+ℤ◌}
use Rattle.std.proofs.lemmas.Bool.{cases_lt}
use Rattle.std.proofs.lemmas.Int.{ints}
use Rattle.ts_spec.specs.Sample.{MAX_TIME}
use Rattle.ts_spec.specs.Bucket.{Grid, raw, start, from_zero}
use Rattle.ts_spec.proofs.Buckets.{start-le, start-start}
use Rattle.ts_bucket.specs.Grid.{IsGrid, IsLastOf}
use Rattle.ts_bucket.proofs.Ends.{last_is}
use Rattle.ts_range.specs.Spans.{IsSpan}
use Rattle.ts_range.proofs.Spans.{late, inside}

-- a start past 0 was not cut short
uncut : (r : ℤ) (n : ℕ) → 0 < n → from_zero r ≡ n → r +ℤ pos 0 ≡ pos n
uncut (pos m) n some is = omega (arith, ints, is)
uncut (negsuc m) n some is = absurd (omega (arith, is))

-- the last time of a bucket that was not cut short
pub whole : (g : Grid) → IsGrid g → (n : ℕ) → 0 < n → n ≤ MAX_TIME → start g n ≡ n → IsLastOf g n (min MAX_TIME (n + (g.duration - 1)))
whole g is n some time begins =
    let same : min MAX_TIME (n + (g.duration - 1 - 0)) ≡ min MAX_TIME (n + (g.duration - 1)) = ap (λ (k : ℕ). min MAX_TIME (n + k)) (omega arith) in
    subst (IsLastOf g n) same (last_is g is.some n 0 (uncut (raw g n) n some begins) (omega (arith, is.some)) time)

-- the next bucket begins one time past the end
pub begins-past : (g : Grid) (b last : ℕ) → IsSpan g b last → last + 1 ≤ MAX_TIME → start g (last + 1) ≡ last + 1
begins-past g b last span time =
    let some : 0 < g.duration = omega (arith, span.grid.some) in
    let s = start g (last + 1) in
    let later : b < s = late g some b last span.begins span.ends (last + 1) time (omega arith) in
    let low : s ≤ last + 1 = start-le g (last + 1) some in
    elim (cases_lt last s) [
      | inl past ↦ omega arith
      | inr upto ↦
          let here : start g s ≡ b = inside g some b last span.begins span.ends s (omega arith) upto in
          let again : start g s ≡ s = start-start g (last + 1) some in
          absurd (omega arith)
    ]

-- so it has this span, and the time is in it
pub following : (g : Grid) (b last end t : ℕ) → IsSpan g b last → last < t → t ≤ MAX_TIME → (start g (last + 1) ≡ last + 1 → IsLastOf g (last + 1) end) → IsSpan g (last + 1) end
following g b last end t span past time ends =
    let begins = begins-past g b last span (omega arith) in
    record { grid = span.grid; begins = begins; ends = ends begins }

pub in-it : (g : Grid) (b last end t : ℕ) → IsSpan g b last → last < t → t ≤ MAX_TIME → t ≤ end → (start g (last + 1) ≡ last + 1 → IsLastOf g (last + 1) end) → last + 1 ≡ start g t
in-it g b last end t span past time upto ends =
    let begins = begins-past g b last span (omega arith) in
    sym (inside g (omega (arith, span.grid.some)) (last + 1) end begins (ends begins) t (omega arith) upto)
