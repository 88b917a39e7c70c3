-- Time buckets: a grid of equal intervals, and the samples in each.
use Rattle.std.specs.Prelude.{ℕ, zero, suc, ◌/◌, min, ℤ, pos, negsuc, ◌+ℤ◌, ◌-ℤ◌, ◌*ℤ◌, ◌==◌, if◌then◌else◌, List, [], ◌∷◌}
use Rattle.std.specs.Int.{int_div_euclid}
use Rattle.ts_spec.specs.declared.bucket.Stamp.{Stamp}
use Rattle.ts_spec.specs.declared.bucket.Stamp.TheVariants.{Low, High, Mid}
use Rattle.ts_spec.specs.Sample.{Point, MAX_TIME, at_times}

-- A grid of buckets. One bucket starts at `align`, and each lasts `duration` milliseconds.
pub record Grid : Type 0 where
  pub align : ℕ
  pub duration : ℕ

-- the start of the bucket of t, which may be negative
abbrev pub raw : Grid → ℕ → ℤ
raw g t = pos g.align +ℤ (pos g.duration *ℤ int_div_euclid (pos t -ℤ pos g.align) (pos g.duration))

-- a time, with negative ones raised to 0
abbrev pub from_zero : ℤ → ℕ
from_zero (pos n) = n
from_zero (negsuc n) = 0

-- the start of the bucket of t, at least 0; two times are in the same bucket if their starts are equal
abbrev pub start : Grid → ℕ → ℕ
start g t = from_zero (raw g t)

-- the timestamp reported for the bucket that starts at r, at most MAX_TIME
abbrev pub stamp_at : Grid → Stamp → ℤ → ℕ
stamp_at g Low r = min MAX_TIME (from_zero r)
stamp_at g High r = min MAX_TIME (from_zero (r +ℤ pos g.duration))
stamp_at g Mid r = min MAX_TIME (from_zero (r +ℤ pos (g.duration / 2)))

-- the timestamp reported for the bucket of t
abbrev pub stamp : Grid → ℕ → Stamp → ℕ
stamp g t mode = stamp_at g mode (raw g t)

-- the samples of the bucket that starts at b
abbrev pub members : Grid → ℕ → List Point → List Point
members g b ps = at_times (λ t. start g t == b) ps

-- prepends a start, unless the list already begins with it
abbrev pub with_start : ℕ → List ℕ → List ℕ
with_start b [] = b ∷ []
with_start b (c ∷ cs) = if b == c then c ∷ cs else b ∷ c ∷ cs

-- the starts of the buckets that have samples, in ascending order, each once
abbrev pub starts : Grid → List Point → List ℕ
starts g [] = []
starts g (p ∷ ps) = with_start (start g p.time) (starts g ps)

-- the starts of n + 1 consecutive buckets, the first at r
abbrev pub starts_from : Grid → ℤ → ℕ → List ℕ
starts_from g r zero = from_zero r ∷ []
starts_from g r (suc n) = from_zero r ∷ starts_from g (r +ℤ pos g.duration) n
