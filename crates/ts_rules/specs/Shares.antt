-- The most samples that a plan for a rule decodes.
use Rattle.std.specs.Prelude.{◌≡◌, ℕ, ◌+◌, ◌*◌, ◌<◌, ◌≤◌, true, List, length, Some}
use Rattle.ts_spec.specs.Sample.{Point, at_times, between, is_within, last_of}
use Rattle.ts_spec.specs.Bucket.{Grid, start, members}
use Rattle.ts_spec.specs.Rules.{is_append}
use Rattle.ts_sample.specs.Chunk.{IsPast}
use Rattle.ts_series.specs.History.{History, list_of, reach}
use Rattle.ts_rules.specs.declared.rule.Rule.{Rule}

-- counting a bucket with a written sample: the source's samples in it and four reaches of the source
abbrev pub source_share : Rule → (source : History) → (time : ℕ) → ℕ
source_share r source t = length (members r.grid (start r.grid t) (list_of source)) + 4 * reach source

-- a write: the source's samples in the bucket of its time, four reaches of the source and three of the destination
abbrev pub write_share : Rule → (source : History) → Point → (dest : History) → ℕ
write_share r source p dest = source_share r source p.time + 3 * reach dest

-- the bucket of this time is not before the open one
abbrev pub IsNotClosed : Rule → (time : ℕ) → Type 0
IsNotClosed r t = (b : ℕ) → r.current ≡ Some b → b ≤ start r.grid t

-- a row at time t comes after all of the destination's samples, and the destination is a reach below the limit
pub record IsPastAll (limit : ℕ) (dest : History) (t : ℕ) : Type 0 where
  pub past : IsPast (last_of (list_of dest)) t
  pub few : length (list_of dest) + reach dest < limit

-- The write appends to the source, its bucket is not before the open one, and if it closes the open one, that row
-- comes after all of the destination's samples.
pub record IsEasyWrite (limit : ℕ) (r : Rule) (source : History) (p : Point) (dest : History) : Type 0 where
  pub appends : is_append p.time source.high ≡ true
  pub not_closed : IsNotClosed r p.time
  pub closes : (b : ℕ) → r.current ≡ Some b → b < start r.grid p.time → IsPastAll limit dest b

-- the samples in the buckets that overlap the interval
abbrev pub in_buckets : Grid → (from to : ℕ) → List Point → List Point
in_buckets g from to ps = at_times (λ t. is_within (start g from) (start g to) (start g t)) ps

-- a deletion: the source's samples in the buckets that overlap the interval, six reaches of the source, the
-- destination's samples from the start of the first of these buckets to the interval's end, and five reaches of the
-- destination
abbrev pub deletion_share : Rule → (source : History) → (from to : ℕ) → (dest : History) → ℕ
deletion_share r source from to dest =
    length (in_buckets r.grid from to (list_of source)) + 6 * reach source + length (between (start r.grid from) to (list_of dest)) + 5 * reach dest
