-- The starts of the buckets that lose a sample, as a visitor collects them.
use Rattle.std.specs.Prelude.{◌≡◌, ℕ, ◌+◌, ◌-◌, ◌≤◌, Bool, true, false, ◌==◌, if◌then◌else◌, List, [], ◌∷◌, ◌++◌, Option, None, Some}
use Rattle.std.proofs.Common.{arith}
use Rattle.ts_spec.specs.Sample.{Point}
use Rattle.ts_spec.specs.Bucket.{Grid, start}

-- the starts so far, the last of them, and the remaining capacity
pub record LostBucketList : Type 0 where
  pub grid : Grid
  pub last : Option ℕ
  pub starts : List ℕ
  pub room : ℕ

-- an empty list with capacity for this many starts
pub record HasStartCapacity (g : Grid) (count : ℕ) (l : LostBucketList) : Type 0 where
  pub grid : l.grid ≡ g
  pub last : l.last ≡ None
  pub empty : l.starts ≡ []
  pub room : count ≤ l.room

-- whether there is a last start and it is this one
abbrev pub is_last : Option ℕ → ℕ → Bool
is_last None b = false
is_last (Some c) b = c == b

-- after one more sample: adds the start of its bucket, unless that is the last one
abbrev pub with_bucket : LostBucketList → Point → LostBucketList
with_bucket l p = record l {
  last = Some (start l.grid p.time);
  starts = if is_last l.last (start l.grid p.time) then l.starts else l.starts ++ start l.grid p.time ∷ [];
  room = if is_last l.last (start l.grid p.time) then l.room else l.room - 1;
}

-- each sample uses at most one unit of the capacity
lower_one : (room : ℕ) (same : Bool) → room ≤ (if same then room else room - 1) + 1
lower_one room true = omega arith
lower_one room false = omega arith

-- each sample uses at most one unit of the capacity
pub lowered : (l : LostBucketList) (p : Point) → l.room ≤ (with_bucket l p).room + 1
lowered l p = lower_one l.room (is_last l.last (start l.grid p.time))
