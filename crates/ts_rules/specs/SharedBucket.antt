-- A bucket that the rules of a source share while one change is planned.
use Rattle.std.specs.Prelude.{◌≡◌, ℕ, ◌≤◌, nat_le, List, filter}
use Rattle.ts_spec.specs.Sample.{Point, between}
use Rattle.ts_spec.specs.Aggregate.{Summary, summary}

-- A bucket: its first and last time, the summary of its samples, and a rule count at or after which each of them was
-- written.
pub record SharedBucketState : Type 0 where
  pub first : ℕ
  pub last : ℕ
  pub running : Summary
  pub least : ℕ

-- what a rule created at rule count `made` counts in an interval
abbrev pub counted_between : (made first last : ℕ) → List Point → Summary
counted_between made first last ps = summary (filter (λ q. nat_le made q.made) (between first last ps))

-- every rule created at or before rule count `least` counts this in the bucket, given the source's samples after the
-- change
abbrev pub IsShared : List Point → SharedBucketState → Type 0
IsShared ps t = (made : ℕ) → made ≤ t.least → t.running ≡ counted_between made t.first t.last ps
