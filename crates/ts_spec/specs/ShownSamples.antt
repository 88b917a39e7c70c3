-- What a key shows: its own samples, and the closed buckets of the rule that writes to it.
use Rattle.std.specs.Prelude.{ℕ, Bool, true, false, ◌&&◌, nat_lt, nat_le, if◌then◌else◌, List, [], ◌∷◌, map, filter, Option, Some, None, option_map}
use Rattle.ts_spec.specs.Sample.{Point, at_times, put_all}
use Rattle.ts_spec.specs.Bucket.{start, members, starts}
use Rattle.ts_spec.specs.Aggregate.{aggregate}
use Rattle.ts_spec.specs.Key.{Key}
use Rattle.ts_spec.specs.Keyed.{get}
use Rattle.ts_spec.specs.State.{Rule, Record, State, rule_into, edge}

-- ---- open and closed buckets

-- the start of the open bucket of a rule: the bucket of its highest time
abbrev pub open_of : Rule → Option ℕ
open_of r = option_map (start r.grid) r.top

-- whether b is before the open bucket
abbrev pub is_past : Option ℕ → ℕ → Bool
is_past None b = false
is_past (Some o) b = nat_lt b o

-- whether a bucket is closed: it starts before the open one
abbrev pub is_closed : Rule → ℕ → Bool
is_closed r b = is_past (open_of r) b

-- whether the list has a sample
abbrev pub has_any : List Point → Bool
has_any [] = false
has_any (p ∷ ps) = true

-- whether the rule counts samples in a bucket
abbrev pub has_members : Rule → ℕ → Bool
has_members r b = has_any (members r.grid b r.seen)

-- whether a closed bucket with counted samples starts at this time
abbrev pub has_row_of : Rule → ℕ → Bool
has_row_of r b = is_closed r b && has_members r b

-- the sample that a bucket writes to its destination; `born` is how many rules the destination ever had
abbrev pub bucket_sample : Rule → (born : ℕ) → ℕ → Point
bucket_sample r born b = record { time = b; value = aggregate r.agg (members r.grid b r.seen); made = born }

-- the samples of the closed buckets
abbrev pub closed_rows : Rule → (born : ℕ) → List Point
closed_rows r born = map (bucket_sample r born) (filter (is_closed r) (starts r.grid r.seen))

-- ---- what a key shows

-- What a key shows: its own samples and, if a rule writes to it, the samples of the closed buckets of that rule. A
-- bucket hides an own sample at its start. Nothing before the edge is shown.
abbrev pub shown_by : Option Rule → Record → List Point
shown_by None d = d.plain
shown_by (Some r) d = at_times (nat_le (edge d)) (put_all (closed_rows r d.born) d.plain)

-- the sample of the open bucket, if the bucket has counted samples and does not start before the edge
abbrev pub opened : Rule → (edge born : ℕ) → Option ℕ → List Point
opened r low born None = []
opened r low born (Some b) = if has_members r b && nat_le low b then bucket_sample r born b ∷ [] else []

-- what it shows with LATEST
abbrev pub latest_by : Option Rule → Record → List Point
latest_by None d = d.plain
latest_by (Some r) d = put_all (opened r (edge d) d.born (open_of r)) (shown_by (Some r) d)

-- what the record at a key shows
abbrev pub shown_at : Option Record → Option Rule → List Point
shown_at None r = []
shown_at (Some d) r = shown_by r d

-- what it shows with LATEST
abbrev pub latest_at : Option Record → Option Rule → List Point
latest_at None r = []
latest_at (Some d) r = latest_by r d

-- the samples that a key shows
abbrev pub shown : State → Key → List Point
shown m k = shown_at (get k m) (rule_into m k)

-- the samples that a key shows with LATEST
abbrev pub latest : State → Key → List Point
latest m k = latest_at (get k m) (rule_into m k)
