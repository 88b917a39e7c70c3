-- How a write and a deletion update the stored data: the series itself, its rules, and the destinations of the rules.
use Rattle.std.specs.Prelude.{ℕ, ℤ, Bool, false, not, ◌&&◌, ◌==◌, nat_lt, nat_le, if◌then◌else◌, List, [], ◌∷◌, ◌++◌, map, filter, Option, Some, None}
use Rattle.ts_spec.specs.declared.bucket.Aggregator.{Aggregator}
use Rattle.ts_spec.specs.Sample.{Point, at_times, between, outside, put, put_all}
use Rattle.ts_spec.specs.Bucket.{Grid, start, starts, members}
use Rattle.ts_spec.specs.Aggregate.{Summary, nothing, push, summary, result_of}
use Rattle.ts_spec.specs.Key.{Key, same}
use Rattle.ts_spec.specs.Keyed.{get, each}
use Rattle.ts_spec.specs.State.{edge_of}
use Rattle.ts_spec.specs.Rules.{raised, is_append, list_any, is_past}
use Rattle.ts_spec.specs.StoredSeries.{StoredRule, StoredSeries, StoredKeys}

-- ---- rows, and the update of a destination

-- The row of a bucket in a destination; `born` is how many rules the destination ever had. There is no row if the
-- bucket counts nothing.
abbrev pub bucket_row : Aggregator → (born b : ℕ) → Summary → List Point
bucket_row agg born b s = if s.count == 0 then [] else record { time = b; value = result_of agg s; made = born } ∷ []

-- the highest time, raised to the times of the rows
abbrev pub high_after_rows : List Point → Option ℕ → Option ℕ
high_after_rows [] high = high
high_after_rows (row ∷ rows) high = high_after_rows rows (raised row.time high)

-- A list after an update: without the samples at the times in `gone`, with the rows, and without what is before the
-- edge that the rows raise.
abbrev pub updated_list : (retention : ℕ) → (high : Option ℕ) → (gone : ℕ → Bool) → (rows : List Point) → List Point → List Point
updated_list retention high gone rows ps = at_times (nat_le (edge_of retention (high_after_rows rows high))) (put_all rows (at_times (λ t. not (gone t)) ps))

-- a destination after such an update
abbrev pub updated_series : (gone : ℕ → Bool) → (rows : List Point) → StoredSeries → StoredSeries
updated_series gone rows d = record d { list = updated_list d.options.retention d.high gone rows d.list; high = high_after_rows rows d.high }

-- the rule to this destination among the rules of a source
abbrev pub stored_rule_to : Key → List StoredRule → Option StoredRule
stored_rule_to k [] = None
stored_rule_to k (q ∷ qs) = if same q.dest k then Some q else stored_rule_to k qs

-- the summary of the samples of bucket b that were written since the rule was created
abbrev pub recounted_bucket : StoredRule → ℕ → List Point → Summary
recounted_bucket q b ps = summary (filter (λ p. nat_le q.made p.made) (members q.grid b ps))

-- ---- a write

-- chooses by the position of bucket b: before the open bucket, equal to it, or after it
abbrev pub by_bucket : {X : Type 0} → (b : ℕ) → Option ℕ → (before here past : X) → X
by_bucket b None before here past = past
by_bucket b (Some o) before here past = if nat_lt b o then before else (if b == o then here else past)

-- A rule after a write: an append adds the sample to the open bucket; any other write recounts the bucket from the
-- samples of the source.
abbrev pub written_rule : (append : Bool) → Point → List Point → StoredRule → StoredRule
written_rule append p ps q = record q {
  current = raised (start q.grid p.time) q.current;
  running = by_bucket (start q.grid p.time) q.current q.running
      (if append then push q.running p else recounted_bucket q (start q.grid p.time) ps) (push nothing p);
}

-- the row of the open bucket as it closes
abbrev pub closing_row : (born : ℕ) → StoredRule → Option ℕ → List Point
closing_row born q None = []
closing_row born q (Some o) = bucket_row q.agg born o q.running

-- the row that a write sends to a destination: that of the bucket of the sample if it is closed, or that of the
-- bucket that the write closes
abbrev pub written_row : Point → List Point → (born : ℕ) → StoredRule → List Point
written_row p ps born q =
    by_bucket (start q.grid p.time) q.current (bucket_row q.agg born (start q.grid p.time) (recounted_bucket q (start q.grid p.time) ps)) [] (closing_row born q q.current)

-- the sample of a write
abbrev pub stored_sample : (time : ℕ) (value : ℤ) → StoredSeries → Point
stored_sample t v s = record { time = t; value = v; made = s.born }

-- the series itself after the write
abbrev pub stored_with : (time : ℕ) (value : ℤ) → StoredSeries → StoredSeries
stored_with t v s = record s {
  list = at_times (nat_le (edge_of s.options.retention (raised t s.high))) (put (stored_sample t v s) s.list);
  high = raised t s.high;
  rules = map (written_rule (is_append t s.high) (stored_sample t v s) (put (stored_sample t v s) s.list)) s.rules;
}

-- a series updated by the rule that writes to it, if there is one
abbrev pub update_dest : (rows : (born : ℕ) → StoredRule → List Point) → (gone : StoredRule → ℕ → Bool) → Option StoredRule → StoredSeries → StoredSeries
update_dest rows gone None d = d
update_dest rows gone (Some q) d = updated_series (gone q) (rows d.born q) d

-- another series after the write
abbrev pub updated_by_write : (time : ℕ) (value : ℤ) → StoredSeries → Option StoredRule → StoredSeries → StoredSeries
updated_by_write t v s q d = update_dest (written_row (stored_sample t v s) (put (stored_sample t v s) s.list)) (λ q b. false) q d

-- any series after a write to the series `s`
abbrev pub after_write : Key → (time : ℕ) (value : ℤ) → Option StoredSeries → Key → StoredSeries → StoredSeries
after_write key t v None k d = d
after_write key t v (Some s) k d = if same k key then stored_with t v d else updated_by_write t v s (stored_rule_to k s.rules) d

-- all stored series after a write of this value to the key
abbrev pub keys_written : Key → (time : ℕ) (value : ℤ) → StoredKeys → StoredKeys
keys_written key t v m = each (after_write key t v (get key m)) m

-- ---- a deletion

-- whether one of the deleted samples was in bucket b
abbrev pub lies_in : Grid → List Point → ℕ → Bool
lies_in g gone b = list_any (λ p. start g p.time == b) gone

-- the summary of the open bucket, recounted if one of the deleted samples was in it
abbrev pub running_without : (gone left : List Point) → StoredRule → Option ℕ → Summary
running_without gone left q None = q.running
running_without gone left q (Some o) = if lies_in q.grid gone o then recounted_bucket q o left else q.running

-- a rule after samples of its source are deleted
abbrev pub deleted_rule : (gone left : List Point) → StoredRule → StoredRule
deleted_rule gone left q = record q { running = running_without gone left q q.current }

-- whether bucket b is closed and lost a sample
abbrev pub loses : (gone : List Point) → StoredRule → ℕ → Bool
loses gone q b = is_past q.current b && lies_in q.grid gone b

-- the rows of these buckets, from the samples that are left
abbrev pub rows_of : (left : List Point) → (born : ℕ) → StoredRule → List ℕ → List Point
rows_of left born q [] = []
rows_of left born q (b ∷ bs) = bucket_row q.agg born b (recounted_bucket q b left) ++ rows_of left born q bs

-- the rows that a deletion sends to a destination: those of the closed buckets that lost a sample and are not empty
-- now
abbrev pub deleted_rows : (gone left : List Point) → (born : ℕ) → StoredRule → List Point
deleted_rows gone left born q = rows_of left born q (filter (loses gone q) (starts q.grid left))

-- the series itself without the samples of the interval
abbrev pub stored_without : (from to : ℕ) → StoredSeries → StoredSeries
stored_without from to s = record s {
  list = outside from to s.list;
  rules = map (deleted_rule (between from to s.list) (outside from to s.list)) s.rules;
}

-- another series after the deletion
abbrev pub updated_by_deletion : (from to : ℕ) → StoredSeries → Option StoredRule → StoredSeries → StoredSeries
updated_by_deletion from to s q d = update_dest (deleted_rows (between from to s.list) (outside from to s.list)) (loses (between from to s.list)) q d

-- any series after a deletion from the series `s`
abbrev pub after_deletion : Key → (from to : ℕ) → Option StoredSeries → Key → StoredSeries → StoredSeries
after_deletion key from to None k d = d
after_deletion key from to (Some s) k d = if same k key then stored_without from to d else updated_by_deletion from to s (stored_rule_to k s.rules) d

-- all stored series after the samples of the interval are deleted from the key
abbrev pub keys_deleted : Key → (from to : ℕ) → StoredKeys → StoredKeys
keys_deleted key from to m = each (after_deletion key from to (get key m)) m
