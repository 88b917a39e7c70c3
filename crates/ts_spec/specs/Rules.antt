-- What a write and a deletion do, what follows each command, and how rules end.
use Rattle.std.specs.Prelude.{ℕ, Bool, false, not, ◌&&◌, ◌||◌, ◌==◌, nat_lt, nat_le, if◌then◌else◌, ℤ, List, [], ◌∷◌, map, filter, Option, Some, None}
use Rattle.ts_spec.specs.Sample.{Point, at_times, between, outside, is_within, put}
use Rattle.ts_spec.specs.Bucket.{start, starts}
use Rattle.ts_spec.specs.Key.{Key, same}
use Rattle.ts_spec.specs.Keyed.{get, each, without_key}
use Rattle.ts_spec.specs.State.{Rule, Record, State, Link, link_to, rule_into, change, edge}
pub use Rattle.ts_spec.specs.Counting.{is_eligible, eligible_in, touched, raised, is_append, counted_samples, counted, write_touches, list_any, meets}
pub use Rattle.ts_spec.specs.Merging.{within_bound, merge_by, merge, Merged, Refuse, KeepOld, To}
pub use Rattle.ts_spec.specs.ShownSamples.{open_of, is_past, is_closed, has_any, has_members, has_row_of, bucket_sample, closed_rows, shown_by, opened, latest_by, shown_at, latest_at, shown, latest}

-- ---- parts of a command

-- the sample of a write
abbrev pub sample_for : (time : ℕ) (value : ℤ) → Record → Point
sample_for t v d = record { time = t; value = v; made = d.born }

-- a record after a write, counted by each of its rules
abbrev pub with_sample : (time : ℕ) (value : ℤ) → Record → Record
with_sample t v d = record d {
  plain = put (sample_for t v d) d.plain;
  high = raised t d.high;
  rules = map (counted (sample_for t v d) d.high (put (sample_for t v d) d.plain)) d.rules;
}

-- a rule with the buckets of the deleted samples recounted
abbrev pub recounted : (gone left : List Point) → Rule → Rule
recounted gone left r = record r { seen = touched (meets gone r) left r }

-- a record without the samples of the interval; each of its rules recounts their buckets
abbrev pub without : (from to : ℕ) → Record → Record
without from to d = record d {
  plain = outside from to d.plain;
  rules = map (recounted (between from to d.plain) (outside from to d.plain)) d.rules;
}

-- whether the destination of the key loses its own sample at this time
abbrev pub lost_by : Key → (Rule → ℕ → Bool) → Option Link → ℕ → Bool
lost_by key touches None t = false
lost_by key touches (Some l) t = same l.source key && (touches l.rule t && is_closed l.rule t)

-- a record without the own samples that it loses
abbrev pub lost_from : Key → (Rule → ℕ → Bool) → Option Link → Record → Record
lost_from key touches l d = record d { plain = at_times (λ t. not (lost_by key touches l t)) d.plain }

-- removes from each destination of the key the own samples at the starts of closed buckets that were recounted
abbrev pub lost : Key → (Rule → ℕ → Bool) → State → State
lost key touches m = each (λ k d. lost_from key touches (link_to m k) d) m

-- a rule without what it counts in the closed buckets whose starts pass the test
abbrev pub cleared : (ℕ → Bool) → Rule → Rule
cleared test r = record r { seen = at_times (λ t. not (test (start r.grid t) && is_closed r (start r.grid t))) r.seen }

-- the same for rules to the key
abbrev pub cleared_to : Key → (ℕ → Bool) → Rule → Rule
cleared_to key test r = cleared (λ b. same r.dest key && test b) r

-- the same for all rules of a record that write to the key
abbrev pub clear_record : Key → (ℕ → Bool) → Record → Record
clear_record key test d = record d { rules = map (cleared_to key test) d.rules }

-- the same for the rule that writes to the key
abbrev pub clear_into : Key → (ℕ → Bool) → State → State
clear_into key test m = each (λ k d. clear_record key test d) m

-- ---- what follows each command

-- whether the rule, if there is one, writes a row at this time
abbrev pub is_row_by : Option Rule → ℕ → Bool
is_row_by None t = false
is_row_by (Some r) t = has_row_of r t

-- the highest time, raised to these times
abbrev pub risen : Option ℕ → List ℕ → Option ℕ
risen high [] = high
risen high (b ∷ bs) = risen (raised b high) bs

-- the highest time, raised to the latest closed bucket with counted samples
abbrev pub high_by : Option Rule → Option ℕ → Option ℕ
high_by None high = high
high_by (Some r) high = risen high (filter (is_closed r) (starts r.grid r.seen))

-- a record with its highest time raised
abbrev pub risen_by : Option Rule → Record → Record
risen_by r d = record d { high = high_by r d.high }

-- the same, also without its own samples at the starts of such buckets, and without those before its edge
abbrev pub tidied_by : Option Rule → Record → Record
tidied_by r d = record d { high = high_by r d.high; plain = at_times (λ t. nat_le (edge (risen_by r d)) t && not (is_row_by r t)) d.plain }

-- the edge of the record at a key
abbrev pub edge_at : Option Record → ℕ
edge_at None = 0
edge_at (Some d) = edge d

-- a rule without what it counts in closed buckets that start before this edge
abbrev pub expired : (edge : ℕ) → Rule → Rule
expired low r = cleared (λ b. nat_lt b low) r

-- a rule without what is before the edge of its destination
abbrev pub expired_in : State → Rule → Rule
expired_in m r = expired (edge_at (get r.dest m)) r

-- a record with all its rules expired
abbrev pub expire_record : State → Record → Record
expire_record m d = record d { rules = map (expired_in m) d.rules }

-- the state with each record tidied by the rule that writes to it
abbrev pub tidied : State → State
tidied m = each (λ k d. tidied_by (rule_into m k) d) m

-- The state after a command. First the highest time of each destination rises to its latest closed bucket with
-- counted samples. Then the own samples of destinations at the starts of such buckets are removed, and in every
-- series the samples before the edge. Last, rules drop what they count in closed buckets that start before the edge
-- of their destination.
abbrev pub settled : State → State
settled m = each (λ k d. expire_record (tidied m) d) (tidied m)

-- ---- commands

-- the highest time of the record at a key
abbrev pub high_at : Option Record → Option ℕ
high_at None = None
high_at (Some d) = d.high

-- the state after a write of this value to the key
abbrev pub written : Key → (time : ℕ) (value : ℤ) → State → State
written key t v m =
    settled (clear_into key (λ b. b == t) (lost key (write_touches t (high_at (get key m))) (change key (with_sample t v) m)))

-- the own samples of the record at a key
abbrev pub plain_at : Option Record → List Point
plain_at None = []
plain_at (Some d) = d.plain

-- the state after the samples of the interval are deleted from the key
abbrev pub deleted : Key → (from to : ℕ) → State → State
deleted key from to m =
    settled (clear_into key (is_within from to) (lost key (meets (between from to (plain_at (get key m)))) (change key (without from to) m)))

-- whether the rule that writes to a key ends
abbrev pub ends_into : (Key → Key → Bool) → Key → Option Link → Bool
ends_into ends k None = false
ends_into ends k (Some l) = ends l.source k

-- a record after the rules that pass the test end; it keeps the samples that it showed
abbrev pub ended_in : (Key → Key → Bool) → State → Key → Record → Record
ended_in ends m k d = record d {
  plain = if ends_into ends k (link_to m k) then shown_by (rule_into m k) d else d.plain;
  rules = filter (λ r. not (ends k r.dest)) d.rules;
}

-- Ends all rules whose source and destination pass the test. What their destinations show becomes their own samples.
abbrev pub ended : (Key → Key → Bool) → State → State
ended ends m = each (λ k d. ended_in ends m k d) m

-- the state after TS.DELETERULE
abbrev pub without_rule : (source dest : Key) → State → State
without_rule source dest m = ended (λ s d. same s source && same d dest) m

-- removes the key and ends every rule from it or to it
abbrev pub dropped : Key → State → State
dropped key m = without_key key (ended (λ s d. same s key || same d key) m)
