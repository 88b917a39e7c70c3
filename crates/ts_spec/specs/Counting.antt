-- What a compaction rule counts: the samples written to its source since the rule was created.
use Rattle.std.specs.Prelude.{ℕ, max, Bool, true, false, not, ◌&&◌, ◌||◌, ◌==◌, nat_lt, nat_le, if◌then◌else◌, List, [], ◌∷◌, ◌++◌, filter, Option, Some, None}
use Rattle.ts_spec.specs.Sample.{Point, at_times, put_all}
use Rattle.ts_spec.specs.Bucket.{start}
use Rattle.ts_spec.specs.State.{Rule}

-- whether the sample was written after the rule was created
abbrev pub is_eligible : Rule → Point → Bool
is_eligible r p = nat_le r.made p.made

-- the eligible samples of the source in the buckets whose starts pass the test
abbrev pub eligible_in : (ℕ → Bool) → List Point → Rule → List Point
eligible_in test plain r = filter (is_eligible r) (at_times (λ t. test (start r.grid t)) plain)

-- Recounts buckets: in those whose starts pass the test, the counted samples become the eligible samples that the
-- source has there now.
abbrev pub touched : (ℕ → Bool) → List Point → Rule → List Point
touched test plain r = put_all (eligible_in test plain r) (at_times (λ t. not (test (start r.grid t))) r.seen)

-- the greater of a time and the highest time so far
abbrev pub raised : ℕ → Option ℕ → Option ℕ
raised t None = Some t
raised t (Some h) = Some (max h t)

-- whether a time is past the highest time so far
abbrev pub is_append : ℕ → Option ℕ → Bool
is_append t None = true
is_append t (Some h) = nat_lt h t

-- What a rule counts after a write. `high` is the highest time of the source before the write, `plain` its samples
-- after it.
abbrev pub counted_samples : Point → Option ℕ → List Point → Rule → List Point
counted_samples p high plain r = if is_append p.time high then r.seen ++ p ∷ [] else touched (λ b. b == start r.grid p.time) plain r

-- a rule after a write to its source
abbrev pub counted : Point → Option ℕ → List Point → Rule → Rule
counted p high plain r = record r { top = raised p.time r.top; seen = counted_samples p high plain r }

-- whether a write at time t recounts bucket b
abbrev pub write_touches : ℕ → Option ℕ → Rule → ℕ → Bool
write_touches t high r b = not (is_append t high) && (b == start r.grid t)

-- whether a sample passes the test
abbrev pub list_any : (Point → Bool) → List Point → Bool
list_any test [] = false
list_any test (p ∷ ps) = test p || list_any test ps

-- whether one of the deleted samples was in bucket b
abbrev pub meets : List Point → Rule → ℕ → Bool
meets gone r b = list_any (λ p. start r.grid p.time == b) gone
