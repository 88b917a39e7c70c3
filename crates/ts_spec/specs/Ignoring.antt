-- IGNORE: which writes a series skips because they are close to its last sample.
use Rattle.std.specs.Prelude.{ℕ, ℤ, pos, ◌-◌, ◌-ℤ◌, unsigned_abs, int_le, Bool, true, false, ◌&&◌, nat_le, if◌then◌else◌, Option, Some, None, is_some}
use Rattle.ts_spec.specs.declared.series.Ignore.{Ignore}
use Rattle.ts_spec.specs.declared.series.Options.{Options}
use Rattle.ts_spec.specs.declared.series.Policy.{Policy}
use Rattle.ts_spec.specs.declared.series.Policy.TheVariants.{Last}
use Rattle.ts_spec.specs.Sample.{Point, last_of}
use Rattle.ts_spec.specs.Key.{Key}
use Rattle.ts_spec.specs.State.{Record, State, link_to}
use Rattle.ts_spec.specs.ShownSamples.{shown}
use Rattle.ts_spec.specs.StoredSeries.{StoredSeries}

-- whether the policy is LAST, which overwrites the old value
abbrev pub is_last : Policy → Bool
is_last Last = true
is_last other = false

-- whether two values differ by at most `most` millionths
abbrev pub is_near : (most : ℤ) → (old new : ℤ) → Bool
is_near most old new = int_le (pos (unsigned_abs (new -ℤ old))) most

-- whether a sample is at most `most.time` milliseconds after the last one, and their values differ by at most
-- `most.value`
abbrev pub is_close : Ignore → Point → (time : ℕ) → (value : ℤ) → Bool
is_close most last t v = nat_le last.time t && nat_le (t - last.time) most.time && is_near most.value last.value v

-- the time of the last sample, if the policy is LAST and the new sample is close to that one
abbrev pub ignored_after : Options → (last : Option Point) → (time : ℕ) → (value : ℤ) → Option ℕ
ignored_after options None t v = None
ignored_after options (Some last) t v = if is_last options.policy && is_close options.ignore last t v then Some last.time else None

-- The time of the last sample that the key shows, if the key ignores the write for being close to it. The destination
-- of a rule ignores nothing.
abbrev pub ignored : State → Key → Record → (time : ℕ) → (value : ℤ) → Option ℕ
ignored m key d t v = if is_some (link_to m key) then None else ignored_after d.options (last_of (shown m key)) t v

-- the same for a stored series
abbrev pub stored_ignored : StoredSeries → (time : ℕ) → (value : ℤ) → Option ℕ
stored_ignored d t v = if is_some d.source then None else ignored_after d.options (last_of d.list) t v
