-- Cost bounds: how many samples an operation decodes at most. Each decoded sample counts as one step.
use Rattle.std.specs.Prelude.{ℕ, suc, ℤ, IsSome, ◌+◌, ◌*◌, min, length, sum_by, ◌≡◌, ◌<◌, Bool, true, ⊤, if◌then◌else◌, List, [], ◌∷◌, Option, None, Some}
use Rattle.ts_spec.specs.Sample.{between, last_of}
use Rattle.ts_spec.specs.Filter.{Filter, holds, is_positive}
use Rattle.ts_spec.specs.Key.{Key}
use Rattle.ts_spec.specs.Keyed.{Entry, get}
use Rattle.ts_spec.specs.State.{Label}
use Rattle.ts_spec.specs.Step.{changed_value}
use Rattle.ts_spec.specs.StoredStep.{list_at, stored_rules_at}
use Rattle.ts_spec.specs.Ignoring.{stored_ignored}
use Rattle.ts_spec.specs.Bucket.{start, members}
use Rattle.ts_spec.specs.Rules.{is_append}
use Rattle.ts_spec.specs.StoredSeries.{StoredRule, StoredSeries}
use Rattle.ts_sample.specs.Chunk.{IsPast}
use Rattle.ts_rules.specs.Shares.{in_buckets}
use Rattle.ts_db.specs.DbState.{DbView, reach_at}

-- the sum of the reaches of all series
abbrev pub reach_of_all : DbView → ℕ
reach_of_all db_view = sum_by (λ e. reach_at db_view e.key) db_view.keys.entries

-- a scan: the samples of the key in the interval, and twice its reach
abbrev pub walk_steps : DbView → Key → (from to : ℕ) → ℕ
walk_steps db_view key from to = length (between from to (list_at (get key db_view.keys))) + 2 * reach_at db_view key

-- how many keys have labels that pass a test
abbrev pub count_where : (List Label → Bool) → List (Entry StoredSeries) → ℕ
count_where test [] = 0
count_where test (e ∷ es) = if test e.value.labels then suc (count_where test es) else count_where test es

-- the number of candidates of a filter: the keys that pass it
abbrev pub candidates : DbView → Filter → ℕ
candidates db_view f = count_where (holds f) db_view.keys.entries

-- the fewest candidates of a filter that requires a value, or the number of keys if no filter does
abbrev pub fewest : DbView → List Filter → ℕ
fewest db_view [] = length db_view.keys.entries
fewest db_view (f ∷ fs) = if is_positive f then min (candidates db_view f) (fewest db_view fs) else fewest db_view fs

-- the most filter tests of a selection: each filter once for each candidate
abbrev pub selection_steps : DbView → List Filter → ℕ
selection_steps db_view filters = length filters * fewest db_view filters

-- ---- a write

-- the highest time ever written to a key
abbrev pub high_at : Option StoredSeries → Option ℕ
high_at None = None
high_at (Some d) = d.high

-- one rule: the samples of the source in the bucket of the time, four times the source's reach, and three times the
-- destination's
abbrev pub rule_steps : DbView → Key → (time : ℕ) → StoredRule → ℕ
rule_steps db_view key t q = length (members q.grid (start q.grid t) (list_at (get key db_view.keys))) + 4 * reach_at db_view key + 3 * reach_at db_view q.dest

-- a write: three times the reach of the key, and the cost of each of its rules
abbrev pub write_steps : DbView → Key → (time : ℕ) → ℕ
write_steps db_view key t = 3 * reach_at db_view key + sum_by (rule_steps db_view key t) (stored_rules_at (get key db_view.keys))

-- The time is after all samples of the key, and the series is below the sample limit by more than its reach.
pub record IsPastAll (db_view : DbView) (key : Key) (t : ℕ) : Type 0 where
  pub past : IsPast (last_of (list_at (get key db_view.keys))) t
  pub few : length (list_at (get key db_view.keys)) + reach_at db_view key < db_view.limits.samples

-- if a write at this time closes the open bucket of the rule, that bucket starts after all samples of the destination
abbrev pub ClosesPastAll : DbView → (time : ℕ) → StoredRule → Type 0
ClosesPastAll db_view t q = (b : ℕ) → q.current ≡ Some b → b < start q.grid t → IsPastAll db_view q.dest b

-- the same for each of these rules
abbrev pub AllClosePastAll : DbView → (time : ℕ) → List StoredRule → Type 0
AllClosePastAll db_view t [] = ⊤
AllClosePastAll db_view t (q ∷ qs) = ClosesPastAll db_view t q × AllClosePastAll db_view t qs

-- An easy append: the time is above the highest time and after all samples of the key, and each bucket that it closes
-- is easy to append to its destination. It decodes nothing.
pub record IsEasyAppend (db_view : DbView) (key : Key) (t : ℕ) : Type 0 where
  pub append : is_append t (high_at (get key db_view.keys)) ≡ true
  pub past : IsPastAll db_view key t
  pub closes : AllClosePastAll db_view t (stored_rules_at (get key db_view.keys))

-- ---- a sample that is ignored

-- the time of the last sample, if the key ignores this sample for being close to it
abbrev pub ignored_at : Option StoredSeries → (time : ℕ) → (value : ℤ) → Option ℕ
ignored_at None t v = None
ignored_at (Some d) t v = stored_ignored d t v

-- the key ignores this sample
abbrev pub IsIgnored : DbView → Key → (time : ℕ) → (value : ℤ) → Type 0
IsIgnored db_view key t v = IsSome (ignored_at (get key db_view.keys) t v)

-- the key ignores the last value plus this change
abbrev pub IsChangeIgnored : DbView → Key → (time : ℕ) → (change : ℤ) → Type 0
IsChangeIgnored db_view key t x = IsIgnored db_view key t (changed_value x (last_of (list_at (get key db_view.keys))))

-- ---- a deletion

-- one rule: the samples of the source in the buckets that touch the interval, six times the source's reach, the
-- samples of the destination from the start of the first such bucket to the end of the interval, and five times the
-- destination's reach
abbrev pub rule_deletion_steps : DbView → Key → (from to : ℕ) → StoredRule → ℕ
rule_deletion_steps db_view key from to q =
    length (in_buckets q.grid from to (list_at (get key db_view.keys))) + 6 * reach_at db_view key
    + length (between (start q.grid from) to (list_at (get q.dest db_view.keys))) + 5 * reach_at db_view q.dest

-- a deletion: three times the reach of the key, and the cost of each of its rules
abbrev pub deletion_steps : DbView → Key → (from to : ℕ) → ℕ
deletion_steps db_view key from to = 3 * reach_at db_view key + sum_by (rule_deletion_steps db_view key from to) (stored_rules_at (get key db_view.keys))
