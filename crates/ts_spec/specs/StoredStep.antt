-- One step over the stored data: the response to a command, and the stored data after it.
use Rattle.std.specs.Prelude.{ℕ, suc, ◌+◌, ℤ, Bool, true, false, ◌||◌, nat_lt, nat_le, if◌then◌else◌, List, [], ◌∷◌, ◌++◌, length, Option, Some, None, is_some, Result, Ok, Err}
use Rattle.std.specs.Option.{unwrap_or}
use Rattle.ts_spec.specs.declared.limits.Limits.{Limits}
use Rattle.ts_spec.specs.declared.series.Policy.{Policy}
use Rattle.ts_spec.specs.declared.series.Merge.{Merge}
use Rattle.ts_spec.specs.declared.series.Merge.TheVariants.{By}
use Rattle.ts_spec.specs.declared.bucket.Aggregator.{Aggregator}
use Rattle.ts_spec.specs.declared.command.At.{At}
use Rattle.ts_spec.specs.Sample.{Point, between, last_of}
use Rattle.ts_spec.specs.Bucket.{Grid, start}
use Rattle.ts_spec.specs.Key.{Key, same}
use Rattle.ts_spec.specs.Keyed.{get, with_key, count_keys}
use Rattle.ts_spec.specs.State.{edge_of}
use Rattle.ts_spec.specs.Merging.{Merged, Refuse, KeepOld, To, merge, within_bound}
use Rattle.ts_spec.specs.Refusal.{Fault, Refusal, NoKey, KeyExists, KeysFull, LabelsFull, TooOld, BeforeLast, SamplesFull, DestinationFull, DeleteBeyondRetention, SameKey, SourceIsDest, DestIsSource, DestHasSource, RulesSpent, RulesFull, NoRule}
use Rattle.ts_spec.specs.Command.{Spec, Change, Triple}
use Rattle.ts_spec.specs.Response.{Item, IsWrong, Response, Done, Count, Items, Refused}
use Rattle.ts_spec.specs.Outcome.{time_of}
use Rattle.ts_spec.specs.Making.{is_longer}
use Rattle.ts_spec.specs.Writing.{value_at, item_of, is_before_last, changed_value}
use Rattle.ts_spec.specs.StoredSeries.{StoredRule, StoredSeries, StoredKeys}
use Rattle.ts_spec.specs.Ignoring.{stored_ignored}
use Rattle.ts_spec.specs.StoredUpdates.{stored_rule_to, keys_written, keys_deleted}
use Rattle.ts_spec.specs.StoredKeys.{stored_fresh, stored_altered, keys_changed, keys_ruled, keys_without_rule, keys_dropped}

-- the stored data after a step, and the response
pub record StoredOutcome : Type 0 where
  pub keys : StoredKeys
  pub response : Response

-- a refused command changes nothing
abbrev pub stored_refused : StoredKeys → Refusal → StoredOutcome
stored_refused m refusal = record { keys = m; response = Refused refusal }

-- the response of a command that changes nothing
abbrev pub unchanged_with : StoredKeys → Response → StoredOutcome
unchanged_with m response = record { keys = m; response = response }

-- the edge of a series: the earliest time that its retention keeps
abbrev pub stored_edge : StoredSeries → ℕ
stored_edge d = edge_of d.options.retention d.high

-- ---- TS.CREATE and TS.ALTER

-- adds a series, within the limits on labels and keys
abbrev pub stored_new_key : Limits → StoredKeys → Key → StoredSeries → Response → StoredOutcome
stored_new_key limits m key d response =
    if nat_lt limits.labels (length d.labels) then stored_refused m LabelsFull
    else (if nat_le limits.keys (count_keys m) then stored_refused m KeysFull else record { keys = with_key key d m; response = response })

-- TS.CREATE
abbrev pub stored_create : Limits → StoredKeys → Key → Spec → StoredOutcome
stored_create limits m key spec =
    if is_some (get key m) then stored_refused m KeyExists else stored_new_key limits m key (stored_fresh spec [] None) Done

-- TS.ALTER on the series at a key
abbrev pub stored_alter_at : Limits → StoredKeys → Key → Change → Option StoredSeries → StoredOutcome
stored_alter_at limits m key c None = stored_refused m NoKey
stored_alter_at limits m key c (Some d) =
    if is_longer limits.labels c.labels then stored_refused m LabelsFull else record { keys = keys_changed key (stored_altered c) m; response = Done }

-- TS.ALTER
abbrev pub stored_alter : Limits → StoredKeys → Key → Change → StoredOutcome
stored_alter limits m key c = stored_alter_at limits m key c (get key m)

-- ---- a write

-- the samples that a key shows
abbrev pub list_at : Option StoredSeries → List Point
list_at None = []
list_at (Some d) = d.list

-- whether a key shows more samples than the limit
abbrev pub stores_more : ℕ → StoredKeys → Key → Bool
stores_more limit m key = nat_lt limit (length (list_at (get key m)))

-- the first of these destinations that shows more samples than the limit
abbrev pub stored_first_full : ℕ → StoredKeys → List StoredRule → Option Key
stored_first_full limit m [] = None
stored_first_full limit m (q ∷ qs) = if stores_more limit m q.dest then Some q.dest else stored_first_full limit m qs

-- the rules of the series at a key
abbrev pub stored_rules_at : Option StoredSeries → List StoredRule
stored_rules_at None = []
stored_rules_at (Some d) = d.rules

-- the outcome, or the refusal if a destination is full
abbrev pub stored_unless_full : StoredKeys → Option Key → StoredOutcome → StoredOutcome
stored_unless_full m None done = done
stored_unless_full m (Some key) done = stored_refused m (DestinationFull key)

-- refused if a destination of the key would show too many samples
abbrev pub stored_within_destinations : Limits → StoredKeys → Key → StoredOutcome → StoredOutcome
stored_within_destinations limits m key done = stored_unless_full m (stored_first_full limits.samples done.keys (stored_rules_at (get key m))) done

-- refused if the key or one of its destinations would show too many samples
abbrev pub stored_within_samples : Limits → StoredKeys → Key → StoredOutcome → StoredOutcome
stored_within_samples limits m key done =
    if stores_more limits.samples done.keys key then stored_refused m SamplesFull else stored_within_destinations limits m key done

-- the outcome of a write after it was merged with the old value at its time
abbrev pub stored_write_merged : Limits → StoredKeys → Key → ℕ → Merged → StoredOutcome
stored_write_merged limits m key t (Refuse refusal) = stored_refused m refusal
stored_write_merged limits m key t KeepOld = unchanged_with m (Count t)
stored_write_merged limits m key t (To v) = stored_within_samples limits m key (record { keys = keys_written key t v m; response = Count t })

-- the outcome, or the time of the last sample if the write is ignored
abbrev pub stored_unless_ignored : StoredKeys → Option ℕ → StoredOutcome → StoredOutcome
stored_unless_ignored m None done = done
stored_unless_ignored m (Some last) done = unchanged_with m (Count last)

-- a write to an existing series
abbrev pub stored_write : Limits → StoredKeys → Key → StoredSeries → Merge → ℕ → ℤ → StoredOutcome
stored_write limits m key d how t v =
    if nat_lt t (stored_edge d) then stored_refused m TooOld
    else stored_unless_ignored m (stored_ignored d t v) (stored_write_merged limits m key t (merge how (value_at t d.list) v))

-- adds a series with one sample
abbrev pub stored_create_with : Limits → StoredKeys → Key → Spec → ℕ → ℤ → StoredOutcome
stored_create_with limits m key spec t v =
    stored_new_key limits m key (stored_fresh spec (record { time = t; value = v; made = 0 } ∷ []) (Some t)) (Count t)

-- TS.ADD on the series at a key; creates the series if there is none
abbrev pub stored_add_at : Limits → StoredKeys → Key → ℕ → ℤ → Option Policy → Spec → Option StoredSeries → StoredOutcome
stored_add_at limits m key t v on spec None = stored_create_with limits m key spec t v
stored_add_at limits m key t v on spec (Some d) = stored_write limits m key d (By (unwrap_or on d.options.policy)) t v

-- TS.ADD
abbrev pub stored_add : Limits → StoredKeys → Key → ℕ → ℤ → Option Policy → Spec → StoredOutcome
stored_add limits m key t v on spec = stored_add_at limits m key t v on spec (get key m)

-- one triple of TS.MADD on the series at a key
abbrev pub stored_put_at : Limits → StoredKeys → Key → ℕ → ℤ → Option StoredSeries → StoredOutcome
stored_put_at limits m key t v None = stored_refused m NoKey
stored_put_at limits m key t v (Some d) = stored_write limits m key d (By d.options.policy) t v

-- one triple of TS.MADD, by the policy of the series
abbrev pub stored_put_own : Limits → StoredKeys → Key → ℕ → ℤ → StoredOutcome
stored_put_own limits m key t v = stored_put_at limits m key t v (get key m)

-- one triple of TS.MADD; a bad time or value is reported in its item
abbrev pub stored_triple : Limits → StoredKeys → (reading : ℕ) → Key → Result At Fault → Result ℤ Fault → StoredOutcome
stored_triple limits m reading key (Err fault) value = unchanged_with m (Items (IsWrong fault ∷ []))
stored_triple limits m reading key (Ok at) (Err fault) = unchanged_with m (Items (IsWrong fault ∷ []))
stored_triple limits m reading key (Ok at) (Ok v) = stored_put_own limits m key (time_of reading at) v

-- the triples of TS.MADD in order, all with the same reading of the clock
abbrev pub stored_madd : Limits → StoredKeys → (reading : ℕ) → (so_far : List Item) → List Triple → StoredOutcome
stored_madd limits m reading so_far [] = unchanged_with m (Items so_far)
stored_madd limits m reading so_far (x ∷ xs) =
    let done : StoredOutcome = stored_triple limits m reading x.key x.at x.value in
    stored_madd limits done.keys reading (so_far ++ item_of done.response) xs

-- the outcome of an increment, if its result is in range or not
abbrev pub stored_increased : Limits → StoredKeys → Key → StoredSeries → ℕ → Merged → StoredOutcome
stored_increased limits m key d t (To v) = stored_unless_ignored m (stored_ignored d t v) (stored_write_merged limits m key t (To v))
stored_increased limits m key d t other = stored_write_merged limits m key t other

-- TS.INCRBY and TS.DECRBY on an existing series
abbrev pub stored_incr_by : Limits → StoredKeys → Key → StoredSeries → ℤ → ℕ → Option Point → StoredOutcome
stored_incr_by limits m key d change t last =
    if is_before_last t last then stored_refused m BeforeLast
    else (if nat_lt t (stored_edge d) then stored_refused m TooOld else stored_increased limits m key d t (within_bound (changed_value change last)))

-- TS.INCRBY and TS.DECRBY on the series at a key; creates the series if there is none
abbrev pub stored_incr_at : Limits → StoredKeys → Key → ℤ → ℕ → Spec → Option StoredSeries → StoredOutcome
stored_incr_at limits m key change t spec None = stored_create_with limits m key spec t change
stored_incr_at limits m key change t spec (Some d) = stored_incr_by limits m key d change t (last_of d.list)

-- TS.INCRBY and TS.DECRBY
abbrev pub stored_incr : Limits → StoredKeys → Key → ℤ → ℕ → Spec → StoredOutcome
stored_incr limits m key change t spec = stored_incr_at limits m key change t spec (get key m)

-- ---- TS.DEL

-- whether for one of the rules the bucket of `from` starts before the edge
abbrev pub stored_meets_expired : ℕ → ℕ → List StoredRule → Bool
stored_meets_expired from low [] = false
stored_meets_expired from low (q ∷ qs) = nat_lt (start q.grid from) low || stored_meets_expired from low qs

-- TS.DEL on the series at a key
abbrev pub stored_delete_at : Limits → StoredKeys → Key → (from to : ℕ) → Option StoredSeries → StoredOutcome
stored_delete_at limits m key from to None = stored_refused m NoKey
stored_delete_at limits m key from to (Some d) =
    if nat_lt to from then unchanged_with m (Count 0)
    else (if stored_meets_expired from (stored_edge d) d.rules then stored_refused m DeleteBeyondRetention
    else stored_within_destinations limits m key (record { keys = keys_deleted key from to m; response = Count (length (between from to d.list)) }))

-- TS.DEL
abbrev pub stored_delete : Limits → StoredKeys → Key → (from to : ℕ) → StoredOutcome
stored_delete limits m key from to = stored_delete_at limits m key from to (get key m)

-- ---- rules, DEL and EXISTS

-- whether the list has a rule
abbrev pub any_rules : List StoredRule → Bool
any_rules [] = false
any_rules (q ∷ qs) = true

-- TS.CREATERULE on the series at two keys
abbrev pub stored_create_rule_at : Limits → StoredKeys → (source dest : Key) → Aggregator → Grid → Option StoredSeries → Option StoredSeries → StoredOutcome
stored_create_rule_at limits m source dest agg grid None other = stored_refused m NoKey
stored_create_rule_at limits m source dest agg grid (Some s) None = stored_refused m NoKey
stored_create_rule_at limits m source dest agg grid (Some s) (Some d) =
    if is_some s.source then stored_refused m SourceIsDest
    else (if any_rules d.rules then stored_refused m DestIsSource
    else (if is_some d.source then stored_refused m DestHasSource
    else (if nat_le limits.born s.born then stored_refused m RulesSpent
    else (if nat_le limits.rules (length s.rules) then stored_refused m RulesFull
    else record { keys = keys_ruled source dest agg grid m; response = Done }))))

-- TS.CREATERULE
abbrev pub stored_create_rule : Limits → StoredKeys → (source dest : Key) → Aggregator → Grid → StoredOutcome
stored_create_rule limits m source dest agg grid =
    if same source dest then stored_refused m SameKey
    else stored_create_rule_at limits m source dest agg grid (get source m) (get dest m)

-- TS.DELETERULE on the series at the source
abbrev pub stored_delete_rule_at : StoredKeys → (source dest : Key) → Option StoredSeries → StoredOutcome
stored_delete_rule_at m source dest None = stored_refused m NoKey
stored_delete_rule_at m source dest (Some d) =
    if is_some (stored_rule_to dest d.rules) then record { keys = keys_without_rule source dest m; response = Done } else stored_refused m NoRule

-- TS.DELETERULE
abbrev pub stored_delete_rule : StoredKeys → (source dest : Key) → StoredOutcome
stored_delete_rule m source dest = stored_delete_rule_at m source dest (get source m)

-- DEL: removes the keys in order and counts those that existed
abbrev pub stored_drop_keys : StoredKeys → (so_far : ℕ) → List Key → StoredOutcome
stored_drop_keys m so_far [] = unchanged_with m (Count so_far)
stored_drop_keys m so_far (k ∷ ks) =
    let there : Bool = is_some (get k m) in
    stored_drop_keys (if there then keys_dropped k m else m) (if there then so_far + 1 else so_far) ks

-- EXISTS: how many of the words are existing keys
abbrev pub stored_count_there : StoredKeys → List Key → ℕ
stored_count_there m [] = 0
stored_count_there m (k ∷ ks) = if is_some (get k m) then suc (stored_count_there m ks) else stored_count_there m ks
