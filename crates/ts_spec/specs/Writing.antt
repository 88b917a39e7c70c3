-- The commands that write samples and delete them.
use Rattle.std.specs.Prelude.{ℕ, ℤ, ◌+ℤ◌, Bool, false, ◌||◌, nat_lt, if◌then◌else◌, List, [], ◌∷◌, ◌++◌, length, Option, Some, None, option_map, Result, Ok, Err}
use Rattle.std.specs.Option.{unwrap_or}
use Rattle.ts_spec.specs.declared.limits.Limits.{Limits}
use Rattle.ts_spec.specs.declared.series.Policy.{Policy}
use Rattle.ts_spec.specs.declared.series.Merge.{Merge}
use Rattle.ts_spec.specs.declared.series.Merge.TheVariants.{By}
use Rattle.ts_spec.specs.Sample.{Point, at, between, last_of}
use Rattle.ts_spec.specs.Bucket.{start}
use Rattle.ts_spec.specs.Key.{Key}
use Rattle.ts_spec.specs.Keyed.{get}
use Rattle.ts_spec.specs.State.{Rule, Record, State, change, edge}
use Rattle.ts_spec.specs.Rules.{shown, Merged, Refuse, KeepOld, To, merge, within_bound, written, deleted}
use Rattle.ts_spec.specs.Refusal.{Fault, NoKey, TooOld, BeforeLast, SamplesFull, DestinationFull, DeleteBeyondRetention}
use Rattle.ts_spec.specs.declared.command.At.{At}
use Rattle.ts_spec.specs.Command.{Spec, Triple}
use Rattle.ts_spec.specs.Response.{Item, Wrote, IsWrong, IsRefused, Response, Count, Refused, Items}
use Rattle.ts_spec.specs.Ignoring.{ignored}
use Rattle.ts_spec.specs.Outcome.{refused, answer_only, time_of, Outcome}
use Rattle.ts_spec.specs.Making.{fresh, new_key}

-- ---- a write

-- whether a key shows more samples than the limit
abbrev pub shows_more : ℕ → State → Key → Bool
shows_more limit m key = nat_lt limit (length (shown m key))

-- the first of these destinations that shows more samples than the limit
abbrev pub first_full : ℕ → State → List Rule → Option Key
first_full limit m [] = None
first_full limit m (r ∷ rs) = if shows_more limit m r.dest then Some r.dest else first_full limit m rs

-- the rules of the record at a key
abbrev pub rules_at : Option Record → List Rule
rules_at None = []
rules_at (Some d) = d.rules

-- the outcome, or the refusal if a destination is full
abbrev pub unless_full : State → Option Key → Outcome → Outcome
unless_full m None done = done
unless_full m (Some key) done = refused m (DestinationFull key)

-- refused if a destination of the key would show too many samples
abbrev pub within_destinations : Limits → State → Key → Outcome → Outcome
within_destinations limits m key done = unless_full m (first_full limits.samples done.state (rules_at (get key m))) done

-- refused if the key or one of its destinations would show too many samples
abbrev pub within_samples : Limits → State → Key → Outcome → Outcome
within_samples limits m key done =
    if shows_more limits.samples done.state key then refused m SamplesFull else within_destinations limits m key done

-- the outcome of a write after it was merged with the old value at its time
abbrev pub write_merged : Limits → State → Key → ℕ → Merged → Outcome
write_merged limits m key t (Refuse refusal) = refused m refusal
write_merged limits m key t KeepOld = answer_only m (Count t)
write_merged limits m key t (To v) = within_samples limits m key (record { state = written key t v m; response = Count t })

-- the value at a time
abbrev pub value_at : ℕ → List Point → Option ℤ
value_at t ps = option_map (λ p. p.value) (at t ps)

-- the outcome, or the time of the last sample if the write is ignored
abbrev pub unless_ignored : State → Option ℕ → Outcome → Outcome
unless_ignored m None done = done
unless_ignored m (Some last) done = answer_only m (Count last)

-- a write to an existing series
abbrev pub write : Limits → State → Key → Record → Merge → ℕ → ℤ → Outcome
write limits m key d how t v =
    if nat_lt t (edge d) then refused m TooOld
    else unless_ignored m (ignored m key d t v) (write_merged limits m key t (merge how (value_at t (shown m key)) v))

-- adds a series with one sample
abbrev pub create_with : Limits → State → Key → Spec → ℕ → ℤ → Outcome
create_with limits m key spec t v =
    new_key limits m key (fresh spec (record { time = t; value = v; made = 0 } ∷ []) (Some t)) (Count t)

-- ---- TS.ADD and TS.MADD

-- TS.ADD on the record at a key; creates the series if there is none
abbrev pub add_at : Limits → State → Key → ℕ → ℤ → Option Policy → Spec → Option Record → Outcome
add_at limits m key t v on spec None = create_with limits m key spec t v
add_at limits m key t v on spec (Some d) = write limits m key d (By (unwrap_or on d.options.policy)) t v

-- TS.ADD
abbrev pub add : Limits → State → Key → ℕ → ℤ → Option Policy → Spec → Outcome
add limits m key t v on spec = add_at limits m key t v on spec (get key m)

-- one triple of TS.MADD on the record at a key
abbrev pub put_at : Limits → State → Key → ℕ → ℤ → Option Record → Outcome
put_at limits m key t v None = refused m NoKey
put_at limits m key t v (Some d) = write limits m key d (By d.options.policy) t v

-- one triple of TS.MADD, by the policy of the series
abbrev pub put_own : Limits → State → Key → ℕ → ℤ → Outcome
put_own limits m key t v = put_at limits m key t v (get key m)

-- one triple of TS.MADD; a bad time or value is reported in its item
abbrev pub triple_step : Limits → State → (reading : ℕ) → Key → Result At Fault → Result ℤ Fault → Outcome
triple_step limits m reading key (Err fault) value = answer_only m (Items (IsWrong fault ∷ []))
triple_step limits m reading key (Ok at) (Err fault) = answer_only m (Items (IsWrong fault ∷ []))
triple_step limits m reading key (Ok at) (Ok v) = put_own limits m key (time_of reading at) v

-- the items of a response
abbrev pub item_of : Response → List Item
item_of (Count t) = Wrote t ∷ []
item_of (Refused refusal) = IsRefused refusal ∷ []
item_of (Items items) = items
item_of other = []

-- the triples of TS.MADD in order, all with the same reading of the clock
abbrev pub madd : Limits → State → (reading : ℕ) → (so_far : List Item) → List Triple → Outcome
madd limits m reading so_far [] = answer_only m (Items so_far)
madd limits m reading so_far (x ∷ xs) =
    let done : Outcome = triple_step limits m reading x.key x.at x.value in
    madd limits done.state reading (so_far ++ item_of done.response) xs

-- ---- TS.INCRBY and TS.DECRBY

-- whether a time is before the last sample
abbrev pub is_before_last : ℕ → Option Point → Bool
is_before_last t None = false
is_before_last t (Some p) = nat_lt t p.time

-- the value of the last sample plus the change
abbrev pub changed_value : ℤ → Option Point → ℤ
changed_value change None = change
changed_value change (Some p) = p.value +ℤ change

-- the outcome of an increment, if its result is in range or not
abbrev pub increased : Limits → State → Key → Record → ℕ → Merged → Outcome
increased limits m key d t (To v) = unless_ignored m (ignored m key d t v) (write_merged limits m key t (To v))
increased limits m key d t other = write_merged limits m key t other

-- TS.INCRBY and TS.DECRBY on an existing series
abbrev pub incr_by : Limits → State → Key → Record → ℤ → ℕ → Option Point → Outcome
incr_by limits m key d change t last =
    if is_before_last t last then refused m BeforeLast
    else (if nat_lt t (edge d) then refused m TooOld else increased limits m key d t (within_bound (changed_value change last)))

-- TS.INCRBY and TS.DECRBY on the record at a key; creates the series if there is none
abbrev pub incr_at : Limits → State → Key → ℤ → ℕ → Spec → Option Record → Outcome
incr_at limits m key change t spec None = create_with limits m key spec t change
incr_at limits m key change t spec (Some d) = incr_by limits m key d change t (last_of (shown m key))

-- TS.INCRBY and TS.DECRBY
abbrev pub incr : Limits → State → Key → ℤ → ℕ → Spec → Outcome
incr limits m key change t spec = incr_at limits m key change t spec (get key m)

-- ---- TS.DEL

-- whether for one of the rules the bucket of `from` starts before the edge
abbrev pub meets_expired : ℕ → ℕ → List Rule → Bool
meets_expired from low [] = false
meets_expired from low (r ∷ rs) = nat_lt (start r.grid from) low || meets_expired from low rs

-- TS.DEL on the record at a key
abbrev pub delete_at : Limits → State → Key → (from to : ℕ) → Option Record → Outcome
delete_at limits m key from to None = refused m NoKey
delete_at limits m key from to (Some d) =
    if nat_lt to from then answer_only m (Count 0)
    else (if meets_expired from (edge d) d.rules then refused m DeleteBeyondRetention
    else within_destinations limits m key (record { state = deleted key from to m; response = Count (length (between from to (shown m key))) }))

-- TS.DEL
abbrev pub delete : Limits → State → Key → (from to : ℕ) → Outcome
delete limits m key from to = delete_at limits m key from to (get key m)
