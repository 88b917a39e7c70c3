-- The reply of any change except TS.MADD has no items: it is OK, a number, or an error. After an error the state is
-- unchanged.
use Rattle.std.proofs.Common.{◌≡◌, ℕ, ◌+◌, Bool, true, false, if◌then◌else◌, List, [], ◌∷◌, length, refl, sym, ◌∙◌}
use Rattle.std.specs.Prelude.{nat_lt, nat_le, is_some, unwrap_or, ℤ, Option, None, Some}
use Rattle.ts_spec.specs.declared.bucket.Aggregator.{Aggregator}
use Rattle.ts_spec.specs.declared.limits.Limits.{Limits}
use Rattle.ts_spec.specs.declared.series.Merge.{Merge}
use Rattle.ts_spec.specs.declared.series.Merge.TheVariants.{By}
use Rattle.ts_spec.specs.declared.series.Policy.{Policy}
use Rattle.ts_spec.specs.Bucket.{Grid}
use Rattle.ts_spec.specs.Command.{Spec, Change}
use Rattle.ts_spec.specs.Ignoring.{ignored}
use Rattle.ts_spec.specs.Key.{Key, same}
use Rattle.ts_spec.specs.Keyed.{get, with_key, count_keys}
use Rattle.ts_spec.specs.Making.{fresh, new_key, create, is_longer, alter_at, altered, has_rules, ruled, create_rule_at, create_rule, delete_rule_at, drop_keys}
use Rattle.ts_spec.specs.Outcome.{Outcome, refused, answer_only, time_of}
use Rattle.ts_spec.specs.Refusal.{Refusal, KeyExists, KeysFull, LabelsFull, TooOld, BeforeLast, SamplesFull, DeleteBeyondRetention, SameKey, SourceIsDest, DestIsSource, DestHasSource, RulesSpent, RulesFull, NoRule}
use Rattle.ts_spec.specs.Replies.{reply_to}
use Rattle.ts_spec.specs.Response.{Response, Done, Count}
use Rattle.ts_spec.specs.Rules.{Merged, Refuse, KeepOld, To, merge, shown, within_bound, written, deleted, without_rule, dropped, settled}
use Rattle.ts_spec.specs.Sample.{Point, last_of, between}
use Rattle.ts_spec.specs.State.{Record, State, link_to, rule_to, change, edge}
use Rattle.ts_spec.specs.Writing.{shows_more, first_full, rules_at, unless_full, within_destinations, value_at, unless_ignored, write_merged, write, add_at, is_before_last, changed_value, increased, incr_at, meets_expired, delete_at}
use Rattle.ts_spec.specs.Command.{Command, Create, Alter, Add, Madd, Incr, DelRange, CreateRule, DeleteRule, Range, MRange, Get, MGet, QueryIndex, InfoOf, Ping, Echo, Quit, Drop, Exists}
use Rattle.ts_spec.specs.Step.{step}
use Rattle.ts_journal.specs.Fixed.{is_fixed}
use Rattle.ts_journal.specs.Record.{is_error, items_of}
use Rattle.ts_journal.specs.RecordReplay.{has_error}
use Rattle.std.proofs.lemmas.Bool.{false≢true}

pub record IsShort (m : State) (done : Outcome) : Type 0 where
  pub none : has_error (items_of (reply_to done.response)) ≡ false
  pub stays : is_error (reply_to done.response) ≡ true → done.state ≡ m

-- what is no error, and a refusal
line : {m : State} {done : Outcome} → has_error (items_of (reply_to done.response)) ≡ false → is_error (reply_to done.response) ≡ false → IsShort m done
line h right = record { none = h; stays = λ e. absurd (false≢true (sym right ∙ e)) }

no : {m : State} {refusal : Refusal} → IsShort m (refused m refusal)
no = record { none = refl; stays = λ e. refl }

either : {m : State} (test : Bool) (one other : Outcome) → IsShort m one → IsShort m other → IsShort m (if test then one else other)
either true one other h k = h
either false one other h k = k

-- ---- series

new_key-none : (limits : Limits) (m : State) (key : Key) (d : Record) (response : Response) → has_error (items_of (reply_to response)) ≡ false → is_error (reply_to response) ≡ false → IsShort m (new_key limits m key d response)
new_key-none limits m key d response h right =
    let made : Outcome = record { state = with_key key d m; response = response } in
    either (nat_lt limits.labels (length d.labels)) (refused m LabelsFull) (if nat_le limits.keys (count_keys m) then refused m KeysFull else made) no
    (either (nat_le limits.keys (count_keys m)) (refused m KeysFull) made no (line h right))

create-none : (limits : Limits) (m : State) (key : Key) (s : Spec) → IsShort m (create limits m key s)
create-none limits m key s = either (is_some (get key m)) (refused m KeyExists) (new_key limits m key (fresh s [] None) Done) no (new_key-none limits m key (fresh s [] None) Done refl refl)

alter-none : (limits : Limits) (m : State) (key : Key) (c : Change) (there : Option Record) → IsShort m (alter_at limits m key c there)
alter-none limits m key c None = no
alter-none limits m key c (Some d) =
    either (is_longer limits.labels c.labels) (refused m LabelsFull) (record { state = settled (change key (altered c) m); response = Done }) no (line refl refl)

-- ---- samples

full-none : (m : State) (full : Option Key) (done : Outcome) → IsShort m done → IsShort m (unless_full m full done)
full-none m None done h = h
full-none m (Some key) done h = no

ignored-none : (m : State) (last : Option ℕ) (done : Outcome) → IsShort m done → IsShort m (unless_ignored m last done)
ignored-none m None done h = h
ignored-none m (Some t) done h = line refl refl

merged-none : (limits : Limits) (m : State) (key : Key) (t : ℕ) (met : Merged) → IsShort m (write_merged limits m key t met)
merged-none limits m key t (Refuse refusal) = no
merged-none limits m key t KeepOld = line refl refl
merged-none limits m key t (To v) =
    let done : Outcome = record { state = written key t v m; response = Count t } in
    either (shows_more limits.samples done.state key) (refused m SamplesFull) (within_destinations limits m key done) no
    (full-none m (first_full limits.samples done.state (rules_at (get key m))) done (line refl refl))

write-none : (limits : Limits) (m : State) (key : Key) (d : Record) (how : Merge) (t : ℕ) (v : ℤ) → IsShort m (write limits m key d how t v)
write-none limits m key d how t v =
    either (nat_lt t (edge d)) (refused m TooOld) (unless_ignored m (ignored m key d t v) (write_merged limits m key t (merge how (value_at t (shown m key)) v))) no
    (ignored-none m (ignored m key d t v) (write_merged limits m key t (merge how (value_at t (shown m key)) v)) (merged-none limits m key t (merge how (value_at t (shown m key)) v)))

add-none : (limits : Limits) (m : State) (key : Key) (t : ℕ) (v : ℤ) (on : Option Policy) (s : Spec) (there : Option Record) → IsShort m (add_at limits m key t v on s there)
add-none limits m key t v on s None = new_key-none limits m key (fresh s (record { time = t; value = v; made = 0 } ∷ []) (Some t)) (Count t) refl refl
add-none limits m key t v on s (Some d) = write-none limits m key d (By (unwrap_or on d.options.policy)) t v

increased-none : (limits : Limits) (m : State) (key : Key) (d : Record) (t : ℕ) (met : Merged) → IsShort m (increased limits m key d t met)
increased-none limits m key d t (To v) = ignored-none m (ignored m key d t v) (write_merged limits m key t (To v)) (merged-none limits m key t (To v))
increased-none limits m key d t (Refuse refusal) = no
increased-none limits m key d t KeepOld = line refl refl

incr-none : (limits : Limits) (m : State) (key : Key) (change : ℤ) (t : ℕ) (s : Spec) (there : Option Record) → IsShort m (incr_at limits m key change t s there)
incr-none limits m key change t s None = new_key-none limits m key (fresh s (record { time = t; value = change; made = 0 } ∷ []) (Some t)) (Count t) refl refl
incr-none limits m key change t s (Some d) =
    let last : Option Point = last_of (shown m key) in
    let rest : Outcome = increased limits m key d t (within_bound (changed_value change last)) in
    either (is_before_last t last) (refused m BeforeLast) (if nat_lt t (edge d) then refused m TooOld else rest) no
    (either (nat_lt t (edge d)) (refused m TooOld) rest no (increased-none limits m key d t (within_bound (changed_value change last))))

delete-none : (limits : Limits) (m : State) (key : Key) (from to : ℕ) (there : Option Record) → IsShort m (delete_at limits m key from to there)
delete-none limits m key from to None = no
delete-none limits m key from to (Some d) =
    let done : Outcome = record { state = deleted key from to m; response = Count (length (between from to (shown m key))) } in
    let rest : Outcome = within_destinations limits m key done in
    either (nat_lt to from) (answer_only m (Count 0)) (if meets_expired from (edge d) d.rules then refused m DeleteBeyondRetention else rest) (line refl refl)
    (either (meets_expired from (edge d) d.rules) (refused m DeleteBeyondRetention) rest no
    (full-none m (first_full limits.samples done.state (rules_at (get key m))) done (line refl refl)))

-- ---- rules and keys

rule_at-none : (limits : Limits) (m : State) (source dest : Key) (agg : Aggregator) (grid : Grid) (there other : Option Record) → IsShort m (create_rule_at limits m source dest agg grid there other)
rule_at-none limits m source dest agg grid None other = no
rule_at-none limits m source dest agg grid (Some s) None = no
rule_at-none limits m source dest agg grid (Some s) (Some d) =
    choices (is_some (link_to m source)) (has_rules d.rules) (is_some (link_to m dest)) (nat_le limits.born s.born) (nat_le limits.rules (length s.rules))
  where
    choices : (a b c x y : Bool) → IsShort m (if a then refused m SourceIsDest else (if b then refused m DestIsSource else (if c then refused m DestHasSource
        else (if x then refused m RulesSpent else (if y then refused m RulesFull else record { state = ruled source dest agg grid m; response = Done })))))
    choices true b c x y = no
    choices false true c x y = no
    choices false false true x y = no
    choices false false false true y = no
    choices false false false false true = no
    choices false false false false false = line refl refl

rule-none : (limits : Limits) (m : State) (source dest : Key) (agg : Aggregator) (grid : Grid) → IsShort m (create_rule limits m source dest agg grid)
rule-none limits m source dest agg grid = either (same source dest) (refused m SameKey) (create_rule_at limits m source dest agg grid (get source m) (get dest m)) no (rule_at-none limits m source dest agg grid (get source m) (get dest m))

no_rule-none : (m : State) (source dest : Key) (there : Option Record) → IsShort m (delete_rule_at m source dest there)
no_rule-none m source dest None = no
no_rule-none m source dest (Some d) =
    either (is_some (rule_to dest d.rules)) (record { state = without_rule source dest m; response = Done }) (refused m NoRule) (line refl refl) no

drop-none : (m now : State) (so_far : ℕ) (keys : List Key) → IsShort m (drop_keys now so_far keys)
drop-none m now so_far [] = line refl refl
drop-none m now so_far (key ∷ keys) =
    let there : Bool = is_some (get key now) in
    drop-none m (if there then dropped key now else now) (if there then so_far + 1 else so_far) keys

pub short : (limits : Limits) (m : State) (reading : ℕ) (c : Command) → is_fixed c ≡ true → IsShort m (step limits m reading c)
short limits m reading (Create key s) h = create-none limits m key s
short limits m reading (Alter key c) h = alter-none limits m key c (get key m)
short limits m reading (Add key at v on s) h = add-none limits m key (time_of reading at) v on s (get key m)
short limits m reading (Madd ts) h = absurd (false≢true h)
short limits m reading (Incr key v at s) h = incr-none limits m key v (time_of reading at) s (get key m)
short limits m reading (DelRange key from to) h = delete-none limits m key from to (get key m)
short limits m reading (CreateRule source dest agg grid) h = rule-none limits m source dest agg grid
short limits m reading (DeleteRule source dest) h = no_rule-none m source dest (get source m)
short limits m reading (Range key latest q) h = absurd (false≢true h)
short limits m reading (MRange latest show filters q group) h = absurd (false≢true h)
short limits m reading (Get key latest) h = absurd (false≢true h)
short limits m reading (MGet latest show filters) h = absurd (false≢true h)
short limits m reading (QueryIndex filters) h = absurd (false≢true h)
short limits m reading (InfoOf key) h = absurd (false≢true h)
short limits m reading (Ping word) h = absurd (false≢true h)
short limits m reading (Echo word) h = absurd (false≢true h)
short limits m reading Quit h = absurd (false≢true h)
short limits m reading (Drop keys) h = drop-none m m 0 keys
short limits m reading (Exists keys) h = absurd (false≢true h)
