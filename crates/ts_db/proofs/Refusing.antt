-- A refused step leaves the state unchanged.
use Rattle.std.proofs.Common.{◌≡◌, ℕ, ℤ, Bool, true, false, Option, None, Some, length, ap}
use Rattle.std.specs.Prelude.{nat_lt, nat_le, is_some, if◌then◌else◌}
use Rattle.std.specs.Option.{unwrap_or}
use Rattle.ts_spec.specs.declared.limits.Limits.{Limits}
use Rattle.ts_spec.specs.declared.series.Policy.{Policy}
use Rattle.ts_spec.specs.declared.series.Merge.{Merge}
use Rattle.ts_spec.specs.declared.series.Merge.TheVariants.{By}
use Rattle.ts_spec.specs.Sample.{last_of}
use Rattle.ts_spec.specs.declared.bucket.Aggregator.{Aggregator}
use Rattle.ts_spec.specs.Bucket.{Grid}
use Rattle.ts_spec.specs.Key.{Key, same}
use Rattle.ts_spec.specs.Keyed.{get, count_keys}
use Rattle.ts_spec.specs.State.{Record, State, edge, link_to, rule_to}
use Rattle.ts_spec.specs.Refusal.{Refusal, DestinationFull}
use Rattle.ts_spec.specs.Response.{Response, Done, Count, Refused}
use Rattle.ts_spec.specs.Command.{Spec, Change}
use Rattle.ts_spec.specs.Rules.{shown, Merged, Refuse, KeepOld, To, merge, within_bound}
use Rattle.ts_spec.specs.Ignoring.{ignored}
use Rattle.ts_spec.specs.Step.{Outcome, refused, create, new_key, alter_at, is_longer, value_at, unless_ignored, write, write_merged, increased, within_destinations, first_full, unless_full, rules_at, add_at, put_at, incr_at, is_before_last, changed_value, meets_expired, delete_at, has_rules, create_rule, create_rule_at, delete_rule_at}

abbrev pub Refuses : State → Outcome → Type 0
Refuses m o = (r : Refusal) → o.response ≡ Refused r → o ≡ refused m r

refusal : (m : State) (q : Refusal) → Refuses m (refused m q)
refusal m q r e = let same : q ≡ r = cc in ap (refused m) same

counts : (m n : State) (k : ℕ) → Refuses m (record { state = n; response = Count k })
counts m n k r e = absurd (cc e)

ends : (m n : State) → Refuses m (record { state = n; response = Done })
ends m n r e = absurd (cc e)

choice : (m : State) (b : Bool) (x y : Outcome) → Refuses m x → Refuses m y → Refuses m (if b then x else y)
choice m true x y f g = f
choice m false x y f g = g

destinations : (limits : Limits) (m : State) (key : Key) (o : Outcome) → Refuses m o → Refuses m (within_destinations limits m key o)
destinations limits m key o f = go (first_full limits.samples o.state (rules_at (get key m)))
  where
    go : (full : Option Key) → Refuses m (unless_full m full o)
    go None = f
    go (Some k) = refusal m (DestinationFull k)

merged : (limits : Limits) (m : State) (key : Key) (t : ℕ) (what : Merged) → Refuses m (write_merged limits m key t what)
merged limits m key t (Refuse q) = refusal m q
merged limits m key t KeepOld = counts m m t
merged limits m key t (To v) = choice m _ _ _ (refusal m _) (destinations limits m key _ (counts m _ t))

unless : (m : State) (o : Option ℕ) (done : Outcome) → Refuses m done → Refuses m (unless_ignored m o done)
unless m None done f = f
unless m (Some last) done f = counts m m last

increases : (limits : Limits) (m : State) (key : Key) (d : Record) (t : ℕ) (what : Merged) → Refuses m (increased limits m key d t what)
increases limits m key d t (Refuse q) = refusal m q
increases limits m key d t KeepOld = counts m m t
increases limits m key d t (To v) = unless m (ignored m key d t v) (write_merged limits m key t (To v)) (merged limits m key t (To v))

writes : (limits : Limits) (m : State) (key : Key) (d : Record) (how : Merge) (t : ℕ) (v : ℤ) → Refuses m (write limits m key d how t v)
writes limits m key d how t v = choice m (nat_lt t (edge d)) _ _ (refusal m _)
    (unless m (ignored m key d t v) (write_merged limits m key t (merge how (value_at t (shown m key)) v)) (merged limits m key t (merge how (value_at t (shown m key)) v)))

makes : (limits : Limits) (m : State) (key : Key) (d : Record) (k : Response) → ((n : State) → Refuses m (record { state = n; response = k })) → Refuses m (new_key limits m key d k)
makes limits m key d k f = choice m (nat_lt limits.labels (length d.labels)) _ _ (refusal m _) (choice m (nat_le limits.keys (count_keys m)) _ _ (refusal m _) (f _))

pub create-refuses : (limits : Limits) (m : State) (key : Key) (spec : Spec) → Refuses m (create limits m key spec)
create-refuses limits m key spec = choice m (is_some (get key m)) _ _ (refusal m _) (makes limits m key _ Done (λ n. ends m n))

pub alter-refuses : (limits : Limits) (m : State) (key : Key) (c : Change) (o : Option Record) → Refuses m (alter_at limits m key c o)
alter-refuses limits m key c None = refusal m _
alter-refuses limits m key c (Some d) = choice m (is_longer limits.labels c.labels) _ _ (refusal m _) (ends m _)

pub add-refuses : (limits : Limits) (m : State) (key : Key) (t : ℕ) (v : ℤ) (on : Option Policy) (spec : Spec) (o : Option Record) → Refuses m (add_at limits m key t v on spec o)
add-refuses limits m key t v on spec None = makes limits m key _ (Count t) (λ n. counts m n t)
add-refuses limits m key t v on spec (Some d) = writes limits m key d (By (unwrap_or on d.options.policy)) t v

pub put-refuses : (limits : Limits) (m : State) (key : Key) (t : ℕ) (v : ℤ) (o : Option Record) → Refuses m (put_at limits m key t v o)
put-refuses limits m key t v None = refusal m _
put-refuses limits m key t v (Some d) = writes limits m key d (By d.options.policy) t v

pub incr-refuses : (limits : Limits) (m : State) (key : Key) (x : ℤ) (t : ℕ) (spec : Spec) (o : Option Record) → Refuses m (incr_at limits m key x t spec o)
incr-refuses limits m key x t spec None = makes limits m key _ (Count t) (λ n. counts m n t)
incr-refuses limits m key x t spec (Some d) =
    choice m (is_before_last t (last_of (shown m key))) _ _ (refusal m _)
    (choice m (nat_lt t (edge d)) _ _ (refusal m _) (increases limits m key d t (within_bound (changed_value x (last_of (shown m key))))))

pub delete-refuses : (limits : Limits) (m : State) (key : Key) (from to : ℕ) (o : Option Record) → Refuses m (delete_at limits m key from to o)
delete-refuses limits m key from to None = refusal m _
delete-refuses limits m key from to (Some d) =
    choice m (nat_lt to from) _ _ (counts m m 0)
    (choice m (meets_expired from (edge d) d.rules) _ _ (refusal m _) (destinations limits m key _ (counts m _ _)))

rule-refuses : (limits : Limits) (m : State) (source dest : Key) (agg : Aggregator) (grid : Grid) (o p : Option Record) → Refuses m (create_rule_at limits m source dest agg grid o p)
rule-refuses limits m source dest agg grid None p = refusal m _
rule-refuses limits m source dest agg grid (Some s) None = refusal m _
rule-refuses limits m source dest agg grid (Some s) (Some d) =
    choice m (is_some (link_to m source)) _ _ (refusal m _)
    (choice m (has_rules d.rules) _ _ (refusal m _)
    (choice m (is_some (link_to m dest)) _ _ (refusal m _)
    (choice m (nat_le limits.born s.born) _ _ (refusal m _)
    (choice m (nat_le limits.rules (length s.rules)) _ _ (refusal m _) (ends m _)))))

pub create_rule-refuses : (limits : Limits) (m : State) (source dest : Key) (agg : Aggregator) (grid : Grid) → Refuses m (create_rule limits m source dest agg grid)
create_rule-refuses limits m source dest agg grid = choice m (same source dest) _ _ (refusal m _) (rule-refuses limits m source dest agg grid (get source m) (get dest m))

pub delete_rule-refuses : (m : State) (source dest : Key) (o : Option Record) → Refuses m (delete_rule_at m source dest o)
delete_rule-refuses m source dest None = refusal m _
delete_rule-refuses m source dest (Some d) = choice m (is_some (rule_to dest d.rules)) _ _ (ends m _) (refusal m _)
