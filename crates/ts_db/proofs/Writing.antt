-- The result of a write to a series, case by case.
use Rattle.std.proofs.Common.{◌≡◌, ◌≤◌, ℕ, ℤ, Bool, true, false, map, length, refl, sym, ◌∙◌, ap, subst, le-ltb, lt-ltb}
use Rattle.std.specs.Prelude.{nat_lt, if◌then◌else◌, Vec, Option, None, Some, option_map, Ok, Err}
use Rattle.std.specs.declared.alloc.Global.{Global}
use Rattle.ts_spec.specs.declared.series.Merge.{Merge}
use Rattle.ts_spec.specs.Refusal as refusal
use Rattle.ts_spec.specs.Refusal.{Refusal}
use Rattle.ts_spec.specs.Key.{Key}
use Rattle.ts_spec.specs.Keyed.{get, with_key}
use Rattle.ts_spec.specs.StoredSeries.{StoredSeries, StoredKeys}
use Rattle.ts_spec.specs.StoredUpdates.{stored_with}
use Rattle.ts_spec.specs.Rules.{Merged, Refuse, KeepOld, To, merge, raised}
use Rattle.ts_spec.specs.State.{edge_of}
use Rattle.ts_spec.specs.Response.{Count}
use Rattle.ts_spec.specs.Step.{value_at}
use Rattle.ts_spec.specs.StoredStep.{StoredOutcome, stored_refused, list_at, stored_unless_full, stored_within_destinations, stored_within_samples, stored_write_merged, stored_unless_ignored, stored_write}
use Rattle.ts_spec.specs.Ignoring.{stored_ignored}
use Rattle.ts_sample.specs.declared.sample.Id.{Id}
use Rattle.ts_series.specs.History.{History, list_of, low, IsKept}
use Rattle.ts_series.specs.Plan.{Plan, after}
use Rattle.ts_series.specs.Put.{PutAnswers, Writes, Fits, IsWrite, IsFullFault, met, sample_of, list_after, unwritten_of, refusal_of as put_refusal}
use Rattle.ts_series.specs.declared.plan.PutFault.{PutFault}
use Rattle.ts_series.specs.declared.plan.PutFault.TheVariants.{TooOld, Duplicate, OutOfRange, Full, Unwritten, Memory}
use Rattle.ts_series.proofs.Counting.{length-after}
use Rattle.ts_rules.specs.declared.rule.Rule.{Rule}
use Rattle.ts_db.specs.declared.fault.DbFault.{DbFault}
use Rattle.ts_db.specs.declared.node.Node.{Node}
use Rattle.ts_db.specs.declared.store.Store.{Store}
use Rattle.ts_db.specs.declared.planning.SourceChange.TheVariants.{Write}
use Rattle.ts_db.specs.Faults.{refusal_of}
use Rattle.ts_db.specs.DestinationUpdates.{Rows, RemovedTimes, keys_destinations_updated}
use Rattle.ts_db.specs.Planning.{changed_by, gone_by, rows_by_change, AreChanged, first_full, IsPlanFault}
use Rattle.ts_db.specs.Store.{stored_series, rules_by, key_in, stored_named, stored_node, db_view_of, contents_of, Contents, IsNode, IsDb, Holds}
use Rattle.ts_db.specs.Answering.{node_after, IsStoredAnswer}
use Rattle.ts_db.proofs.Applying.{there}
use Rattle.ts_db.proofs.Fed.{written-update_dest}
use Rattle.ts_db.proofs.Fitting.{keys_fed, own-update_dest, destinations-tested}
use Rattle.ts_db.proofs.Known.{links}
use Rattle.ts_db.proofs.Destinations.{none-full-yields, destination-refused}
use Rattle.ts_db.proofs.Working.{changed-rules}

-- a plan that writes a sample, to a source whose rules change with it
pub writes-after : (names : Id → Key) (n : Node) (plan : Plan) (rules : Vec Rule Global) (t : ℕ) (v : ℤ) → Writes (sample_of t v n.series) plan
    → AreChanged (changed_by (Write (sample_of t v n.series)) n.series) n.rules.items rules.items → stored_named names (node_after plan None (Some rules) n) ≡ stored_with t v (stored_named names n)
writes-after names n plan rules t v w changed =
    let same : rules_by names rules.items ≡ map (changed_by (Write (sample_of t v n.series)) n.series) (rules_by names n.rules.items) =
    changed-rules names (changed_by (Write (sample_of t v n.series)) n.series) n.rules.items rules.items changed in
    λ i. record (stored_series n.labels (after (record { cut = w.cut i; removed = 0; encoding = plan.encoding; wrote = w.wrote i; options = w.options i; change = plan.change; room = None }) n.series)) { rules = same i; source = option_map names n.source }

-- a planned write leaves the list within the limit
pub within-planned : (h : History) (plan : Plan) (limit t : ℕ) (v : ℤ) → IsKept h → IsWrite limit (sample_of t v h) h (Ok plan) → length (list_of h) ≤ limit → length (list_of (after plan h)) ≤ limit
within-planned h plan limit t v kept a le =
    let same : list_of (after plan h) ≡ list_after (sample_of t v h) h =
    λ i. list_of (after (record { cut = a.0.cut i; removed = 0; encoding = plan.encoding; wrote = a.0.wrote i; options = a.0.options i; change = plan.change; room = None }) h) in
    subst (λ ps. length ps ≤ limit) (sym same) (length-after limit (edge_of h.options.retention (raised t h.high)) (sample_of t v h) h.samples kept.ascending a.1 le)

module _ (s : Store) (db : IsDb s) (key : Key) (id : Id) (n : Node) (holds : Holds s key id n) where
  abbrev rows : ℕ → ℤ → Rows
  rows t v = rows_by_change (Write (sample_of t v n.series)) n.series

  abbrev gone : ℕ → ℤ → RemovedTimes
  gone t v = gone_by (Write (sample_of t v n.series)) n.series

  abbrev after_keys : ℕ → ℤ → StoredKeys
  after_keys t v = keys_fed s db.store key id n holds (links s db key id n holds) (rows t v) (gone t v) (stored_with t v (stored_node s.nodes n))

  -- the first destination that would show too many samples
  abbrev pub full_by : ℕ → ℤ → Option Id
  full_by t v = first_full s.limits.samples s.nodes (rows t v) (gone t v) n.rules.items

  -- a write of a value, by how many samples the key and the destinations of its rules have then
  write-to : (t : ℕ) (v : ℤ) → stored_write_merged s.limits (db_view_of s).keys key t (To v) ≡ (if nat_lt s.limits.samples (length (stored_with t v (stored_node s.nodes n)).list)
      then stored_refused (db_view_of s).keys refusal.SamplesFull
      else stored_unless_full (db_view_of s).keys (option_map (key_in s.nodes) (full_by t v)) (record { keys = after_keys t v; response = Count t }))
  write-to t v =
      let is : get key (db_view_of s).keys ≡ Some (stored_node s.nodes n) = there s db.store key id n holds in
      let own : get key (after_keys t v) ≡ Some (stored_with t v (stored_node s.nodes n)) =
      own-update_dest s db.store key id n holds (links s db key id n holds) (rows t v) (gone t v) (stored_with t v (stored_node s.nodes n)) in
      let done : StoredOutcome = record { keys = after_keys t v; response = Count t } in
      ap (λ (q : StoredKeys). stored_within_samples s.limits (db_view_of s).keys key (record { keys = q; response = Count t }))
      (written-update_dest (db_view_of s).keys key (stored_node s.nodes n) is (links s db key id n holds) t v)
      ∙ ap (λ (o : Option StoredSeries). if nat_lt s.limits.samples (length (list_at o)) then stored_refused (db_view_of s).keys refusal.SamplesFull else stored_within_destinations s.limits (db_view_of s).keys key done) own
      ∙ ap (λ (o : StoredOutcome). if nat_lt s.limits.samples (length (stored_with t v (stored_node s.nodes n)).list) then stored_refused (db_view_of s).keys refusal.SamplesFull else o)
      (destinations-tested s db.store key id n holds (links s db key id n holds) (rows t v) (gone t v) (stored_with t v (stored_node s.nodes n)) done)

  -- where the key itself has capacity
  write-fits : (t : ℕ) (v : ℤ) → length (list_after (sample_of t v n.series) n.series) ≤ s.limits.samples
      → stored_write_merged s.limits (db_view_of s).keys key t (To v) ≡ stored_unless_full (db_view_of s).keys (option_map (key_in s.nodes) (full_by t v)) (record { keys = after_keys t v; response = Count t })
  write-fits t v few =
      write-to t v
      ∙ ap (λ b. if b then stored_refused (db_view_of s).keys refusal.SamplesFull
      else stored_unless_full (db_view_of s).keys (option_map (key_in s.nodes) (full_by t v)) (record { keys = after_keys t v; response = Count t }))
      (le-ltb s.limits.samples (length (list_after (sample_of t v n.series) n.series)) few)

  -- a write that fits leaves the key within the limit
  short : (t : ℕ) (v : ℤ) → Fits s.limits.samples (sample_of t v n.series) n.series → length (list_after (sample_of t v n.series) n.series) ≤ s.limits.samples
  short t v few =
      let node : IsNode s.limits n = db.store.each id.0 n holds.node in
      length-after s.limits.samples (edge_of n.series.options.retention (raised t n.series.high)) (sample_of t v n.series) n.series.samples node.kept.ascending few node.within

  -- a write that was planned, for the key and for the destinations of its rules
  pub planned-answers : (plan : Plan) (d : StoredSeries) (t : ℕ) (v : ℤ) (new : Contents) → IsWrite s.limits.samples (sample_of t v n.series) n.series (Ok plan)
      → d ≡ stored_with t v (stored_node s.nodes n) → full_by t v ≡ None
      → new ≡ record (contents_of s) { keys = keys_destinations_updated (rows t v) (gone t v) (rules_by (key_in s.nodes) n.rules.items) (with_key key d (db_view_of s).keys) }
      → stored_write_merged s.limits (db_view_of s).keys key t (To v) ≡ record { keys = new.keys; response = Count t }
  planned-answers plan d t v new a same room is =
      write-fits t v (short t v a.1)
      ∙ ap (λ (o : Option Id). stored_unless_full (db_view_of s).keys (option_map (key_in s.nodes) o) (record { keys = after_keys t v; response = Count t })) room
      ∙ ap (λ (m : StoredKeys). record { keys = m; response = Count t })
      (sym (ap (λ (x : Contents). x.keys) is
      ∙ ap (λ (x : StoredSeries). keys_destinations_updated (rows t v) (gone t v) (rules_by (key_in s.nodes) n.rules.items) (with_key key x (db_view_of s).keys)) same))

  -- a destination refuses it, or no destination does and memory ran out
  pub plan_fault-answers : (fault : DbFault) (t : ℕ) (v : ℤ) → Fits s.limits.samples (sample_of t v n.series) n.series → IsPlanFault (full_by t v) fault
      → IsStoredAnswer (refusal_of (db_view_of s).ids fault) (db_view_of s).keys (stored_write_merged s.limits (db_view_of s).keys key t (To v))
  plan_fault-answers fault t v few x =
      let done : StoredOutcome = record { keys = after_keys t v; response = Count t } in
      subst (IsStoredAnswer (refusal_of (db_view_of s).ids fault) (db_view_of s).keys) (sym (write-fits t v (short t v few)))
      (destination-refused s db.store n.rules.items (rows t v) (gone t v) (db.store.live id.0 n holds.node).rules fault done
      (λ none. none-full-yields (key_in s.nodes) (db_view_of s).keys (full_by t v) done none tt) x)

  -- a write that could not be planned, for another reason than memory
  pub refused-answers : (fault : PutFault) (o : Option Refusal) (what : Merged) (t : ℕ) → unwritten_of fault ≡ None → o ≡ put_refusal fault → PutAnswers what s.limits.samples t n.series (Err fault)
      → IsStoredAnswer o (db_view_of s).keys (stored_write_merged s.limits (db_view_of s).keys key t what)
  refused-answers fault o (Refuse r) t other is a = subst (λ (x : Option Refusal). IsStoredAnswer x (db_view_of s).keys (stored_refused (db_view_of s).keys r)) (sym (is ∙ a)) refl
  refused-answers fault o KeepOld t other is a = absurd a
  refused-answers fault o (To v) t other is a =
      subst (λ (x : Option Refusal). IsStoredAnswer x (db_view_of s).keys (stored_write_merged s.limits (db_view_of s).keys key t (To v))) (sym is) (full fault other a)
    where
      full : (f : PutFault) → unwritten_of f ≡ None → IsFullFault s.limits.samples (sample_of t v n.series) n.series f → IsStoredAnswer (put_refusal f) (db_view_of s).keys (stored_write_merged s.limits (db_view_of s).keys key t (To v))
      full TooOld none x = absurd x
      full Duplicate none x = absurd x
      full OutOfRange none x = absurd x
      full Full none x =
          write-to t v
          ∙ ap (λ b. if b then stored_refused (db_view_of s).keys refusal.SamplesFull
          else stored_unless_full (db_view_of s).keys (option_map (key_in s.nodes) (full_by t v)) (record { keys = after_keys t v; response = Count t }))
          (lt-ltb s.limits.samples (length (list_after (sample_of t v n.series) n.series)) x.longer)
      full (Unwritten p) none x = absurd (cc none)
      full (Memory e) none x = absurd x

-- what a write comes to that is not ignored, by the stored data and by the series
pub write-met : (m : StoredKeys) (s : Store) (key : Key) (n : Node) (how : Merge) (t : ℕ) (v : ℤ) → stored_ignored (stored_node s.nodes n) t v ≡ None
    → stored_write s.limits m key (stored_node s.nodes n) how t v ≡ stored_write_merged s.limits m key t (met how t v n.series)
write-met m s key n how t v none =
    ap (λ (o : Option ℕ). if nat_lt t (low n.series) then stored_refused m refusal.TooOld
    else stored_unless_ignored m o (stored_write_merged s.limits m key t (merge how (value_at t (list_of n.series)) v))) none
    ∙ go (nat_lt t (low n.series))
  where
    go : (b : Bool) → (if b then stored_refused m refusal.TooOld else stored_write_merged s.limits m key t (merge how (value_at t (list_of n.series)) v))
        ≡ stored_write_merged s.limits m key t (if b then Refuse refusal.TooOld else merge how (value_at t (list_of n.series)) v)
    go true = refl
    go false = refl
