-- The result of a deletion.
use Rattle.std.proofs.Common.{◌≡◌, ◌≤◌, ℕ, Bool, true, false, not, ◌||◌, List, [], ◌∷◌, map, length, refl, sym, ◌∙◌, ap, subst, arith, nat_le}
use Rattle.std.specs.Prelude.{nat_lt, if◌then◌else◌, Vec, Option, None, Some, option_map}
use Rattle.std.specs.declared.alloc.Global.{Global}
use Rattle.ts_spec.specs.Refusal as refusal
use Rattle.ts_spec.specs.Sample.{at_times, between, outside, is_within}
use Rattle.ts_spec.specs.Bucket.{start}
use Rattle.ts_spec.specs.Key.{Key}
use Rattle.ts_spec.specs.Keyed.{with_key}
use Rattle.ts_spec.specs.StoredSeries.{StoredSeries, StoredKeys}
use Rattle.ts_spec.specs.StoredUpdates.{stored_without, keys_deleted}
use Rattle.ts_spec.specs.Response.{Count}
use Rattle.ts_spec.specs.StoredStep.{StoredOutcome, stored_refused, unchanged_with, stored_meets_expired, stored_unless_full, stored_within_destinations, stored_delete_at, stored_delete}
use Rattle.ts_spec.proofs.PlainWrite.{times-swap}
use Rattle.ts_sample.specs.declared.sample.Id.{Id}
use Rattle.ts_series.specs.History.{History, list_of, low, IsKept}
use Rattle.ts_series.specs.Plan.{Plan, after, cuts, with_change}
use Rattle.ts_series.proofs.Counting.{times-length}
use Rattle.ts_rules.specs.declared.rule.Rule.{Rule}
use Rattle.ts_db.specs.declared.fault.DbFault.{DbFault}
use Rattle.ts_db.specs.declared.node.Node.{Node}
use Rattle.ts_db.specs.declared.store.Store.{Store}
use Rattle.ts_db.specs.declared.planning.SourceChange.TheVariants.{Delete}
use Rattle.ts_db.specs.Faults.{refusal_of}
use Rattle.ts_db.specs.DestinationUpdates.{Rows, RemovedTimes, keys_destinations_updated}
use Rattle.ts_db.specs.Planning.{changed_by, gone_by, rows_by_change, AreChanged, first_full, IsPlanFault}
use Rattle.ts_db.specs.Store.{stored_series, rules_by, key_in, stored_named, stored_node, db_view_of, contents_of, Contents, IsInOrder, IsDb, Holds}
use Rattle.ts_db.specs.Answering.{node_after, IsStoredAnswer}
use Rattle.ts_db.proofs.Applying.{there}
use Rattle.ts_db.proofs.Fed.{deleted-update_dest}
use Rattle.ts_db.proofs.Fitting.{keys_fed, destinations-tested}
use Rattle.ts_db.proofs.Known.{links}
use Rattle.ts_db.proofs.Destinations.{none-full-yields, destination-refused}
use Rattle.ts_db.proofs.Working.{changed-rules}

-- a plan of a deletion leaves what is outside the interval
cut-list : (h : History) (plan : Plan) (from to removed : ℕ) → IsKept h → plan ≡ with_change plan (cuts from to removed) → list_of (after plan h) ≡ outside from to (list_of h)
cut-list h plan from to removed k is =
    ap (λ (p : Plan). list_of (after p h)) is ∙ times-swap (nat_le (low h)) (λ t. not (is_within from to t)) h.samples ∙ ap (outside from to) k.past_edge

cuts-after : (names : Id → Key) (n : Node) (plan : Plan) (rules : Vec Rule Global) (from to removed : ℕ) → IsKept n.series → plan ≡ with_change plan (cuts from to removed)
    → AreChanged (changed_by (Delete from to) n.series) n.rules.items rules.items → stored_named names (node_after plan None (Some rules) n) ≡ stored_without from to (stored_named names n)
cuts-after names n plan rules from to removed k is changed =
    let list : at_times (nat_le (low n.series)) (outside from to n.series.samples) ≡ outside from to n.series.samples =
    times-swap (nat_le (low n.series)) (λ t. not (is_within from to t)) n.series.samples ∙ ap (outside from to) k.past_edge in
    let same : rules_by names rules.items ≡ map (changed_by (Delete from to) n.series) (rules_by names n.rules.items) =
    changed-rules names (changed_by (Delete from to) n.series) n.rules.items rules.items changed in
    ap (λ (p : Plan). stored_named names (node_after p None (Some rules) n)) is
    ∙ (λ i. record (stored_series n.labels n.series) { list = list i; rules = same i; source = option_map names n.source })

pub cut-within : (h : History) (plan : Plan) (from to removed limit : ℕ) → IsKept h → plan ≡ with_change plan (cuts from to removed) → length (list_of h) ≤ limit → length (list_of (after plan h)) ≤ limit
cut-within h plan from to removed limit k is le =
    let fewer : length (outside from to (list_of h)) ≤ length (list_of h) = times-length (λ t. not (is_within from to t)) (list_of h) in
    subst (λ ps. length ps ≤ limit) (sym (cut-list h plan from to removed k is)) (omega (arith, fewer, le))

pub deleted-few : (h : History) (plan : Plan) (from to removed limit : ℕ) → plan ≡ with_change plan (cuts from to (length (between from to (list_of h)))) → removed ≡ plan.removed → length (list_of h) ≤ limit → removed ≤ limit
deleted-few h plan from to removed limit is count le =
    let same : removed ≡ length (between from to (list_of h)) = count ∙ ap (λ (p : Plan). p.removed) is in
    let fewer : length (between from to (list_of h)) ≤ length (list_of h) = times-length (is_within from to) (list_of h) in
    omega (arith, same, fewer, le)

-- whether an expired bucket is met does not depend on the keys of destinations
pub expired-named : (names : Id → Key) (from low : ℕ) (rs : List Rule) → stored_meets_expired from low (rules_by (λ i. []) rs) ≡ stored_meets_expired from low (rules_by names rs)
expired-named names from low [] = refl
expired-named names from low (r ∷ rs) = ap (λ b. nat_lt (start r.grid from) low || b) (expired-named names from low rs)

-- what the test on the rules of a node says
pub expired-at : (s : Store) (n : Node) (from edge : ℕ) (rs : List Rule) (result b : Bool) → edge ≡ low n.series → rs ≡ n.rules.items → result ≡ stored_meets_expired from edge (rules_by (λ i. []) rs) → result ≡ b
    → stored_meets_expired from (low n.series) (rules_by (key_in s.nodes) n.rules.items) ≡ b
expired-at s n from edge rs result b low_is rules_are tells is =
    sym (expired-named (key_in s.nodes) from (low n.series) n.rules.items)
    ∙ sym (λ i. stored_meets_expired from (low_is i) (rules_by (λ j. []) (rules_are i)))
    ∙ sym tells ∙ is

module _ (s : Store) (store : IsInOrder s) (key : Key) (id : Id) (n : Node) (holds : Holds s key id n) (from to : ℕ) where
  -- the step, by whether the interval is crossed and whether it meets an expired bucket
  delete-tested : (a b : Bool) → nat_lt to from ≡ a → stored_meets_expired from (low n.series) (rules_by (key_in s.nodes) n.rules.items) ≡ b
      → stored_delete s.limits (db_view_of s).keys key from to ≡ (if a then unchanged_with (db_view_of s).keys (Count 0)
      else (if b then stored_refused (db_view_of s).keys refusal.DeleteBeyondRetention
      else stored_within_destinations s.limits (db_view_of s).keys key (record { keys = keys_deleted key from to (db_view_of s).keys; response = Count (length (between from to (list_of n.series))) })))
  delete-tested a b e f =
      let done : StoredOutcome = record { keys = keys_deleted key from to (db_view_of s).keys; response = Count (length (between from to (list_of n.series))) } in
      ap (stored_delete_at s.limits (db_view_of s).keys key from to) (there s store key id n holds)
      ∙ ap (λ c. if c then unchanged_with (db_view_of s).keys (Count 0)
      else (if stored_meets_expired from (low n.series) (rules_by (key_in s.nodes) n.rules.items) then stored_refused (db_view_of s).keys refusal.DeleteBeyondRetention
      else stored_within_destinations s.limits (db_view_of s).keys key done)) e
      ∙ ap (λ c. if a then unchanged_with (db_view_of s).keys (Count 0)
      else (if c then stored_refused (db_view_of s).keys refusal.DeleteBeyondRetention else stored_within_destinations s.limits (db_view_of s).keys key done)) f

  pub delete-crossed : nat_lt to from ≡ true → stored_delete s.limits (db_view_of s).keys key from to ≡ unchanged_with (db_view_of s).keys (Count 0)
  delete-crossed e = delete-tested true (stored_meets_expired from (low n.series) (rules_by (key_in s.nodes) n.rules.items)) e refl

  pub delete-expired : nat_lt to from ≡ false → stored_meets_expired from (low n.series) (rules_by (key_in s.nodes) n.rules.items) ≡ true
      → stored_delete s.limits (db_view_of s).keys key from to ≡ stored_refused (db_view_of s).keys refusal.DeleteBeyondRetention
  delete-expired e f = delete-tested false true e f

  pub delete-done : nat_lt to from ≡ false → stored_meets_expired from (low n.series) (rules_by (key_in s.nodes) n.rules.items) ≡ false
      → stored_delete s.limits (db_view_of s).keys key from to
      ≡ stored_within_destinations s.limits (db_view_of s).keys key (record { keys = keys_deleted key from to (db_view_of s).keys; response = Count (length (between from to (list_of n.series))) })
  delete-done e f = delete-tested false false e f

module _ (s : Store) (db : IsDb s) (key : Key) (id : Id) (n : Node) (holds : Holds s key id n) (from to : ℕ) where
  abbrev rows : Rows
  rows = rows_by_change (Delete from to) n.series

  abbrev gone : RemovedTimes
  gone = gone_by (Delete from to) n.series

  abbrev after_keys : StoredKeys
  after_keys = keys_fed s db.store key id n holds (links s db key id n holds) rows gone (stored_without from to (stored_node s.nodes n))

  -- the first destination that would show too many samples
  abbrev pub full_without : Option Id
  full_without = first_full s.limits.samples s.nodes rows gone n.rules.items

  -- the step, by how many samples the destinations of the rules have then
  delete-from : (many : ℕ) → stored_within_destinations s.limits (db_view_of s).keys key (record { keys = keys_deleted key from to (db_view_of s).keys; response = Count many })
      ≡ stored_unless_full (db_view_of s).keys (option_map (key_in s.nodes) full_without) (record { keys = after_keys; response = Count many })
  delete-from many =
      ap (λ (q : StoredKeys). stored_within_destinations s.limits (db_view_of s).keys key (record { keys = q; response = Count many }))
      (deleted-update_dest (db_view_of s).keys key (stored_node s.nodes n) (there s db.store key id n holds) (links s db key id n holds) from to)
      ∙ destinations-tested s db.store key id n holds (links s db key id n holds) rows gone (stored_without from to (stored_node s.nodes n)) (record { keys = after_keys; response = Count many })

  -- a deletion that was planned
  pub deleted-answers : (plan : Plan) (rules : Vec Rule Global) (removed : ℕ) (new : Contents) → plan ≡ with_change plan (cuts from to (length (between from to (list_of n.series)))) → removed ≡ plan.removed
      → AreChanged (changed_by (Delete from to) n.series) n.rules.items rules.items → full_without ≡ None
      → new ≡ record (contents_of s) { keys = keys_destinations_updated rows gone (rules_by (key_in s.nodes) n.rules.items) (with_key key (stored_node s.nodes (node_after plan None (Some rules) n)) (db_view_of s).keys) }
      → stored_within_destinations s.limits (db_view_of s).keys key (record { keys = keys_deleted key from to (db_view_of s).keys; response = Count (length (between from to (list_of n.series))) })
      ≡ record { keys = new.keys; response = Count removed }
  deleted-answers plan rules removed new is count changed room applied =
      let k : IsKept n.series = (db.store.each id.0 n holds.node).kept in
      let many : ℕ = length (between from to (list_of n.series)) in
      delete-from many
      ∙ ap (λ (o : Option Id). stored_unless_full (db_view_of s).keys (option_map (key_in s.nodes) o) (record { keys = after_keys; response = Count many })) room
      ∙ ap (λ (m : StoredKeys). record { keys = m; response = Count many })
      (sym (ap (λ (x : Contents). x.keys) applied
      ∙ ap (λ (d : StoredSeries). keys_destinations_updated rows gone (rules_by (key_in s.nodes) n.rules.items) (with_key key d (db_view_of s).keys)) (cuts-after (key_in s.nodes) n plan rules from to many k is changed)))
      ∙ ap (λ (j : ℕ). record { keys = new.keys; response = Count j }) (sym (count ∙ ap (λ (p : Plan). p.removed) is))

  -- a destination refuses it, or no destination does and memory ran out
  pub undeleted-answers : (fault : DbFault) → IsPlanFault full_without fault
      → IsStoredAnswer (refusal_of (db_view_of s).ids fault) (db_view_of s).keys
      (stored_within_destinations s.limits (db_view_of s).keys key (record { keys = keys_deleted key from to (db_view_of s).keys; response = Count (length (between from to (list_of n.series))) }))
  undeleted-answers fault x =
      let many : ℕ = length (between from to (list_of n.series)) in
      let done : StoredOutcome = record { keys = after_keys; response = Count many } in
      subst (IsStoredAnswer (refusal_of (db_view_of s).ids fault) (db_view_of s).keys) (sym (delete-from many))
      (destination-refused s db.store n.rules.items rows gone (db.store.live id.0 n holds.node).rules fault done
      (λ none. none-full-yields (key_in s.nodes) (db_view_of s).keys full_without done none tt) x)
