-- Creating a rule: the step in stored data.
use Rattle.std.proofs.Common.{◌≡◌, suc, Bool, true, false, List, [], ◌∷◌, length, refl, sym, ◌∙◌, ap, subst}
use Rattle.std.specs.Prelude.{nat_le, nat_eq, if◌then◌else◌, Option, None, Some, is_some, option_map}
use Rattle.std.specs.Cmp.Lexicographic.{pointwise}
use Rattle.std.proofs.lemmas.Map.Text.{is_eq-slice_cmp}
use Rattle.ts_spec.specs.declared.limits.Limits.{Limits}
use Rattle.ts_spec.specs.declared.bucket.Aggregator.{Aggregator}
use Rattle.ts_spec.specs.Bucket.{Grid}
use Rattle.ts_spec.specs.Key.{Key, same}
use Rattle.ts_spec.specs.Keyed.{get}
use Rattle.ts_spec.specs.Refusal.{Refusal, NoKey, SameKey, SourceIsDest, DestIsSource, DestHasSource, RulesSpent, RulesFull}
use Rattle.ts_spec.specs.Response.{Done}
use Rattle.ts_spec.specs.StoredSeries.{StoredSeries, StoredKeys}
use Rattle.ts_spec.specs.StoredKeys.{keys_changed, keys_ruled, stored_with_rule}
use Rattle.ts_spec.specs.StoredStep.{StoredOutcome, stored_refused, any_rules, stored_create_rule, stored_create_rule_at}
use Rattle.ts_spec.proofs.StoredMaps.{some-mapped}
use Rattle.ts_sample.specs.declared.sample.Id.{Id}
use Rattle.ts_rules.specs.declared.rule.Rule.{Rule}
use Rattle.ts_db.specs.declared.fault.DbFault.{DbFault}
use Rattle.ts_db.specs.declared.node.Node.{Node}
use Rattle.ts_db.specs.declared.store.Store.{Store}
use Rattle.ts_db.specs.Answering.{IsStoredAnswer, IsElsewhere}
use Rattle.ts_db.specs.Faults.{refusal_of}
use Rattle.ts_db.specs.DbState.{AllowsOutOfMemory}
use Rattle.ts_db.specs.Linking.{stored_with_source, any_rule, rule_conflict_refusal, IsStoredChange, IsRuleConflict}
use Rattle.ts_db.specs.Store.{rules_by, key_in, stored_named, stored_node, db_view_of, contents_of, Contents, IsInOrder, Holds}
use Rattle.ts_db.proofs.Applying.{there}
use Rattle.ts_db.proofs.Collecting.{same-at}
use Rattle.ts_db.proofs.Known.{named}

-- keys that are told apart by their bytes
pub keys-apart : (j k : Key) (b : Bool) → b ≡ pointwise nat_eq j k → b ≡ false → same j k ≡ false
keys-apart j k b is apart = same-at j k ∙ is_eq-slice_cmp j k ∙ sym is ∙ apart

any-by : (names : Id → Key) (rs : List Rule) → any_rules (rules_by names rs) ≡ any_rule rs
any-by names [] = refl
any-by names (r ∷ rs) = refl

pub many-by : (names : Id → Key) (rs : List Rule) → length (rules_by names rs) ≡ length rs
many-by names [] = refl
many-by names (r ∷ rs) = ap suc (many-by names rs)

-- a refusal, or else what is done
abbrev unless_barred : StoredKeys → Option Refusal → StoredOutcome → StoredOutcome
unless_barred m None done = done
unless_barred m (Some refusal) done = stored_refused m refusal

tests : (m : StoredKeys) (done : StoredOutcome) (a b c d e : Bool)
    → (if a then stored_refused m SourceIsDest else (if b then stored_refused m DestIsSource else (if c then stored_refused m DestHasSource else (if d then stored_refused m RulesSpent else (if e then stored_refused m RulesFull else done)))))
    ≡ unless_barred m (if a then Some SourceIsDest else (if b then Some DestIsSource else (if c then Some DestHasSource else (if d then Some RulesSpent else (if e then Some RulesFull else None))))) done
tests m done true b c d e = refl
tests m done false true c d e = refl
tests m done false false true d e = refl
tests m done false false false true e = refl
tests m done false false false false true = refl
tests m done false false false false false = refl

module _ (limits : Limits) (m : StoredKeys) (source dest : Key) (agg : Aggregator) (grid : Grid) where
  abbrev done : StoredOutcome
  done = record { keys = keys_ruled source dest agg grid m; response = Done }

  -- the step of two nodes
  pub rule-rule_conflict : (names : Id → Key) (n d : Node) → stored_create_rule_at limits m source dest agg grid (Some (stored_named names n)) (Some (stored_named names d)) ≡ unless_barred m (rule_conflict_refusal limits n d) done
  rule-rule_conflict names n d =
      tests m done (is_some (option_map names n.source)) (any_rules (rules_by names d.rules.items)) (is_some (option_map names d.source)) (nat_le limits.born n.series.born) (nat_le limits.rules (length (rules_by names n.rules.items)))
      ∙ ap (λ b. unless_barred m (if b then Some SourceIsDest else (if any_rules (rules_by names d.rules.items) then Some DestIsSource else (if is_some (option_map names d.source) then Some DestHasSource
      else (if nat_le limits.born n.series.born then Some RulesSpent else (if nat_le limits.rules (length (rules_by names n.rules.items)) then Some RulesFull else None))))) done) (some-mapped names n.source)
      ∙ ap (λ b. unless_barred m (if is_some n.source then Some SourceIsDest else (if b then Some DestIsSource else (if is_some (option_map names d.source) then Some DestHasSource
      else (if nat_le limits.born n.series.born then Some RulesSpent else (if nat_le limits.rules (length (rules_by names n.rules.items)) then Some RulesFull else None))))) done) (any-by names d.rules.items)
      ∙ ap (λ b. unless_barred m (if is_some n.source then Some SourceIsDest else (if any_rule d.rules.items then Some DestIsSource else (if b then Some DestHasSource
      else (if nat_le limits.born n.series.born then Some RulesSpent else (if nat_le limits.rules (length (rules_by names n.rules.items)) then Some RulesFull else None))))) done) (some-mapped names d.source)
      ∙ ap (λ k. unless_barred m (if is_some n.source then Some SourceIsDest else (if any_rule d.rules.items then Some DestIsSource else (if is_some d.source then Some DestHasSource
      else (if nat_le limits.born n.series.born then Some RulesSpent else (if nat_le limits.rules k then Some RulesFull else None))))) done) (many-by names n.rules.items)

  -- a key that is missing
  pub no-source : same source dest ≡ false → get source m ≡ None → stored_create_rule limits m source dest agg grid ≡ stored_refused m NoKey
  no-source apart none =
      ap (λ b. if b then stored_refused m SameKey else stored_create_rule_at limits m source dest agg grid (get source m) (get dest m)) apart
      ∙ ap (λ (o : Option StoredSeries). stored_create_rule_at limits m source dest agg grid o (get dest m)) none

  pub no-dest : (d : StoredSeries) → same source dest ≡ false → get source m ≡ Some d → get dest m ≡ None → stored_create_rule limits m source dest agg grid ≡ stored_refused m NoKey
  no-dest d apart is none =
      ap (λ b. if b then stored_refused m SameKey else stored_create_rule_at limits m source dest agg grid (get source m) (get dest m)) apart
      ∙ ap (λ (o : Option StoredSeries). stored_create_rule_at limits m source dest agg grid o (get dest m)) is
      ∙ ap (λ (o : Option StoredSeries). stored_create_rule_at limits m source dest agg grid (Some d) o) none

module _ (s : Store) (store : IsInOrder s) (source dest : Key) (from to : Id) (n d : Node) (holds : Holds s source from n) (other : Holds s dest to d) (apart : same source dest ≡ false) (agg : Aggregator) (grid : Grid) where
  -- the step, by the nodes of both keys
  step-by : stored_create_rule s.limits (db_view_of s).keys source dest agg grid
      ≡ unless_barred (db_view_of s).keys (rule_conflict_refusal s.limits n d) (record { keys = keys_ruled source dest agg grid (db_view_of s).keys; response = Done })
  step-by =
      ap (λ b. if b then stored_refused (db_view_of s).keys SameKey else stored_create_rule_at s.limits (db_view_of s).keys source dest agg grid (get source (db_view_of s).keys) (get dest (db_view_of s).keys)) apart
      ∙ ap (λ (o : Option StoredSeries). stored_create_rule_at s.limits (db_view_of s).keys source dest agg grid o (get dest (db_view_of s).keys)) (there s store source from n holds)
      ∙ ap (λ (o : Option StoredSeries). stored_create_rule_at s.limits (db_view_of s).keys source dest agg grid (Some (stored_node s.nodes n)) o) (there s store dest to d other)
      ∙ rule-rule_conflict s.limits (db_view_of s).keys source dest agg grid (key_in s.nodes) n d

  -- where there is a reason against it
  pub rule_conflict-answer : (fault : DbFault) → IsRuleConflict s.limits n d (Some fault) → IsStoredAnswer (refusal_of (db_view_of s).ids fault) (db_view_of s).keys (stored_create_rule s.limits (db_view_of s).keys source dest agg grid)
  rule_conflict-answer fault reason = go (refusal_of (db_view_of s).ids fault) (reason (db_view_of s).ids)
    where
      go : (o : Option Refusal) → o ≡ rule_conflict_refusal s.limits n d → IsStoredAnswer o (db_view_of s).keys (stored_create_rule s.limits (db_view_of s).keys source dest agg grid)
      go None e =
          subst (λ (o : StoredOutcome). AllowsOutOfMemory o.response)
          (sym (step-by ∙ ap (λ (o : Option Refusal). unless_barred (db_view_of s).keys o (record { keys = keys_ruled source dest agg grid (db_view_of s).keys; response = Done })) (sym e))) tt
      go (Some refusal) e = step-by ∙ ap (λ (o : Option Refusal). unless_barred (db_view_of s).keys o (record { keys = keys_ruled source dest agg grid (db_view_of s).keys; response = Done })) (sym e)

  -- where there is none
  pub unbarred-answer : IsRuleConflict s.limits n d None → stored_create_rule s.limits (db_view_of s).keys source dest agg grid ≡ record { keys = keys_ruled source dest agg grid (db_view_of s).keys; response = Done }
  unbarred-answer reason = step-by ∙ ap (λ (o : Option Refusal). unless_barred (db_view_of s).keys o (record { keys = keys_ruled source dest agg grid (db_view_of s).keys; response = Done })) reason.0

  pub unbarred-yields : IsRuleConflict s.limits n d None → AllowsOutOfMemory (stored_create_rule s.limits (db_view_of s).keys source dest agg grid).response
  unbarred-yields reason = subst (λ (o : StoredOutcome). AllowsOutOfMemory o.response) (sym (unbarred-answer reason)) tt

  -- both changes together give the stored data afterwards
  pub both-ruled : (mid new : Store) → IsElsewhere s mid from → IsStoredChange s from (stored_with_rule (key_in s.nodes to) agg grid) mid → IsStoredChange mid to (stored_with_source (Some (key_in mid.nodes from))) new
      → contents_of new ≡ record (contents_of s) { keys = keys_ruled source dest agg grid (db_view_of s).keys }
  both-ruled mid new elsewhere added set =
      set
      ∙ ap (λ (x : Contents). record x { keys = keys_changed (key_in mid.nodes to) (stored_with_source (Some (key_in mid.nodes from))) x.keys }) added
      ∙ (let here : key_in mid.nodes to ≡ dest = elsewhere.names to ∙ named s store dest to d other in
      let origin : key_in mid.nodes from ≡ source = elsewhere.names from ∙ named s store source from n holds in
      let own : key_in s.nodes from ≡ source = named s store source from n holds in
      let goal : key_in s.nodes to ≡ dest = named s store dest to d other in
      λ i. record (contents_of s) { keys = keys_changed (here i) (stored_with_source (Some (origin i))) (keys_changed (own i) (stored_with_rule (goal i) agg grid) (db_view_of s).keys) })
