-- How a change of a source affects its rules and their destinations, and the plans for it.
use Rattle.std.specs.Prelude.{◌≡◌, ◌≢◌, ℕ, false, nat_lt, ⊤, if◌then◌else◌, List, [], ◌∷◌, length, Option, None, Some, option_map, ◌+◌, ◌≤◌, vec_len, vec_capacity}
use Rattle.slab.specs.Slab as slab
use Rattle.ts_spec.specs.Sample.{Point, put, between, outside}
use Rattle.ts_spec.specs.StoredSeries.{StoredRule}
use Rattle.ts_spec.specs.StoredUpdates.{updated_series, written_row, deleted_rows, loses}
use Rattle.ts_spec.specs.StoredStep.{list_at}
use Rattle.ts_sample.specs.declared.sample.Id.{Id}
use Rattle.ts_series.specs.History.{History, list_of}
use Rattle.ts_rules.specs.declared.rule.Rule.{Rule}
use Rattle.ts_rules.specs.declared.plan.RulePlan.{RulePlan}
use Rattle.ts_rules.specs.declared.plan.RuleFault.{RuleFault}
use Rattle.ts_rules.specs.declared.plan.RuleFault.TheVariants as rule_fault
use Rattle.ts_rules.specs.declared.plan.RuleFault.TheVariants.{Full}
use Rattle.ts_rules.specs.Rules.{stored_rule_for, IsChanged, TakesAppended}
use Rattle.ts_rules.specs.Writes.{rule_after}
use Rattle.ts_rules.specs.declared.shared_bucket.SharedBuckets.{SharedBuckets}
use Rattle.ts_rules.specs.SharedBucket.{IsShared}
use Rattle.ts_rules.specs.SharedBuckets.{AreShared}
use Rattle.ts_rules.specs.Deletions.{rule_left}
use Rattle.ts_rules.specs.Plans.{IsUpdatedBy}
use Rattle.ts_db.specs.declared.fault.DbFault.{DbFault}
use Rattle.ts_db.specs.declared.fault.DbFault.TheVariants.{SamplesFull, Memory}
use Rattle.ts_db.specs.declared.node.Node.{Node}
use Rattle.ts_db.specs.declared.store.DestinationPlan.{DestinationPlan}
use Rattle.ts_db.specs.declared.store.Planned.{Planned}
use Rattle.ts_db.specs.declared.store.Store.{Store}
use Rattle.ts_db.specs.declared.planning.SourceChange.{SourceChange}
use Rattle.ts_db.specs.declared.planning.SourceChange.TheVariants.{Write, Delete}
use Rattle.ts_db.specs.DestinationUpdates.{Rows, RemovedTimes, keys_destinations_updated}
use Rattle.ts_rules.specs.Shares.{write_share, deletion_share, IsEasyWrite}
use Rattle.ts_db.specs.Store.{rules_by, key_in, stored_at_id, db_view_of, contents_of, Nodes}

-- ---- the change, in terms of the source before it

-- a rule after the change
abbrev pub changed_by : SourceChange → (source : History) → StoredRule → StoredRule
changed_by (Write p) source q = rule_after source p q
changed_by (Delete from to) source q = rule_left source from to q

-- the times at which a destination's samples are removed, and the rows written instead
abbrev pub gone_by : SourceChange → (source : History) → RemovedTimes
gone_by (Write p) source = λ q b. false
gone_by (Delete from to) source = loses (between from to (list_of source))

abbrev pub rows_by_change : SourceChange → (source : History) → Rows
rows_by_change (Write p) source = written_row p (put p (list_of source))
rows_by_change (Delete from to) source = deleted_rows (between from to (list_of source)) (outside from to (list_of source))

-- the open bucket of the rule can count what the change adds
abbrev pub HasCountCapacity : SourceChange → (source : History) → Rule → Type 0
HasCountCapacity (Write p) source r = TakesAppended r source p
HasCountCapacity (Delete from to) source r = ⊤

-- the same for each of these rules
abbrev pub AllHaveCountCapacity : SourceChange → (source : History) → List Rule → Type 0
AllHaveCountCapacity work source [] = ⊤
AllHaveCountCapacity work source (r ∷ rs) = HasCountCapacity work source r × AllHaveCountCapacity work source rs

-- what rules share counts the samples that the source has after the change: for a write one bucket, for a deletion two
abbrev pub IsSharedOf : SourceChange → (source : History) → SharedBuckets → Type 0
IsSharedOf (Write p) source t = IsShared (put p (list_of source)) t.first
IsSharedOf (Delete from to) source t = AreShared (outside from to (list_of source)) t

-- ---- plans

-- a rule as stored data
abbrev pub stored_rule_in : Nodes → Rule → StoredRule
stored_rule_in nodes r = stored_rule_for (key_in nodes r.dest) r

-- the part of a rule's plan that is for its destination
abbrev pub for_destination : RulePlan → DestinationPlan
for_destination x = record { dest = x.rule.dest; change = x.dest }

-- there is capacity for the plans of n more rules
abbrev pub HasCapacityForRules : ℕ → Planned → Type 0
HasCapacityForRules n planned = (vec_len planned.rules + n ≤ vec_capacity planned.rules) × (vec_len planned.plans + n ≤ vec_capacity planned.plans)

-- The plan for a rule's destination is correct.
pub record IsDestinationUpdatedBy (limit : ℕ) (nodes : Nodes) (rows : Rows) (gone : RemovedTimes) (r : Rule) (x : DestinationPlan) : Type 0 where
  pub dest : x.dest ≡ r.dest
  pub node : Node
  pub there : slab.get nodes r.dest.0 ≡ Some node
  pub updated_list : IsUpdatedBy limit (gone (stored_rule_in nodes r)) (rows node.series.born (stored_rule_in nodes r)) node.series x.change

-- the plans for the destinations of these rules are correct, one for each
abbrev pub AreDestinationsUpdatedBy : (limit : ℕ) → Nodes → Rows → RemovedTimes → List Rule → List DestinationPlan → Type 0
AreDestinationsUpdatedBy limit nodes rows gone [] [] = ⊤
AreDestinationsUpdatedBy limit nodes rows gone (r ∷ rs) (x ∷ xs) = IsDestinationUpdatedBy limit nodes rows gone r x × AreDestinationsUpdatedBy limit nodes rows gone rs xs
AreDestinationsUpdatedBy limit nodes rows gone rs xs = ⊥

-- each rule is changed by this function
abbrev pub AreChanged : (StoredRule → StoredRule) → List Rule → List Rule → Type 0
AreChanged change [] [] = ⊤
AreChanged change (r ∷ rs) (x ∷ xs) = IsChanged change r x × AreChanged change rs xs
AreChanged change rs xs = ⊥

-- no rule has this destination; and no two rules have the same one
abbrev pub NoneTo : ℕ → List Rule → Type 0
NoneTo i [] = ⊤
NoneTo i (r ∷ rs) = (r.dest.0 ≢ i) × NoneTo i rs

abbrev pub AreDistinct : List Rule → Type 0
AreDistinct [] = ⊤
AreDistinct (r ∷ rs) = NoneTo r.dest.0 rs × AreDistinct rs

-- the samples of a rule's destination after its update
abbrev pub updated_dest_list : Nodes → Rows → RemovedTimes → Rule → List Point
updated_dest_list nodes rows gone r = list_at (option_map (λ d. updated_series (gone (stored_rule_in nodes r)) (rows d.born (stored_rule_in nodes r)) d) (stored_at_id nodes r.dest))

-- the first rule destination that would exceed the sample limit
abbrev pub first_full : (limit : ℕ) → Nodes → Rows → RemovedTimes → List Rule → Option Id
first_full limit nodes rows gone [] = None
first_full limit nodes rows gone (r ∷ rs) = if nat_lt limit (length (updated_dest_list nodes rows gone r)) then Some r.dest else first_full limit nodes rows gone rs

-- the error for one rule: its destination would be full, or else out of memory
abbrev pub IsRulePlanFault : Rule → (full : Option Id) → RuleFault → Type 0
IsRulePlanFault r full Full = full ≡ Some r.dest
IsRulePlanFault r full (rule_fault.Memory e) = full ≡ None

-- the error for all rules: the first destination that would be full, or else out of memory
abbrev pub IsPlanFault : (full : Option Id) → DbFault → Type 0
IsPlanFault full (SamplesFull id written) = (written ≡ false) × (full ≡ Some id)
IsPlanFault full (Memory e) = full ≡ None
IsPlanFault full fault = ⊥

-- ---- plans for destinations, in a store

-- The plans are for rules with different destinations, one for each.
pub record AreDestinationPlans (s : Store) (xs : List DestinationPlan) : Type 0 where
  pub rows : Rows
  pub gone : RemovedTimes
  pub rules : List Rule
  pub plans : AreDestinationsUpdatedBy s.limits.samples s.nodes rows gone rules xs
  pub distinct : AreDistinct rules

-- the stored data is as before, with the destinations of these rules updated
abbrev pub AreDestinationsUpdated : (old : Store) → Rows → RemovedTimes → List Rule → (new : Store) → Type 0
AreDestinationsUpdated old rows gone rs new = contents_of new ≡ record (contents_of old) { keys = keys_destinations_updated rows gone (rules_by (key_in old.nodes) rs) (db_view_of old).keys }

-- ---- how many samples of a source and of a destination are decoded

-- the most for one rule
abbrev pub share_of : SourceChange → (source : History) → Rule → (dest : History) → ℕ
share_of (Write p) source r dest = write_share r source p dest
share_of (Delete from to) source r dest = deletion_share r source from to dest

-- the most for one rule whose destination is this node, if it exists
abbrev pub share_at : SourceChange → (source : History) → Rule → Option Node → ℕ
share_at work source r None = 0
share_at work source r (Some d) = share_of work source r d.series

-- the most for all of these rules
abbrev pub shares_of : Nodes → SourceChange → (source : History) → List Rule → ℕ
shares_of nodes work source [] = 0
shares_of nodes work source (r ∷ rs) = share_at work source r (slab.get nodes r.dest.0) + shares_of nodes work source rs

-- nothing is decoded for one rule
abbrev pub IsEasyOf : (limit : ℕ) → SourceChange → (source : History) → Rule → (dest : History) → Type 0
IsEasyOf limit (Write p) source r dest = IsEasyWrite limit r source p dest
IsEasyOf limit (Delete from to) source r dest = ⊥

-- the same for a rule whose destination is this node, which exists
abbrev pub IsEasyAt : (limit : ℕ) → SourceChange → (source : History) → Rule → Option Node → Type 0
IsEasyAt limit work source r None = ⊥
IsEasyAt limit work source r (Some d) = IsEasyOf limit work source r d.series

-- the same for all of these rules
abbrev pub AreEasyOf : (limit : ℕ) → Nodes → SourceChange → (source : History) → List Rule → Type 0
AreEasyOf limit nodes work source [] = ⊤
AreEasyOf limit nodes work source (r ∷ rs) = IsEasyAt limit work source r (slab.get nodes r.dest.0) × AreEasyOf limit nodes work source rs
