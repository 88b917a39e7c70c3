-- How operations on the store answer, in terms of stored data.
use Rattle.std.specs.Prelude.{◌≡◌, ◌≢◌, ◌≤◌, ℕ, List, length, Vec, Option, None, Some, Result, Ok, Err}
use Rattle.std.specs.Option.{unwrap_or}
use Rattle.std.specs.declared.alloc.Global.{Global}
use Rattle.slab.specs.Slab as slab
use Rattle.ts_spec.specs.Refusal.{Refusal}
use Rattle.ts_spec.specs.Response.{Response, Done, Count}
use Rattle.ts_spec.specs.Key.{Key}
use Rattle.ts_spec.specs.Keyed.{with_key}
use Rattle.ts_spec.specs.State.{Label}
use Rattle.ts_spec.specs.StoredSeries.{StoredKeys}
use Rattle.ts_spec.specs.StoredStep.{StoredOutcome, stored_refused}
use Rattle.ts_sample.specs.declared.sample.Id.{Id}
use Rattle.ts_series.specs.History.{list_of}
use Rattle.ts_series.specs.Plan.{Plan, after, IsFor}
use Rattle.ts_rules.specs.declared.rule.Rule.{Rule}
use Rattle.ts_db.specs.declared.fault.DbFault.{DbFault}
use Rattle.ts_db.specs.declared.node.Node.{Node}
use Rattle.ts_db.specs.declared.store.Store.{Store}
use Rattle.ts_db.specs.Faults.{refusal_of}
use Rattle.ts_db.specs.DbState.{DbView, AllowsOutOfMemory}
use Rattle.ts_db.specs.Store.{key_in, stored_node, db_view_of, contents_of, AreLive, HaveGrids, Holds}

-- an error is the step's refusal; out of memory is allowed only if the step refuses nothing
abbrev pub IsStoredAnswer : Option Refusal → StoredKeys → StoredOutcome → Type 0
IsStoredAnswer None m step = AllowsOutOfMemory step.response
IsStoredAnswer (Some refusal) m step = step ≡ stored_refused m refusal

-- A success has the response and the stored data of the step. An error is the step's refusal, or out of memory if the
-- step refuses nothing; then nothing has changed.
abbrev pub StoredAnswers : {T : Type 0} → (T → Response) → (old : DbView) → StoredOutcome → Result T DbFault → (new : DbView) → Type 0
StoredAnswers response old step (Ok x) new = (step ≡ record { keys = new.keys; response = response x }) × (new.limits ≡ old.limits)
StoredAnswers response old step (Err fault) new = IsStoredAnswer (refusal_of old.ids fault) old.keys step × (new ≡ old)

-- a node after a plan for its series, with the labels and the rules that are given
abbrev pub node_after : Plan → Option (List Label) → Option (Vec Rule Global) → Node → Node
node_after plan labels rules n = record n { series = after plan n.series; labels = unwrap_or labels n.labels; rules = unwrap_or rules n.rules }

-- The plan fits the series and keeps it within the limits, and so do the labels. Rules lead to series that exist.
pub record IsReady (s : Store) (id : Id) (plan : Plan) (labels : Option (List Label)) (rules : Option (Vec Rule Global)) : Type 0 where
  pub key : Key
  pub node : Node
  pub holds : Holds s key id node
  pub ready : IsFor plan node.series
  pub within : length (list_of (after plan node.series)) ≤ s.limits.samples
  pub few : length (unwrap_or labels node.labels) ≤ s.limits.labels
  pub live : AreLive s.nodes (unwrap_or rules node.rules).items
  pub grids : HaveGrids (unwrap_or rules node.rules).items

-- the key of `id` stores the node after the plan; all else is unchanged
abbrev pub IsApplied : (old : Store) → Id → Plan → Option (List Label) → Option (Vec Rule Global) → (new : Store) → Type 0
IsApplied old id plan labels rules new =
    (key : Key) (n : Node) → Holds old key id n → contents_of new ≡ record (contents_of old) { keys = with_key key (stored_node old.nodes (node_after plan labels rules n)) (db_view_of old).keys }

-- other nodes and all keys are unchanged
pub record IsElsewhere (old new : Store) (id : Id) : Type 0 where
  pub limits : new.limits ≡ old.limits
  pub entries : new.keys.entries ≡ old.keys.entries
  pub others : (i : ℕ) → i ≢ id.0 → slab.get new.nodes i ≡ slab.get old.nodes i
  pub names : (i : Id) → key_in new.nodes i ≡ key_in old.nodes i

-- an operation that returns nothing, and one that returns a time or a count
abbrev pub StoredDone : (old : DbView) → StoredOutcome → Result (Unit {0}) DbFault → (new : DbView) → Type 0
StoredDone old step result new = StoredAnswers (λ x. Done) old step result new

abbrev pub StoredCount : (old : DbView) → StoredOutcome → Result ℕ DbFault → (new : DbView) → Type 0
StoredCount old step result new = StoredAnswers (λ t. Count t) old step result new
