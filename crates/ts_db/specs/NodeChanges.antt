-- How nodes change: one changes, one is added or one is removed.
use Rattle.std.specs.Prelude.{◌≡◌, ◌+◌, List, Vec, Option, None, Some, Result, IfOk, IfErr}
use Rattle.std.specs.declared.alloc.Global.{Global}
use Rattle.std.specs.declared.alloc.AllocError.{AllocError}
use Rattle.slab.specs.Slab as slab
use Rattle.ts_spec.specs.Sample.{Point}
use Rattle.ts_spec.specs.State.{Label}
use Rattle.ts_spec.specs.declared.bucket.Aggregator.{Aggregator}
use Rattle.ts_spec.specs.Bucket.{Grid}
use Rattle.ts_sample.specs.declared.sample.Id.{Id}
use Rattle.ts_series.specs.History.{IsKept}
use Rattle.ts_series.specs.Plan.{Plan, after}
use Rattle.ts_rules.specs.declared.rule.Rule.{Rule}
use Rattle.ts_db.specs.declared.node.Node.{Node}
use Rattle.ts_db.specs.Answering.{node_after}
use Rattle.ts_db.specs.OpenAppend.{counted_once_more}
use Rattle.ts_db.specs.Linking.{HasOneMoreRule, HasRules}
use Rattle.ts_db.specs.Planning.{AreChanged}
use Rattle.ts_db.specs.Store.{Nodes}

-- The id has a node for which P holds.
pub record HasNodeWhere (nodes : Nodes) (id : Id) (P : Node → Type 0) : Type 0 where
  pub node : Node
  pub there : slab.get nodes id.0 ≡ Some node
  pub holds : P node

-- The node of an id changes by this relation; all other nodes are unchanged.
pub record IsNodeChanged (old new : Nodes) (id : Id) (by : (was now : Node) → Type 0) : Type 0 where
  pub was : Node
  pub now : Node
  pub there : slab.get old id.0 ≡ Some was
  pub turned : new ≡ slab.with_value old id.0 now
  pub so : by was now

-- A fresh id has this node; all other nodes are unchanged.
pub record IsAdded (old new : Nodes) (id : Id) (node : Node) : Type 0 where
  pub vacant : slab.get old id.0 ≡ None
  pub updates : slab.Updates old new id.0 (Some node)
  pub one_more : slab.slab_len new ≡ slab.slab_len old + 1

-- The plan for the series is committed, and the labels and the rules that are given replace the old ones.
pub record IsAfter (plan : Plan) (labels : Option (List Label)) (rules : Option (Vec Rule Global)) (was now : Node) : Type 0 where
  pub kept : IsKept now.series
  pub done : now.series ≡ record (after plan was.series) { held = now.series.held }
  pub rest : now ≡ record (node_after plan labels rules was) { series = now.series }

-- The plan for the series is committed, and the open bucket of each rule counts the sample.
pub record IsOpenAppended (plan : Plan) (p : Point) (was now : Node) : Type 0 where
  pub kept : IsKept now.series
  pub done : now.series ≡ record (after plan was.series) { held = now.series.held }
  pub rules : AreChanged (counted_once_more p) was.rules.items now.rules.items
  pub rest : now ≡ record was { series = now.series; rules = now.rules }

-- The node has one more rule; or memory ran out and its rules are unchanged.
pub record AddsRule (dest : Id) (agg : Aggregator) (grid : Grid) (result : Result (Unit {0}) AllocError) (was now : Node) : Type 0 where
  pub added : IfOk result (λ _. HasOneMoreRule dest agg grid was now)
  pub kept : IfOk result (λ _. IsKept now.series)
  pub unchanged : IfErr result (λ _. HasRules was.rules.items was now)
