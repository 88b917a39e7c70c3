-- An append inside the open bucket of each rule: it is counted there and changes no destination.
use Rattle.std.specs.Prelude.{◌≡◌, ◌^◌, ◌<◌, true, ⊤, List, [], ◌∷◌, map, None, Some}
use Rattle.ts_spec.specs.Sample.{Point}
use Rattle.ts_spec.specs.Bucket.{start}
use Rattle.ts_spec.specs.Aggregate.{push}
use Rattle.ts_spec.specs.Rules.{is_append}
use Rattle.ts_spec.specs.StoredSeries.{StoredRule, StoredSeries}
use Rattle.ts_series.specs.History.{History}
use Rattle.ts_series.specs.Plan.{Plan}
use Rattle.ts_rules.specs.declared.rule.Rule.{Rule}
use Rattle.ts_db.specs.declared.node.Node.{Node}
use Rattle.ts_db.specs.Store.{Nodes, stored_node}
use Rattle.ts_db.specs.Answering.{node_after}

-- a rule with one more sample in its open bucket
abbrev pub counted_once_more : Point → StoredRule → StoredRule
counted_once_more p q = record q { running = push q.running p }

-- the sample falls into the open bucket of each rule
abbrev pub AreOpenAt : Point → List Rule → Type 0
AreOpenAt p [] = ⊤
AreOpenAt p (r ∷ rs) = (r.current ≡ Some (start r.grid p.time)) × AreOpenAt p rs

-- the sample is an append to the source and falls into the open bucket of each rule
pub record StaysOpen (source : History) (p : Point) (rs : List Rule) : Type 0 where
  pub append : is_append p.time source.high ≡ true
  pub at : AreOpenAt p rs

-- the open bucket of each rule can count one more sample
abbrev pub CanCountOneMore : List Rule → Type 0
CanCountOneMore [] = ⊤
CanCountOneMore (r ∷ rs) = (r.running.count < 10 ^ 14) × CanCountOneMore rs

-- the stored data of a node after a plan for its series, with the sample counted in each open bucket
abbrev pub stored_open_append : Nodes → Plan → Point → Node → StoredSeries
stored_open_append nodes plan p n = record (stored_node nodes (node_after plan None None n)) { rules = map (counted_once_more p) (stored_node nodes n).rules }
