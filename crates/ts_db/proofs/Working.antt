-- The stored data after a change of a source: its node changes, then the destinations of its rules.
use Rattle.std.proofs.Common.{◌≡◌, ℕ, List, [], ◌∷◌, map, refl, sym, ◌∙◌, ap, subst}
use Rattle.std.specs.Prelude.{None}
use Rattle.ts_spec.specs.Key.{Key}
use Rattle.ts_spec.specs.Keyed.{with_key}
use Rattle.ts_spec.specs.StoredSeries.{StoredRule, StoredSeries}
use Rattle.ts_sample.specs.declared.sample.Id.{Id}
use Rattle.ts_bucket.specs.Grid.{IsGrid}
use Rattle.ts_series.specs.History.{History}
use Rattle.ts_rules.specs.declared.rule.Rule.{Rule}
use Rattle.ts_rules.specs.Rules.{stored_rule_for}
use Rattle.ts_db.specs.declared.store.DestinationPlan.{DestinationPlan}
use Rattle.ts_db.specs.declared.fault.DbFault.{DbFault}
use Rattle.ts_db.specs.declared.node.Node.{Node}
use Rattle.ts_db.specs.declared.store.Store.{Store}
use Rattle.ts_db.specs.declared.planning.SourceChange.{SourceChange}
use Rattle.ts_db.specs.declared.planning.SourceChange.TheVariants.{Write, Delete}
use Rattle.ts_db.specs.DestinationUpdates.{Rows, RemovedTimes, keys_destinations_updated}
use Rattle.ts_db.specs.Planning.{changed_by, gone_by, rows_by_change, AllHaveCountCapacity, AreChanged, AreDestinationsUpdatedBy, first_full, IsPlanFault, AreDestinationPlans}
use Rattle.ts_db.specs.Store.{rules_by, key_in, db_view_of, contents_of, Contents, HasNode, AreLive, HaveGrids, IsDb, Holds}
use Rattle.ts_db.specs.Answering.{IsElsewhere}
use Rattle.ts_db.proofs.Feeds.{update_dest-elsewhere, names-same}
use Rattle.ts_db.proofs.Known.{links, none-own, distinct}

-- ---- the rules of the source

-- rules that change, by the stored data of them
pub changed-rules : (names : Id → Key) (change : StoredRule → StoredRule) (rs xs : List Rule) → AreChanged change rs xs → rules_by names xs ≡ map change (rules_by names rs)
changed-rules names change [] [] c = refl
changed-rules names change [] (x ∷ xs) c = absurd c
changed-rules names change (r ∷ rs) [] c = absurd c
changed-rules names change (r ∷ rs) (x ∷ xs) c =
    ap (λ (q : StoredRule). q ∷ rules_by names xs) (ap (λ (i : Id). stored_rule_for (names i) x) c.0.dest ∙ c.0.kept (names r.dest))
    ∙ ap (λ (qs : List StoredRule). change (stored_rule_for (names r.dest) r) ∷ qs) (changed-rules names change rs xs c.1)

-- they lead to the same series
pub changed-live : (s : Store) (change : StoredRule → StoredRule) (rs xs : List Rule) → AreChanged change rs xs → AreLive s.nodes rs → AreLive s.nodes xs
changed-live s change [] [] c live = tt
changed-live s change [] (x ∷ xs) c live = absurd c
changed-live s change (r ∷ rs) [] c live = absurd c
changed-live s change (r ∷ rs) (x ∷ xs) c live = (subst (λ (i : Id). HasNode s.nodes i) (sym c.0.dest) live.0, changed-live s change rs xs c.1 live.1)

-- and their buckets stay
same-grid : (work : SourceChange) (h : History) (q : StoredRule) → (changed_by work h q).grid ≡ q.grid
same-grid (Write p) h q = refl
same-grid (Delete from to) h q = refl

pub changed-grids : (work : SourceChange) (h : History) (rs xs : List Rule) → AreChanged (changed_by work h) rs xs → HaveGrids rs → HaveGrids xs
changed-grids work h [] [] c g = tt
changed-grids work h [] (x ∷ xs) c g = absurd c
changed-grids work h (r ∷ rs) [] c g = absurd c
changed-grids work h (r ∷ rs) (x ∷ xs) c g = (
  subst IsGrid (sym (ap (λ (q : StoredRule). q.grid) (c.0.kept []) ∙ same-grid work h (stored_rule_for [] r))) g.0,
  changed-grids work h rs xs c.1 g.1,
)

-- what was planned for the rules of a source, and for their destinations
pub record ArePlanned (s : Store) (work : SourceChange) (h : History) (rs : List Rule) (planned : List Rule) (plans : List DestinationPlan) : Type 0 where
  pub changed : AreChanged (changed_by work h) rs planned
  pub update_dest : AreDestinationsUpdatedBy s.limits.samples s.nodes (rows_by_change work h) (gone_by work h) rs plans
  pub fit : first_full s.limits.samples s.nodes (rows_by_change work h) (gone_by work h) rs ≡ None

-- of one node, by another name of it
pub planned-for : (s : Store) (work to : SourceChange) (x y : Node) (rs planned : List Rule) (plans : List DestinationPlan) → work ≡ to → x ≡ y → rs ≡ x.rules.items → ArePlanned s work x.series rs planned plans
    → ArePlanned s to y.series y.rules.items planned plans
planned-for s work to x y rs planned plans same it items p =
    let all : rs ≡ y.rules.items = items ∙ ap (λ (n : Node). n.rules.items) it in
    subst (λ (X : Type 0). X) (λ i. ArePlanned s (same i) (it i).series (all i) planned plans) p

pub plan_fault-for : (s : Store) (work to : SourceChange) (x y : Node) (rs : List Rule) (fault : DbFault) → work ≡ to → x ≡ y → rs ≡ x.rules.items
    → IsPlanFault (first_full s.limits.samples s.nodes (rows_by_change work x.series) (gone_by work x.series) rs) fault
    → IsPlanFault (first_full s.limits.samples s.nodes (rows_by_change to y.series) (gone_by to y.series) y.rules.items) fault
plan_fault-for s work to x y rs fault same it items p =
    let all : rs ≡ y.rules.items = items ∙ ap (λ (n : Node). n.rules.items) it in
    subst (λ (X : Type 0). X) (λ i. IsPlanFault (first_full s.limits.samples s.nodes (rows_by_change (same i) (it i).series) (gone_by (same i) (it i).series) (all i)) fault) p

-- ---- the destinations

module _ (s : Store) (db : IsDb s) (key : Key) (id : Id) (n : Node) (holds : Holds s key id n) (mid : Store) (else : IsElsewhere s mid id) where
  -- their plans may be done once the source is changed
  pub still-update_dest : (rows : Rows) (gone : RemovedTimes) (xs : List DestinationPlan) → AreDestinationsUpdatedBy s.limits.samples s.nodes rows gone n.rules.items xs → AreDestinationsUpdatedBy mid.limits.samples mid.nodes rows gone n.rules.items xs
  still-update_dest rows gone xs update_dest =
      update_dest-elsewhere s mid id rows gone n.rules.items xs else (none-own s db.store key id n holds (rules_by (key_in s.nodes) n.rules.items) n.rules.items (links s db key id n holds).links) update_dest

  pub for-destinations : (rows : Rows) (gone : RemovedTimes) (xs : List DestinationPlan) → AreDestinationsUpdatedBy s.limits.samples s.nodes rows gone n.rules.items xs → AreDestinationPlans mid xs
  for-destinations rows gone xs update_dest = record {
    rows = rows;
    gone = gone;
    rules = n.rules.items;
    plans = still-update_dest rows gone xs update_dest;
    distinct = distinct s n.rules.items (links s db key id n holds).apart;
  }

  -- the stored data after both
  pub worked : (rows : Rows) (gone : RemovedTimes) (d : StoredSeries) (new : Contents) → contents_of mid ≡ record (contents_of s) { keys = with_key key d (db_view_of s).keys }
      → new ≡ record (contents_of mid) { keys = keys_destinations_updated rows gone (rules_by (key_in mid.nodes) n.rules.items) (db_view_of mid).keys }
      → new ≡ record (contents_of s) { keys = keys_destinations_updated rows gone (rules_by (key_in s.nodes) n.rules.items) (with_key key d (db_view_of s).keys) }
  worked rows gone d new applied update_dest =
      update_dest ∙ ap (λ (f : Id → Key). record (contents_of mid) { keys = keys_destinations_updated rows gone (rules_by f n.rules.items) (db_view_of mid).keys }) (names-same s mid id else)
      ∙ ap (λ (x : Contents). record x { keys = keys_destinations_updated rows gone (rules_by (key_in s.nodes) n.rules.items) x.keys }) applied

-- a deletion needs no capacity in the rules
pub takes-deleted : (from to : ℕ) (h : History) (rs : List Rule) → AllHaveCountCapacity (Delete from to) h rs
takes-deleted from to h [] = tt
takes-deleted from to h (r ∷ rs) = (tt, takes-deleted from to h rs)
