-- The plans for all rules of a source.
use Rattle.std.proofs.Common.{◌≡◌, ◌<◌, ◌≤◌, ℕ, Bool, true, false, List, [], ◌∷◌, ◌++◌, length, refl, ◌∙◌, ap, le-ltb, lt-ltb}
use Rattle.std.specs.Prelude.{nat_lt, if◌then◌else◌, Option, None, Some, option_map}
use Rattle.slab.specs.Slab as slab
use Rattle.ts_spec.specs.StoredSeries.{StoredRule}
use Rattle.ts_spec.specs.StoredStep.{list_at}
use Rattle.ts_spec.specs.StoredUpdates.{updated_series}
use Rattle.ts_rules.specs.declared.rule.Rule.{Rule}
use Rattle.ts_rules.specs.Rules.{IsChanged}
use Rattle.ts_rules.specs.Plans.{list_after_update}
use Rattle.ts_db.specs.declared.store.DestinationPlan.{DestinationPlan}
use Rattle.ts_db.specs.declared.node.Node.{Node}
use Rattle.ts_db.specs.Store.{Nodes, stored_node}
use Rattle.ts_db.specs.DestinationUpdates.{Rows, RemovedTimes}
use Rattle.ts_db.specs.Planning.{stored_rule_in, IsDestinationUpdatedBy, AreDestinationsUpdatedBy, AreChanged, updated_dest_list, first_full}

-- ---- one rule

-- the list of a destination that is there
pub update_dest-list : (nodes : Nodes) (rows : Rows) (gone : RemovedTimes) (r : Rule) (n : Node) → slab.get nodes r.dest.0 ≡ Some n
    → updated_dest_list nodes rows gone r ≡ list_after_update (gone (stored_rule_in nodes r)) (rows n.series.born (stored_rule_in nodes r)) n.series
update_dest-list nodes rows gone r n is =
    ap (λ (o : Option Node). list_at (option_map (λ d. updated_series (gone (stored_rule_in nodes r)) (rows d.born (stored_rule_in nodes r)) d) (option_map (stored_node nodes) o))) is

pub fits-one : (limit : ℕ) (nodes : Nodes) (rows : Rows) (gone : RemovedTimes) (r : Rule) (n : Node) → slab.get nodes r.dest.0 ≡ Some n
    → length (list_after_update (gone (stored_rule_in nodes r)) (rows n.series.born (stored_rule_in nodes r)) n.series) ≤ limit → first_full limit nodes rows gone (r ∷ []) ≡ None
fits-one limit nodes rows gone r n is le =
    ap (λ ps. if nat_lt limit (length ps) then Some r.dest else None) (update_dest-list nodes rows gone r n is)
    ∙ ap (λ b. if b then Some r.dest else None) (le-ltb limit (length (list_after_update (gone (stored_rule_in nodes r)) (rows n.series.born (stored_rule_in nodes r)) n.series)) le)

pub full-one : (limit : ℕ) (nodes : Nodes) (rows : Rows) (gone : RemovedTimes) (r : Rule) (n : Node) → slab.get nodes r.dest.0 ≡ Some n
    → limit < length (list_after_update (gone (stored_rule_in nodes r)) (rows n.series.born (stored_rule_in nodes r)) n.series) → first_full limit nodes rows gone (r ∷ []) ≡ Some r.dest
full-one limit nodes rows gone r n is lt =
    ap (λ ps. if nat_lt limit (length ps) then Some r.dest else None) (update_dest-list nodes rows gone r n is)
    ∙ ap (λ b. if b then Some r.dest else None) (lt-ltb limit (length (list_after_update (gone (stored_rule_in nodes r)) (rows n.series.born (stored_rule_in nodes r)) n.series)) lt)

-- ---- all rules

-- past a rule whose destination has capacity
pub full-past : (limit : ℕ) (nodes : Nodes) (rows : Rows) (gone : RemovedTimes) (r : Rule) (rs : List Rule) → first_full limit nodes rows gone (r ∷ []) ≡ None
    → first_full limit nodes rows gone (r ∷ rs) ≡ first_full limit nodes rows gone rs
full-past limit nodes rows gone r rs fits = go (nat_lt limit (length (updated_dest_list nodes rows gone r))) fits
  where
    go : (b : Bool) → (if b then Some r.dest else None) ≡ None → (if b then Some r.dest else first_full limit nodes rows gone rs) ≡ first_full limit nodes rows gone rs
    go true e = absurd (cc e)
    go false e = refl

-- one plan more
pub update_dest-more : (limit : ℕ) (nodes : Nodes) (rows : Rows) (gone : RemovedTimes) (rs : List Rule) (xs : List DestinationPlan) (r : Rule) (x : DestinationPlan) → AreDestinationsUpdatedBy limit nodes rows gone rs xs
    → IsDestinationUpdatedBy limit nodes rows gone r x → AreDestinationsUpdatedBy limit nodes rows gone (rs ++ r ∷ []) (xs ++ x ∷ [])
update_dest-more limit nodes rows gone [] [] r x update_dest one = (one, tt)
update_dest-more limit nodes rows gone [] (y ∷ xs) r x update_dest one = absurd update_dest
update_dest-more limit nodes rows gone (q ∷ rs) [] r x update_dest one = absurd update_dest
update_dest-more limit nodes rows gone (q ∷ rs) (y ∷ xs) r x update_dest one = (update_dest.0, update_dest-more limit nodes rows gone rs xs r x update_dest.1 one)

pub changed-more : (change : StoredRule → StoredRule) (rs xs : List Rule) (r x : Rule) → AreChanged change rs xs → IsChanged change r x → AreChanged change (rs ++ r ∷ []) (xs ++ x ∷ [])
changed-more change [] [] r x all one = (one, tt)
changed-more change [] (y ∷ xs) r x all one = absurd all
changed-more change (q ∷ rs) [] r x all one = absurd all
changed-more change (q ∷ rs) (y ∷ xs) r x all one = (all.0, changed-more change rs xs r x all.1 one)
