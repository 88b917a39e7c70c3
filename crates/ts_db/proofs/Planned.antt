-- The plan for one rule of a source.
use Rattle.std.proofs.Common.{◌≡◌, ℕ, List, [], ◌∷◌, ◌++◌, refl, ap, subst}
use Rattle.std.specs.Prelude.{None, Some, Result, Ok, Err, IfOk, IfErr, filter}
use Rattle.slab.specs.Slab as slab
use Rattle.ts_spec.specs.Sample.{Point, put, between, outside}
use Rattle.ts_spec.specs.Bucket.{starts}
use Rattle.ts_spec.specs.Key.{Key}
use Rattle.ts_spec.specs.StoredUpdates.{bucket_row, recounted_bucket, rows_of, loses}
use Rattle.ts_series.specs.History.{History, list_of}
use Rattle.ts_rules.specs.declared.rule.Rule.{Rule}
use Rattle.ts_rules.specs.declared.plan.RulePlan.{RulePlan}
use Rattle.ts_rules.specs.declared.plan.RuleFault.{RuleFault}
use Rattle.ts_rules.specs.declared.plan.RuleFault.TheVariants.{Full, Memory}
use Rattle.ts_rules.specs.Rules.{stored_rule_for, IsChanged}
use Rattle.ts_rules.specs.declared.shared_bucket.SharedBuckets.{SharedBuckets}
use Rattle.ts_rules.specs.SharedBuckets.{AreShared}
use Rattle.ts_rules.specs.Plans.{IsPlanned}
use Rattle.ts_rules.specs.PlansOfDeletions.{IsPlanOfDeletion}
use Rattle.ts_db.specs.declared.node.Node.{Node}
use Rattle.ts_db.specs.declared.planning.SourceChange.{SourceChange}
use Rattle.ts_db.specs.declared.planning.SourceChange.TheVariants.{Write, Delete}
use Rattle.ts_db.specs.Store.{Nodes, key_in}
use Rattle.ts_db.specs.Planning.{changed_by, gone_by, rows_by_change, IsSharedOf, for_destination, IsDestinationUpdatedBy, first_full, IsRulePlanFault}
use Rattle.ts_db.proofs.Plans.{fits-one, full-one}

-- the rows of buckets do not tell the key of a destination
rows-named : (left : List Point) (born : ℕ) (k : Key) (r : Rule) (bs : List ℕ) → rows_of left born (stored_rule_for [] r) bs ≡ rows_of left born (stored_rule_for k r) bs
rows-named left born k r [] = refl
rows-named left born k r (b ∷ bs) = ap (λ (rows : List Point). bucket_row r.agg born b (recounted_bucket (stored_rule_for k r) b left) ++ rows) (rows-named left born k r bs)

-- the plan of a deletion, by any key of the destination
pub deletion-named : (limit : ℕ) (k : Key) (r : Rule) (source : History) (from to : ℕ) (dest : History) (result : Result RulePlan RuleFault) → IsPlanOfDeletion limit r source from to dest result
    → IsPlanned limit (changed_by (Delete from to) source) (gone_by (Delete from to) source (stored_rule_for k r)) (rows_by_change (Delete from to) source dest.born (stored_rule_for k r)) r dest result
deletion-named limit k r source from to dest result planned =
    subst (λ (rows : List Point). IsPlanned limit (changed_by (Delete from to) source) (gone_by (Delete from to) source (stored_rule_for k r)) rows r dest result)
    (rows-named (outside from to (list_of source)) dest.born k r (filter (loses (between from to (list_of source)) (stored_rule_for k r)) (starts r.grid (outside from to (list_of source)))))
    planned

-- what the first rule has of others
pub shared-first : (work : SourceChange) (source : History) (t : SharedBuckets) → ((ps : List Point) → AreShared ps t) → IsSharedOf work source t
shared-first (Write p) source t h = (h (put p (list_of source))).0
shared-first (Delete from to) source t h = h (outside from to (list_of source))

module _ (limit : ℕ) (nodes : Nodes) (work : SourceChange) (source : History) (r : Rule) (n : Node) (is : slab.get nodes r.dest.0 ≡ Some n) where
  -- what is planned for a rule, by any key of the destination
  abbrev pub IsPlan : Result RulePlan RuleFault → Type 0
  IsPlan result = (k : Key) → IsPlanned limit (changed_by work source) (gone_by work source (stored_rule_for k r)) (rows_by_change work source n.series.born (stored_rule_for k r)) r n.series result

  pub planned-changed : (result : Result RulePlan RuleFault) → IsPlan result → IfOk result (λ x. IsChanged (changed_by work source) r x.rule)
  planned-changed (Ok x) p = (p []).0
  planned-changed (Err fault) p = tt

  pub planned-update_dest : (result : Result RulePlan RuleFault) → IsPlan result → IfOk result (λ x. IsDestinationUpdatedBy limit nodes (rows_by_change work source) (gone_by work source) r (for_destination x))
  planned-update_dest (Ok x) p = record {
    dest = (p []).0.dest;
    node = n;
    there = is;
    updated_list = (p (key_in nodes r.dest)).1;
  }
  planned-update_dest (Err fault) p = tt

  pub planned-fits : (result : Result RulePlan RuleFault) → IsPlan result → IfOk result (λ x. first_full limit nodes (rows_by_change work source) (gone_by work source) (r ∷ []) ≡ None)
  planned-fits (Ok x) p = fits-one limit nodes (rows_by_change work source) (gone_by work source) r n is (p (key_in nodes r.dest)).1.fits
  planned-fits (Err fault) p = tt

  pub planned-refused : (result : Result RulePlan RuleFault) → IsPlan result → IfErr result (IsRulePlanFault r (first_full limit nodes (rows_by_change work source) (gone_by work source) (r ∷ [])))
  planned-refused (Ok x) p = tt
  planned-refused (Err Full) p = full-one limit nodes (rows_by_change work source) (gone_by work source) r n is (p (key_in nodes r.dest))
  planned-refused (Err (Memory e)) p = fits-one limit nodes (rows_by_change work source) (gone_by work source) r n is (p (key_in nodes r.dest))
