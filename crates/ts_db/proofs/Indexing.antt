-- After a change of one node, the index again has the labels of all nodes.
use Rattle.std.proofs.Common.{◌≡◌, ◌≢◌, List, refl, sym, ◌∙◌, ap, subst, ◌⊎◌, inl, inr}
use Rattle.std.specs.Prelude.{Vec, Option, Some, IsSome, option_map}
use Rattle.std.specs.declared.alloc.Global.{Global}
use Rattle.std.specs.Option.{unwrap_or}
use Rattle.std.proofs.lemmas.Bool.{cases_eq}
use Rattle.slab.specs.Slab as slab
use Rattle.slab.proofs.SlabLemmas.{Updates-with_value}
use Rattle.ts_spec.specs.State.{Label}
use Rattle.ts_sample.specs.declared.sample.Id.{Id}
use Rattle.ts_index.specs.Index.{Labelled, labels_of, Relabels}
use Rattle.ts_series.specs.History.{History, IsKept}
use Rattle.ts_series.specs.Plan.{Plan, after}
use Rattle.ts_rules.specs.declared.rule.Rule.{Rule}
use Rattle.ts_db.specs.declared.node.Node.{Node}
use Rattle.ts_db.specs.Store.{Nodes}
use Rattle.ts_db.specs.Indexed.{IsIndexed}
use Rattle.ts_db.specs.NodeChanges.{IsNodeChanged, IsAfter}

-- the labels of a node, if there is one
abbrev pub node_labels : Option Node → Option (List Label)
node_labels o = option_map (λ n. n.labels) o

-- an id has other labels in both
pub indexed-updates : (nodes new : Nodes) (index fresh : Labelled) (id : Id) (o : Option Node) → slab.Updates nodes new id.0 o → Relabels id (node_labels o) index fresh → IsIndexed nodes index → IsIndexed new fresh
indexed-updates nodes new index fresh id o change gives is i = pick (cases_eq i id.0)
  where
    pick : (i ≡ id.0) ⊎ (i ≢ id.0) → labels_of i fresh ≡ node_labels (slab.get new i)
    pick (inl here) = ap (λ j. labels_of j fresh) here ∙ gives.here ∙ sym (ap node_labels (ap (slab.get new) here ∙ change.changed))
    pick (inr other) = gives.others i other ∙ is i ∙ sym (ap node_labels (change.others i other))

-- an id with a node
pub contains : (nodes : Nodes) (id : Id) (n : Node) → slab.get nodes id.0 ≡ Some n → slab.ContainsKey nodes id.0
contains nodes id n there = subst (λ (o : Option Node). IsSome o) (sym there) refl

-- a node has other labels in both
pub indexed-altered : (nodes : Nodes) (index fresh : Labelled) (id : Id) (n changed : Node) → slab.get nodes id.0 ≡ Some n → Relabels id (Some changed.labels) index fresh → IsIndexed nodes index
    → IsIndexed (slab.with_value nodes id.0 changed) fresh
indexed-altered nodes index fresh id n changed there gives is =
    indexed-updates nodes (slab.with_value nodes id.0 changed) index fresh id (Some changed) (Updates-with_value nodes id.0 changed (contains nodes id n there)) gives is

-- ---- how one node changed

pub turned : {by : (was now : Node) → Type 0} (inside old : Nodes) (id : Id) (was now : Node) → inside ≡ old → slab.get inside id.0 ≡ Some was → by was now → IsNodeChanged old (slab.with_value inside id.0 now) id by
turned inside old id was now is value so = record {
  was = was;
  now = now;
  there = sym (ap (λ (s : Nodes). slab.get s id.0) is) ∙ value;
  turned = ap (λ (s : Nodes). slab.with_value s id.0 now) is;
  so = so;
}

pub is-after : (plan : Plan) (labels : Option (List Label)) (rules : Option (Vec Rule Global)) (was now : Node) (series : History) → IsKept series → series ≡ record (after plan was.series) { held = series.held }
    → now ≡ record was { series = series; labels = unwrap_or labels was.labels; rules = unwrap_or rules was.rules } → IsAfter plan labels rules was now
is-after plan labels rules was now series kept done is = subst (IsAfter plan labels rules was) (sym is) (record { kept = kept; done = done; rest = refl })
