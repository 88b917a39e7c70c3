-- Destinations are updated one after another.
use Rattle.std.proofs.Common.{◌≡◌, ◌≤◌, ℕ, List, [], ◌∷◌, length, refl, sym, ◌∙◌, ap, subst, arith}
use Rattle.std.specs.Prelude.{Option, None, Some}
use Rattle.slab.specs.Slab as slab
use Rattle.ts_spec.specs.Sample.{Point}
use Rattle.ts_spec.specs.Key.{Key}
use Rattle.ts_spec.specs.Keyed.{get, with_key}
use Rattle.ts_spec.specs.StoredSeries.{StoredRule, StoredSeries, StoredKeys}
use Rattle.ts_spec.specs.StoredKeys.{keys_changed}
use Rattle.ts_spec.specs.StoredUpdates.{updated_series}
use Rattle.ts_sample.specs.declared.sample.Id.{Id}
use Rattle.ts_series.specs.Plan.{Plan}
use Rattle.ts_rules.specs.declared.rule.Rule.{Rule}
use Rattle.ts_rules.specs.Rules.{stored_rule_for}
use Rattle.ts_rules.specs.Plans.{IsUpdatedBy, after_plan}
use Rattle.ts_db.specs.declared.store.DestinationPlan.{DestinationPlan}
use Rattle.ts_db.specs.declared.node.Node.{Node}
use Rattle.ts_db.specs.declared.store.Store.{Store}
use Rattle.ts_db.specs.Store.{rules_by, key_at, key_in, stored_node, db_view_of, contents_of, Contents, Nodes, IsInOrder, Holds}
use Rattle.ts_db.specs.Answering.{node_after, IsReady, IsApplied, IsElsewhere}
use Rattle.ts_db.specs.DestinationUpdates.{Rows, RemovedTimes, keys_destinations_updated}
use Rattle.ts_db.specs.Planning.{stored_rule_in, IsDestinationUpdatedBy, AreDestinationsUpdatedBy, NoneTo, AreDistinct, AreDestinationsUpdated}
use Rattle.ts_db.proofs.Applying.{there}
use Rattle.ts_db.proofs.OneKey.{changed-alone, unchanged}

-- what is left to do after some of the plans, and that it comes to the same
pub record Feeding (init now : Store) (rows : Rows) (gone : RemovedTimes) (rs : List Rule) (xs : List DestinationPlan) : Type 0 where
  pub rest : List Rule
  pub plans : AreDestinationsUpdatedBy now.limits.samples now.nodes rows gone rest xs
  pub distinct : AreDistinct rest
  pub result : record (contents_of now) { keys = keys_destinations_updated rows gone (rules_by (key_in now.nodes) rest) (db_view_of now).keys }
      ≡ record (contents_of init) { keys = keys_destinations_updated rows gone (rules_by (key_in init.nodes) rs) (db_view_of init).keys }

-- a node with the series after a plan, if there is one
abbrev pub fed_node : Option Plan → Node → Node
fed_node plan n = record n { series = after_plan plan n.series }

-- the stored data of a destination after its plan
pub updated_list-node : (names : Nodes) (n : Node) (plan : Option Plan) (limit : ℕ) (rows : Rows) (gone : RemovedTimes) (q : StoredRule) → IsUpdatedBy limit (gone q) (rows n.series.born q) n.series plan
    → stored_node names (fed_node plan n) ≡ updated_series (gone q) (rows n.series.born q) (stored_node names n)
updated_list-node nodes n None limit rows gone q m =
    λ i. record (stored_node nodes n) { options = m.options i; list = m.list i; high = m.high i }
updated_list-node nodes n (Some plan) limit rows gone q m =
    λ i. record (stored_node nodes n) { options = m.options i; list = m.list i; high = m.high i }

module _ (now : Store) (store : IsInOrder now) (rows : Rows) (gone : RemovedTimes) (r : Rule) (x : DestinationPlan) (update_dest : IsDestinationUpdatedBy now.limits.samples now.nodes rows gone r x) where
  abbrev q : StoredRule
  q = stored_rule_in now.nodes r

  name : key_in now.nodes r.dest ≡ update_dest.node.key
  name = ap key_at update_dest.there

  -- the store holds the destination
  pub holds : Holds now update_dest.node.key x.dest update_dest.node
  holds = record {
    number = store.owned r.dest.0 update_dest.node update_dest.there ∙ ap (λ (i : Id). Some i) (sym update_dest.dest);
    node = ap (λ (i : Id). slab.get now.nodes i.0) update_dest.dest ∙ update_dest.there;
  }

  -- it is updated alone
  pub mends : keys_changed (stored_rule_in now.nodes r).dest (λ d. updated_series (gone (stored_rule_in now.nodes r)) (rows d.born (stored_rule_in now.nodes r)) d) (db_view_of now).keys
      ≡ with_key update_dest.node.key (stored_node now.nodes (fed_node x.change update_dest.node)) (db_view_of now).keys
  mends =
      changed-alone (db_view_of now).keys q.dest (stored_node now.nodes update_dest.node) (λ d. updated_series (gone q) (rows d.born q) d)
      (ap (λ (k : Key). get k (db_view_of now).keys) name ∙ there now store update_dest.node.key x.dest update_dest.node holds)
      ∙ ap (λ (k : Key). with_key k (updated_series (gone q) (rows update_dest.node.series.born q) (stored_node now.nodes update_dest.node)) (db_view_of now).keys) name
      ∙ ap (λ (d : StoredSeries). with_key update_dest.node.key d (db_view_of now).keys) (sym (updated_list-node now.nodes update_dest.node x.change now.limits.samples rows gone q update_dest.updated_list))

  -- nothing is planned for it
  pub mends-nothing : x.change ≡ None
      → keys_changed (stored_rule_in now.nodes r).dest (λ d. updated_series (gone (stored_rule_in now.nodes r)) (rows d.born (stored_rule_in now.nodes r)) d) (db_view_of now).keys ≡ (db_view_of now).keys
  mends-nothing e =
      mends ∙ ap (λ (p : Option Plan). with_key update_dest.node.key (stored_node now.nodes (fed_node p update_dest.node)) (db_view_of now).keys) e
      ∙ unchanged (db_view_of now).keys update_dest.node.key (stored_node now.nodes update_dest.node) (there now store update_dest.node.key x.dest update_dest.node holds)

  -- its plan may be done
  pub ready : (plan : Plan) → x.change ≡ Some plan → IsReady now x.dest plan None None
  ready plan e =
      let m : IsUpdatedBy now.limits.samples (gone q) (rows update_dest.node.series.born q) update_dest.node.series (Some plan) =
      subst (λ (p : Option Plan). IsUpdatedBy now.limits.samples (gone q) (rows update_dest.node.series.born q) update_dest.node.series p) e update_dest.updated_list in
      record {
        key = update_dest.node.key;
        node = update_dest.node;
        holds = holds;
        ready = m.made_for;
        within = subst (λ (ps : List Point). length ps ≤ now.limits.samples) (sym m.list) m.fits;
        few = (store.each r.dest.0 update_dest.node update_dest.there).labels;
        live = (store.live r.dest.0 update_dest.node update_dest.there).rules;
        grids = (store.each r.dest.0 update_dest.node update_dest.there).grids;
      }

-- plans for other destinations stay
pub update_dest-elsewhere : (now new : Store) (id : Id) (rows : Rows) (gone : RemovedTimes) (rs : List Rule) (xs : List DestinationPlan) → IsElsewhere now new id → NoneTo id.0 rs
    → AreDestinationsUpdatedBy now.limits.samples now.nodes rows gone rs xs → AreDestinationsUpdatedBy new.limits.samples new.nodes rows gone rs xs
update_dest-elsewhere now new id rows gone [] [] else none update_dest = update_dest
update_dest-elsewhere now new id rows gone [] (x ∷ xs) else none update_dest = update_dest
update_dest-elsewhere now new id rows gone (r ∷ rs) [] else none update_dest = update_dest
update_dest-elsewhere now new id rows gone (r ∷ rs) (x ∷ xs) else none update_dest = (
  record {
    dest = update_dest.0.dest;
    node = update_dest.0.node;
    there = else.others r.dest.0 none.0 ∙ update_dest.0.there;
    updated_list = subst (λ (limit : ℕ). IsUpdatedBy limit (gone (stored_rule_in new.nodes r)) (rows update_dest.0.node.series.born (stored_rule_in new.nodes r)) update_dest.0.node.series x.change)
        (sym (ap (λ l. l.samples) else.limits))
        (subst (λ (k : Key). IsUpdatedBy now.limits.samples (gone (stored_rule_for k r)) (rows update_dest.0.node.series.born (stored_rule_for k r)) update_dest.0.node.series x.change) (sym (else.names r.dest)) update_dest.0.updated_list);
  },
  update_dest-elsewhere now new id rows gone rs xs else none.1 update_dest.1,
)

pub names-same : (now new : Store) (id : Id) → IsElsewhere now new id → key_in new.nodes ≡ key_in now.nodes
names-same now new id else = λ i j. else.names j i

module _ (init now : Store) (store : IsInOrder now) (rows : Rows) (gone : RemovedTimes) (rs : List Rule) (x : DestinationPlan) (xs : List DestinationPlan) where
  -- after a plan that is done
  step-done : (new : Store) (plan : Plan) (rest : List Rule) → AreDestinationsUpdatedBy now.limits.samples now.nodes rows gone rest (x ∷ xs) → AreDistinct rest
      → record (contents_of now) { keys = keys_destinations_updated rows gone (rules_by (key_in now.nodes) rest) (db_view_of now).keys } ≡ record (contents_of init) { keys = keys_destinations_updated rows gone (rules_by (key_in init.nodes) rs) (db_view_of init).keys }
      → x.change ≡ Some plan → IsElsewhere now new x.dest → IsApplied now x.dest plan None None new → Feeding init new rows gone rs xs
  step-done new plan [] update_dest distinct result e else applied = absurd update_dest
  step-done new plan (r ∷ rest) update_dest distinct result e else applied =
      let done : contents_of new ≡ record (contents_of now) { keys = with_key update_dest.0.node.key (stored_node now.nodes (node_after plan None None update_dest.0.node)) (db_view_of now).keys } =
      applied update_dest.0.node.key update_dest.0.node (holds now store rows gone r x update_dest.0) in
      let here : keys_changed (stored_rule_in now.nodes r).dest (λ d. updated_series (gone (stored_rule_in now.nodes r)) (rows d.born (stored_rule_in now.nodes r)) d) (db_view_of now).keys
      ≡ with_key update_dest.0.node.key (stored_node now.nodes (node_after plan None None update_dest.0.node)) (db_view_of now).keys =
      mends now store rows gone r x update_dest.0 ∙ ap (λ (p : Option Plan). with_key update_dest.0.node.key (stored_node now.nodes (fed_node p update_dest.0.node)) (db_view_of now).keys) e in
      record {
        rest = rest;
        plans = update_dest-elsewhere now new x.dest rows gone rest xs else (subst (λ (i : Id). NoneTo i.0 rest) (sym update_dest.0.dest) distinct.0) update_dest.1;
        distinct = distinct.1;
        result =
            ap (λ (f : Id → Key). record (contents_of new) { keys = keys_destinations_updated rows gone (rules_by f rest) (db_view_of new).keys }) (names-same now new x.dest else)
            ∙ ap (λ (s : Contents). record s { keys = keys_destinations_updated rows gone (rules_by (key_in now.nodes) rest) s.keys }) done
            ∙ ap (λ (m : StoredKeys). record (contents_of now) { keys = keys_destinations_updated rows gone (rules_by (key_in now.nodes) rest) m }) (sym here)
            ∙ result;
      }

  pub update_dest-done : (new : Store) (plan : Plan) → Feeding init now rows gone rs (x ∷ xs) → x.change ≡ Some plan → IsElsewhere now new x.dest → IsApplied now x.dest plan None None new → Feeding init new rows gone rs xs
  update_dest-done new plan f e else applied = step-done new plan f.rest f.plans f.distinct f.result e else applied

  -- after one that is none
  step-none : (rest : List Rule) → AreDestinationsUpdatedBy now.limits.samples now.nodes rows gone rest (x ∷ xs) → AreDistinct rest
      → record (contents_of now) { keys = keys_destinations_updated rows gone (rules_by (key_in now.nodes) rest) (db_view_of now).keys } ≡ record (contents_of init) { keys = keys_destinations_updated rows gone (rules_by (key_in init.nodes) rs) (db_view_of init).keys }
      → x.change ≡ None → Feeding init now rows gone rs xs
  step-none [] update_dest distinct result e = absurd update_dest
  step-none (r ∷ rest) update_dest distinct result e = record {
    rest = rest;
    plans = update_dest.1;
    distinct = distinct.1;
    result =
        ap (λ (m : StoredKeys). record (contents_of now) { keys = keys_destinations_updated rows gone (rules_by (key_in now.nodes) rest) m }) (sym (mends-nothing now store rows gone r x update_dest.0 e))
        ∙ result;
  }

  pub update_dest-none : Feeding init now rows gone rs (x ∷ xs) → x.change ≡ None → Feeding init now rows gone rs xs
  update_dest-none f e = step-none f.rest f.plans f.distinct f.result e

  -- the next plan may be done
  pub update_dest-ready : (plan : Plan) → Feeding init now rows gone rs (x ∷ xs) → x.change ≡ Some plan → IsReady now x.dest plan None None
  update_dest-ready plan f e = go f.rest f.plans
    where
      go : (rest : List Rule) → AreDestinationsUpdatedBy now.limits.samples now.nodes rows gone rest (x ∷ xs) → IsReady now x.dest plan None None
      go [] update_dest = absurd update_dest
      go (r ∷ rest) update_dest = ready now store rows gone r x update_dest.0 plan e

-- after all of them
pub update_dest-all : (init now : Store) (rows : Rows) (gone : RemovedTimes) (rs : List Rule) → Feeding init now rows gone rs [] → AreDestinationsUpdated init rows gone rs now
update_dest-all init now rows gone rs f = go f.rest f.plans f.result
  where
    go : (rest : List Rule) → AreDestinationsUpdatedBy now.limits.samples now.nodes rows gone rest []
        → record (contents_of now) { keys = keys_destinations_updated rows gone (rules_by (key_in now.nodes) rest) (db_view_of now).keys } ≡ record (contents_of init) { keys = keys_destinations_updated rows gone (rules_by (key_in init.nodes) rs) (db_view_of init).keys }
        → AreDestinationsUpdated init rows gone rs now
    go [] update_dest result = result
    go (r ∷ rest) update_dest result = absurd update_dest

-- a list of no plans
pub no-plans : (xs : List DestinationPlan) → length xs ≡ 0 → xs ≡ []
no-plans [] e = refl
no-plans (x ∷ xs) e = absurd (omega (arith, e))
