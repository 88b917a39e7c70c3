-- An append inside all open buckets is a write whose plans leave the destinations unchanged.
use Rattle.std.proofs.Common.{◌≡◌, ◌≤◌, ℕ, ℤ, true, false, List, [], ◌∷◌, map, length, refl, sym, ◌∙◌, ap, subst, le-ltb, eq-eqb, max, arith}
use Rattle.std.specs.Prelude.{◌==◌, if◌then◌else◌, None, Some, option_map}
use Rattle.ts_spec.specs.Sample.{Point, put}
use Rattle.ts_spec.specs.Bucket.{start}
use Rattle.ts_spec.specs.Aggregate.{push, nothing}
use Rattle.ts_spec.specs.Rules.{raised, is_append}
use Rattle.ts_spec.specs.StoredSeries.{StoredRule}
use Rattle.ts_spec.specs.StoredUpdates.{by_bucket, bucket_row, closing_row, recounted_bucket, written_rule, high_after_rows, stored_with}
use Rattle.ts_sample.specs.declared.sample.Id.{Id}
use Rattle.ts_bucket.specs.Grid.{IsGrid}
use Rattle.ts_series.specs.History.{History, list_of}
use Rattle.ts_series.specs.Plan.{Plan, after}
use Rattle.ts_series.specs.Put.{Writes, sample_of}
use Rattle.ts_rules.specs.declared.rule.Rule.{Rule}
use Rattle.ts_rules.specs.Rules.{stored_rule_for}
use Rattle.ts_rules.specs.Plans.{list_after_update, IsUpdatedBy}
use Rattle.ts_rules.proofs.Mended.{unmended}
use Rattle.ts_db.specs.declared.store.DestinationPlan.{DestinationPlan}
use Rattle.ts_db.specs.declared.node.Node.{Node}
use Rattle.ts_db.specs.declared.store.Store.{Store}
use Rattle.ts_db.specs.declared.planning.SourceChange.TheVariants.{Write}
use Rattle.ts_db.specs.DestinationUpdates.{Rows, RemovedTimes}
use Rattle.ts_db.specs.OpenAppend.{counted_once_more, AreOpenAt, StaysOpen, CanCountOneMore, stored_open_append}
use Rattle.ts_db.specs.Planning.{changed_by, gone_by, rows_by_change, AllHaveCountCapacity, stored_rule_in, AreDestinationsUpdatedBy, AreChanged, first_full, AreDistinct, AreDestinationsUpdated}
use Rattle.ts_db.specs.Store.{stored_series, rules_by, key_in, stored_named, AreLive, HaveGrids, IsNode, IsInOrder}
use Rattle.ts_db.proofs.Feeds.{Feeding, update_dest-none, update_dest-all}
use Rattle.ts_db.proofs.Plans.{fits-one, full-past}

-- ---- a rule in whose open bucket the sample lies

module _ (b : ℕ) where
  by-here : {X : Type 0} (before here past : X) → by_bucket b (Some b) before here past ≡ here
  by-here before here past =
      ap (λ c. if c then before else (if b == b then here else past)) (le-ltb b b (omega arith))
      ∙ ap (λ c. if c then here else past) (eq-eqb b b refl)

  raised-here : raised b (Some b) ≡ Some b
  raised-here = let same : max b b ≡ b = omega arith in ap (λ (n : ℕ). Some n) same

module _ (h : History) (p : Point) (append : is_append p.time h.high ≡ true) where
  -- it counts the sample
  grows : (q : StoredRule) → q.current ≡ Some (start q.grid p.time) → counted_once_more p q ≡ changed_by (Write p) h q
  grows q is =
      let b : ℕ = start q.grid p.time in
      let current : raised b q.current ≡ q.current = ap (raised b) is ∙ raised-here b ∙ sym is in
      let running : by_bucket b q.current q.running (push q.running p) (push nothing p) ≡ push q.running p =
      ap (λ c. by_bucket b c q.running (push q.running p) (push nothing p)) is ∙ by-here b q.running (push q.running p) (push nothing p) in
      sym (ap (λ a. written_rule a p (put p (list_of h)) q) append ∙ (λ i. record q { current = current i; running = running i }))

  -- and tells no row
  tells-nothing : (q : StoredRule) (born : ℕ) → q.current ≡ Some (start q.grid p.time) → rows_by_change (Write p) h born q ≡ []
  tells-nothing q born is =
      let b : ℕ = start q.grid p.time in
      let own : List Point = bucket_row q.agg born b (recounted_bucket q b (put p (list_of h))) in
      ap (λ c. by_bucket b c own [] (closing_row born q q.current)) is ∙ by-here b own [] (closing_row born q q.current)

  counted_once_more-rules : (names : Id → _) (rs : List Rule) → AreOpenAt p rs → map (counted_once_more p) (rules_by names rs) ≡ map (changed_by (Write p) h) (rules_by names rs)
  counted_once_more-rules names [] o = refl
  counted_once_more-rules names (r ∷ rs) o =
      ap (λ (q : StoredRule). q ∷ map (counted_once_more p) (rules_by names rs)) (grows (stored_rule_for (names r.dest) r) o.0)
      ∙ ap (λ (qs : List StoredRule). changed_by (Write p) h (stored_rule_for (names r.dest) r) ∷ qs) (counted_once_more-rules names rs o.1)

-- the stored data of the node is that after the write
pub counted_once_more-after : (s : Store) (n : Node) (plan : Plan) (t : ℕ) (v : ℤ) → Writes (sample_of t v n.series) plan → StaysOpen n.series (sample_of t v n.series) n.rules.items
    → stored_open_append s.nodes plan (sample_of t v n.series) n ≡ stored_with t v (stored_named (key_in s.nodes) n)
counted_once_more-after s n plan t v w o =
    let same = counted_once_more-rules n.series (sample_of t v n.series) o.append (key_in s.nodes) n.rules.items o.at in
    λ i. record (stored_series n.labels (after (record { cut = w.cut i; removed = 0; encoding = plan.encoding; wrote = w.wrote i; options = w.options i; change = plan.change; room = None }) n.series)) { rules = same i; source = option_map (key_in s.nodes) n.source }

-- ---- plans that leave destinations as they are

abbrev pub no_plans : List Rule → List DestinationPlan
no_plans rs = map (λ r. record { dest = r.dest; change = None }) rs

module _ (s : Store) (store : IsInOrder s) (h : History) (p : Point) (append : is_append p.time h.high ≡ true) where
  abbrev rows : Rows
  rows = rows_by_change (Write p) h

  abbrev gone : RemovedTimes
  gone = gone_by (Write p) h

  left-alone : (r : Rule) (n : Node) → IsNode s.limits n → r.current ≡ Some (start r.grid p.time)
      → IsUpdatedBy s.limits.samples (gone (stored_rule_in s.nodes r)) (rows n.series.born (stored_rule_in s.nodes r)) n.series None
  left-alone r n fits is =
      let none : rows n.series.born (stored_rule_in s.nodes r) ≡ [] = tells-nothing h p append (stored_rule_in s.nodes r) n.series.born is in
      let same : list_after_update (λ b. false) (rows n.series.born (stored_rule_in s.nodes r)) n.series ≡ list_of n.series =
      ap (λ (ps : List Point). list_after_update (λ b. false) ps n.series) none ∙ unmended (λ b. false) n.series fits.kept (λ t. refl) in
      record {
        made_for = tt;
        list = sym same;
        high = sym (ap (λ (ps : List Point). high_after_rows ps n.series.high) none);
        options = refl;
        fits = subst (λ (ps : List Point). length ps ≤ s.limits.samples) (sym same) fits.within;
      }

  pub none-update_dest : (rs : List Rule) → AreOpenAt p rs → AreLive s.nodes rs → AreDestinationsUpdatedBy s.limits.samples s.nodes rows gone rs (no_plans rs)
  none-update_dest [] o live = tt
  none-update_dest (r ∷ rs) o live = (
    record {
      dest = refl;
      node = live.0.node;
      there = live.0.there;
      updated_list = left-alone r live.0.node (store.each r.dest.0 live.0.node live.0.there) o.0;
    },
    none-update_dest rs o.1 live.1,
  )

  pub none-full : (rs : List Rule) → AreOpenAt p rs → AreLive s.nodes rs → first_full s.limits.samples s.nodes rows gone rs ≡ None
  none-full [] o live = refl
  none-full (r ∷ rs) o live =
      full-past s.limits.samples s.nodes rows gone r rs
      (fits-one s.limits.samples s.nodes rows gone r live.0.node live.0.there (left-alone r live.0.node (store.each r.dest.0 live.0.node live.0.there) o.0).fits)
      ∙ none-full rs o.1 live.1

-- destinations without plans are updated
all-none : (init now : Store) (store : IsInOrder now) (rows : Rows) (gone : RemovedTimes) (rs xs : List Rule) → Feeding init now rows gone rs (no_plans xs) → AreDestinationsUpdated init rows gone rs now
all-none init now store rows gone rs [] f = update_dest-all init now rows gone rs f
all-none init now store rows gone rs (x ∷ xs) f =
    all-none init now store rows gone rs xs (update_dest-none init now store rows gone rs (record { dest = x.dest; change = None }) (no_plans xs) f refl)

pub update_dest-nothing : (now : Store) → IsInOrder now → (rows : Rows) (gone : RemovedTimes) (rs xs : List Rule) → AreDestinationsUpdatedBy now.limits.samples now.nodes rows gone rs (no_plans xs) → AreDistinct rs → AreDestinationsUpdated now rows gone rs now
update_dest-nothing now store rows gone rs xs update_dest distinct = all-none now now store rows gone rs xs (record { rest = rs; plans = update_dest; distinct = distinct; result = refl })

-- ---- rules with one more sample

pub counted_once_more-grids : (p : Point) (rs xs : List Rule) → AreChanged (counted_once_more p) rs xs → HaveGrids rs → HaveGrids xs
counted_once_more-grids p [] [] c g = tt
counted_once_more-grids p [] (x ∷ xs) c g = absurd c
counted_once_more-grids p (r ∷ rs) [] c g = absurd c
counted_once_more-grids p (r ∷ rs) (x ∷ xs) c g = (subst IsGrid (sym (ap (λ (q : StoredRule). q.grid) (c.0.kept []))) g.0, counted_once_more-grids p rs xs c.1 g.1)

-- rules that take an appended sample have capacity for it
pub open-room : (h : History) (p : Point) (rs : List Rule) → StaysOpen h p rs → AllHaveCountCapacity (Write p) h rs → CanCountOneMore rs
open-room h p [] o t = tt
open-room h p (r ∷ rs) o t = (t.0 o.append o.at.0, open-room h p rs (record { append = o.append; at = o.at.1 }) t.1)

-- where a sample stays, by another name of the node
pub open-for : (p q : Point) (x y : Node) (rs : List Rule) → p ≡ q → x ≡ y → rs ≡ x.rules.items → StaysOpen x.series p rs → StaysOpen y.series q y.rules.items
open-for p q x y rs sample it items o =
    let all : rs ≡ y.rules.items = items ∙ ap (λ (n : Node). n.rules.items) it in
    subst (λ (X : Type 0). X) (λ i. StaysOpen (it i).series (sample i) (all i)) o
