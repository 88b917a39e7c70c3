-- A successful write: what it needs of the plans, and the stored data afterwards.
use Rattle.std.proofs.Common.{◌≡◌, ℕ, ℤ, List, refl, sym, ◌∙◌, ap, subst}
use Rattle.std.specs.Prelude.{Vec, None, Some, Ok}
use Rattle.std.specs.declared.alloc.Global.{Global}
use Rattle.slab.specs.Slab as slab
use Rattle.ts_spec.specs.declared.series.Merge.{Merge}
use Rattle.ts_spec.specs.Sample.{Point}
use Rattle.ts_spec.specs.Key.{Key}
use Rattle.ts_spec.specs.Keyed.{with_key}
use Rattle.ts_spec.specs.StoredSeries.{StoredSeries}
use Rattle.ts_spec.specs.StoredUpdates.{stored_with}
use Rattle.ts_spec.specs.StoredStep.{stored_write_merged}
use Rattle.ts_spec.specs.Response.{Count}
use Rattle.ts_spec.specs.Rules.{Merged}
use Rattle.ts_spec.proofs.Tidy.{some-same}
use Rattle.ts_sample.specs.declared.sample.Id.{Id}
use Rattle.ts_series.specs.Plan.{Plan, IsFor}
use Rattle.ts_series.specs.Put.{met, sample_of}
use Rattle.ts_rules.specs.declared.rule.Rule.{Rule}
use Rattle.ts_db.specs.declared.store.DestinationPlan.{DestinationPlan}
use Rattle.ts_db.specs.declared.node.Node.{Node}
use Rattle.ts_db.specs.declared.store.Store.{Store}
use Rattle.ts_db.specs.declared.planning.SourceChange.{SourceChange}
use Rattle.ts_db.specs.declared.planning.SourceChange.TheVariants.{Write}
use Rattle.ts_db.specs.DbState.{DbView}
use Rattle.ts_db.specs.DestinationUpdates.{Rows, RemovedTimes, keys_destinations_updated}
use Rattle.ts_db.specs.OpenAppend.{StaysOpen, CanCountOneMore, stored_open_append}
use Rattle.ts_db.specs.Planning.{changed_by, gone_by, rows_by_change, AllHaveCountCapacity, AreDestinationsUpdatedBy, AreDistinct, AreDestinationPlans, first_full, AreDestinationsUpdated}
use Rattle.ts_db.specs.Store.{rules_by, key_in, stored_node, db_view_of, contents_of, Contents, HasNode, AreLive, IsNode, IsInOrder, IsDb, Holds}
use Rattle.ts_db.specs.Answering.{node_after, IsReady, IsApplied, IsElsewhere, StoredCount}
use Rattle.ts_db.proofs.Known.{takes, distinct, links}
use Rattle.ts_db.proofs.StayingOpen.{open-for, open-room, no_plans, none-update_dest, none-full, update_dest-nothing, counted_once_more-after}
use Rattle.ts_db.proofs.Destinations.{key-holds}
use Rattle.ts_db.proofs.Working.{ArePlanned, planned-for, changed-live, changed-grids, for-destinations, still-update_dest, worked}
use Rattle.ts_db.proofs.SamplesWritten.{IsWritten}
use Rattle.ts_db.proofs.Writing.{writes-after, within-planned, planned-answers}

module _ (s : Store) (db : IsDb s) (id : Id) (n : Node) (at : slab.get s.nodes id.0 ≡ Some n) where
  abbrev key : Key
  key = key_in s.nodes id

  abbrev db_view : DbView
  db_view = db_view_of s

  abbrev place : HasNode s.nodes id
  place = record { node = n; there = at }

  holds : Holds s key id n
  holds = key-holds s db.store id place

  live : AreLive s.nodes n.rules.items
  live = (db.store.live id.0 n at).rules

  fits : IsNode s.limits n
  fits = db.store.each id.0 n at

  -- the rules have capacity for a sample
  pub room : (p : Point) (rs : List Rule) → rs ≡ n.rules.items → AllHaveCountCapacity (Write p) n.series rs
  room p rs items = subst (AllHaveCountCapacity (Write p) n.series) (sym items) (takes s db key id n holds p)

  -- so has the open bucket of each where it stays open
  pub open_room : (p : Point) (rs : List Rule) → rs ≡ n.rules.items → StaysOpen n.series p rs → (k : Key) (m : Node) → Holds s k id m → CanCountOneMore m.rules.items
  open_room p rs items stays k m h =
      subst (λ (x : Node). CanCountOneMore x.rules.items) (some-same n m (sym at ∙ h.node))
      (open-room n.series p n.rules.items (open-for p p n n rs refl refl items stays) (takes s db key id n holds p))

  module _ (how : Merge) (t : ℕ) (v : ℤ) where
    abbrev what : Merged
    what = met how t v n.series

    -- ---- a plan that writes this sample

    module _ (plan : Plan) (p : Point) (w : IsWritten s.limits.samples what t n.series p plan) where
      abbrev work : SourceChange
      work = Write (sample_of t w.value n.series)

      abbrev rows : Rows
      rows = rows_by_change work n.series

      abbrev gone : RemovedTimes
      gone = gone_by work n.series

      -- this is the stored data after the write
      stored : (d : StoredSeries) (new : Store) → d ≡ stored_with t w.value (stored_node s.nodes n) → first_full s.limits.samples s.nodes rows gone n.rules.items ≡ None
          → contents_of new ≡ record (contents_of s) { keys = keys_destinations_updated rows gone (rules_by (key_in s.nodes) n.rules.items) (with_key key d db_view.keys) }
          → StoredCount db_view (stored_write_merged s.limits db_view.keys key t what) (Ok t) (db_view_of new)
      stored d new same full is = (
        subst (λ (x : Merged). stored_write_merged s.limits db_view.keys key t x ≡ record { keys = (db_view_of new).keys; response = Count t }) (sym w.sets)
            (planned-answers s db key id n holds plan d t w.value (contents_of new) w.writes same full is),
        ap (λ (x : Contents). x.limits) is,
      )

      -- the plan alone leaves the rules
      pub grows : IsFor plan n.series → IsReady s id plan None None
      grows made = record {
        key = key;
        node = n;
        holds = holds;
        ready = made;
        within = within-planned n.series plan s.limits.samples t w.value fits.kept w.writes fits.within;
        few = fits.labels;
        live = live;
        grids = fits.grids;
      }

      -- ---- with plans for the rules

      module _ (rs : List Rule) (items : rs ≡ n.rules.items) (rules : Vec Rule Global) (plans : List DestinationPlan) (planned : ArePlanned s (Write p) n.series rs rules.items plans) where
        all : ArePlanned s work n.series n.rules.items rules.items plans
        all = planned-for s (Write p) work n n rs rules.items plans (ap (λ (q : Point). Write q) w.sample) refl items planned

        pub ready : IsFor plan n.series → IsReady s id plan None (Some rules)
        ready made = record {
          key = key;
          node = n;
          holds = holds;
          ready = made;
          within = within-planned n.series plan s.limits.samples t w.value fits.kept w.writes fits.within;
          few = fits.labels;
          live = changed-live s (changed_by work n.series) n.rules.items rules.items all.changed live;
          grids = changed-grids work n.series n.rules.items rules.items all.changed fits.grids;
        }

        module _ (now : Store) (else : IsElsewhere s now id) where
          pub destinations : AreDestinationPlans now plans
          destinations = for-destinations s db key id n holds now else rows gone plans all.update_dest

          pub done : (new : Store) → IsApplied s id plan None (Some rules) now
              → ((r : Rows) (g : RemovedTimes) (qs : List Rule) → AreDestinationsUpdatedBy now.limits.samples now.nodes r g qs plans → AreDistinct qs → AreDestinationsUpdated now r g qs new)
              → StoredCount db_view (stored_write_merged s.limits db_view.keys key t what) (Ok t) (db_view_of new)
          done new applied update_dest =
              let d : StoredSeries = stored_node s.nodes (node_after plan None (Some rules) n) in
              stored d new (writes-after (key_in s.nodes) n plan rules t w.value w.writes.0 all.changed) all.fit
              (worked s db key id n holds now else rows gone d (contents_of new) (applied key n holds)
              (update_dest rows gone n.rules.items (still-update_dest s db key id n holds now else rows gone plans all.update_dest) (distinct s n.rules.items (links s db key id n holds).apart)))

      -- ---- one that stays in all open buckets

      module _ (rs : List Rule) (items : rs ≡ n.rules.items) (stays : StaysOpen n.series p rs) where
        pub counted_once_more : (new : Store) → IsElsewhere s new id → IsInOrder new
            → ((k : Key) (m : Node) → Holds s k id m → contents_of new ≡ record (contents_of s) { keys = with_key k (stored_open_append s.nodes plan p m) db_view.keys })
            → StoredCount db_view (stored_write_merged s.limits db_view.keys key t what) (Ok t) (db_view_of new)
        counted_once_more new else order is =
            let sample : Point = sample_of t w.value n.series in
            let open_there : StaysOpen n.series sample n.rules.items = open-for p sample n n rs w.sample refl items stays in
            let d : StoredSeries = stored_open_append s.nodes plan sample n in
            let update_dest = still-update_dest s db key id n holds new else rows gone (no_plans n.rules.items) (none-update_dest s db.store n.series sample open_there.append n.rules.items open_there.at live) in
            stored d new (counted_once_more-after s n plan t w.value w.writes.0 open_there) (none-full s db.store n.series sample open_there.append n.rules.items open_there.at live)
            (worked s db key id n holds new else rows gone d (contents_of new)
            (is key n holds ∙ ap (λ (q : Point). record (contents_of s) { keys = with_key key (stored_open_append s.nodes plan q n) db_view.keys }) w.sample)
            (update_dest-nothing new order rows gone n.rules.items n.rules.items update_dest (distinct s n.rules.items (links s db key id n holds).apart)))
