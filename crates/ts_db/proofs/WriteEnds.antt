-- The outcomes of a write: its result, the series that an error names, and its cost.
use Rattle.std.proofs.Common.{◌≡◌, ◌<◌, ◌≤◌, ◌+◌, ◌*◌, ℕ, ℤ, List, length, refl, sym, ◌∙◌, ap, subst, arith}
use Rattle.std.specs.Prelude.{None, Some, Result, Ok, Err, IfErr}
use Rattle.slab.specs.Slab as slab
use Rattle.ts_spec.specs.declared.limits.Limits.{Limits}
use Rattle.ts_spec.specs.declared.series.Merge.{Merge}
use Rattle.ts_spec.specs.Sample.{Point, first_of, last_of}
use Rattle.ts_spec.specs.Key.{Key}
use Rattle.ts_spec.specs.StoredSeries.{StoredKeys}
use Rattle.ts_spec.specs.StoredStep.{stored_write_merged}
use Rattle.ts_spec.specs.Response.{Count}
use Rattle.ts_spec.specs.Rules.{Merged, Refuse, KeepOld, To}
use Rattle.ts_spec.proofs.Tidy.{some-same}
use Rattle.ts_sample.specs.Chunk.{IsPast}
use Rattle.ts_sample.specs.Steps.{Takes}
use Rattle.ts_sample.specs.declared.sample.Id.{Id}
use Rattle.ts_series.specs.History.{History, list_of, reach}
use Rattle.ts_series.specs.Plan.{Plan}
use Rattle.ts_series.specs.Put.{PutAnswers, met, sample_of, unwritten_of, refusal_of as put_refusal}
use Rattle.ts_series.specs.declared.plan.PutFault.{PutFault}
use Rattle.ts_rules.specs.declared.rule.Rule.{Rule}
use Rattle.ts_db.specs.declared.fault.DbFault.{DbFault}
use Rattle.ts_db.specs.declared.node.Node.{Node}
use Rattle.ts_db.specs.declared.store.Store.{Store}
use Rattle.ts_db.specs.declared.planning.SourceChange.TheVariants.{Write}
use Rattle.ts_db.specs.Faults.{refusal_of, IsFaultAt}
use Rattle.ts_db.specs.DbState.{DbView, NamesFullSeries}
use Rattle.ts_db.specs.Planning.{gone_by, rows_by_change, first_full, IsPlanFault, shares_of, AreEasyOf}
use Rattle.ts_db.specs.Store.{key_in, id_for_key, db_view_of, HasNode, AreLive, IsDb, Holds}
use Rattle.ts_db.specs.Answering.{IsStoredAnswer, StoredCount}
use Rattle.ts_db.specs.Bounds.{write_steps, IsEasyAppend}
use Rattle.ts_db.proofs.Owning.{own-fault}
use Rattle.ts_db.proofs.Reaches.{reach-held}
use Rattle.ts_db.proofs.Destinations.{key-holds, only-key, destination-own}
use Rattle.ts_db.proofs.Working.{plan_fault-for}
use Rattle.ts_db.proofs.EasyWrites.{write-total, easy-rules, few-own, last-own}
use Rattle.ts_db.proofs.SamplesWritten.{IsUnwritten}
use Rattle.ts_db.proofs.Writing.{plan_fault-answers, refused-answers}

-- what is said of a write that ends so
pub record Ends (s : Store) (id : Id) (how : Merge) (t : ℕ) (v : ℤ) (result : Result ℕ DbFault) (new : DbView) (from to : ℕ) : Type 0 where
  pub written : (key : Key) (n : Node) → Holds s key id n → StoredCount (db_view_of s) (stored_write_merged s.limits (db_view_of s).keys key t (met how t v n.series)) result new
  pub own : (key : Key) → id_for_key key s.keys.entries ≡ Some id → IfErr result (NamesFullSeries (db_view_of s) key)
  pub steps : Takes from to (write_steps (db_view_of s) (key_in s.nodes id) t)
  pub easy : (key : Key) → id_for_key key s.keys.entries ≡ Some id → IsEasyAppend (db_view_of s) key t → to ≡ from

-- a plan that writes nothing leaves the stored data
keeps : (plan : Plan) (what : Merged) (limits : Limits) (m : StoredKeys) (key : Key) (t : ℕ) (h : History) → PutAnswers what limits.samples t h (Ok plan) → None ≡ first_of plan.wrote
    → stored_write_merged limits m key t what ≡ record { keys = m; response = Count t }
keeps plan (Refuse r) limits m key t h a none = absurd a
keeps plan KeepOld limits m key t h a none = refl
keeps plan (To v) limits m key t h a none = absurd (cc (none ∙ ap first_of a.0.wrote))

module _ (s : Store) (db : IsDb s) (id : Id) (n : Node) (at : slab.get s.nodes id.0 ≡ Some n) where
  abbrev key : Key
  key = key_in s.nodes id

  abbrev db_view : DbView
  db_view = db_view_of s

  abbrev place : HasNode s.nodes id
  place = record { node = n; there = at }

  holds : Holds s key id n
  holds = key-holds s db.store id place

  live : AreLive s.nodes n.rules.items
  live = (db.store.live id.0 n at).rules

  module _ (how : Merge) (t : ℕ) (v : ℤ) where
    abbrev what : Merged
    what = met how t v n.series

    -- what holds of the node and of its key holds of each that the id has
    ended : (result : Result ℕ DbFault) (new : DbView) (from to : ℕ) → StoredCount db_view (stored_write_merged s.limits db_view.keys key t what) result new → IfErr result (NamesFullSeries db_view key)
        → Takes from to (write_steps db_view key t) → (IsEasyAppend db_view key t → to ≡ from) → Ends s id how t v result new from to
    ended result new from to written own steps easy = record {
      written = λ k m h. subst (λ (x : Node). StoredCount db_view (stored_write_merged s.limits db_view.keys k t (met how t v x.series)) result new) (some-same n m (sym at ∙ h.node))
          (subst (λ (j : Key). StoredCount db_view (stored_write_merged s.limits db_view.keys j t what) result new) (only-key s db.store id place k h.number) written);
      own = λ k is. subst (λ (j : Key). IfErr result (NamesFullSeries db_view j)) (only-key s db.store id place k is) own;
      steps = steps;
      easy = λ k is e. easy (subst (λ (j : Key). IsEasyAppend db_view j t) (sym (only-key s db.store id place k is)) e);
    }

    -- at once, and nothing is decoded
    pub at_once : (new : DbView) → StoredCount db_view (stored_write_merged s.limits db_view.keys key t what) (Ok t) new → (from : ℕ) → Ends s id how t v (Ok t) new from from
    at_once new is from = ended (Ok t) new from from is tt (record { counted = omega arith; bounded = omega arith }) (λ e. refl)

    -- ---- where so much was decoded of the series itself

    module _ (from mid : ℕ) (took : Takes from mid (3 * reach n.series)) (spared : length (list_of n.series) + reach n.series < s.limits.samples → IsPast (last_of (list_of n.series)) t → mid ≡ from) where
      least : 3 * reach n.series ≤ write_steps db_view key t
      least = omega (arith, reach-held s key id n holds)

      alone : Takes from mid (write_steps db_view key t)
      alone = record { counted = took.counted; bounded = omega (arith, took.bounded, least) }

      easy_alone : IsEasyAppend db_view key t → mid ≡ from
      easy_alone e = spared (few-own s db key id n holds t e) (last-own s db key id n holds t e)

      -- the write is refused
      pub refused : (fault : PutFault) (told : DbFault) → PutAnswers what s.limits.samples t n.series (Err fault) → None ≡ unwritten_of fault → refusal_of db_view.ids told ≡ put_refusal fault → IsFaultAt id told
          → Ends s id how t v (Err told) db_view from mid
      refused fault told answer lost is own = ended (Err told) db_view from mid
          (refused-answers s db key id n holds fault (refusal_of db_view.ids told) what t (sym lost) is answer, refl) (own-fault s key id told holds.number own) alone easy_alone

      -- nothing is to be written
      pub unwritten : (plan : Plan) → PutAnswers what s.limits.samples t n.series (Ok plan) → None ≡ first_of plan.wrote → Ends s id how t v (Ok t) db_view from mid
      unwritten plan answer none = ended (Ok t) db_view from mid (keeps plan what s.limits db_view.keys key t n.series answer none, refl) tt alone easy_alone

      -- ---- and so much for the rules, for this sample

      module _ (p : Point) (fitting : IsUnwritten s.limits.samples what t n.series p) (rs : List Rule) (items : rs ≡ n.rules.items) (to : ℕ) (more : Takes mid to (shares_of s.nodes (Write p) n.series rs))
          (more_spared : AreEasyOf s.limits.samples s.nodes (Write p) n.series rs → to ≡ mid) where
        time : p.time ≡ t
        time = ap (λ (q : Point). q.time) fitting.sample

        total : 3 * reach n.series + shares_of s.nodes (Write p) n.series rs ≡ write_steps db_view key t
        total =
            ap (λ (l : List Rule). 3 * reach n.series + shares_of s.nodes (Write p) n.series l) items
            ∙ write-total s db key id n holds p
            ∙ ap (write_steps db_view key) time

        both : Takes from to (write_steps db_view key t)
        both = record { counted = omega (arith, took.counted, more.counted); bounded = omega (arith, took.bounded, more.bounded, total) }

        easy_both : IsEasyAppend db_view key t → to ≡ from
        easy_both e =
            more_spared (subst (AreEasyOf s.limits.samples s.nodes (Write p) n.series) (sym items) (easy-rules s db key id n holds p (subst (IsEasyAppend db_view key) (sym time) e)))
            ∙ easy_alone e

        -- a destination refuses it, or memory runs out
        pub plan_fault : (fault : DbFault) → IsPlanFault (first_full s.limits.samples s.nodes (rows_by_change (Write p) n.series) (gone_by (Write p) n.series) rs) fault → Ends s id how t v (Err fault) db_view from to
        plan_fault fault is =
            let sample : Point = sample_of t fitting.value n.series in
            ended (Err fault) db_view from to (
              subst (λ (x : Merged). IsStoredAnswer (refusal_of db_view.ids fault) db_view.keys (stored_write_merged s.limits db_view.keys key t x)) (sym fitting.sets)
                  (plan_fault-answers s db key id n holds fault t fitting.value fitting.fits
                  (plan_fault-for s (Write p) (Write sample) n n rs fault (ap (λ (q : Point). Write q) fitting.sample) refl items is)),
              refl,
            )
            (destination-own s db.store n.rules.items (rows_by_change (Write p) n.series) (gone_by (Write p) n.series) live key fault (plan_fault-for s (Write p) (Write p) n n rs fault refl refl items is))
            both easy_both

        -- it is done
        pub finished : (new : DbView) → StoredCount db_view (stored_write_merged s.limits db_view.keys key t what) (Ok t) new → Ends s id how t v (Ok t) new from to
        finished new is = ended (Ok t) new from to is tt both easy_both
