-- Ignored samples: node and stored data agree on which are ignored, and writing one changes nothing.
use Rattle.std.proofs.Common.{◌≡◌, ◌≤◌, ◌<◌, ℕ, ℤ, Bool, true, false, List, [], refl, sym, ◌∙◌, ap, subst, arith, leb-true, ltb-true}
use Rattle.std.specs.Prelude.{◌-◌, nat_lt, nat_le, ◌&&◌, if◌then◌else◌, Option, None, Some, is_some, option_map}
use Rattle.std.proofs.lemmas.Bool.{false≢true, and_parts}
use Rattle.ts_spec.specs.declared.series.Options.{Options}
use Rattle.ts_spec.specs.declared.series.Merge.{Merge}
use Rattle.ts_spec.specs.Refusal as refusal
use Rattle.ts_spec.specs.Response.{Count}
use Rattle.ts_spec.specs.Sample.{Point, last_of}
use Rattle.ts_spec.specs.Rules.{merge}
use Rattle.ts_spec.specs.Step.{value_at}
use Rattle.ts_spec.specs.Key.{Key}
use Rattle.ts_spec.specs.Keyed.{get}
use Rattle.ts_spec.specs.StoredSeries.{StoredSeries, StoredKeys}
use Rattle.ts_spec.specs.Ignoring.{is_last, is_near, is_close, ignored_after, stored_ignored}
use Rattle.ts_spec.specs.StoredStep.{StoredOutcome, stored_refused, unchanged_with, stored_write_merged, stored_unless_ignored, stored_write}
use Rattle.ts_sample.specs.declared.sample.Id.{Id}
use Rattle.ts_series.specs.History.{History, list_of, low, IsKept}
use Rattle.ts_series.specs.Put.{met}
use Rattle.ts_series.proofs.Expired.{none-kept}
use Rattle.ts_db.specs.declared.node.Node.{Node}
use Rattle.ts_db.specs.declared.store.Store.{Store}
use Rattle.ts_db.specs.Store.{stored_node, key_in, db_view_of, IsInOrder, IsNode, Holds}
use Rattle.ts_db.specs.Writes.{ignored_by}
use Rattle.ts_db.specs.Bounds.{ignored_at, IsIgnored}
use Rattle.ts_db.proofs.Applying.{there}
use Rattle.ts_db.proofs.Writing.{write-met}

-- the last sample of a list, of which a sample is ignored
record Closes (ps : List Point) (t last : ℕ) : Type 0 where
  sample : Point
  is : last_of ps ≡ Some sample
  time : sample.time ≡ last
  upto : last ≤ t

closes : (options : Options) (ps : List Point) (t : ℕ) (v : ℤ) (last : ℕ) → ignored_after options (last_of ps) t v ≡ Some last → Closes ps t last
closes options ps t v last e = go (last_of ps) refl e
  where
    by_test : (p : Point) (b : Bool) → last_of ps ≡ Some p → (is_last options.policy && is_close options.ignore p t v) ≡ b → (if b then Some p.time else None) ≡ Some last → Closes ps t last
    by_test p true is x y =
        let close : is_close options.ignore p t v ≡ true = (and_parts (is_last options.policy) (is_close options.ignore p t v) x).1 in
        let times = and_parts (nat_le p.time t && nat_le (t - p.time) options.ignore.time) (is_near options.ignore.value p.value v) close in
        let upto : p.time ≤ t = leb-true p.time t (and_parts (nat_le p.time t) (nat_le (t - p.time) options.ignore.time) times.0).0 in
        let same : p.time ≡ last = cc y in
        record { sample = p; is = is; time = same; upto = subst (λ (u : ℕ). u ≤ t) same upto }
    by_test p false is x y = absurd (cc y)

    go : (o : Option Point) → last_of ps ≡ o → ignored_after options o t v ≡ Some last → Closes ps t last
    go None is x = absurd (cc x)
    go (Some p) is x = by_test p (is_last options.policy && is_close options.ignore p t v) is refl x

closes-by : (n : Node) (t : ℕ) (v : ℤ) (last : ℕ) → ignored_by n t v ≡ Some last → Closes (list_of n.series) t last
closes-by n t v last e = go (is_some n.source) e
  where
    go : (b : Bool) → (if b then None else ignored_after n.series.options (last_of (list_of n.series)) t v) ≡ Some last → Closes (list_of n.series) t last
    go true x = absurd (cc x)
    go false x = closes n.series.options (list_of n.series) t v last x

-- the last sample is at or past the edge, so an ignored one is not too old
late-enough : (h : History) (t last : ℕ) → IsKept h → Closes (list_of h) t last → nat_lt t (low h) ≡ false
late-enough h t last kept c = go (nat_lt t (low h)) refl
  where
    some-there : (ps : List Point) (p : Point) → last_of ps ≡ Some p → ps ≡ [] → false ≡ true
    some-there ps p is e = absurd (cc (sym is ∙ ap last_of e))

    go : (b : Bool) → nat_lt t (low h) ≡ b → b ≡ false
    go false x = refl
    go true x =
        let before : t < low h = ltb-true t (low h) x in
        let upto : last ≤ t = c.upto in
        let early : c.sample.time < low h = subst (λ (u : ℕ). u < low h) (sym c.time) (omega arith) in
        absurd (false≢true (some-there (list_of h) c.sample c.is (sym kept.past_edge ∙ none-kept (low h) (list_of h) c.sample kept.ascending c.is early)))

module _ (s : Store) (store : IsInOrder s) (key : Key) (id : Id) (n : Node) (holds : Holds s key id n) (t : ℕ) (v : ℤ) where
  -- a link is part of the stored data
  pub kept-by : stored_ignored (stored_node s.nodes n) t v ≡ ignored_by n t v
  kept-by = ap (λ (b : Bool). if b then None else ignored_after n.series.options (last_of (list_of n.series)) t v) (same_source n.source)
    where
      same_source : (o : Option Id) → is_some (option_map (key_in s.nodes) o) ≡ is_some o
      same_source None = refl
      same_source (Some id) = refl

  kept-at : ignored_at (get key (db_view_of s).keys) t v ≡ ignored_by n t v
  kept-at = ap (λ (o : Option StoredSeries). ignored_at o t v) (there s store key id n holds) ∙ kept-by

  -- what is not ignored is not told to be
  pub not-ignored : None ≡ ignored_by n t v → IsIgnored (db_view_of s) key t v → false ≡ true
  not-ignored none is = ap is_some (none ∙ sym kept-at) ∙ is

  pub ignored-upto : (last : ℕ) → Some last ≡ ignored_by n t v → last ≤ t
  ignored-upto last is = (closes-by n t v last (sym is)).upto

  pub ignored-late : (last : ℕ) → Some last ≡ ignored_by n t v → nat_lt t (low n.series) ≡ false
  ignored-late last is =
      let node : IsNode s.limits n = store.each id.0 n holds.node in
      late-enough n.series t last node.kept (closes-by n t v last (sym is))

  -- a write of a sample that is ignored tells the time of the last one
  pub write-ignored : (how : Merge) (last : ℕ) → Some last ≡ ignored_by n t v
      → stored_write s.limits (db_view_of s).keys key (stored_node s.nodes n) how t v ≡ unchanged_with (db_view_of s).keys (Count last)
  write-ignored how last is =
      let m : StoredKeys = (db_view_of s).keys in
      let merged : StoredOutcome = stored_write_merged s.limits m key t (merge how (value_at t (list_of n.series)) v) in
      ap (λ (b : Bool). if b then stored_refused m refusal.TooOld else stored_unless_ignored m (stored_ignored (stored_node s.nodes n) t v) merged) (ignored-late last is)
      ∙ ap (λ (o : Option ℕ). stored_unless_ignored m o merged) (kept-by ∙ sym is)

  -- one of another sample is what the value comes to
  pub write-unignored : (how : Merge) → None ≡ ignored_by n t v
      → stored_write s.limits (db_view_of s).keys key (stored_node s.nodes n) how t v ≡ stored_write_merged s.limits (db_view_of s).keys key t (met how t v n.series)
  write-unignored how none = write-met (db_view_of s).keys s key n how t v (kept-by ∙ sym none)
