-- How many samples a write and a deletion decode for the rules of a key.
use Rattle.std.proofs.Common.{◌≡◌, ◌≤◌, ◌<◌, ◌+◌, ◌*◌, ℕ, true, List, [], ◌∷◌, map, length, refl, sym, ◌∙◌, ap, subst, arith, ltb-true}
use Rattle.std.specs.Prelude.{⊤, sum_by, Option, None, Some, option_map}
use Rattle.std.proofs.lemmas.List.Sums.{sum_by-cons}
use Rattle.slab.specs.Slab as slab
use Rattle.ts_spec.specs.Sample.{Point, between, last_of}
use Rattle.ts_spec.specs.Bucket.{start, members}
use Rattle.ts_spec.specs.Key.{Key}
use Rattle.ts_spec.specs.Keyed.{get}
use Rattle.ts_spec.specs.State.{Record, link_to}
use Rattle.ts_spec.specs.State as state
use Rattle.ts_spec.specs.Rules.{is_append, open_of}
use Rattle.ts_spec.specs.Valid.{EachRule, IsUpTo, IsSoundRule}
use Rattle.ts_spec.specs.StoredSeries.{StoredRule, StoredSeries, stored_rule, stored_record}
use Rattle.ts_spec.specs.StoredStep.{list_at, stored_rules_at}
use Rattle.ts_spec.proofs.Buckets.{start-order}
use Rattle.ts_spec.proofs.Linked.{From, mapped-from}
use Rattle.ts_spec.proofs.StoredMaps.{get-kept}
use Rattle.ts_sample.specs.Chunk.{IsPast}
use Rattle.ts_sample.specs.declared.sample.Id.{Id}
use Rattle.ts_series.specs.History.{list_of, reach}
use Rattle.ts_rules.specs.declared.rule.Rule.{Rule}
use Rattle.ts_rules.specs.Rules.{stored_rule_for}
use Rattle.ts_rules.specs.Shares as shares
use Rattle.ts_rules.specs.Shares.{in_buckets}
use Rattle.ts_db.specs.declared.node.Node.{Node}
use Rattle.ts_db.specs.declared.store.Store.{Store}
use Rattle.ts_db.specs.declared.planning.SourceChange.TheVariants.{Write, Delete}
use Rattle.ts_db.specs.DbState.{reach_at}
use Rattle.ts_db.specs.Bounds as bounds
use Rattle.ts_db.specs.Bounds.{high_at, rule_steps, write_steps, AllClosePastAll, IsEasyAppend, rule_deletion_steps, deletion_steps}
use Rattle.ts_db.specs.Planning.{share_at, shares_of, IsEasyAt, AreEasyOf}
use Rattle.ts_db.specs.Store.{rules_by, key_at, key_in, stored_node, id_for_key, db_view_of, AreLive, IsDb, Holds}
use Rattle.ts_db.proofs.Applying.{there}
use Rattle.ts_db.proofs.Reaches.{reach-held}

-- ---- an appended sample lies in no bucket before the open one

abbrev AreOpenBefore : ℕ → List StoredRule → Type 0
AreOpenBefore t [] = ⊤
AreOpenBefore t (q ∷ qs) = ((b : ℕ) → q.current ≡ Some b → b ≤ start q.grid t) × AreOpenBefore t qs

open-before : (d : Record) (r : state.Rule) (t b : ℕ) → IsSoundRule d r → is_append t d.high ≡ true → open_of r ≡ Some b → b ≤ start r.grid t
open-before d r t b s fresh is = go r.top refl d.high refl is
  where
    go : (top : Option ℕ) → r.top ≡ top → (high : Option ℕ) → d.high ≡ high → option_map (start r.grid) top ≡ Some b → b ≤ start r.grid t
    go None e high f is = absurd (cc is)
    go (Some top) e None f is = absurd (subst (λ (o : Option ℕ). IsUpTo o top) f (s.top top e))
    go (Some top) e (Some high) f is =
        let upto : top ≤ high = subst (λ (o : Option ℕ). IsUpTo o top) f (s.top top e) in
        let past : high < t = ltb-true high t (ap (is_append t) (sym f) ∙ fresh) in
        let here : start r.grid top ≡ b = cc is in
        let order : start r.grid top ≤ start r.grid t = start-order r.grid top t (omega (arith, upto, past)) in
        omega (arith, here, order)

all-before : (d : Record) (t : ℕ) (rs : List state.Rule) → is_append t d.high ≡ true → EachRule (IsSoundRule d) rs → AreOpenBefore t (map stored_rule rs)
all-before d t [] fresh x = tt
all-before d t (r ∷ rs) fresh x = (λ b is. open-before d r t b x.0 fresh is, all-before d t rs fresh x.1)

module _ (s : Store) (db : IsDb s) (key : Key) (id : Id) (n : Node) (holds : Holds s key id n) where
  rules-before : (t : ℕ) → is_append t n.series.high ≡ true → AreOpenBefore t (rules_by (key_in s.nodes) n.rules.items)
  rules-before t fresh =
      let m = db.stands.to.state in
      let is : get key (db_view_of s).keys ≡ Some (stored_node s.nodes n) = there s db.store key id n holds in
      let from : From (stored_record (link_to m key)) (get key m) (stored_node s.nodes n) =
      mapped-from (stored_record (link_to m key)) (get key m) (stored_node s.nodes n) (sym (get-kept m key) ∙ ap (get key) (sym db.stands.stands.state.kept) ∙ is) in
      subst (AreOpenBefore t) (ap (λ (q : StoredSeries). q.rules) from.gives)
      (all-before from.value t from.value.rules (ap (is_append t) (ap (λ (q : StoredSeries). q.high) from.gives) ∙ fresh) (db.stands.stands.state.valid.sound key from.value from.is).rules)

  -- ---- the destination of a rule

  holds-dest : (r : Rule) (d : Node) → slab.get s.nodes r.dest.0 ≡ Some d → Holds s (key_in s.nodes r.dest) r.dest d
  holds-dest r d at = record { number = ap (λ (o : Option Node). id_for_key (key_at o) s.keys.entries) at ∙ db.store.owned r.dest.0 d at; node = at }

  own : get key (db_view_of s).keys ≡ Some (stored_node s.nodes n)
  own = there s db.store key id n holds

  far : reach_at (db_view_of s) key ≡ reach n.series
  far = reach-held s key id n holds

  live : AreLive s.nodes n.rules.items
  live = (db.store.live id.0 n holds.node).rules

  -- ---- a write

  share-write : (p : Point) (r : Rule) (d : Node) → slab.get s.nodes r.dest.0 ≡ Some d
      → share_at (Write p) n.series r (slab.get s.nodes r.dest.0) ≡ rule_steps (db_view_of s) key p.time (stored_rule_for (key_in s.nodes r.dest) r)
  share-write p r d at =
      let dest_far : reach_at (db_view_of s) (key_in s.nodes r.dest) ≡ reach d.series = reach-held s (key_in s.nodes r.dest) r.dest d (holds-dest r d at) in
      ap (share_at (Write p) n.series r) at
      ∙ sym (λ i. length (members r.grid (start r.grid p.time) (list_at (own i))) + 4 * far i + 3 * dest_far i)

  shares-write : (p : Point) (rs : List Rule) → AreLive s.nodes rs → shares_of s.nodes (Write p) n.series rs ≡ sum_by (rule_steps (db_view_of s) key p.time) (rules_by (key_in s.nodes) rs)
  shares-write p [] nodes = refl
  shares-write p (r ∷ rs) nodes =
      let one = share-write p r nodes.0.node nodes.0.there in
      let rest = shares-write p rs nodes.1 in
      (λ i. one i + rest i) ∙ sym (sum_by-cons (rule_steps (db_view_of s) key p.time) (stored_rule_for (key_in s.nodes r.dest) r) (rules_by (key_in s.nodes) rs))

  -- what the key and its rules take
  pub write-total : (p : Point) → 3 * reach n.series + shares_of s.nodes (Write p) n.series n.rules.items ≡ write_steps (db_view_of s) key p.time
  write-total p =
      let rules : sum_by (rule_steps (db_view_of s) key p.time) (stored_rules_at (get key (db_view_of s).keys)) ≡ shares_of s.nodes (Write p) n.series n.rules.items =
      ap (λ (o : Option StoredSeries). sum_by (rule_steps (db_view_of s) key p.time) (stored_rules_at o)) own ∙ sym (shares-write p n.rules.items live) in
      sym (λ i. 3 * far i + rules i)

  -- ---- an easy append

  past-own : (t : ℕ) → bounds.IsPastAll (db_view_of s) key t → IsPast (last_of (list_of n.series)) t × (length (list_of n.series) + reach n.series < s.limits.samples)
  past-own t e = (
    subst (λ (o : Option StoredSeries). IsPast (last_of (list_at o)) t) own e.past,
    (let many : length (list_at (get key (db_view_of s).keys)) ≡ length (list_of n.series) = ap (λ (o : Option StoredSeries). length (list_at o)) own in omega (arith, e.few, many, far)),
  )

  past-dest : (r : Rule) (d : Node) (b : ℕ) → slab.get s.nodes r.dest.0 ≡ Some d → bounds.IsPastAll (db_view_of s) (key_in s.nodes r.dest) b → shares.IsPastAll s.limits.samples d.series b
  past-dest r d b at e =
      let dest : get (key_in s.nodes r.dest) (db_view_of s).keys ≡ Some (stored_node s.nodes d) = there s db.store (key_in s.nodes r.dest) r.dest d (holds-dest r d at) in
      let dest_far : reach_at (db_view_of s) (key_in s.nodes r.dest) ≡ reach d.series = reach-held s (key_in s.nodes r.dest) r.dest d (holds-dest r d at) in
      let many : length (list_at (get (key_in s.nodes r.dest) (db_view_of s).keys)) ≡ length (list_of d.series) = ap (λ (o : Option StoredSeries). length (list_at o)) dest in
      record { past = subst (λ (o : Option StoredSeries). IsPast (last_of (list_at o)) b) dest e.past; few = omega (arith, e.few, many, dest_far) }

  pub fresh-own : (t : ℕ) → IsEasyAppend (db_view_of s) key t → is_append t n.series.high ≡ true
  fresh-own t e = sym (ap (λ (o : Option StoredSeries). is_append t (high_at o)) own) ∙ e.append

  pub few-own : (t : ℕ) → IsEasyAppend (db_view_of s) key t → length (list_of n.series) + reach n.series < s.limits.samples
  few-own t e = (past-own t e.past).1

  pub last-own : (t : ℕ) → IsEasyAppend (db_view_of s) key t → IsPast (last_of (list_of n.series)) t
  last-own t e = (past-own t e.past).0

  -- so it is for each rule
  pub easy-rules : (p : Point) → IsEasyAppend (db_view_of s) key p.time → AreEasyOf s.limits.samples s.nodes (Write p) n.series n.rules.items
  easy-rules p e =
      go n.rules.items live (rules-before p.time (fresh-own p.time e)) (subst (λ (o : Option StoredSeries). AllClosePastAll (db_view_of s) p.time (stored_rules_at o)) own e.closes)
    where
      go : (rs : List Rule) → AreLive s.nodes rs → AreOpenBefore p.time (rules_by (key_in s.nodes) rs) → AllClosePastAll (db_view_of s) p.time (rules_by (key_in s.nodes) rs)
          → AreEasyOf s.limits.samples s.nodes (Write p) n.series rs
      go [] nodes before closes = tt
      go (r ∷ rs) nodes before closes = (
        subst (IsEasyAt s.limits.samples (Write p) n.series r) (sym nodes.0.there)
            (record { appends = fresh-own p.time e; not_closed = before.0; closes = λ b is past. past-dest r nodes.0.node b nodes.0.there (closes.0 b is past) }),
        go rs nodes.1 before.1 closes.1,
      )

  -- ---- a deletion

  share-delete : (from to : ℕ) (r : Rule) (d : Node) → slab.get s.nodes r.dest.0 ≡ Some d
      → share_at (Delete from to) n.series r (slab.get s.nodes r.dest.0) ≡ rule_deletion_steps (db_view_of s) key from to (stored_rule_for (key_in s.nodes r.dest) r)
  share-delete from to r d at =
      let dest : get (key_in s.nodes r.dest) (db_view_of s).keys ≡ Some (stored_node s.nodes d) = there s db.store (key_in s.nodes r.dest) r.dest d (holds-dest r d at) in
      let dest_far : reach_at (db_view_of s) (key_in s.nodes r.dest) ≡ reach d.series = reach-held s (key_in s.nodes r.dest) r.dest d (holds-dest r d at) in
      ap (share_at (Delete from to) n.series r) at
      ∙ sym (λ i. length (in_buckets r.grid from to (list_at (own i))) + 6 * far i + length (between (start r.grid from) to (list_at (dest i))) + 5 * dest_far i)

  shares-delete : (from to : ℕ) (rs : List Rule) → AreLive s.nodes rs
      → shares_of s.nodes (Delete from to) n.series rs ≡ sum_by (rule_deletion_steps (db_view_of s) key from to) (rules_by (key_in s.nodes) rs)
  shares-delete from to [] nodes = refl
  shares-delete from to (r ∷ rs) nodes =
      let one = share-delete from to r nodes.0.node nodes.0.there in
      let rest = shares-delete from to rs nodes.1 in
      (λ i. one i + rest i) ∙ sym (sum_by-cons (rule_deletion_steps (db_view_of s) key from to) (stored_rule_for (key_in s.nodes r.dest) r) (rules_by (key_in s.nodes) rs))

  -- what the key and its rules take
  pub deletion-total : (from to : ℕ) → 3 * reach n.series + shares_of s.nodes (Delete from to) n.series n.rules.items ≡ deletion_steps (db_view_of s) key from to
  deletion-total from to =
      let rules : sum_by (rule_deletion_steps (db_view_of s) key from to) (stored_rules_at (get key (db_view_of s).keys)) ≡ shares_of s.nodes (Delete from to) n.series n.rules.items =
      ap (λ (o : Option StoredSeries). sum_by (rule_deletion_steps (db_view_of s) key from to) (stored_rules_at o)) own ∙ sym (shares-delete from to n.rules.items live) in
      sym (λ i. 3 * far i + rules i)
