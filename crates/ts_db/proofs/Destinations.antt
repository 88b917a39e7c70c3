-- Changes of a source that fail because a destination would be full.
use Rattle.std.proofs.Common.{◌≡◌, Bool, true, false, List, [], ◌∷◌, length, refl, sym, ◌∙◌, ap, subst, eqb-true, eq-eqb}
use Rattle.std.specs.Prelude.{◌==◌, nat_lt, if◌then◌else◌, Option, None, Some, option_map}
use Rattle.std.proofs.lemmas.Bool.{and_parts}
use Rattle.ts_spec.specs.Refusal.{DestinationFull}
use Rattle.ts_spec.specs.Key.{Key, same}
use Rattle.ts_spec.specs.Keyed.{Entry, get_in, is_below, is_sorted, get}
use Rattle.ts_spec.specs.StoredSeries.{StoredKeys}
use Rattle.ts_spec.specs.StoredStep.{StoredOutcome, stored_refused, stored_unless_full}
use Rattle.ts_spec.proofs.Keys.{same-refl, same-true}
use Rattle.ts_spec.proofs.Maps.{below-get}
use Rattle.ts_spec.proofs.Tidy.{some-same}
use Rattle.ts_sample.specs.declared.sample.Id.{Id}
use Rattle.ts_rules.specs.declared.rule.Rule.{Rule}
use Rattle.ts_db.specs.declared.fault.DbFault.{DbFault}
use Rattle.ts_db.specs.declared.fault.DbFault.TheVariants.{KeyExists, NoKey, KeysFull, LabelsFull, TooOld, Duplicate, OutOfRange, BeforeLast, SamplesFull, DeleteBeyondRetention, SameKey, SourceIsDest, DestIsSource, DestHasSource, RulesSpent, RulesFull, NoRule, Memory}
use Rattle.ts_db.specs.declared.store.Store.{Store}
use Rattle.ts_db.specs.Faults.{key_among, key_of_id, full_refusal, refusal_of}
use Rattle.ts_db.specs.DestinationUpdates.{Rows, RemovedTimes}
use Rattle.ts_db.specs.DbState.{IsLive, AllowsOutOfMemory, IsFullAt, NamesFullSeries}
use Rattle.ts_db.specs.Planning.{updated_dest_list, first_full, IsPlanFault}
use Rattle.ts_db.specs.Store.{key_at, key_in, id_for_key, db_view_of, HasNode, AreLive, IsInOrder, Holds}
use Rattle.ts_db.specs.Answering.{IsStoredAnswer}
use Rattle.ts_db.proofs.Collecting.{get-ids, id-same}

-- ---- the key of an id

pub among : (es : List (Entry Id)) → is_sorted es ≡ true → (k : Key) (i : Id) → get_in k es ≡ Some i → ((j : Key) → get_in j es ≡ Some i → j ≡ k) → key_among i.0 es ≡ k
among [] sorted k i is one = absurd (cc is)
among (e ∷ es) sorted k i is one = go (e.value.0 == i.0) refl (among es (and_parts (is_below e.key es) (is_sorted es) sorted).1 k i)
  where
    parts : (is_below e.key es ≡ true) × (is_sorted es ≡ true)
    parts = and_parts (is_below e.key es) (is_sorted es) sorted

    go : (b : Bool) → (e.value.0 == i.0) ≡ b → (get_in k es ≡ Some i → ((j : Key) → get_in j es ≡ Some i → j ≡ k) → key_among i.0 es ≡ k) → (if b then e.key else key_among i.0 es) ≡ k
    go true x ih =
        one e.key (ap (λ b. if b then Some e.value else get_in e.key es) (same-refl e.key) ∙ ap (λ (j : Id). Some j) (id-same e.value i (eqb-true e.value.0 i.0 x)))
    go false x ih = ih (rest (same e.key k) is) (λ j y. one j (later j y (same e.key j) refl))
      where
        rest : (b : Bool) → (if b then Some e.value else get_in k es) ≡ Some i → get_in k es ≡ Some i
        rest true y = absurd (cc (sym x, eq-eqb e.value.0 i.0 (ap (λ (j : Id). j.0) (some-same e.value i y))))
        rest false y = y

        later : (j : Key) → get_in j es ≡ Some i → (b : Bool) → same e.key j ≡ b → (if b then Some e.value else get_in j es) ≡ Some i
        later j y true z = absurd (cc (sym y, ap (λ (q : Key). get_in q es) (sym (same-true e.key j z)) ∙ below-get e.key es parts.0))
        later j y false z = y

module _ (s : Store) (store : IsInOrder s) (i : Id) (live : HasNode s.nodes i) where
  numbered : get live.node.key (db_view_of s).ids ≡ Some i
  numbered = get-ids live.node.key s.keys.entries ∙ store.owned i.0 live.node live.there

  pub key-with : key_of_id (db_view_of s).ids i ≡ key_in s.nodes i
  key-with =
      among (db_view_of s).ids.entries (db_view_of s).ids.sorted live.node.key i numbered
      (λ j is. sym (store.named j i live.node (sym (get-ids j s.keys.entries) ∙ is) live.there))
      ∙ sym (ap key_at live.there)

  -- it has that id, and no other key has it
  pub key-holds : Holds s (key_in s.nodes i) i live.node
  key-holds = record { number = ap (λ (k : Key). id_for_key k s.keys.entries) (ap key_at live.there) ∙ store.owned i.0 live.node live.there; node = live.there }

  pub only-key : (k : Key) → id_for_key k s.keys.entries ≡ Some i → key_in s.nodes i ≡ k
  only-key k is = ap key_at live.there ∙ store.named k i live.node is live.there

  -- the same for the key of the id, in the view of contracts
  pub with-number : get (key_of_id (db_view_of s).ids i) (db_view_of s).ids ≡ Some i
  with-number = ap (λ (k : Key). get k (db_view_of s).ids) key-with ∙ get-ids (key_in s.nodes i) s.keys.entries ∙ key-holds.number

  pub only-with : (k : Key) → get k (db_view_of s).ids ≡ Some i → key_of_id (db_view_of s).ids i ≡ k
  only-with k is = key-with ∙ only-key k (sym (get-ids k s.keys.entries) ∙ is)

  pub live-number : IsLive (db_view_of s).ids i
  live-number = record { key = live.node.key; is = numbered }

-- ---- the first destination that is full

-- memory may run out only if no destination refuses
pub none-full-yields : (names : Id → Key) (m : StoredKeys) (full : Option Id) (done : StoredOutcome) → full ≡ None → AllowsOutOfMemory done.response
    → AllowsOutOfMemory (stored_unless_full m (option_map names full) done).response
none-full-yields names m full done none yields = subst (λ (o : Option Id). AllowsOutOfMemory (stored_unless_full m (option_map names o) done).response) (sym none) yields

module _ (s : Store) (store : IsInOrder s) (rs : List Rule) (rows : Rows) (gone : RemovedTimes) (lives : AreLive s.nodes rs) where
  full-live : (i : Id) → first_full s.limits.samples s.nodes rows gone rs ≡ Some i → HasNode s.nodes i
  full-live i is = go rs lives is
    where
      go : (ps : List Rule) → AreLive s.nodes ps → first_full s.limits.samples s.nodes rows gone ps ≡ Some i → HasNode s.nodes i
      go [] l x = absurd (cc x)
      go (p ∷ ps) l x = pick (nat_lt s.limits.samples (length (updated_dest_list s.nodes rows gone p))) x (λ y. go ps l.1 y)
        where
          pick : (b : Bool) → (if b then Some p.dest else first_full s.limits.samples s.nodes rows gone ps) ≡ Some i → (first_full s.limits.samples s.nodes rows gone ps ≡ Some i → HasNode s.nodes i) → HasNode s.nodes i
          pick true y ih = subst (λ (j : Id). HasNode s.nodes j) (some-same p.dest i y) l.0
          pick false y ih = ih y

  -- the step refuses for that destination, and the error has its id
  pub destination-refused : (fault : DbFault) (done : StoredOutcome)
      → (first_full s.limits.samples s.nodes rows gone rs ≡ None → AllowsOutOfMemory (stored_unless_full (db_view_of s).keys (option_map (key_in s.nodes) (first_full s.limits.samples s.nodes rows gone rs)) done).response)
      → IsPlanFault (first_full s.limits.samples s.nodes rows gone rs) fault
      → IsStoredAnswer (refusal_of (db_view_of s).ids fault) (db_view_of s).keys (stored_unless_full (db_view_of s).keys (option_map (key_in s.nodes) (first_full s.limits.samples s.nodes rows gone rs)) done)
  destination-refused KeyExists done lost x = absurd x
  destination-refused NoKey done lost x = absurd x
  destination-refused KeysFull done lost x = absurd x
  destination-refused LabelsFull done lost x = absurd x
  destination-refused TooOld done lost x = absurd x
  destination-refused Duplicate done lost x = absurd x
  destination-refused OutOfRange done lost x = absurd x
  destination-refused BeforeLast done lost x = absurd x
  destination-refused (SamplesFull i written) done lost x =
      ap (λ (o : Option Id). stored_unless_full (db_view_of s).keys (option_map (key_in s.nodes) o) done) x.1
      ∙ ap (λ (k : Key). stored_refused (db_view_of s).keys (DestinationFull k)) (sym (key-with s store i (full-live i x.1)))
      ∙ ap (λ b. stored_refused (db_view_of s).keys (full_refusal b (key_of_id (db_view_of s).ids i))) (sym x.0)
  destination-refused DeleteBeyondRetention done lost x = absurd x
  destination-refused SameKey done lost x = absurd x
  destination-refused SourceIsDest done lost x = absurd x
  destination-refused DestIsSource done lost x = absurd x
  destination-refused DestHasSource done lost x = absurd x
  destination-refused RulesSpent done lost x = absurd x
  destination-refused RulesFull done lost x = absurd x
  destination-refused NoRule done lost x = absurd x
  destination-refused (Memory e) done lost x = lost x

  pub destination-own : (key : Key) (fault : DbFault) → IsPlanFault (first_full s.limits.samples s.nodes rows gone rs) fault → NamesFullSeries (db_view_of s) key fault
  destination-own key (SamplesFull i written) x = subst (IsFullAt (db_view_of s).ids key i) (sym x.0) (live-number s store i (full-live i x.1))
  destination-own key (Memory e) x = tt
  destination-own key fault x = absurd x
