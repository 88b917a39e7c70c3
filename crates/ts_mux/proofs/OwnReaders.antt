-- Lemmas about the readers of the open connections.
use Rattle.std.proofs.Common.{◌≡◌, ◌≢◌, ◌⊎◌, inl, inr, ℕ, Bool, true, false, ◌==◌, Option, Some, None, is_some, refl, sym, ap, ◌∙◌, subst}
use Rattle.std.proofs.lemmas.Bool.{cases_eq, eqb-true, eqb-false}
use Rattle.std.specs.Option.{IsSome, unwrap_or}
use Rattle.slab.specs.Slab as slab
use Rattle.slab.specs.Slab.{Slab}
use Rattle.slab.proofs.SlabLemmas.{Updates-with_value}
use Rattle.ts_resp.specs.Reading.{Reading}
use Rattle.ts_mux.specs.OwnReaders.{index_in, reader_at, HaveOwnReaders, RemovesReader}
use Rattle.ts_mux.specs.ClosedLinks.{index_of, reader_of, IsReaderChanged}
use Rattle.ts_mux.specs.declared.open_connections.OpenConnections.{OpenConnections}

-- an index with a reader
pub contains : (readers : Slab Reading) (index : ℕ) (reader : Reading) → slab.get readers index ≡ Some reader → slab.ContainsKey readers index
contains readers index reader there = subst (λ (o : Option Reading). IsSome o) (sym there) refl

-- an index that is found is the one that is stored
same_index : (one other : ℕ) → Some one ≡ Some other → one ≡ other
same_index one other e = ap (λ (o : Option ℕ). unwrap_or o 0) e

-- the reader at another index
other_reader : (old new : Slab Reading) (index : ℕ) (slot : Option Reading) → slab.Updates old new index slot
    → (o : Option ℕ) → (o ≡ Some index → ⊥) → reader_at new o ≡ reader_at old o
other_reader old new index slot updates None differs = refl
other_reader old new index slot updates (Some at) differs = updates.others at (λ same. differs (ap (λ (i : ℕ). Some i) same))

pub own_same : (old new : ℕ → Option ℕ) (readers rest : Slab Reading) → ((at : ℕ) → new at ≡ old at) → ((at : ℕ) → slab.get rest at ≡ slab.get readers at)
    → HaveOwnReaders old readers → HaveOwnReaders new rest
own_same old new readers rest same values own = record {
  stored = λ link index e. subst (λ (o : Option Reading). IsSome o) (sym (values index)) (own.stored link index (sym (same link) ∙ e));
  apart = λ one other index e f. own.apart one other index (sym (same one) ∙ e) (sym (same other) ∙ f);
}

-- no connection has an index
pub own_none : (indexes : ℕ → Option ℕ) (readers : Slab Reading) → ((at : ℕ) → indexes at ≡ None) → HaveOwnReaders indexes readers
own_none indexes readers none = record { stored = λ link index e. absurd (never link index e); apart = λ one other index e f. absurd (never one index e) }
  where
    never : (at index : ℕ) → indexes at ≡ Some index → ⊥
    never at index e = eqb-false 0 0 (sym (ap is_some (sym (none at) ∙ e))) refl

-- ---- the reader of a connection changes

module _ (indexes : ℕ → Option ℕ) (old new : Slab Reading) (link index : ℕ) (now : Reading) (updates : slab.Updates old new index (Some now)) (here : indexes link ≡ Some index) (own : HaveOwnReaders indexes old) where
  pub put_own : HaveOwnReaders indexes new
  put_own = record { stored = λ at i e. go i (own.stored at i e) (cases_eq i index); apart = own.apart }
    where
      go : (i : ℕ) → slab.ContainsKey old i → (i ≡ index) ⊎ (i ≢ index) → slab.ContainsKey new i
      go i there (inl same) = contains new i now (ap (slab.get new) same ∙ updates.changed)
      go i there (inr differs) = subst (λ (o : Option Reading). IsSome o) (sym (updates.others i differs)) there

  pub put_here : reader_at new (indexes link) ≡ Some now
  put_here = ap (reader_at new) here ∙ updates.changed

  pub put_others : (at : ℕ) → (at == link) ≡ false → reader_at new (indexes at) ≡ reader_at old (indexes at)
  put_others at apart = other_reader old new index (Some now) updates (indexes at) (λ e. eqb-false at link apart (own.apart at link index e here))

pub changed : {by : (was now : Reading) → Type 0} (c : OpenConnections) (new : OpenConnections) (link index : ℕ) (was now : Reading) → HaveOwnReaders (index_in c.indexes) c.readers
    → index_of c link ≡ Some index → slab.get c.readers index ≡ Some was → new.indexes ≡ c.indexes → new.reached ≡ c.reached → new.readers ≡ slab.with_value c.readers index now
    → by was now → IsReaderChanged c new link by
changed c new link index was now own here there indexes reached readers so =
    let updates = Updates-with_value c.readers index now (contains c.readers index was there) in
    let rest = slab.with_value c.readers index now in
    let same : (at : ℕ) → reader_of new at ≡ reader_at rest (index_of c at)
    = λ at. ap (λ entries. reader_at new.readers (index_in entries at)) indexes ∙ ap (λ values. reader_at values (index_of c at)) readers in
    record {
      was = was;
      now = now;
      before = ap (reader_at c.readers) here ∙ there;
      after = same link ∙ put_here (index_in c.indexes) c.readers rest link index now updates here own;
      others = λ at apart. same at ∙ put_others (index_in c.indexes) c.readers rest link index now updates here own at apart;
      indexes = indexes;
      reached = reached;
      so = so;
    }

-- ---- a connection gets a reader

module _ (old new : ℕ → Option ℕ) (link index : ℕ) (here : new link ≡ Some index) (others : (at : ℕ) → (at == link) ≡ false → new at ≡ old at) (before after : Slab Reading) (reader : Reading) (vacant : slab.get before index ≡ None) (updates : slab.Updates before after index (Some reader)) (own : HaveOwnReaders old before) where
  -- no connection has the index before
  taken : (at i : ℕ) → old at ≡ Some i → i ≢ index
  taken at i e = λ same.
      let gone : is_some (slab.get before i) ≡ false = ap (λ (o : Option Reading). is_some o) (ap (slab.get before) same ∙ vacant) in
      eqb-false 0 0 (sym (own.stored at i e) ∙ gone) refl

  pub start_own : HaveOwnReaders new after
  start_own = record { stored = λ at i e. kept at i e (at == link) refl; apart = λ one other i e f. unlike one other i e f (one == link) (other == link) refl refl }
    where
      kept : (at i : ℕ) → new at ≡ Some i → (test : Bool) → (at == link) ≡ test → slab.ContainsKey after i
      kept at i e true same =
          let its : i ≡ index = same_index i index (sym e ∙ ap new (eqb-true at link same) ∙ here) in
          contains after i reader (ap (slab.get after) its ∙ updates.changed)
      kept at i e false apart =
          let was : old at ≡ Some i = sym (others at apart) ∙ e in
          subst (λ (o : Option Reading). IsSome o) (sym (updates.others i (taken at i was))) (own.stored at i was)

      unlike : (one other i : ℕ) → new one ≡ Some i → new other ≡ Some i → (first second : Bool) → (one == link) ≡ first → (other == link) ≡ second → one ≡ other
      unlike one other i e f true true s t = eqb-true one link s ∙ sym (eqb-true other link t)
      unlike one other i e f true false s t =
          absurd (taken other i (sym (others other t) ∙ f) (same_index i index (sym e ∙ ap new (eqb-true one link s) ∙ here)))
      unlike one other i e f false true s t =
          absurd (taken one i (sym (others one s) ∙ e) (same_index i index (sym f ∙ ap new (eqb-true other link t) ∙ here)))
      unlike one other i e f false false s t = own.apart one other i (sym (others one s) ∙ e) (sym (others other t) ∙ f)

  pub start_here : reader_at after (new link) ≡ Some reader
  start_here = ap (reader_at after) here ∙ updates.changed

  pub start_others : (at : ℕ) → (at == link) ≡ false → reader_at after (new at) ≡ reader_at before (old at)
  start_others at apart = ap (reader_at after) (others at apart) ∙ other_reader before after index (Some reader) updates (old at) (λ e. taken at index e refl)

-- ---- a connection is closed

module _ (old new : ℕ → Option ℕ) (link : ℕ) (here : new link ≡ None) (others : (at : ℕ) → (at == link) ≡ false → new at ≡ old at) (before after : Slab Reading) (removes : RemovesReader before after (old link)) (own : HaveOwnReaders old before) where
  stays : (at : ℕ) → (at == link) ≡ false → reader_at after (old at) ≡ reader_at before (old at)
  stays at apart = go (old link) refl removes
    where
      go : (o : Option ℕ) → old link ≡ o → RemovesReader before after o → reader_at after (old at) ≡ reader_at before (old at)
      go None e same = ap (λ readers. reader_at readers (old at)) same
      go (Some index) e updates = other_reader before after index None updates (old at) (λ its. eqb-false at link apart (own.apart at link index its e))

  pub close_own : HaveOwnReaders new after
  close_own = record { stored = λ at i e. kept at i e (at == link) refl; apart = λ one other i e f. own.apart one other i (was one i e (one == link) refl) (was other i f (other == link) refl) }
    where
      was : (at i : ℕ) → new at ≡ Some i → (test : Bool) → (at == link) ≡ test → old at ≡ Some i
      was at i e true same = absurd (eqb-false 0 0 (sym (ap is_some (sym (ap new (eqb-true at link same) ∙ here) ∙ e))) refl)
      was at i e false apart = sym (others at apart) ∙ e

      kept : (at i : ℕ) → new at ≡ Some i → (test : Bool) → (at == link) ≡ test → slab.ContainsKey after i
      kept at i e true same = absurd (eqb-false 0 0 (sym (ap is_some (sym (ap new (eqb-true at link same) ∙ here) ∙ e))) refl)
      kept at i e false apart =
          let its : old at ≡ Some i = sym (others at apart) ∙ e in
          let there : IsSome (reader_at before (old at)) = subst (λ o. IsSome (reader_at before o)) (sym its) (own.stored at i its) in
          subst (λ o. IsSome (reader_at after o)) its (subst (λ (o : Option Reading). IsSome o) (sym (stays at apart)) there)

  pub close_others : (at : ℕ) → (at == link) ≡ false → reader_at after (new at) ≡ reader_at before (old at)
  close_others at apart = ap (reader_at after) (others at apart) ∙ stays at apart
