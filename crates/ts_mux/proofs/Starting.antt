-- Lemmas about a connection that gets a reader.
use Rattle.std.proofs.Common.{◌≡◌, ℕ, Bool, true, false, ◌==◌, List, Option, Some, None, is_some, refl, sym, ap, ◌∙◌, subst}
use Rattle.std.proofs.lemmas.Bool.{eqb-true, eqb-false}
use Rattle.std.specs.Option.{unwrap_or}
use Rattle.std.specs.Ordering.{nat_cmp}
use Rattle.std.specs.BTreeMap.{BTreeMap, get, Updates, is_at}
use Rattle.std.specs.Map.{lookup}
use Rattle.slab.specs.Slab as slab
use Rattle.slab.specs.Slab.{Slab}
use Rattle.ts_spec.specs.declared.wire.WireLimits.{WireLimits}
use Rattle.ts_spec.specs.Wire.{stream_at}
use Rattle.ts_resp.specs.Reading.{Reading, stream_of, fed}
use Rattle.ts_mux.specs.OwnReaders.{index_in, reader_at, HaveOwnReaders}
use Rattle.ts_mux.specs.Links.{stream_or, fed_in}
use Rattle.ts_mux.proofs.ClosedLinks.{index_here, index_other}
use Rattle.ts_mux.proofs.OwnReaders.{start_own, start_here, start_others}

-- room that was reserved before an update
from_reserved : (old mid new : Slab Reading) (index found : ℕ) (slot : Option Reading) → mid ≡ record old { capacity = mid.capacity } → found ≡ index
    → slab.Updates mid new found slot → slab.Updates old new index slot
from_reserved old mid new index found slot kept same updates = record {
  changed = ap (slab.get new) (sym same) ∙ updates.changed;
  others = λ other differs. updates.others other (λ e. differs (e ∙ same)) ∙ ap (λ (s : Slab Reading). slab.get s other) kept;
}

-- reserved room changes no reader
pub same_values : (old mid : Slab Reading) → mid ≡ record old { capacity = mid.capacity } → (at : ℕ) → slab.get mid at ≡ slab.get old at
same_values old mid kept at = ap (λ (s : Slab Reading). slab.get s at) kept

-- the same entries
pub same_indexes : (old new : BTreeMap ℕ (Option ℕ)) → new.entries ≡ old.entries → (at : ℕ) → index_in new at ≡ index_in old at
same_indexes old new same at = ap (λ entries. unwrap_or (lookup (is_at (nat_cmp at)) entries) None) same

-- room is reserved first, and the index is the next vacant one
module _ (old new : BTreeMap ℕ (Option ℕ)) (link index found : ℕ) (there : get nat_cmp old link ≡ Some None) (updates : Updates nat_cmp old new link (Some (Some index))) (readers mid rest : Slab Reading) (fresh : Reading) (kept : mid ≡ record readers { capacity = mid.capacity }) (is_vacant : slab.get mid index ≡ None) (is_next : index ≡ mid.vacant_key) (takes_next : found ≡ mid.vacant_key) (reserved : slab.Updates mid rest found (Some fresh)) (own : HaveOwnReaders (index_in old) readers) where
  vacant : slab.get readers index ≡ None
  vacant = sym (same_values readers mid kept index) ∙ is_vacant

  values : slab.Updates readers rest index (Some fresh)
  values = from_reserved readers mid rest index found (Some fresh) kept (takes_next ∙ sym is_next) reserved

  before : reader_at readers (index_in old link) ≡ None
  before = ap (λ (o : Option (Option ℕ)). reader_at readers (unwrap_or o None)) there

  after : reader_at rest (index_in new link) ≡ Some fresh
  after = start_here (index_in old) (index_in new) link index (index_here link (Some (Some index)) old new updates) (index_other link (Some (Some index)) old new updates) readers rest fresh vacant values own

  others : (at : ℕ) → (at == link) ≡ false → reader_at rest (index_in new at) ≡ reader_at readers (index_in old at)
  others = start_others (index_in old) (index_in new) link index (index_here link (Some (Some index)) old new updates) (index_other link (Some (Some index)) old new updates) readers rest fresh vacant values own

  pub started_own : HaveOwnReaders (index_in new) rest
  started_own = start_own (index_in old) (index_in new) link index (index_here link (Some (Some index)) old new updates) (index_other link (Some (Some index)) old new updates) readers rest fresh vacant values own

  pub started_streams : (limits : WireLimits) → ((more : List ℕ) → stream_of fresh more ≡ stream_at limits 0 more) → (at : ℕ) (more : List ℕ)
      → stream_or limits (reader_at rest (index_in new at)) more ≡ stream_or limits (reader_at readers (index_in old at)) more
  started_streams limits unsent at more = go (at == link) refl
    where
      go : (test : Bool) → (at == link) ≡ test → stream_or limits (reader_at rest (index_in new at)) more ≡ stream_or limits (reader_at readers (index_in old at)) more
      go true e = subst (λ to. stream_or limits (reader_at rest (index_in new to)) more ≡ stream_or limits (reader_at readers (index_in old to)) more) (sym (eqb-true at link e))
          (ap (λ reader. stream_or limits reader more) after ∙ unsent more ∙ sym (ap (λ reader. stream_or limits reader more) before))
      go false apart = ap (λ reader. stream_or limits reader more) (others at apart)

  pub started_fed : fed fresh ≡ 0 → (at : ℕ) → fed_in (reader_at rest (index_in new at)) ≡ fed_in (reader_at readers (index_in old at))
  started_fed unsent at = go (at == link) refl
    where
      go : (test : Bool) → (at == link) ≡ test → fed_in (reader_at rest (index_in new at)) ≡ fed_in (reader_at readers (index_in old at))
      go true e = subst (λ to. fed_in (reader_at rest (index_in new to)) ≡ fed_in (reader_at readers (index_in old to))) (sym (eqb-true at link e))
          (ap fed_in after ∙ unsent ∙ sym (ap fed_in before))
      go false apart = ap fed_in (others at apart)

  -- indexes stay; the connection had none
  pub started_indexes : (at i : ℕ) → index_in old at ≡ Some i → index_in new at ≡ Some i
  started_indexes at i e = go (at == link) refl
    where
      go : (test : Bool) → (at == link) ≡ test → index_in new at ≡ Some i
      go true same = absurd (eqb-false 0 0 (sym (ap is_some (sym (ap (index_in old) (eqb-true at link same) ∙ ap (λ (o : Option (Option ℕ)). unwrap_or o None) there) ∙ e))) refl)
      go false apart = index_other link (Some (Some index)) old new updates at apart ∙ e
