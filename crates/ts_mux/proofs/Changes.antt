-- Lemmas about what a change of the open connections leaves of a `Mux`.
use Rattle.std.proofs.Common.{◌≡◌, ℕ, ◌+◌, ◌≤◌, Bool, true, false, not, ◌&&◌, ◌==◌, if◌then◌else◌, nat_lt, List, [], ◌++◌, Option, Some, None, is_some, refl, sym, ap, ◌∙◌, subst, arith}
use Rattle.std.proofs.lemmas.Bool.{eqb-true, eqb-false}
use Rattle.std.specs.Option.{unwrap_or}
use Rattle.std.specs.Ordering.{nat_cmp}
use Rattle.std.specs.BTreeMap.{BTreeMap, get}
use Rattle.ts_spec.specs.declared.wire.WireLimits.{WireLimits}
use Rattle.ts_spec.specs.Wire.{Stream, Start}
use Rattle.ts_spec.proofs.Streams.{read_on-nil}
use Rattle.ts_resp.specs.Reading.{Reading, stream_of, fed}
use Rattle.ts_mux.specs.declared.current_connection.CurrentConnection.{CurrentConnection}
use Rattle.ts_mux.specs.declared.open_connections.OpenConnections.{OpenConnections}
use Rattle.ts_mux.specs.Order.{events_of, items_of}
use Rattle.ts_mux.specs.ClosedLinks.{is_closed, index_of, reader_of, stream_of_link, fed_to_link, IsReaderChanged, GoesTo}
use Rattle.ts_mux.specs.OwnReaders.{index_in}
use Rattle.ts_mux.specs.Links.{stream_or, fed_in, is_current, pending_of_current, current_without, AreDrained, AreFedAtMost, HasIndex}
use Rattle.ts_mux.proofs.Apart.{apart-sym}
use Rattle.ts_mux.proofs.ClosedLinks.{open_with}
use Rattle.ts_mux.proofs.Streams.{none_left, all_drained}

-- ---- the same readers

pub streams_same : (limits : WireLimits) (old new : OpenConnections) → ((at : ℕ) → reader_of new at ≡ reader_of old at)
    → (at : ℕ) (more : List ℕ) → stream_of_link limits new at more ≡ stream_of_link limits old at more
streams_same limits old new same at more = ap (λ reader. stream_or limits reader more) (same at)

pub fed_same : (old new : OpenConnections) → ((at : ℕ) → reader_of new at ≡ reader_of old at) → (at : ℕ) → fed_to_link new at ≡ fed_to_link old at
fed_same old new same at = ap fed_in (same at)

pub within_same : (most : ℕ) (old new : ℕ → ℕ) → ((at : ℕ) → new at ≡ old at) → AreFedAtMost most old → AreFedAtMost most new
within_same most old new same within = λ at. subst (λ n. n ≤ most) (sym (same at)) (within at)

pub index_same : (old new : ℕ → Option ℕ) (current : Option CurrentConnection) → ((at index : ℕ) → old at ≡ Some index → new at ≡ Some index)
    → HasIndex old current → HasIndex new current
index_same old new current same has = λ at is. same at.link at.index (has at is)

pub index_equal : (old new : ℕ → Option ℕ) (current : Option CurrentConnection) → ((at : ℕ) → new at ≡ old at) → HasIndex old current → HasIndex new current
index_equal old new current same has = index_same old new current (λ at index e. same at ∙ e) has

-- the same entries: as many connections are closed
pub closed_same : (old new : OpenConnections) → new.indexes ≡ old.indexes → new.reached ≡ old.reached → is_closed new ≡ is_closed old
closed_same old new indexes reached = ap by_entries indexes ∙ ap by_number reached
  where
    by_entries : BTreeMap ℕ (Option ℕ) → ℕ → Bool
    by_entries entries link = nat_lt link new.reached && not (is_some (get nat_cmp entries link))

    by_number : ℕ → ℕ → Bool
    by_number number link = nat_lt link number && not (is_some (get nat_cmp old.indexes link))

pub index_kept : (old new : OpenConnections) → new.indexes ≡ old.indexes → (at : ℕ) → index_of new at ≡ index_of old at
index_kept old new indexes at = ap (λ entries. index_in entries at) indexes

-- ---- one reader changes

module _ {by : (was now : Reading) → Type 0} (limits : WireLimits) (old new : OpenConnections) (link : ℕ) (changed : IsReaderChanged old new link by) where
  pub stream_before : (more : List ℕ) → stream_of_link limits old link more ≡ stream_of changed.was more
  stream_before more = ap (λ reader. stream_or limits reader more) changed.before

  pub stream_after : (more : List ℕ) → stream_of_link limits new link more ≡ stream_of changed.now more
  stream_after more = ap (λ reader. stream_or limits reader more) changed.after

  pub stream_others : (at : ℕ) → (at == link) ≡ false → (more : List ℕ) → stream_of_link limits new at more ≡ stream_of_link limits old at more
  stream_others at apart more = ap (λ reader. stream_or limits reader more) (changed.others at apart)

  pub fed_before : fed_to_link old link ≡ fed changed.was
  fed_before = ap fed_in changed.before

  pub drained_others : (current : Option CurrentConnection) (at : CurrentConnection) → current ≡ Some at → at.link ≡ link
      → AreDrained current (stream_of_link limits old) → AreDrained current (stream_of_link limits new)
  drained_others current at is here drained = λ other unlike.
      ap events_of (stream_others other
      (apart-sym link other (ap (λ to. to == other) (sym here) ∙ ap (λ c. is_current c other) (sym is) ∙ unlike)) [])
      ∙ drained other unlike

  -- every connection was fed at most as many bytes, if this one was
  pub within_changed : (most later : ℕ) → most ≤ later → fed changed.now ≤ later → AreFedAtMost most (fed_to_link old) → AreFedAtMost later (fed_to_link new)
  within_changed most later longer own within = λ at. go at (at == link) refl
    where
      go : (at : ℕ) (test : Bool) → (at == link) ≡ test → fed_to_link new at ≤ later
      go at true e = subst (λ n. n ≤ later) (sym (ap (fed_to_link new) (eqb-true at link e) ∙ ap fed_in changed.after)) own
      go at false apart =
          let same : fed_to_link new at ≡ fed_to_link old at = ap fed_in (changed.others at apart) in
          let old_most : fed_to_link old at ≤ most = within at in
          omega (arith, same, old_most, longer)

  -- the reader was fed no more bytes, or these
  pub within_next : (most : ℕ) → fed changed.now ≡ fed changed.was → AreFedAtMost most (fed_to_link old) → AreFedAtMost most (fed_to_link new)
  within_next most same within =
      let before_most : fed_to_link old link ≤ most = within link in
      within_changed most most (omega arith) (omega (arith, fed_before, same, before_most)) within

  pub within_fed : (most more : ℕ) → fed changed.now ≡ fed changed.was + more → AreFedAtMost most (fed_to_link old) → AreFedAtMost (most + more) (fed_to_link new)
  within_fed most more same within =
      let before_most : fed_to_link old link ≤ most = within link in
      within_changed most (most + more) (omega arith) (omega (arith, fed_before, same, before_most)) within

  -- a reader that is unchanged
  pub same_if : changed.now ≡ changed.was → (at : ℕ) → reader_of new at ≡ reader_of old at
  same_if same at = go (at == link) refl
    where
      go : (test : Bool) → (at == link) ≡ test → reader_of new at ≡ reader_of old at
      go true e =
          ap (reader_of new) (eqb-true at link e) ∙ changed.after ∙ ap (λ (r : Reading). Some r) same ∙ sym changed.before
          ∙ sym (ap (reader_of old) (eqb-true at link e))
      go false apart = changed.others at apart

-- ---- a connection becomes the current one

pub drained_all : (old new : ℕ → List ℕ → Stream) (current next : Option CurrentConnection) → ((at : ℕ) (more : List ℕ) → new at more ≡ old at more)
    → pending_of_current old current ++ [] ≡ [] → AreDrained current old → AreDrained next new
drained_all old new current next same none drained = λ link other. ap events_of (same link []) ∙ all_drained old current none drained link

pub left_none : (old new : ℕ → List ℕ → Stream) (current : Option CurrentConnection) (at : CurrentConnection) → ((at : ℕ) (more : List ℕ) → new at more ≡ old at more)
    → pending_of_current old current ++ [] ≡ [] → AreDrained current old → pending_of_current new (Some at) ≡ pending_of_current old current
left_none old new current at same none drained =
    ap (λ stream. items_of at.link (events_of stream)) (same at.link [])
    ∙ ap (items_of at.link) (all_drained old current none drained at.link) ∙ sym (none_left old current none)

-- it was the current one before
pub goes_here : (c : OpenConnections) (link : ℕ) (current : Option CurrentConnection) (at : CurrentConnection) → current ≡ Some at → at.link ≡ link → HasIndex (index_of c) current
    → GoesTo link c current (Some at)
goes_here c link current at is same has = (
  same,
  is,
  subst (λ to. is_closed c to ≡ false) same
      (open_with at.link c.reached at.index (get nat_cmp c.indexes at.link) (has at is)),
)

-- ---- a connection is closed

pub events_unsent : (limits : WireLimits) (reader : Option Reading) → reader ≡ None → events_of (stream_or limits reader []) ≡ []
events_unsent limits reader none = ap (λ reader. events_of (stream_or limits reader [])) none ∙ ap events_of (read_on-nil limits 0 0 Start)

not_current : (link : ℕ) (current : Option CurrentConnection) (at : ℕ) → (at == link) ≡ false → is_current (current_without link current) at ≡ false → is_current current at ≡ false
not_current link None at apart other = refl
not_current link (Some c) at apart other = go (c.link == link) refl other
  where
    go : (test : Bool) → (c.link == link) ≡ test → is_current (if test then None else Some c) at ≡ false → (c.link == at) ≡ false
    go true e other = ap (λ to. to == at) (eqb-true c.link link e) ∙ apart-sym at link apart
    go false e other = other

module _ (limits : WireLimits) (old new : OpenConnections) (link : ℕ) (gone : reader_of new link ≡ None) (others : (at : ℕ) → (at == link) ≡ false → reader_of new at ≡ reader_of old at) where
  pub closed_others : (at : ℕ) → (at == link) ≡ false → (more : List ℕ) → stream_of_link limits new at more ≡ stream_of_link limits old at more
  closed_others at apart more = ap (λ reader. stream_or limits reader more) (others at apart)

  pub closed_drained : (current : Option CurrentConnection) → AreDrained current (stream_of_link limits old) → AreDrained (current_without link current) (stream_of_link limits new)
  closed_drained current drained = λ at other. go at other (at == link) refl
    where
      go : (at : ℕ) → is_current (current_without link current) at ≡ false → (test : Bool) → (at == link) ≡ test → events_of (stream_of_link limits new at []) ≡ []
      go at other true e = ap (λ to. events_of (stream_of_link limits new to [])) (eqb-true at link e) ∙ events_unsent limits (reader_of new link) gone
      go at other false apart = ap events_of (closed_others at apart []) ∙ drained at (not_current link current at apart other)

  pub closed_within : (most : ℕ) → AreFedAtMost most (fed_to_link old) → AreFedAtMost most (fed_to_link new)
  closed_within most within = λ at. go at (at == link) refl
    where
      go : (at : ℕ) (test : Bool) → (at == link) ≡ test → fed_to_link new at ≤ most
      go at true e =
          let none : fed_to_link new at ≡ 0 = ap (fed_to_link new) (eqb-true at link e) ∙ ap fed_in gone in
          omega (arith, none)
      go at false apart = subst (λ n. n ≤ most) (sym (ap fed_in (others at apart))) (within at)

-- the number and the index of the current connection
pub same_current : (one other : CurrentConnection) → Some one ≡ Some other → one ≡ other
same_current one other e = ap (λ (o : Option CurrentConnection). unwrap_or o one) e

pub index_at : (indexes : ℕ → Option ℕ) (at : CurrentConnection) → indexes at.link ≡ Some at.index → HasIndex indexes (Some at)
index_at indexes at has = λ other is. subst (λ to. indexes to.link ≡ Some to.index) (same_current at other is) has

pub closed_index : (old new : ℕ → Option ℕ) (link : ℕ) (current : Option CurrentConnection) → ((at : ℕ) → (at == link) ≡ false → new at ≡ old at)
    → HasIndex old current → HasIndex new (current_without link current)
closed_index old new link None others has = λ at is. absurd (eqb-false 0 0 (sym (ap is_some is)) refl)
closed_index old new link (Some c) others has = λ at is. go at (c.link == link) refl is
  where
    go : (at : CurrentConnection) (test : Bool) → (c.link == link) ≡ test → (if test then None else Some c) ≡ Some at → new at.link ≡ Some at.index
    go at true e is = absurd (eqb-false 0 0 (sym (ap is_some is)) refl)
    go at false e is = others at.link (subst (λ to. (to.link == link) ≡ false) (same_current c at is) e) ∙ has at is
