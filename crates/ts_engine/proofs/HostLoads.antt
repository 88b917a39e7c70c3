-- A host over the journal that was loaded, and in memory alone.
use Rattle.std.specs.Prelude.{Option, None, Some, Ok}
use Rattle.std.proofs.Common.{◌≡◌, ◌⊎◌, inl, inr, ◌≤◌, ◌<◌, ◌+◌, ℕ, false, List, [], ◌∷◌, ◌++◌, length, take, length-take, refl, sym, ◌∙◌, ap, subst, arith}
use Rattle.std.proofs.lemmas.List.Elements.{All-nil}
use Rattle.ts_io.specs.declared.hub.Step.{Step}
use Rattle.ts_io.proofs.Adding.{adds_none}
use Rattle.ts_spec.specs.State.{State, empty}
use Rattle.ts_spec.specs.StoredSeries as stored
use Rattle.ts_spec.specs.StreamPrefixes.{IsWithin}
use Rattle.ts_spec.specs.Valid.{IsValid}
use Rattle.ts_spec.specs.declared.limits.Limits.{Limits}
use Rattle.ts_db.specs.DbState.{DbState}
use Rattle.ts_journal.specs.Limits.{IsBounded}
use Rattle.ts_journal.specs.Loading.{Loads}
use Rattle.ts_checkpoint.specs.Loading.{load, LoadsTo}
use Rattle.ts_checkpoint.proofs.JournalLoads.{whole-loads, load-within}
use Rattle.ts_words.specs.declared.status.Status.{Status}
use Rattle.ts_words.specs.declared.status.Status.TheVariants as status
use Rattle.ts_execution.specs.Journaling.{Snapshot, kept}
use Rattle.ts_execution.specs.declared.loading.Extent.{Extent}
use Rattle.ts_host.specs.Causes.{Faults}
use Rattle.ts_host.specs.Http.{closes}
use Rattle.ts_host.specs.Steps.{Takes, frames_of, weight}
use Rattle.ts_host.specs.declared.host.HostFault.TheVariants as fault
use Rattle.ts_host.specs.declared.serving.HubEnd.{HubEnd}
use Rattle.ts_host.specs.declared.serving.HubEnd.TheVariants as served
use Rattle.ts_engine.specs.declared.host_end.HostEnd.{HostEnd}
use Rattle.ts_engine.specs.declared.host_end.HostEnd.TheVariants as end
use Rattle.ts_engine.specs.Answered.{IsOutOfMemoryOr}
use Rattle.ts_engine.specs.HostEnds.{HasHostCauses, NoHostFault, status_of}
use Rattle.ts_engine.specs.Folded.{HasFold}
use Rattle.ts_engine.specs.Folding.{HasCheckpoint}
use Rattle.ts_engine.specs.HostPrefixes.{HostRun, HostPrefixes}
use Rattle.ts_engine.specs.Hosted.{HostView, AllAnswered, SomeAnswered, Answered, Served, EndsFrom, run_of_all, run_of_some, no_run, run_answered, run_of, world_begun, Begins, EndsLoaded, EndsOver, status_hosted}
use Rattle.ts_engine.specs.Opening.{IsOpened, unloaded_status}
use Rattle.ts_engine.proofs.HostPrefixItems.{order-within, answered-within, left-within}
use Rattle.ts_engine.proofs.HostPrefixLemmas.{run-prefixes}
use Rattle.ts_engine.proofs.HostPrefixRuns.{answers-run}
use Rattle.ts_engine.proofs.Openings.{opened-below, unloaded-complete}

-- ---- each prefix of the journal

module _ (run : HostView) (bounded : IsBounded run.seen.limits.wire) (bytes : List ℕ) (left : Option (List ℕ)) (begun : State) (content : List ℕ) (whole : LoadsTo run.seen.limits content begun) where
  abbrev world : Snapshot
  world = world_begun run bytes left begun content

  abbrev Prefixes : HostRun → Type 0
  Prefixes requests = HostPrefixes run.seen.limits content world requests left

  all-prefixes : {steps : List Step} → (all : AllAnswered run world left steps) → Prefixes (run_of_all run world left all)
  all-prefixes {steps} all =
      run-prefixes run.seen.limits bounded content world refl refl whole (run_of_all run world left all) left
      (answers-run all.answers) (answered-within run.seen.limits.wire all.answers (order-within run.seen.limits.wire closes (frames_of steps)))
      (refl, refl) (All-nil (IsWithin run.seen.limits.wire)) ([], adds_none left) ([], adds_none left)

  some-prefixes : {steps : List Step} → (some : SomeAnswered run world left steps) → Prefixes (run_of_some run world left some)
  some-prefixes {steps} some =
      let within = order-within run.seen.limits.wire closes (frames_of steps) in
      run-prefixes run.seen.limits bounded content world refl refl whole (run_of_some run world left some) left
      (answers-run some.first) (answered-within run.seen.limits.wire some.first within)
      (answers-run some.second) (answered-within run.seen.limits.wire some.second (left-within run.seen.limits.wire some.first within))
      some.settled some.within

  no-prefixes : left ≡ world.content → Prefixes (no_run run world left)
  no-prefixes same =
      run-prefixes run.seen.limits bounded content world refl refl whole (no_run run world left) left
      (refl, refl) (All-nil (IsWithin run.seen.limits.wire)) (refl, refl) (All-nil (IsWithin run.seen.limits.wire))
      ([], same ∙ adds_none world.content) ([], sym same ∙ adds_none left)

  answered-prefixes : (e : HubEnd) (steps : List Step) (answered : Answered run world left e steps) → Prefixes (run_answered run world left e steps answered)
  answered-prefixes served.Ended steps answered = all-prefixes answered.0
  answered-prefixes served.Budget steps answered = all-prefixes answered.0
  answered-prefixes (served.Stopped fault) steps answered = some-prefixes answered

  its-prefixes : (e : HostEnd) (ends : EndsFrom run world left e) → Prefixes (run_of run world left e ends)
  its-prefixes (end.Served e) ends = answered-prefixes e ends.steps ends.answered
  its-prefixes end.NotReady ends = no-prefixes ends.0.journal
  its-prefixes end.NotOpened ends = no-prefixes ends.0.journal
  its-prefixes end.NoMemory ends = no-prefixes ends.0
  its-prefixes end.NotFolded ends = absurd ends
  its-prefixes (end.NotLoaded e) ends = absurd ends

  module _ (loaded : State) (place : ℕ) (loads : load run.seen.limits bytes ≡ Loads loaded place) (below : length bytes < run.budget) (begins : Begins run bytes left loaded place content begun) where
    ends-loaded : (e : HostEnd) → EndsFrom run world left e → EndsLoaded run bytes left e
    ends-loaded e ends =
        record { loaded = loaded; place = place; loads = loads; read_whole = below; content = content; begun = begun; begins = begins; ends = ends; prefixes = its-prefixes e ends }

    pub ends-over : (e : HostEnd) → EndsFrom run world left e → EndsOver run bytes left e
    ends-over (end.Served e) ends = ends-loaded (end.Served e) ends
    ends-over end.NotReady ends = ends-loaded end.NotReady ends
    ends-over end.NotOpened ends = ends-loaded end.NotOpened ends
    ends-over end.NoMemory ends = ends-loaded end.NoMemory ends
    ends-over end.NotFolded ends = absurd ends
    ends-over (end.NotLoaded e) ends = absurd ends

-- ---- the journal was opened

world-is : (readings told : Option (List ℕ)) (limits : Limits) (content : List ℕ) (mid : DbState) → told ≡ Some content → mid.limits ≡ limits
    → kept readings told false mid ≡ kept readings (Some content) false (record { limits = limits; state = mid.state })
world-is readings told limits content mid stored same =
    ap (λ (o : Option (List ℕ)). kept readings o false mid) stored ∙ ap (λ (l : Limits). kept readings (Some content) false (record { limits = l; state = mid.state })) same

-- the journal was opened, and cut
module _ (run : HostView) (bounded : IsBounded run.seen.limits.wire) (bytes : List ℕ) (between left : Option (List ℕ)) (mid : DbState) (extent : Extent)
    (opened : IsOpened (Ok extent) run.seen.limits.wire run.budget (record { limits = run.seen.limits; state = empty }) mid bytes between) where
  its-size : length (take extent.end bytes) ≡ extent.end
  its-size = omega (arith, length-take extent.end bytes, load-within run.seen.limits bytes mid.state extent.end opened.0.0)

  its-loads : LoadsTo run.seen.limits (take extent.end bytes) mid.state
  its-loads = whole-loads run.seen.limits bytes mid.state extent.end opened.0.0 ∙ ap (λ (n : ℕ). Loads mid.state n) (sym its-size)

  -- the run began with that
  pub opened-over : (e : HostEnd) → EndsFrom run (kept run.seen.readings between false mid) left e → EndsOver run bytes left e
  opened-over e ends =
      ends-over run bounded bytes left mid.state (take extent.end bytes) its-loads mid.state extent.end opened.0.0 opened.0.2 (inl (refl, refl)) e
      (subst (λ (w : Snapshot). EndsFrom run w left e) (world-is run.seen.readings between run.seen.limits (take extent.end bytes) mid opened.1 opened.0.1) ends)

  -- the run began with a fold of it
  pub folded-over : (told : Option (List ℕ)) (has : HasCheckpoint mid told) (e : HostEnd) → EndsFrom run (kept run.seen.readings told false (record { limits = mid.limits; state = has.new })) left e
      → EndsOver run bytes left e
  folded-over told has e ends =
      let whole : LoadsTo run.seen.limits has.checkpoint has.new = subst (λ (l : Limits). LoadsTo l has.checkpoint has.new) opened.0.1 has.whole in
      ends-over run bounded bytes left has.new has.checkpoint whole mid.state extent.end opened.0.0 opened.0.2 (inr (whole, sym has.same.kept)) e
      (subst (λ (w : Snapshot). EndsFrom run w left e) (world-is run.seen.readings told run.seen.limits has.checkpoint (record { limits = mid.limits; state = has.new }) has.content opened.0.1) ends)

  -- it could not be folded
  pub unfolded-over : run.same_hub → run.same_output → run.same_clock → (left ≡ between) ⊎ HasCheckpoint mid left → EndsOver run bytes left end.NotFolded
  unfolded-over hub output clock has = record {
    loaded = mid.state;
    place = extent.end;
    loads = opened.0.0;
    read_whole = opened.0.2;
    same_hub = hub;
    same_output = output;
    same_clock = clock;
    journal = left-journal has;
  }
    where
      left-journal : (left ≡ between) ⊎ HasCheckpoint mid left → (left ≡ Some (take extent.end bytes)) ⊎ HasFold run.seen.limits bytes left
      left-journal (inl same) = inl (same ∙ opened.1)
      left-journal (inr fold) = inr (record {
        folded = fold.checkpoint;
        content = fold.content;
        is_fold = record {
          old = mid.state;
          place = extent.end;
          loads = opened.0.0;
          new = fold.new;
          whole = subst (λ (l : Limits). LoadsTo l fold.checkpoint fold.new) opened.0.1 fold.whole;
          valid = subst (λ (l : Limits). IsValid l fold.new) opened.0.1 fold.same.valid;
          same = sym fold.same.kept;
        };
      })

-- ---- the status if no device fails

weight-append : (one two : List Step) → weight (one ++ two) ≡ weight one + weight two
weight-append [] two = omega arith
weight-append (step ∷ one) two = omega (arith, weight-append one two)

some-step : (a b : List Step) → Some a ≡ Some b → a ≡ b
some-step a b is = (cc)

none-taken : (steps : List Step) → Some steps ≡ None → ⊥
none-taken steps is = (cc)

taken-within : (coming left : Option (List Step)) (steps taken : List Step) → coming ≡ Some steps → Takes coming left taken → weight taken ≤ weight steps
taken-within coming None steps taken told takes = absurd (none-taken steps (sym told ∙ takes))
taken-within coming (Some rest) steps taken told takes =
    let same : steps ≡ taken ++ rest = some-step steps (taken ++ rest) (sym told ∙ takes) in
    omega (arith, ap weight same, weight-append taken rest)

module _ (run : HostView) (before now : Faults) (steps : List Step) (told : run.coming ≡ Some steps) (below : weight steps < run.budget) (none : NoHostFault before now) where
  served-status : (from : Snapshot) (left : Option (List ℕ)) (e : HubEnd) → Served run from left e → HasHostCauses (status_of (end.Served e)) before now → IsOutOfMemoryOr (status_of (end.Served e)) status.Ended
  served-status from left served.Ended ends causes = inr refl
  served-status from left served.Budget ends causes =
      absurd (omega (arith, below, ends.answered.1, taken-within run.coming run.coming_left steps ends.steps told ends.takes))
  served-status from left (served.Stopped fault.Hub) ends causes = absurd (none.hub (causes.hub refl))
  served-status from left (served.Stopped fault.Line) ends causes = absurd (none.lines (causes.lines refl))
  served-status from left (served.Stopped fault.Journal) ends causes = absurd (none.journal (causes.journal refl))
  served-status from left (served.Stopped fault.Memory) ends causes = inl refl

  -- in memory alone
  pub status-from : (from : Snapshot) (left : Option (List ℕ)) (e : HostEnd) → EndsFrom run from left e → HasHostCauses (status_of e) before now → IsOutOfMemoryOr (status_of e) status.Ended
  status-from from left (end.Served e) ends causes = served-status from left e ends causes
  status-from from left end.NotReady ends causes = absurd (none.lines (causes.lines refl))
  status-from from left end.NotOpened ends causes = absurd (none.hub (causes.hub refl))
  status-from from left end.NoMemory ends causes = inl refl
  status-from from left end.NotFolded ends causes = absurd ends
  status-from from left (end.NotLoaded e) ends causes = absurd ends

  loaded-status : (bytes : List ℕ) (left : Option (List ℕ)) (e : HostEnd) → EndsLoaded run bytes left e → HasHostCauses (status_of e) before now
      → IsOutOfMemoryOr (status_of e) (status_hosted run.seen.limits run.budget bytes)
  loaded-status bytes left e ends causes =
      subst (λ (s : Status). IsOutOfMemoryOr (status_of e) s) (sym (opened-below run.seen.limits run.budget bytes status.Ended (Loads ends.loaded ends.place) ends.read_whole ends.loads))
      (status-from (world_begun run bytes left ends.begun ends.content) left e ends.ends causes)

  -- with a journal
  pub status-over : (bytes : List ℕ) (left : Option (List ℕ)) (e : HostEnd) → EndsOver run bytes left e → HasHostCauses (status_of e) before now
      → IsOutOfMemoryOr (status_of e) (status_hosted run.seen.limits run.budget bytes)
  status-over bytes left (end.Served e) ends causes = loaded-status bytes left (end.Served e) ends causes
  status-over bytes left end.NotReady ends causes = loaded-status bytes left end.NotReady ends causes
  status-over bytes left end.NotOpened ends causes = loaded-status bytes left end.NotOpened ends causes
  status-over bytes left end.NoMemory ends causes = loaded-status bytes left end.NoMemory ends causes
  status-over bytes left end.NotFolded ends causes = absurd (none.journal (causes.journal refl))
  status-over bytes left (end.NotLoaded e) ends causes =
      unloaded-complete e run.seen.limits run.budget bytes status.Ended _ ends (λ is. none.journal (causes.journal (ap unloaded_status is)))
