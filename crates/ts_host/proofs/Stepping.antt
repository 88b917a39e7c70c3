-- One step of a hub.
use Rattle.std.proofs.Common.{◌≡◌, ◌≢◌, ℕ, ◌+◌, ◌≤◌, List, [], ◌∷◌, ◌++◌, refl, sym, ap, ◌∙◌, inl, inr}
use Rattle.std.specs.Prelude.{Option, None, Some, false}
use Rattle.std.specs.Option.{option_map}
use Rattle.ts_io.specs.Hubs.{LetsOut, Outgoing, Same}
use Rattle.ts_io.specs.Sinks.{Grows}
use Rattle.ts_io.specs.declared.hub.Step.{Step}
use Rattle.ts_io.specs.declared.hub.Step.TheVariants.{Comes, Pauses}
use Rattle.ts_io.specs.declared.hub.Way.{Way}
use Rattle.ts_io.proofs.Growth.{grows_none}
use Rattle.ts_mux.specs.declared.frame.Frame.{Frame}
use Rattle.ts_mux.specs.declared.mux.Mux.{Mux}
use Rattle.ts_mux.specs.Muxing.{is_inside_request, pending_items}
use Rattle.ts_mux.specs.Order.{closing, without}
use Rattle.ts_mux.proofs.Closings.{closing-without}
use Rattle.ts_db.specs.DbState.{DbState}
use Rattle.ts_execution.specs.Journaling.{Snapshot, kept}
use Rattle.ts_host.specs.Http.{closes}
use Rattle.ts_host.specs.Leaving.{ClosesLink, LeavesWith, WritesEnd, how_of}
use Rattle.ts_host.specs.RequestCounts.{executed_by}
use Rattle.ts_host.specs.Serving.{Went, Halted, Handled, IsOver, Rested, Stepped, step_after}
use Rattle.ts_host.specs.Settling.{IsSettled, IsUnsettled, Settles, stored_by, whole_by}
use Rattle.ts_host.specs.Shown.{Progress, View, coming}
use Rattle.ts_host.specs.Steps.{Extends, Takes, frames_of, weight_of_step}
use Rattle.ts_host.specs.declared.connections.Connections.{Connections}
use Rattle.ts_host.specs.declared.host.HostFault.{HostFault}
use Rattle.ts_host.specs.declared.host.HostFault.TheVariants as fault
use Rattle.ts_host.specs.declared.host.receiving.HubStep.{HubStep}
use Rattle.ts_host.specs.declared.host.receiving.HubStep.TheVariants as hub_step
use Rattle.ts_host.specs.declared.recorder.Recorder.{Recorder}
use Rattle.ts_host.proofs.AnsweredItems.{view_in}
use Rattle.ts_host.proofs.Contents.{extends_none}
use Rattle.ts_host.proofs.Going.{went_none, handled_on}
use Rattle.ts_host.proofs.Lines.{gave_none, grows_as_prefix}
use Rattle.ts_host.proofs.NextItems.{dropped}
use Rattle.ts_host.proofs.Stretches.{stretch_none}

-- the hub was asked, and nothing was answered
pub went_quiet : (old : View) (out' : Outgoing) → Same old.out out' → Went old (record { progress = old.progress; stored = old.stored; out = out'; has = old.has }) []
went_quiet old out' same =
    went_none old (record { progress = old.progress; stored = old.stored; out = out'; has = old.has }) [] (λ more. refl) (λ link. refl) refl (extends_none old.stored old.stored refl) (gave_none old.out out' same) (grows_none old.has)

-- a fault came before anything was answered
pub halted_quiet : (old new : View) (steps : List Step) → new.progress.world.held ≡ old.progress.world.held → new.progress.world.readings ≡ old.progress.world.readings
    → Extends old.stored new.stored → Extends new.stored old.progress.world.content → Same old.out new.out → Grows old.has new.has [] → Halted old new steps
halted_quiet old new steps held readings stored within same lines =
    let to : Progress = record { items = λ more. old.progress.items (steps ++ more); counts = old.progress.counts; world = old.progress.world } in
    record {
      to = to;
      held = sym held;
      readings = sym readings;
      stretch = stretch_none old.progress to steps (λ more. refl) (λ link. refl) refl;
      stored = stored;
      within = within;
      given = [];
      gave = gave_none old.out new.out same;
      lines = grows_as_prefix old.has new.has [] lines;
    }

-- bytes were received, or a link has closed
pub step_handled : (fault : Option HostFault) (old new : View) (coming coming' : Option (List Step)) (taken taken' : ℕ) (step : Step) → Takes coming coming' (step ∷ [])
    → taken' ≤ taken + weight_of_step step → Handled fault old new (step ∷ []) → Stepped (step_after fault) old new coming coming' taken taken'
step_handled None old new coming coming' taken taken' step takes bound handled = record { step = step; takes = takes; bound = bound; done = inl handled }
step_handled (Some fault) old new coming coming' taken taken' step takes bound handled = record { steps = step ∷ []; takes = takes; halted = handled }

-- the same, where the hub was asked first
pub step_after_asking : (fault : Option HostFault) (old new : View) (out' : Outgoing) (coming coming' : Option (List Step)) (taken taken' : ℕ) (step : Step) → Same old.out out' → Takes coming coming' (step ∷ [])
    → taken' ≤ taken + weight_of_step step → Handled fault (record { progress = old.progress; stored = old.stored; out = out'; has = old.has }) new (step ∷ [])
    → Stepped (step_after fault) old new coming coming' taken taken'
step_after_asking fault old new out' coming coming' taken taken' step same takes bound handled =
    step_handled fault old new coming coming' taken taken' step takes bound
    (handled_on fault old (record { progress = old.progress; stored = old.stored; out = out'; has = old.has }) new [] (step ∷ []) (went_quiet old out' same) handled)

-- ---- a link that the hub has closed

pub left_items : (link : ℕ) (bytes : List ℕ) (oldc newc : Connections) → ((frames : List Frame) → pending_items newc.mux frames ≡ without link (pending_items oldc.mux (record { link = link; bytes = bytes } ∷ frames)))
    → (more : List Step) → coming newc (frames_of more) ≡ without link (coming oldc (frames_of (Comes (record { link = link; bytes = bytes }) ∷ more)))
left_items link bytes oldc newc others more =
    ap (closing closes) (others (frames_of more)) ∙ closing-without closes link (pending_items oldc.mux (record { link = link; bytes = bytes } ∷ frames_of more))

pub link_closed : (fell : Option HostFault) (link : ℕ) (way : Way) (oldc newc : Connections) (world : Snapshot) (stored : Option (List ℕ)) (out : Outgoing) (had has : List ℕ → Type 0)
    → Extends stored world.content → (fell ≢ Some fault.Memory → LeavesWith link [] oldc newc) → ClosesLink fell link way oldc had has
    → Handled fell (view_in oldc world stored out had) (view_in newc world stored out has) (Comes (record { link = link; bytes = [] }) ∷ [])
link_closed fell link way oldc newc world stored out had has within left line = go fell left line
  where
    same : Same out out
    same = record { each = λ sent given had. had }

    went : (fell : Option HostFault) → LeavesWith link [] oldc newc → WritesEnd fell link (how_of way (is_inside_request oldc.mux link)) oldc had has
        → Handled fell (view_in oldc world stored out had) (view_in newc world stored out has) (Comes (record { link = link; bytes = [] }) ∷ [])
    went fell left line = dropped fell (Comes (record { link = link; bytes = [] }) ∷ []) oldc oldc newc world stored out out had has link (how_of way (is_inside_request oldc.mux link))
        (left_items link [] oldc newc left.others) (λ at. refl) left.counts same within line

    go : (fell : Option HostFault) → (fell ≢ Some fault.Memory → LeavesWith link [] oldc newc) → ClosesLink fell link way oldc had has
        → Handled fell (view_in oldc world stored out had) (view_in newc world stored out has) (Comes (record { link = link; bytes = [] }) ∷ [])
    go None left line = went None (left (λ is. (cc))) line
    go (Some fault.Line) left line = went (Some fault.Line) (left (λ is. (cc))) line
    go (Some fault.Memory) left line =
        halted_quiet (view_in oldc world stored out had) (view_in newc world stored out has) (Comes (record { link = link; bytes = [] }) ∷ []) refl refl (extends_none stored stored refl) within same line
    go (Some fault.Hub) left line = absurd line
    go (Some fault.Journal) left line = absurd line

-- ---- a pause

module _ {J : Type 0} (content : J → Option (List ℕ)) (oldr newr : Recorder J) (oldc newc : Connections) (held : DbState) (readings : Option (List ℕ)) (out out' : Outgoing) (has : List ℕ → Type 0) where
  abbrev pub old_view : View
  old_view = view_in oldc (kept readings (whole_by content oldr) false held) (stored_by content oldr) out has

  abbrev pub new_view : View
  new_view = view_in newc (kept readings (whole_by content newr) false held) (stored_by content newr) out' has

  pub settled_rested : newc.mux ≡ oldc.mux → newc.counts ≡ oldc.counts → IsSettled content oldr newr out out' → (steps : List Step) → ((more : List Step) → frames_of (steps ++ more) ≡ frames_of more) → Rested old_view new_view steps
  settled_rested mux counts settled steps none = record {
    items = λ more. ap (λ (m : Mux). closing closes (pending_items m (frames_of more))) mux ∙ ap (coming oldc) (sym (none more));
    counts = λ link. ap (λ c. executed_by c link) counts;
    world = ap (λ (o : Option (List ℕ)). kept readings o false held) settled.same;
    stored = settled.stored ∙ sym settled.same;
    let_out = settled.let_out;
    lines = grows_none has;
  }

  pub unsettled_halted : (steps : List Step) → IsUnsettled content oldr newr out out' → Halted old_view new_view steps
  unsettled_halted steps failed = halted_quiet old_view new_view steps refl refl failed.extends failed.within failed.kept_back (grows_none has)

-- what is let out after the hub was asked
pub lets_after : (old mid new : Outgoing) → Same old mid → LetsOut mid new → LetsOut old new
lets_after old mid new same lets = record { each = λ sent given had. lets.each sent given (same.each sent given had) }

pub same_after : (old mid new : Outgoing) → Same old mid → Same mid new → Same old new
same_after old mid new one two = record { each = λ sent given had. two.each sent given (one.each sent given had) }

-- nothing was taken
pub takes_none : (old new : Option (List Step)) → new ≡ old → Takes old new []
takes_none old None same = sym same
takes_none old (Some steps) same = sym same

-- the run goes on only if no fault came
pub taken_after : (fell : Option HostFault) (result : HubStep) → result ≡ step_after fell → result ≡ hub_step.Taken → fell ≡ None
taken_after None result is taken = refl
taken_after (Some fell) result is taken = (cc)

-- a pause settled the wake-up, or the journal failed
pub pause_settled : {J : Type 0} (fell : Option HostFault) (content : J → Option (List ℕ)) (oldr newr : Recorder J) (oldc newc : Connections) (held : DbState) (readings : Option (List ℕ)) (out mid out' : Outgoing) (has : List ℕ → Type 0)
    (coming coming' : Option (List Step)) (taken taken' : ℕ) → Takes coming coming' (Pauses ∷ []) → taken' ≤ taken + 1 → newc.mux ≡ oldc.mux → newc.counts ≡ oldc.counts
    → Same out mid → Settles fell content oldr newr mid out'
    → Stepped (step_after fell) (old_view content oldr newr oldc newc held readings out out' has) (new_view content oldr newr oldc newc held readings out out' has) coming coming' taken taken'
pause_settled None content oldr newr oldc newc held readings out mid out' has coming coming' taken taken' takes bound mux counts same settled = record {
  step = Pauses;
  takes = takes;
  bound = bound;
  done = inr (settled_rested content oldr newr oldc newc held readings out out' has mux counts
      (record { same = settled.same; stored = settled.stored; let_out = lets_after out mid out' same settled.let_out }) (Pauses ∷ []) (λ more. refl));
}
pause_settled (Some fell) content oldr newr oldc newc held readings out mid out' has coming coming' taken taken' takes bound mux counts same failed = record {
  steps = Pauses ∷ [];
  takes = takes;
  halted = unsettled_halted content oldr newr oldc newc held readings out out' has (Pauses ∷ [])
      (record { extends = failed.extends; within = failed.within; kept_back = same_after out mid out' same failed.kept_back });
}

-- nothing more is to come
pub over_now : (old new : Option (List Step)) → new ≡ old → old ≡ option_map (λ steps. []) old → IsOver new
over_now old new same over = same ∙ over ∙ ap (λ (o : Option (List Step)). option_map (λ steps. []) o) (sym same)
