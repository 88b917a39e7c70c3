-- From what a host did to what a run in the mode `host` did.
use Rattle.std.specs.Prelude.{Option}
use Rattle.std.proofs.Common.{◌≡◌, ℕ, false, List, [], ◌++◌, take, refl, sym, ◌∙◌, ap, subst, append-nil}
use Rattle.ts_io.specs.Hubs.{Outgoing, Same}
use Rattle.ts_io.specs.Sinks.{Grows}
use Rattle.ts_io.specs.declared.hub.Step.{Step}
use Rattle.ts_io.proofs.Growth.{grows_twice}
use Rattle.ts_spec.specs.declared.limits.Limits.{Limits}
use Rattle.ts_db.specs.DbState.{DbState, DbView, Simulates}
use Rattle.ts_words.specs.Lines.{ready_line_of}
use Rattle.ts_execution.specs.Journaling.{Snapshot, IsJournaled, kept}
use Rattle.ts_execution.proofs.Carried.{carries_as}
use Rattle.ts_host.specs.Answers.{Answers, lines_of, none_executed}
use Rattle.ts_host.specs.Serving.{AllSettled, Stopped, Ends, Serves}
use Rattle.ts_host.specs.Shown.{View}
use Rattle.ts_host.specs.Steps.{Takes, items_of_steps}
use Rattle.ts_host.specs.declared.serving.HubEnd.{HubEnd}
use Rattle.ts_host.specs.declared.serving.HubEnd.TheVariants as served
use Rattle.ts_host.proofs.Answering.{answers_agree, answers_as}
use Rattle.ts_engine.specs.declared.host_end.HostEnd.{HostEnd}
use Rattle.ts_engine.specs.Hosted.{HostView, AllAnswered, SomeAnswered, Answered, Served, EndsFrom}

-- A host began in the world `from`, with the view `start`, and has the view `now`.
module _ (address : List ℕ) (budget : ℕ) (limits : Limits) (readings readings_left : Option (List ℕ)) (had : List ℕ → Type 0)
    (coming between left : Option (List Step)) (before : Outgoing) (same_hub same_output same_clock : Type 0) (from : Snapshot) (start now : View) (held : DbState) where
  abbrev its-view : HostView
  its-view = record {
    address = address;
    budget = budget;
    seen = record { limits = limits; readings = readings; readings_left = readings_left; had = had; has = now.has };
    coming = coming;
    coming_left = left;
    out = before;
    out_left = now.out;
    same_hub = same_hub;
    same_output = same_output;
    same_clock = same_clock;
  }

  -- it had received nothing, and `ready` was written
  pub record IsReady : Type 0 where
    pub items : (steps : List Step) → start.progress.items steps ≡ items_of_steps limits.wire steps
    pub counts : (link : ℕ) → start.progress.counts link ≡ 0
    pub world : start.progress.world ≡ from
    pub end : now.progress.world ≡ kept readings_left now.progress.world.content false held
    pub out : Same before start.out
    pub lines : Grows had start.has (ready_line_of address)

  all-answered : IsReady → (steps : List Step) → AllSettled start now steps → AllAnswered its-view from now.stored steps
  all-answered ready steps all = record {
    frames = all.stretch.frames;
    endings = all.stretch.endings;
    held = held;
    counts = now.progress.counts;
    answers =
        subst (λ (w : Snapshot). Answers IsJournaled from none_executed (items_of_steps limits.wire steps) all.stretch.frames all.stretch.endings w now.progress.counts [])
        (ready.end ∙ ap (λ (o : Option (List ℕ)). kept readings_left o false held) (sym all.stored))
        (subst (λ (w : Snapshot). Answers IsJournaled w none_executed (items_of_steps limits.wire steps) all.stretch.frames all.stretch.endings now.progress.world now.progress.counts []) ready.world
        (answers_agree IsJournaled ready.counts
        (answers_as IsJournaled (ap start.progress.items (append-nil steps) ∙ ready.items steps) all.none_left (all.stretch.answers []))));
    out = λ sent had. all.out sent (ready.out.each sent [] had);
    lines = grows_twice had start.has now.has (ready_line_of address) (lines_of all.stretch.endings) ready.lines all.lines;
  }

  some-answered : IsReady → (steps : List Step) → Stopped start now steps → SomeAnswered its-view from now.stored steps
  some-answered ready steps stopped = record {
    frames = stopped.first.frames;
    endings = stopped.first.endings;
    mid = stopped.mid.world;
    mid_counts = stopped.mid.counts;
    between = stopped.mid.items stopped.two;
    first =
        subst (λ (w : Snapshot). Answers IsJournaled w none_executed (items_of_steps limits.wire steps) stopped.first.frames stopped.first.endings stopped.mid.world stopped.mid.counts (stopped.mid.items stopped.two)) ready.world
        (answers_agree IsJournaled ready.counts
        (answers_as IsJournaled (ap start.progress.items (sym stopped.split) ∙ ready.items steps) refl (stopped.first.answers stopped.two)));
    more = stopped.second.frames;
    later = stopped.second.endings;
    to = stopped.to.world;
    counts = stopped.to.counts;
    others = stopped.to.items [];
    second = answers_as IsJournaled (ap stopped.mid.items (append-nil stopped.two)) refl (stopped.second.answers []);
    settled = stopped.settled;
    within = stopped.within;
    readings = stopped.readings ∙ ap (λ (w : Snapshot). w.readings) ready.end;
    out = λ sent had. stopped.out sent (ready.out.each sent [] had);
    shown = stopped.lines.len;
    lines = grows_twice had start.has now.has (ready_line_of address) (take stopped.lines.len (lines_of (stopped.first.endings ++ stopped.second.endings))) ready.lines stopped.lines.grows;
  }

  answered-as : IsReady → (e : HubEnd) (steps : List Step) → Ends e budget start now left steps → Answered its-view from now.stored e steps
  answered-as ready served.Ended steps ends = (all-answered ready steps ends.0, ends.1)
  answered-as ready served.Budget steps ends = (all-answered ready steps ends.0, ends.1)
  answered-as ready (served.Stopped fault) steps ends = some-answered ready steps ends

  pub served-as : IsReady → between ≡ coming → (e : HubEnd) → Serves e budget start now between left → Served its-view from now.stored e
  served-as ready same e serves = record {
    steps = serves.steps;
    takes = subst (λ (o : Option (List Step)). Takes o left serves.steps) same serves.takes;
    answered = answered-as ready e serves.steps serves.ends;
  }

-- the contents of the journal may be said otherwise
pub ends-as : (old new : DbView) (view : HostView) (readings one two one' two' : Option (List ℕ)) (e : HostEnd) → one ≡ one' → two ≡ two'
    → Simulates old new (λ from to. EndsFrom view (kept readings one false from) two e) → Simulates old new (λ from to. EndsFrom view (kept readings one' false from) two' e)
ends-as old new view readings one two one' two' e first second =
    carries_as old new (λ from to. EndsFrom view (kept readings one false from) two e) (λ from to. EndsFrom view (kept readings one' false from) two' e)
    (λ from to ends. subst (λ (o : Option (List ℕ)). EndsFrom view (kept readings one' false from) o e) second
    (subst (λ (o : Option (List ℕ)). EndsFrom view (kept readings o false from) two e) first ends))
