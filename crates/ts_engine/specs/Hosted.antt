-- What `top` does in the mode `host`: it serves many connections at once on what the journal loads to, and adds the
-- record of each change to the journal before its reply leaves.
use Rattle.std.specs.Prelude.{◌≡◌, ◌⊎◌, ◌<◌, ◌≤◌, ℕ, List, [], ◌++◌, length, take, map, Option, None, Some, false}
use Rattle.ts_io.specs.Hubs.{Outgoing, Same}
use Rattle.ts_io.specs.Pieces.{Piece}
use Rattle.ts_io.specs.Sinks.{Grows, GrowsByPrefix}
use Rattle.ts_io.specs.declared.hub.Step.{Step}
use Rattle.ts_spec.specs.State.{State}
use Rattle.ts_spec.specs.StoredSeries as stored
use Rattle.ts_spec.specs.declared.limits.Limits.{Limits}
use Rattle.ts_db.specs.DbState.{DbState}
use Rattle.ts_journal.specs.Loading.{Loads}
use Rattle.ts_checkpoint.specs.Loading.{load, LoadsTo}
use Rattle.ts_mux.specs.declared.frame.Frame.{Frame}
use Rattle.ts_mux.specs.Order.{Item}
use Rattle.ts_words.specs.Lines.{ready_line_of}
use Rattle.ts_words.specs.declared.fault_causes.LastCauses.{LastCauses}
use Rattle.ts_words.specs.declared.status.Status.{Status}
use Rattle.ts_words.specs.declared.status.Status.TheVariants as status
use Rattle.ts_execution.specs.Journaling.{Snapshot, IsJournaled, kept}
use Rattle.ts_host.specs.Answers.{Answers, Counts, Ending, lines_of, none_executed}
use Rattle.ts_host.specs.Serving.{IsOver}
use Rattle.ts_host.specs.Steps.{Extends, Takes, items_of_steps, piece_of, weight}
use Rattle.ts_host.specs.declared.serving.HubEnd.{HubEnd}
use Rattle.ts_host.specs.declared.serving.HubEnd.TheVariants as served
use Rattle.ts_engine.specs.declared.host_end.HostEnd.{HostEnd}
use Rattle.ts_engine.specs.declared.host_end.HostEnd.TheVariants as end
use Rattle.ts_engine.specs.Folded.{HasFold}
use Rattle.ts_engine.specs.Headline.{RunView, run_view, start}
use Rattle.ts_engine.specs.HostEnds.{status_of, place_of}
use Rattle.ts_engine.specs.HostPrefixes.{HostRun, HostPrefixes, run_of_answers, nothing_asked}
use Rattle.ts_engine.specs.Opening.{NotLoaded, status_opened}
use Rattle.ts_engine.specs.Top.{ReportsHost}

-- What a run in this mode shows, before and after: the output and the clock, the steps that come to the hub, and what
-- it let out. The last three say that a device is as it was.
pub record HostView : Type 1 where
  pub address : List ℕ
  pub budget : ℕ
  pub seen : RunView
  pub coming : Option (List Step)
  pub coming_left : Option (List Step)
  pub out : Outgoing
  pub out_left : Outgoing
  pub same_hub : Type 0
  pub same_output : Type 0
  pub same_clock : Type 0

-- the same from the clock, the output and the hub before and after
abbrev pub host_view : {C K H : Type 0} → (readings : C → Option (List ℕ)) → (has : K → List ℕ → Type 0) → (coming : H → Option (List Step)) → (sent : H → Outgoing)
    → (address : List ℕ) → Limits → (budget : ℕ) → (clock clock' : C) → (out out' : K) → (hub hub' : H) → HostView
host_view readings has coming sent address limits budget clock clock' out out' hub hub' = record {
  address = address;
  budget = budget;
  seen = run_view readings has limits clock clock' out out';
  coming = coming hub;
  coming_left = coming hub';
  out = sent hub;
  out_left = sent hub';
  same_hub = hub' ≡ hub;
  same_output = out' ≡ out;
  same_clock = clock' ≡ clock;
}

-- ---- the run from a world

-- The run began in the world `from`. The journal has `left` now. In memory alone there is no journal, and both contents
-- are unknown.
module _ (run : HostView) (from : Snapshot) (left : Option (List ℕ)) where
  -- All requests and protocol errors of these steps were answered in order, and all replies were let out. The journal
  -- has the record of each change. The output has the line `ready`, and then the line of each connection that ended.
  pub record AllAnswered (steps : List Step) : Type 0 where
    pub frames : List Frame
    pub endings : List Ending
    pub held : DbState
    pub counts : Counts
    pub answers : Answers IsJournaled from none_executed (items_of_steps run.seen.limits.wire steps) frames endings (kept run.seen.readings_left left false held) counts []
    pub out : (sent : List Piece) → run.out sent [] → run.out_left (sent ++ map piece_of frames) []
    pub lines : Grows run.seen.had run.seen.has (ready_line_of run.address ++ lines_of endings)

  -- A fault ended the run. The replies up to some moment were let out: `frames`. The journal has the records of all
  -- changes up to it, and perhaps of some that followed. The last line may be cut.
  pub record SomeAnswered (steps : List Step) : Type 0 where
    pub frames : List Frame
    pub endings : List Ending
    pub mid : Snapshot
    pub mid_counts : Counts
    pub between : List Item
    pub first : Answers IsJournaled from none_executed (items_of_steps run.seen.limits.wire steps) frames endings mid mid_counts between
    pub more : List Frame
    pub later : List Ending
    pub to : Snapshot
    pub counts : Counts
    pub others : List Item
    pub second : Answers IsJournaled mid mid_counts between more later to counts others
    pub settled : Extends mid.content left
    pub within : Extends left to.content
    pub readings : to.readings ≡ run.seen.readings_left
    pub out : (sent : List Piece) → run.out sent [] → (given : List Piece) × run.out_left (sent ++ map piece_of frames) given
    pub shown : ℕ
    pub lines : Grows run.seen.had run.seen.has (ready_line_of run.address ++ take shown (lines_of (endings ++ later)))

  -- what was done over the steps that were taken, by how the run ended
  abbrev pub Answered : HubEnd → List Step → Type 0
  Answered served.Ended steps = AllAnswered steps × IsOver run.coming_left
  Answered served.Budget steps = AllAnswered steps × (run.budget ≤ weight steps)
  Answered (served.Stopped fault) steps = SomeAnswered steps

  -- these steps were taken from those to come
  pub record Served (ended : HubEnd) : Type 0 where
    pub steps : List Step
    pub takes : Takes run.coming run.coming_left steps
    pub answered : Answered ended steps

  -- nothing came of the hub and nothing was given to it, and the journal has what the run began with
  pub record Unserved : Type 0 where
    pub coming : run.coming_left ≡ run.coming
    pub out : Same run.out run.out_left
    pub journal : left ≡ from.content

  -- what the run did, by how it ended
  abbrev pub EndsFrom : HostEnd → Type 0
  EndsFrom (end.Served e) = Served e
  EndsFrom end.NotReady = Unserved × GrowsByPrefix run.seen.had run.seen.has (ready_line_of run.address) × run.same_clock
  EndsFrom end.NotOpened = Unserved × run.same_output × run.same_clock
  EndsFrom end.NoMemory = (left ≡ from.content) × run.same_hub × run.same_output × run.same_clock
  EndsFrom end.NotFolded = ⊥
  EndsFrom (end.NotLoaded e) = ⊥

  -- ---- the requests that were answered: those whose replies were let out, and those that came after

  abbrev pub run_of_all : {steps : List Step} → AllAnswered steps → HostRun
  run_of_all all = record {
    let_out = run_of_answers all.answers;
    later = nothing_asked (kept run.seen.readings_left left false all.held);
  }

  abbrev pub run_of_some : {steps : List Step} → SomeAnswered steps → HostRun
  run_of_some some = record { let_out = run_of_answers some.first; later = run_of_answers some.second }

  -- no request was answered
  abbrev pub no_run : HostRun
  no_run = record { let_out = nothing_asked from; later = nothing_asked from }

  abbrev pub run_answered : (ended : HubEnd) (steps : List Step) → Answered ended steps → HostRun
  run_answered served.Ended steps answered = run_of_all answered.0
  run_answered served.Budget steps answered = run_of_all answered.0
  run_answered (served.Stopped fault) steps answered = run_of_some answered

  abbrev pub run_of : (ended : HostEnd) → EndsFrom ended → HostRun
  run_of (end.Served e) ends = run_answered e ends.steps ends.answered
  run_of end.NotReady ends = no_run
  run_of end.NotOpened ends = no_run
  run_of end.NoMemory ends = no_run
  run_of end.NotFolded ends = no_run
  run_of (end.NotLoaded e) ends = no_run

-- ---- the whole run

-- in memory alone: from the empty database
abbrev pub EndsInMemory : HostView → HostEnd → Type 0
EndsInMemory run = EndsFrom run (kept run.seen.readings None false (start run.seen.limits run.seen.readings).held) None

-- with a journal, which had these bytes, and has `left` now
module _ (run : HostView) (bytes : List ℕ) (left : Option (List ℕ)) where
  -- the journal was read to its end
  abbrev pub IsReadWhole : Type 0
  IsReadWhole = length bytes < run.budget

  -- the world of a run that begins with this database, when the journal has these bytes
  abbrev pub world_begun : State → (content : List ℕ) → Snapshot
  world_begun begun content = kept run.seen.readings (Some content) false (record { limits = run.seen.limits; state = begun })

  -- What the run began with: the whole requests of the journal and what they load to; or a fold of it, which loads to a
  -- database that stores the same.
  abbrev pub Begins : (loaded : State) (place : ℕ) (content : List ℕ) (begun : State) → Type 0
  Begins loaded place content begun =
      ((content ≡ take place bytes) × (begun ≡ loaded))
      ⊎ (LoadsTo run.seen.limits content begun × (stored.kept begun ≡ stored.kept loaded))

  -- The journal was loaded, and then cut behind its last whole request or folded. The run began with that.
  -- `prefixes`: each prefix of the journal that the run left loads; one that has the records of all replies that were
  -- let out loads to a database after all their requests.
  pub record EndsLoaded (ended : HostEnd) : Type 0 where
    pub loaded : State
    pub place : ℕ
    pub loads : load run.seen.limits bytes ≡ Loads loaded place
    pub read_whole : IsReadWhole
    pub content : List ℕ
    pub begun : State
    pub begins : Begins loaded place content begun
    pub ends : EndsFrom run (world_begun begun content) left ended
    pub prefixes : HostPrefixes run.seen.limits content (world_begun begun content) (run_of run (world_begun begun content) left ended ends) left

  -- The journal was loaded, but could not be folded. It has its whole requests, or a fold of them.
  pub record EndsUnfolded : Type 0 where
    pub loaded : State
    pub place : ℕ
    pub loads : load run.seen.limits bytes ≡ Loads loaded place
    pub read_whole : IsReadWhole
    pub same_hub : run.same_hub
    pub same_output : run.same_output
    pub same_clock : run.same_clock
    pub journal : (left ≡ Some (take place bytes)) ⊎ HasFold run.seen.limits bytes left

  -- the run changed nothing
  abbrev pub Untouched : Type 0
  Untouched = run.same_hub × run.same_output × run.same_clock × (left ≡ Some bytes)

  -- what the run did, by how it ended
  abbrev pub EndsOver : HostEnd → Type 0
  EndsOver (end.NotLoaded fault) = NotLoaded fault run.seen.limits run.budget bytes Untouched
  EndsOver (end.Served e) = EndsLoaded (end.Served e)
  EndsOver end.NotReady = EndsLoaded end.NotReady
  EndsOver end.NotOpened = EndsLoaded end.NotOpened
  EndsOver end.NoMemory = EndsLoaded end.NoMemory
  EndsOver end.NotFolded = EndsUnfolded

-- How a run ended, of which `ends` says what it did, and how that was reported: by the line of its status, with the
-- cause of a failed hub or log. A good end always has the good status.
pub record Hosted (ends : HostEnd → Type 0) (causes : LastCauses) (had has : List ℕ → Type 0) (given : Status) : Type 0 where
  pub ended : HostEnd
  pub did : ends ended
  pub reported : ReportsHost causes (status_of ended) (place_of ended) given had has
  pub quiet : ended ≡ end.Served served.Ended → given ≡ status.Ended

-- an end was reported by its status and line. Holds even if the bytes of the journal are unknown.
pub record HasHostLine (causes : LastCauses) (had has : List ℕ → Type 0) (given : Status) : Type 0 where
  pub ended : HostEnd
  pub reported : ReportsHost causes (status_of ended) (place_of ended) given had has
  pub quiet : ended ≡ end.Served served.Ended → given ≡ status.Ended

-- the status of a run over this journal, if no device fails and the steps do not use up the budget
abbrev pub status_hosted : Limits → (budget : ℕ) → (bytes : List ℕ) → Status
status_hosted limits budget bytes = status_opened limits budget bytes status.Ended
