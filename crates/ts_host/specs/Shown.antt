-- What a host and its devices show.
use Rattle.std.specs.Prelude.{ℕ, false, List, [], length, Option}
use Rattle.ts_io.specs.Gathering.{lent_to, log_of, whole}
use Rattle.ts_io.specs.Hubs.{Outgoing}
use Rattle.ts_io.specs.declared.hub.Step.{Step}
use Rattle.ts_db.specs.DbState.{DbState}
use Rattle.ts_mux.specs.declared.frame.Frame.{Frame}
use Rattle.ts_mux.specs.Muxing.{pending_items, reach_of}
use Rattle.ts_mux.specs.Order.{Item, closing}
use Rattle.ts_execution.specs.Journaling.{Snapshot, kept}
use Rattle.ts_host.specs.Answers.{Counts}
use Rattle.ts_host.specs.Http.{closes}
use Rattle.ts_host.specs.Recorder.{gathered_of}
use Rattle.ts_host.specs.RequestCounts.{executed_by}
use Rattle.ts_host.specs.Steps.{frames_of}
use Rattle.ts_host.specs.declared.connections.Connections.{Connections}
use Rattle.ts_host.specs.declared.host.Host.{Host}
use Rattle.ts_host.specs.declared.recorder.Recorder.{Recorder}

-- ---- connections

-- the items still to answer if these frames follow
abbrev pub coming : Connections → List Frame → List Item
coming c frames = closing closes (pending_items c.mux frames)

-- how many complete requests and errors are pending
abbrev pub waiting : Connections → ℕ
waiting c = length (pending_items c.mux [])

-- a connection whose number is below this can be closed without memory
abbrev pub reached : Connections → ℕ
reached c = reach_of c.mux

-- what was taken so far counts this much toward the budget
abbrev pub taken_by : Connections → ℕ
taken_by c = c.taken

-- ---- the whole host

-- The items still to answer, as a function of the steps that follow; the counts of executed requests; and the world.
-- The content of its journal includes the records that wait.
pub record Progress : Type 0 where
  pub items : List Step → List Item
  pub counts : Counts
  pub world : Snapshot

-- the same with what the devices show: what the journal itself has, what the hub let out and was given, and the output
pub record View : Type 1 where
  pub progress : Progress
  pub stored : Option (List ℕ)
  pub out : Outgoing
  pub has : List ℕ → Type 0

-- the parts of a host
abbrev pub connections_of : {J : Type 0} → Host J → Connections
connections_of h = h.connections

abbrev pub recorder_of : {J : Type 0} → Host J → Recorder J
recorder_of h = h.recorder

-- the log of a host
abbrev pub host_log : {J : Type 0} → Host J → J
host_log h = log_of (gathered_of (recorder_of h))

-- the identity of its reference to the log
abbrev pub lent_by : {J : Type 0} → Host J → ℕ
lent_by h = lent_to (gathered_of (recorder_of h))

-- the text in its reply buffer
abbrev pub reply_of : {J : Type 0} → Host J → List ℕ
reply_of h = h.replies.room.bytes

-- the world of a host on this database, with these clock readings left
abbrev pub world_of : {J : Type 0} → (content : J → Option (List ℕ)) → Host J → DbState → (readings : Option (List ℕ)) → Snapshot
world_of content h held readings = kept readings (whole content (gathered_of (recorder_of h))) false held

-- what a host has still to do and has done, on this database, with these clock readings left
abbrev pub progress_of : {J : Type 0} → (content : J → Option (List ℕ)) → Host J → DbState → (readings : Option (List ℕ)) → Progress
progress_of content h held readings = record {
  items = λ steps. coming (connections_of h) (frames_of steps);
  counts = executed_by (connections_of h).counts;
  world = world_of content h held readings;
}

-- the same with the devices
abbrev pub shown : {J : Type 0} → (content : J → Option (List ℕ)) → Host J → DbState → (readings : Option (List ℕ)) → Outgoing → (List ℕ → Type 0) → View
shown content h held readings out has = record {
  progress = progress_of content h held readings;
  stored = content (host_log h);
  out = out;
  has = has;
}
