-- How the requests of a journal are replayed.
use Rattle.std.specs.Prelude.{◌≡◌, ⊤, Bool, true, false, if◌then◌else◌, nat_le, ℕ, ◌≤◌, ◌+◌, ◌-◌, List, [], ◌∷◌, ◌++◌, length, drop, map, Option, IfNone, None, Some, Result, Ok, Err}
use Rattle.std.specs.Io.KnownBytes.{Consumes}
use Rattle.ts_db.specs.DbState.{DbState, DbView, Simulates}
use Rattle.ts_db.specs.declared.fault.DbFault.{DbFault}
use Rattle.ts_db.specs.declared.fault.DbFault.TheVariants as fault
use Rattle.ts_resp.specs.Reading.{Reading, stream_of, ended_at, fed, unfinished}
use Rattle.ts_command.specs.declared.fault.CommandFault.{CommandFault}
use Rattle.ts_command.specs.declared.fault.CommandFault.TheVariants as spoken
use Rattle.ts_spec.specs.Command.{Triple, Command}
use Rattle.ts_spec.specs.Grammar.{command}
use Rattle.ts_spec.specs.Replies.{reply_list, item_reply}
use Rattle.ts_spec.specs.Response.{Wrote}
use Rattle.ts_spec.specs.Step.{Outcome, triple_step, item_of}
use Rattle.ts_spec.specs.State.{State}
use Rattle.ts_spec.specs.Wire.{Request, stream_at}
use Rattle.ts_spec.specs.declared.limits.Limits.{Limits}
use Rattle.ts_spec.specs.declared.wire.WireLimits.{WireLimits}
use Rattle.ts_journal.specs.Limits.{journal_limits}
use Rattle.ts_journal.specs.Loading.{Load, Loads, BreaksAt, apply_recorded, apply_recorded_request, begins_as_record}
use Rattle.ts_journal.specs.RecordReplay.{has_error}
use Rattle.ts_checkpoint.specs.Fronts.{front_size}
use Rattle.ts_checkpoint.specs.Loading.{load_from}
use Rattle.ts_execution.specs.Stages.{Rest, load_at, rest_at}
use Rattle.ts_execution.specs.declared.journal_replay.ReplayResult.{ReplayResult}
use Rattle.ts_execution.specs.declared.journal_replay.ReplayResult.TheVariants as replay_result
use Rattle.ts_execution.specs.declared.journal_piece.Piece.{Piece}
use Rattle.ts_execution.specs.declared.journal_piece.Piece.TheVariants as piece
use Rattle.ts_execution.specs.declared.loading.LoadFault.{LoadFault}
use Rattle.ts_execution.specs.declared.loading.LoadFault.TheVariants as unloaded
use Rattle.ts_execution.specs.declared.loading.Extent.{Extent}
use Rattle.ts_execution.specs.declared.load_state.Loading.{Loading}
use Rattle.ts_execution.specs.declared.stage.Stage.{Stage}
use Rattle.ts_execution.specs.declared.stage.Stage.TheVariants as stage

-- ---- one request

-- out of memory, or any other error
abbrev pub replay_result_of_fault : DbFault → ReplayResult
replay_result_of_fault (fault.Memory e) = replay_result.Memory
replay_result_of_fault other = replay_result.Refused

-- the result of a replay, from a result of the database
abbrev pub replay_result_of : {T : Type 0} → Result T DbFault → ReplayResult
replay_result_of (Ok x) = replay_result.Accepted
replay_result_of (Err f) = replay_result_of_fault f

-- The command leads from one state to the other; or it is invalid in a journal; or memory ran out.
abbrev pub ReplaysCommand : ReplayResult → Command → (from to : DbState) → Type 0
ReplaysCommand replay_result.Accepted c from to = (apply_recorded from.limits from.state c ≡ Some to.state) × (to.limits ≡ from.limits)
ReplaysCommand replay_result.Refused c from to = (apply_recorded from.limits from.state c ≡ None) × (to.limits ≡ from.limits)
ReplaysCommand replay_result.Memory c from to = ⊤

-- the sample was written; or the triple was rejected; or memory ran out
abbrev pub ReplaysTriple : ReplayResult → Triple → (from to : DbState) → Type 0
ReplaysTriple replay_result.Accepted triple from to =
    let done : Outcome = triple_step from.limits from.state 0 triple.key triple.at triple.value in
    (time : ℕ) × (item_of done.response ≡ Wrote time ∷ []) × (to.state ≡ done.state) × (to.limits ≡ from.limits)
ReplaysTriple replay_result.Refused triple from to =
    (has_error (reply_list (map item_reply (item_of (triple_step from.limits from.state 0 triple.key triple.at triple.value).response))) ≡ true) × (to.limits ≡ from.limits)
ReplaysTriple replay_result.Memory triple from to = ⊤

-- out of memory while parsing the arguments, or an error in them
abbrev pub replay_result_of_words : CommandFault → ReplayResult
replay_result_of_words (spoken.Memory e) = replay_result.Memory
replay_result_of_words other = replay_result.Refused

-- the same for the command that these arguments make
abbrev pub ReplaysRequest : ReplayResult → Request → (from to : DbState) → Type 0
ReplaysRequest replay_result.Accepted words from to = (apply_recorded_request from.limits from.state (command words) ≡ Some to.state) × (to.limits ≡ from.limits)
ReplaysRequest replay_result.Refused words from to = (apply_recorded_request from.limits from.state (command words) ≡ None) × (to.limits ≡ from.limits)
ReplaysRequest replay_result.Memory words from to = ⊤

-- ---- the requests of a journal

-- What the remaining bytes load to, for a journal of `size` bytes. The bytes so far led to state `m`, unless the
-- journal broke.
abbrev pub loads_by : Option ℕ → Limits → Loading → State → (size : ℕ) → (more : List ℕ) → Load
loads_by (Some place) limits l m size more = BreaksAt place
loads_by None limits l m size more = load_at l.stage limits m l.end size (stream_of l.reader more)

-- what the remaining bytes load to
abbrev pub loads : Limits → Loading → State → (size : ℕ) → (more : List ℕ) → Load
loads limits l m size more = loads_by l.broken limits l m size more

-- where the remaining bytes end, and the size of the checkpoint
abbrev pub rest_of : Loading → (more : List ℕ) → Rest
rest_of l more = rest_at l.stage l.end (stream_of l.reader more)

-- the reader has no complete request left, and its current request begins within the bytes it was fed
pub record HasNoWholeRequest (r : Reading) : Type 0 where
  pub rest : stream_of r [] ≡ ended_at (unfinished r)
  pub begun : r.begin ≤ fed r

-- every complete request was replayed, unless the journal broke
abbrev pub IsCurrent : Loading → Type 0
IsCurrent l = IfNone l.broken (HasNoWholeRequest l.reader)

-- The complete requests in these bytes were replayed: loading the rest from the new state gives what loading all from
-- the old one does. A journal that has not broken had not broken before, and its rest ends as all of it does.
pub record LoadsOn (old new : Loading) (bytes : List ℕ) (from to : DbState) : Type 0 where
  pub limits : to.limits ≡ from.limits
  pub on : (size : ℕ) (more : List ℕ) → loads from.limits old from.state size (bytes ++ more) ≡ loads from.limits new to.state size more
  pub whole : new.broken ≡ None → old.broken ≡ None
  pub rest : new.broken ≡ None → (more : List ℕ) → rest_of old (bytes ++ more) ≡ rest_of new more

-- the same, if there was memory
abbrev pub LoadsIf : (done : Bool) → (old new : Loading) → (bytes : List ℕ) → (from to : DbState) → Type 0
LoadsIf true old new bytes from to = LoadsOn old new bytes from to
LoadsIf false old new bytes from to = ⊤

-- Whether the unfinished request begins as a record does: it begins in this piece, which is at offset `before`, or
-- `was` tells it.
abbrev pub still_record : (was : Bool) → (begin : Option ℕ) → (before : ℕ) → List ℕ → Bool
still_record was None before piece = was
still_record was (Some at) before piece = if nat_le before at then begins_as_record (drop (at - before) piece) else was

-- `taken` bytes of the journal at offset `before` were read, and every request that they complete was replayed. The
-- flags tell whether the unfinished request begins as a record does.
pub record ReplaysPiece (before taken : ℕ) (was now : Bool) (left rest : Option (List ℕ)) (old new : Loading) (a b : DbView) : Type 0 where
  pub bytes : List ℕ
  pub took : Consumes left rest bytes
  pub count : length bytes ≡ taken
  pub goes : Simulates a b (λ from to. LoadsOn old new bytes from to)
  pub current : IsCurrent new
  pub within : fed new.reader ≤ fed old.reader + taken
  pub starts : now ≡ still_record was (unfinished new.reader) before bytes

-- a fact about the size of the piece, if one was read
abbrev pub IfRead : Piece → (ℕ → Type 0) → Type 0
IfRead (piece.Read count) what = what count
IfRead other what = ⊤

-- ---- the whole journal

-- how a journal with these bytes was loaded
abbrev pub IsLoaded : Result Extent LoadFault → WireLimits → (from to : DbState) → List ℕ → Type 0
IsLoaded (Ok extent) wire from to bytes =
    (load_from from.limits wire from.state bytes ≡ Loads to.state extent.end) × (to.limits ≡ from.limits)
    × (extent.checkpoint ≡ front_size (stream_at (journal_limits wire) 0 bytes))
IsLoaded (Err (unloaded.Broken place)) wire from to bytes = load_from from.limits wire from.state bytes ≡ BreaksAt place
IsLoaded (Err other) wire from to bytes = ⊤

-- the result depends on the content alone: the journal loads, or it breaks
abbrev pub IsJudged : Result Extent LoadFault → Type 0
IsJudged (Ok extent) = ⊤
IsJudged (Err (unloaded.Broken place)) = ⊤
IsJudged (Err other) = ⊥

-- the result for a journal of `taken` bytes that has a checkpoint of this size, if its unfinished request begins at
-- this offset
abbrev pub verdict_at : Option ℕ → (checkpoint : ℕ) → (is_record : Bool) → (taken : ℕ) → Result Extent LoadFault
verdict_at None checkpoint is_record taken = Ok (record { end = taken; checkpoint = checkpoint })
verdict_at (Some place) checkpoint is_record taken =
    if is_record then Ok (record { end = place; checkpoint = checkpoint }) else Err (unloaded.Broken place)

-- the same, by the stage at its end: it breaks after its last request if a part is still to come
abbrev pub verdict_in : Stage → (end : ℕ) → Option ℕ → (is_record : Bool) → (taken : ℕ) → Result Extent LoadFault
verdict_in stage.Start end begin is_record taken = verdict_at begin 0 is_record taken
verdict_in (stage.Parts more current) end begin is_record taken = Err (unloaded.Broken end)
verdict_in (stage.Changes checkpoint) end begin is_record taken = verdict_at begin checkpoint is_record taken

-- the same, unless the journal broke before
abbrev pub verdict_by : Option ℕ → Loading → (is_record : Bool) → (taken : ℕ) → Result Extent LoadFault
verdict_by (Some place) l is_record taken = Err (unloaded.Broken place)
verdict_by None l is_record taken = verdict_in l.stage l.end (unfinished l.reader) is_record taken

-- the same, from the state of the load
abbrev pub verdict : Loading → (is_record : Bool) → (taken : ℕ) → Result Extent LoadFault
verdict l is_record taken = verdict_by l.broken l is_record taken
