-- How far a journal is loaded: what its next request is, and what it loads to from there.
use Rattle.std.specs.Prelude.{◌≡◌, ℕ, zero, suc, Bool, true, false, ⊤, List, Option, None, Some, Result, Ok, Err}
use Rattle.std.specs.declared.alloc.AllocError.{AllocError}
use Rattle.ts_spec.specs.State.{State}
use Rattle.ts_spec.specs.Wire.{Request, Stream, Then, ending_of}
use Rattle.ts_spec.specs.declared.limits.Limits.{Limits}
use Rattle.ts_db.specs.DbState.{DbState}
use Rattle.ts_resp.specs.Reading.{Reading, stream_of}
use Rattle.ts_journal.specs.Loading.{Load, BreaksAt, load_on}
use Rattle.ts_checkpoint.specs.Fronts.{offset_behind, front_size}
use Rattle.ts_checkpoint.specs.Loading.{OpenSeries, Restoring, restore_request, restore_on, load_start}
use Rattle.ts_checkpoint.specs.Parts.{Part, Samples, Rule}
use Rattle.ts_checkpoint.specs.Sayable.{IsTimeIfAny}
use Rattle.ts_sample.specs.Chunk.{IsLimit}
use Rattle.ts_execution.specs.declared.next_change.NextChange.{NextChange}
use Rattle.ts_execution.specs.declared.next_change.NextChange.TheVariants as found
use Rattle.ts_execution.specs.declared.parts.PartResult.{PartResult}
use Rattle.ts_execution.specs.declared.parts.PartResult.TheVariants as part_result
use Rattle.ts_execution.specs.declared.stage.Stage.{Stage}
use Rattle.ts_execution.specs.declared.stage.Stage.TheVariants as stage

-- ---- stages

-- What a stream loads to at this stage, for a journal of `size` bytes. The requests before offset `end` led to state m.
abbrev pub load_at : Stage → Limits → State → (end size : ℕ) → Stream → Load
load_at stage.Start limits m end size stream = load_start limits m size stream
load_at (stage.Parts more current) limits m end size stream =
    restore_on limits (record { state = m; current = current }) (suc more) end size stream
load_at (stage.Changes checkpoint) limits m end size stream = load_on limits m end size stream

-- the size of the checkpoint, of which a stream has the rest at this stage
abbrev pub checkpoint_at : Stage → (end : ℕ) → Stream → ℕ
checkpoint_at stage.Start end stream = front_size stream
checkpoint_at (stage.Parts more current) end stream = offset_behind (suc more) end stream
checkpoint_at (stage.Changes checkpoint) end stream = checkpoint

-- where a stream ends, and the size of the checkpoint
pub record Rest : Type 0 where
  pub ending : Stream
  pub checkpoint : ℕ

-- those of this stream, at this stage
abbrev pub rest_at : Stage → (end : ℕ) → Stream → Rest
rest_at s end stream = record { ending = ending_of stream; checkpoint = checkpoint_at s end stream }

-- The stage after a part that ends at offset `place`, with `left` parts still to come. There is none if the last series
-- waits for chunks.
abbrev pub stage_behind : (left : ℕ) → Option OpenSeries → (place : ℕ) → Option Stage
stage_behind zero None place = Some (stage.Changes place)
stage_behind zero (Some o) place = None
stage_behind (suc more) current place = Some (stage.Parts more current)

-- ---- one request

-- The request, which ends at offset `after`, was taken: the rest of any stream loads as all of it does, and ends as it
-- does, with a checkpoint of the same size. The requests before it end at `end`.
pub record TakesOn (was now : Stage) (request : Request) (end after : ℕ) (from to : DbState) : Type 0 where
  pub limits : to.limits ≡ from.limits
  pub on : (size : ℕ) (rest : Stream)
      → load_at was from.limits from.state end size (Then request after rest)
      ≡ load_at now from.limits to.state after size rest
  pub rest : (rest : Stream) → rest_at was end (Then request after rest) ≡ rest_at now after rest

-- the request breaks the journal at this offset, whatever follows
pub record BreaksOn (was : Stage) (request : Request) (end after place : ℕ) (from to : DbState) : Type 0 where
  pub limits : to.limits ≡ from.limits
  pub on : (size : ℕ) (rest : Stream)
      → load_at was from.limits from.state end size (Then request after rest) ≡ BreaksAt place

-- it was taken, or it breaks the journal, or memory ran out
abbrev pub TakesRequest : NextChange → (was now : Stage) → Request → (end after : ℕ) → (from to : DbState) → Type 0
TakesRequest (found.Change end') was now request end after from to =
    (end' ≡ after) × TakesOn was now request end after from to
TakesRequest found.Nothing was now request end after from to = ⊥
TakesRequest (found.Broken place) was now request end after from to = BreaksOn was request end after place from to
TakesRequest found.Memory was now request end after from to = ⊤

-- A part that ends at offset `after` was taken, and `left` are still to come: this stage comes next, or the journal
-- breaks there.
abbrev pub EntersStage : NextChange → (left : ℕ) → Option OpenSeries → (after : ℕ) → (now : Stage) → Type 0
EntersStage (found.Change end') left current after now = (end' ≡ after) × (stage_behind left current after ≡ Some now)
EntersStage found.Nothing left current after now = ⊥
EntersStage (found.Broken place) left current after now = (place ≡ after) × (stage_behind left current after ≡ None)
EntersStage found.Memory left current after now = ⊥

-- ---- one part

-- This is what restoring it gives: the next state, and the series that waits for chunks, if any; or it can't come next;
-- or memory ran out.
abbrev pub GivesRestored : PartResult → Option Restoring → (from to : DbState) → Type 0
GivesRestored (part_result.Taken now) wanted from to =
    (wanted ≡ Some (record { state = to.state; current = now })) × (to.limits ≡ from.limits)
GivesRestored part_result.Refused wanted from to = (wanted ≡ None) × (to.limits ≡ from.limits)
GivesRestored part_result.Memory wanted from to = ⊤

-- the same for a part, while this series waits for chunks, if any
abbrev pub TakesPart : PartResult → Option OpenSeries → Option Part → (from to : DbState) → Type 0
TakesPart result was p from to =
    GivesRestored result (restore_request from.limits (record { state = from.state; current = was }) p) from to

-- whether a series with all its chunks or a rule was stored
abbrev pub part_result_of : Result Bool AllocError → PartResult
part_result_of (Ok true) = part_result.Taken None
part_result_of (Ok false) = part_result.Refused
part_result_of (Err error) = part_result.Memory

-- the numbers of a part are in range, as far as restoring it needs that
abbrev pub IsInRange : Part → Type 0
IsInRange (Samples p) = IsLimit p.limit
IsInRange (Rule p) = IsTimeIfAny p.rule.current
IsInRange other = ⊤

-- ---- the requests of a reader

-- the next request was taken, and ends at offset `end'`: the same for any bytes that follow
pub record GoesOn (was now : Stage) (old new : Reading) (end end' : ℕ) (from to : DbState) : Type 0 where
  pub limits : to.limits ≡ from.limits
  pub on : (size : ℕ) (more : List ℕ)
      → load_at was from.limits from.state end size (stream_of old more)
      ≡ load_at now from.limits to.state end' size (stream_of new more)
  pub rest : (more : List ℕ) → rest_at was end (stream_of old more) ≡ rest_at now end' (stream_of new more)

-- The next request was taken, and more may follow; or no complete one is left; or the journal breaks here; or memory
-- ran out. `end` is the offset after the requests before it. Holds for any bytes that follow and any size of the
-- journal.
abbrev pub IsNextChange : NextChange → (was now : Stage) → (old new : Reading) → (end : ℕ) → (from to : DbState)
    → Type 0
IsNextChange (found.Change end') was now old new end from to = GoesOn was now old new end end' from to
IsNextChange found.Nothing was now old new end from to =
    (to ≡ from) × (now ≡ was) × ((more : List ℕ) → stream_of new more ≡ stream_of old more)
IsNextChange (found.Broken place) was now old new end from to = (to.limits ≡ from.limits)
    × ((size : ℕ) (more : List ℕ) → load_at was from.limits from.state end size (stream_of old more) ≡ BreaksAt place)
IsNextChange found.Memory was now old new end from to = ⊤

-- a fact, if a request was taken
abbrev pub IfChange : NextChange → Type 0 → Type 0
IfChange (found.Change end) what = what
IfChange other what = ⊤
