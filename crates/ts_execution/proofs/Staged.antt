-- The stages of a load, one request after another.
use Rattle.std.proofs.Common.{◌≡◌, ℕ, zero, suc, List, refl, sym, ◌∙◌, ap}
use Rattle.std.specs.Prelude.{Option, None, Some}
use Rattle.ts_resp.specs.Reading.{Reading, stream_of}
use Rattle.ts_spec.specs.State.{State}
use Rattle.ts_spec.specs.Wire.{Request, Stream, Then, Broken}
use Rattle.ts_spec.specs.declared.limits.Limits.{Limits}
use Rattle.ts_spec.specs.declared.wire.Kind.{Kind}
use Rattle.ts_db.specs.DbState.{DbState, DbView, Simulates}
use Rattle.ts_journal.specs.Loading.{BreaksAt, continue_or_break, load_on}
use Rattle.ts_checkpoint.specs.Fronts.{size_behind, offset_behind}
use Rattle.ts_checkpoint.specs.Loading.{OpenSeries, Restoring, restoring, parts_said, restore_or_break, restore_on, load_first}
use Rattle.ts_checkpoint.specs.PartOf.{part_of}
use Rattle.ts_execution.specs.JournalReplay.{ReplaysRequest}
use Rattle.ts_execution.specs.Stages.{Rest, load_at, checkpoint_at, rest_at, stage_behind, TakesRequest, EntersStage, TakesPart, IsNextChange, IfChange}
use Rattle.ts_execution.specs.declared.journal_replay.ReplayResult.TheVariants as replay_result
use Rattle.ts_execution.specs.declared.next_change.NextChange.{NextChange}
use Rattle.ts_execution.specs.declared.next_change.NextChange.TheVariants as found
use Rattle.ts_execution.specs.declared.parts.PartResult.TheVariants as part_result
use Rattle.ts_execution.specs.declared.stage.Stage.{Stage}
use Rattle.ts_execution.specs.declared.stage.Stage.TheVariants as stage
use Rattle.ts_execution.proofs.Carried.{carries_as}

-- ---- a change

module _ (words : Request) (before after : ℕ) (old new : DbView) where
  -- it was accepted
  pub change-accepted : Simulates old new (λ from to. ReplaysRequest replay_result.Accepted words from to)
      → Simulates old new (λ from to. (checkpoint : ℕ) → TakesRequest (found.Change after) (stage.Changes checkpoint) (stage.Changes checkpoint) words before after from to)
  change-accepted carries =
      carries_as old new (λ from to. ReplaysRequest replay_result.Accepted words from to)
      (λ from to. (checkpoint : ℕ) → TakesRequest (found.Change after) (stage.Changes checkpoint) (stage.Changes checkpoint) words before after from to)
      (λ from to done checkpoint. (
        refl,
        record {
          limits = done.1;
          on = λ size rest. ap (λ (o : Option State). continue_or_break o before (λ n. load_on from.limits n after size rest)) done.0;
          rest = λ rest. refl;
        },
      )) carries

  -- it was refused
  pub change-refused : Simulates old new (λ from to. ReplaysRequest replay_result.Refused words from to)
      → Simulates old new (λ from to. (checkpoint : ℕ) → TakesRequest (found.Broken before) (stage.Changes checkpoint) (stage.Changes checkpoint) words before after from to)
  change-refused carries =
      carries_as old new (λ from to. ReplaysRequest replay_result.Refused words from to)
      (λ from to. (checkpoint : ℕ) → TakesRequest (found.Broken before) (stage.Changes checkpoint) (stage.Changes checkpoint) words before after from to)
      (λ from to done checkpoint. record {
        limits = done.1;
        on = λ size rest. ap (λ (o : Option State). continue_or_break o before (λ n. load_on from.limits n after size rest)) done.0;
      }) carries

-- ---- behind a part

-- the stage there loads what the parts that are left and the changes behind them do
behind-on : (left : ℕ) (current : Option OpenSeries) (place : ℕ) (now : Stage) → stage_behind left current place ≡ Some now
    → (limits : Limits) (m : State) (size : ℕ) (stream : Stream)
    → restore_on limits (record { state = m; current = current }) left place size stream ≡ load_at now limits m place size stream
behind-on zero None place now is limits m size stream =
    let same : stage.Changes place ≡ now = cc in
    ap (λ (s : Stage). load_at s limits m place size stream) same
behind-on zero (Some o) place now is limits m size stream = absurd cc
behind-on (suc more) current place now is limits m size stream =
    let same : stage.Parts more current ≡ now = cc in
    ap (λ (s : Stage). load_at s limits m place size stream) same

-- and the checkpoint ends behind these parts
behind-size : (left : ℕ) (current : Option OpenSeries) (place : ℕ) (now : Stage) → stage_behind left current place ≡ Some now
    → (stream : Stream) → offset_behind left place stream ≡ checkpoint_at now place stream
behind-size zero None place now is stream =
    let same : stage.Changes place ≡ now = cc in
    ap (λ (s : Stage). checkpoint_at s place stream) same
behind-size zero (Some o) place now is stream = absurd cc
behind-size (suc more) current place now is stream =
    let same : stage.Parts more current ≡ now = cc in
    ap (λ (s : Stage). checkpoint_at s place stream) same

-- there is none, so the journal breaks
behind-breaks : (left : ℕ) (current : Option OpenSeries) (place : ℕ) → stage_behind left current place ≡ None
    → (limits : Limits) (m : State) (size : ℕ) (stream : Stream)
    → restore_on limits (record { state = m; current = current }) left place size stream ≡ BreaksAt place
behind-breaks zero None place is limits m size stream = absurd cc
behind-breaks zero (Some o) place is limits m size stream = refl
behind-breaks (suc more) current place is limits m size stream = absurd cc

abbrev rest-with : Stream → ℕ → Rest
rest-with stream n = record { ending = stream; checkpoint = n }

-- ---- the first request

module _ (words : Request) (left after : ℕ) (head : parts_said (part_of words) ≡ Some left) where
  first-on : (limits : Limits) (m : State) (size : ℕ) (rest : Stream)
      → load_first limits m (parts_said (part_of words)) size words after rest ≡ restore_on limits (restoring m) left after size rest
  first-on limits m size rest = ap (λ (o : Option ℕ). load_first limits m o size words after rest) head

  -- it is a head
  pub enters-first : (told : NextChange) (now : Stage) → EntersStage told left None after now → (from : DbState) (end : ℕ) → TakesRequest told stage.Start now words end after from from
  enters-first (found.Change end') now is from end = (
    is.0,
    record {
      limits = refl;
      on = λ size rest. first-on from.limits from.state size rest ∙ behind-on left None after now is.1 from.limits from.state size rest;
      rest = λ rest. ap (λ (n : ℕ). rest-with (rest_at now after rest).ending n)
          (ap (λ (o : Option ℕ). size_behind o after rest) head ∙ behind-size left None after now is.1 rest);
    },
  )
  enters-first found.Nothing now is from end = is
  enters-first (found.Broken place) now is from end = record {
    limits = refl;
    on = λ size rest. first-on from.limits from.state size rest ∙ behind-breaks left None after is.1 from.limits from.state size rest ∙ ap BreaksAt (sym is.0);
  }
  enters-first found.Memory now is from end = absurd is

-- it is none, so it is a change
pub first-change : (words : Request) (after : ℕ) → parts_said (part_of words) ≡ None → (told : NextChange) (from to : DbState)
    → TakesRequest told (stage.Changes 0) (stage.Changes 0) words 0 after from to → (end : ℕ) → TakesRequest told stage.Start (stage.Changes 0) words end after from to
first-change words after none (found.Change end') from to is end = (
  is.0,
  record {
    limits = is.1.limits;
    on = λ size rest. ap (λ (o : Option ℕ). load_first from.limits from.state o size words after rest) none ∙ is.1.on size rest;
    rest = λ rest. ap (λ (n : ℕ). rest-with (rest_at (stage.Changes 0) after rest).ending n) (ap (λ (o : Option ℕ). size_behind o after rest) none);
  },
)
first-change words after none found.Nothing from to is end = is
first-change words after none (found.Broken place) from to is end = record {
  limits = is.limits;
  on = λ size rest. ap (λ (o : Option ℕ). load_first from.limits from.state o size words after rest) none ∙ is.on size rest;
}
first-change words after none found.Memory from to is end = tt

-- ---- a part

-- it was taken
pub enters-part : (words : Request) (more : ℕ) (was current : Option OpenSeries) (end after : ℕ) (told : NextChange) (now : Stage) → EntersStage told more current after now
    → (from to : DbState) → TakesPart (part_result.Taken current) was (part_of words) from to → TakesRequest told (stage.Parts more was) now words end after from to
enters-part words more was current end after (found.Change end') now is from to done = (
  is.0,
  record {
    limits = done.1;
    on = λ size rest. ap (λ (o : Option Restoring). restore_or_break o end (λ n. restore_on from.limits n more after size rest)) done.0
        ∙ behind-on more current after now is.1 from.limits to.state size rest;
    rest = λ rest. ap (λ (n : ℕ). rest-with (rest_at now after rest).ending n) (behind-size more current after now is.1 rest);
  },
)
enters-part words more was current end after found.Nothing now is from to done = is
enters-part words more was current end after (found.Broken place) now is from to done = record {
  limits = done.1;
  on = λ size rest. ap (λ (o : Option Restoring). restore_or_break o end (λ n. restore_on from.limits n more after size rest)) done.0
      ∙ behind-breaks more current after is.1 from.limits to.state size rest ∙ ap BreaksAt (sym is.0);
}
enters-part words more was current end after found.Memory now is from to done = absurd is

-- it was refused
pub part-refused : (words : Request) (more : ℕ) (was : Option OpenSeries) (end after : ℕ) (now : Stage) (from to : DbState) → TakesPart part_result.Refused was (part_of words) from to
    → TakesRequest (found.Broken end) (stage.Parts more was) now words end after from to
part-refused words more was end after now from to done = record {
  limits = done.1;
  on = λ size rest. ap (λ (o : Option Restoring). restore_or_break o end (λ n. restore_on from.limits n more after size rest)) done.0;
}

-- ---- the next request of a reader

module _ (words : Request) (was now : Stage) (reader reader' : Reading) (end after : ℕ) (begins : after ≡ reader'.begin)
    (stream : (more : List ℕ) → stream_of reader more ≡ Then words reader'.begin (stream_of reader' more)) where
  taken-stream : (more : List ℕ) → stream_of reader more ≡ Then words after (stream_of reader' more)
  taken-stream more = stream more ∙ ap (λ (n : ℕ). Then words n (stream_of reader' more)) (sym begins)

  pub finds-by : (told : NextChange) (from to : DbState) → TakesRequest told was now words end after from to → IsNextChange told was now reader reader' end from to
  finds-by (found.Change end') from to is = record {
    limits = is.1.limits;
    on = λ size more. ap (load_at was from.limits from.state end size) (taken-stream more) ∙ is.1.on size (stream_of reader' more)
        ∙ ap (λ (n : ℕ). load_at now from.limits to.state n size (stream_of reader' more)) (sym is.0);
    rest = λ more. ap (rest_at was end) (taken-stream more) ∙ is.1.rest (stream_of reader' more) ∙ ap (λ (n : ℕ). rest_at now n (stream_of reader' more)) (sym is.0);
  }
  finds-by found.Nothing from to is = absurd is
  finds-by (found.Broken place) from to is =
      (is.limits, λ size more. ap (load_at was from.limits from.state end size) (taken-stream more) ∙ is.on size (stream_of reader' more))
  finds-by found.Memory from to is = tt

-- it is broken
pub broken-at : (was : Stage) (limits : Limits) (m : State) (end size : ℕ) (kind : Kind) (place : ℕ) → load_at was limits m end size (Broken kind place) ≡ BreaksAt place
broken-at stage.Start limits m end size kind place = refl
broken-at (stage.Parts more current) limits m end size kind place = refl
broken-at (stage.Changes checkpoint) limits m end size kind place = refl

-- a fact, if it was taken
pub onward-by : (told : NextChange) (P : Type 0) → P → IfChange told P
onward-by (found.Change end) P holds = holds
onward-by found.Nothing P holds = tt
onward-by (found.Broken place) P holds = tt
onward-by found.Memory P holds = tt
