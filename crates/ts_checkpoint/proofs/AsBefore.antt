-- A journal without a checkpoint loads as its changes do.
use Rattle.std.proofs.Common.{◌≡◌, ℕ, ◌<◌, List, length, refl, ap, ◌∙◌, arith}
use Rattle.std.specs.Prelude.{Option, Some, None, Result, Ok, Err}
use Rattle.ts_spec.specs.declared.limits.Limits.{Limits}
use Rattle.ts_spec.specs.Command.{Command}
use Rattle.ts_spec.specs.Grammar.{command}
use Rattle.ts_spec.specs.Refusal.{Fault}
use Rattle.ts_spec.specs.State.{State, empty}
use Rattle.ts_spec.specs.Wire.{Stream, Then, Ended, Inside, Broken, Start, stream_at}
use Rattle.ts_journal.specs.Limits.{journal_limits}
use Rattle.ts_journal.specs.Loading as changes
use Rattle.ts_journal.specs.Loading.{Loads, apply_recorded_request, load_on, unless_foreign}
use Rattle.ts_journal.proofs.Loads as changes_loads
use Rattle.ts_journal.proofs.Loads.{loads-next}
use Rattle.ts_checkpoint.specs.Fronts.{size_behind, front_size, checkpoint_size}
use Rattle.ts_checkpoint.specs.Loading.{parts_said, load}
use Rattle.ts_checkpoint.specs.PartOf.{part_of}
use Rattle.ts_checkpoint.proofs.Heads.{command-no_head}
use Rattle.ts_checkpoint.proofs.LoadStart.{BeginsWithout, starts-without}
use Rattle.ts_checkpoint.proofs.Offsets.{AreOffsets, offsets}
use Rattle.ts_checkpoint.proofs.RestoreOn.{behind-before}

-- ---- no checkpoint

none-sized : (left : Option ℕ) (after : ℕ) (rest : Stream) → 0 < after → AreOffsets after rest → size_behind left after rest ≡ 0 → left ≡ None
none-sized None after rest some h e = refl
none-sized (Some left) after rest some h e = absurd (omega (arith, some, e, behind-before left after rest h))

begins-without : (stream : Stream) → AreOffsets 0 stream → front_size stream ≡ 0 → BeginsWithout stream
begins-without (Then request after rest) h e = none-sized (parts_said (part_of request)) after rest h.0 h.1 e
begins-without Ended h e = tt
begins-without (Inside begin) h e = tt
begins-without (Broken kind at) h e = tt

same-by : (limits : Limits) (bytes : List ℕ) → BeginsWithout (stream_at (journal_limits limits.wire) 0 bytes) → load limits bytes ≡ changes.load limits bytes
same-by limits bytes without = ap (unless_foreign bytes) (starts-without limits empty (length bytes) (stream_at (journal_limits limits.wire) 0 bytes) without)

pub loads-as_before : (limits : Limits) (bytes : List ℕ) → checkpoint_size limits bytes ≡ 0 → load limits bytes ≡ changes.load limits bytes
loads-as_before limits bytes none =
    same-by limits bytes (begins-without (stream_at (journal_limits limits.wire) 0 bytes) (offsets (journal_limits limits.wire) 0 0 Start bytes) none)

-- ---- what loads as changes

loaded-without : (limits : Limits) (m : State) (before size : ℕ) (stream : Stream) (n : State) (place : ℕ) → load_on limits m before size stream ≡ Loads n place → BeginsWithout stream
loaded-without limits m before size (Then request after rest) n place e =
    let next = loads-next limits m before size request after rest n place e in
    go (command request) refl next.mid next.does
  where
    go : (said : Result Command Fault) → command request ≡ said → (mid : State) → apply_recorded_request limits m said ≡ Some mid → parts_said (part_of request) ≡ None
    go (Ok c) its mid does = command-no_head request c its
    go (Err fault) its mid does = absurd cc
loaded-without limits m before size Ended n place e = tt
loaded-without limits m before size (Inside begin) n place e = tt
loaded-without limits m before size (Broken kind at) n place e = tt

pub loads-still : (limits : Limits) (bytes : List ℕ) (m : State) (place : ℕ) → changes.load limits bytes ≡ Loads m place → load limits bytes ≡ Loads m place
loads-still limits bytes m place e =
    same-by limits bytes (loaded-without limits empty 0 (length bytes) (stream_at (journal_limits limits.wire) 0 bytes) m place (changes_loads.requests-of limits bytes m place e)) ∙ e
