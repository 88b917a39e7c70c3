-- What the prefixes of a journal load to.
use Rattle.std.specs.Prelude.{◌≡◌, ◌≤◌, ◌<◌, ◌⊎◌, ℕ, zero, suc, List, take, Option, None, Some}
use Rattle.ts_spec.specs.State.{State}
use Rattle.ts_spec.specs.Wire.{Stream, Then, stream_at}
use Rattle.ts_spec.specs.declared.limits.Limits.{Limits}
use Rattle.ts_journal.specs.Limits.{journal_limits}
use Rattle.ts_journal.specs.Loading.{Loads, BreaksAt, unless_foreign}
use Rattle.ts_checkpoint.specs.PartOf.{part_of}
use Rattle.ts_checkpoint.specs.Loading.{parts_said, load}

-- the offset behind the first `left` requests of a stream, or behind all of them if there are fewer
abbrev pub offset_behind : (left place : ℕ) → Stream → ℕ
offset_behind zero place stream = place
offset_behind (suc left) place (Then request after rest) = offset_behind left after rest
offset_behind (suc left) place other = place

-- the same behind a head, or 0 without one
abbrev pub size_behind : Option ℕ → (after : ℕ) → Stream → ℕ
size_behind None after rest = 0
size_behind (Some left) after rest = offset_behind left after rest

-- the size of the checkpoint at the front of a stream, or 0 without one
abbrev pub front_size : Stream → ℕ
front_size (Then request after rest) = size_behind (parts_said (part_of request)) after rest
front_size other = 0

-- the size of the checkpoint at the front of a journal, or 0 without one
abbrev pub checkpoint_size : Limits → List ℕ → ℕ
checkpoint_size limits bytes = front_size (stream_at (journal_limits limits.wire) 0 bytes)

-- The first n bytes: `place` of them are whole requests, which load to some state. All n load to it too, unless their
-- rest breaks the journal because no record starts so.
pub record FrontLoadsTo (limits : Limits) (bytes : List ℕ) (n : ℕ) : Type 0 where
  pub state : State
  pub place : ℕ
  pub within : place ≤ n
  pub whole : load limits (take place bytes) ≡ Loads state place
  pub loads : load limits (take n bytes) ≡ unless_foreign (take n bytes) (Loads state place)

-- the first n bytes end within the checkpoint, and break
pub record FrontBreaks (limits : Limits) (bytes : List ℕ) (n : ℕ) : Type 0 where
  pub within : n < checkpoint_size limits bytes
  pub place : ℕ
  pub breaks : load limits (take n bytes) ≡ BreaksAt place

-- the first n bytes load, or break because they are less than the checkpoint
abbrev pub FrontLoads : Limits → List ℕ → (n : ℕ) → Type 0
FrontLoads limits bytes n = FrontLoadsTo limits bytes n ⊎ FrontBreaks limits bytes n
