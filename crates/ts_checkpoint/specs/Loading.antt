-- What a journal loads to: the database after the checkpoint that it may begin with, and after the changes in it.
use Rattle.std.specs.Prelude.{◌≡◌, ℕ, zero, suc, ◌==◌, true, if◌then◌else◌, List, [], ◌∷◌, ◌++◌, length, take, drop, Option, None, Some}
use Rattle.ts_spec.specs.Encoded.{encoded}
use Rattle.ts_spec.specs.Represents.{RepresentsState}
use Rattle.ts_spec.specs.Sample.{Point}
use Rattle.ts_spec.specs.State.{State, empty}
use Rattle.ts_spec.specs.StoredSeries.{kept}
use Rattle.ts_spec.specs.Wire.{Request, Stream, Then, Ended, Inside, Broken, stream_at}
use Rattle.ts_spec.specs.declared.limits.Limits.{Limits}
use Rattle.ts_spec.specs.declared.wire.WireLimits.{WireLimits}
use Rattle.ts_journal.specs.Limits.{journal_limits}
use Rattle.ts_journal.specs.Loading.{Load, Loads, BreaksAt, begins_as_record, load_on, unless_foreign}
use Rattle.ts_restore.specs.Checkpoint.{SeriesPart, RulePart}
use Rattle.ts_restore.specs.Restored.{with_series, with_restored_rule}
use Rattle.ts_checkpoint.specs.Checks.{can_follow, is_new_series, is_new_rule}
use Rattle.ts_checkpoint.specs.Parts.{SeriesHead, Part, Head, Series, Samples, Rule}
use Rattle.ts_checkpoint.specs.PartOf.{part_of}
use Rattle.ts_checkpoint.specs.Restoring.{Chunk, ChunkedSeries, shown_series}
use Rattle.ts_checkpoint.specs.Unpacked.{unpacked}

-- ---- the parts of a checkpoint, one after another

-- a series, and its chunks so far
pub record OpenSeries : Type 0 where
  pub head : SeriesHead
  pub chunks : List Chunk

-- the state after some parts of a checkpoint, and the series whose chunks come next, if there is one
pub record Restoring : Type 0 where
  pub state : State
  pub current : Option OpenSeries

-- no series waits for chunks
abbrev pub restoring : State → Restoring
restoring m = record { state = m; current = None }

-- the series with the chunks so far
abbrev pub series_so_far : OpenSeries → ChunkedSeries
series_so_far o = record {
  key = o.head.key;
  spec = o.head.spec;
  high = o.head.high;
  born = o.head.born;
  chunks = o.chunks;
}

-- puts a series with all its chunks into the state, if it is valid and its key is new
abbrev pub with_whole : Limits → State → SeriesPart → Option Restoring
with_whole limits m p = if is_new_series limits (kept m) p then Some (restoring (with_series p m)) else None

-- does so if the series has all its chunks; otherwise it waits for more
abbrev pub with_open : Limits → State → OpenSeries → Option Restoring
with_open limits m o =
    if length o.chunks == o.head.pieces then with_whole limits m (shown_series (series_so_far o))
    else Some (record { state = m; current = Some o })

-- a series with one more chunk
abbrev pub with_chunk : Chunk → OpenSeries → OpenSeries
with_chunk c o = record o { chunks = o.chunks ++ c ∷ [] }

-- takes the next chunk of a series, if its bytes are samples, and these can follow the others
abbrev pub with_samples : Limits → State → OpenSeries → (limit : ℕ) → Option (List Point) → Option Restoring
with_samples limits m o limit None = None
with_samples limits m o limit (Some ps) =
    if can_follow o.head o.chunks limit ps then with_open limits m (with_chunk (record { limit = limit; list = ps }) o)
    else None

-- puts a rule into the state, if it is valid
abbrev pub with_rule : Limits → State → RulePart → Option Restoring
with_rule limits m p = if is_new_rule limits (kept m) p then Some (restoring (with_restored_rule p m)) else None

-- Takes the next part. Series and rules come while no series waits for chunks, and chunks while one does.
abbrev pub restore_by : Limits → State → Option OpenSeries → Part → Option Restoring
restore_by limits m None (Series s) = with_open limits m (record { head = s; chunks = [] })
restore_by limits m None (Rule p) = with_rule limits m p
restore_by limits m (Some o) (Samples p) = with_samples limits m o p.limit (unpacked p.samples)
restore_by limits m current other = None

-- the same, from what was restored so far
abbrev pub restore_part : Limits → Restoring → Part → Option Restoring
restore_part limits r p = restore_by limits r.state r.current p

-- the same for a request, if it is a part
abbrev pub restore_request : Limits → Restoring → Option Part → Option Restoring
restore_request limits r None = None
restore_request limits r (Some p) = restore_part limits r p

-- ---- a journal

-- continues from what was restored after a request, or breaks after the request before it
abbrev pub restore_or_break : Option Restoring → (place : ℕ) → (Restoring → Load) → Load
restore_or_break None place on = BreaksAt place
restore_or_break (Some r) place on = on r

-- loads the changes behind a checkpoint, which breaks if its last series waits for chunks
abbrev pub load_behind : Limits → Option OpenSeries → State → (place size : ℕ) → Stream → Load
load_behind limits None m place size stream = load_on limits m place size stream
load_behind limits (Some o) m place size stream = BreaksAt place

-- restores a checkpoint with `left` parts still to come, and loads what follows; it breaks if a part is missing
abbrev pub restore_on : Limits → Restoring → (left place size : ℕ) → Stream → Load
restore_on limits r zero place size stream = load_behind limits r.current r.state place size stream
restore_on limits r (suc left) place size (Then request after rest) =
    restore_or_break (restore_request limits r (part_of request)) place (λ n. restore_on limits n left after size rest)
restore_on limits r (suc left) place size Ended = BreaksAt place
restore_on limits r (suc left) place size (Inside begin) = BreaksAt place
restore_on limits r (suc left) place size (Broken kind at) = BreaksAt at

-- how many parts a head says
abbrev pub parts_said : Option Part → Option ℕ
parts_said (Some (Head n)) = Some n
parts_said other = None

-- loads a stream by its first request: a checkpoint of `left` parts and the changes behind it, or changes alone
abbrev pub load_first : Limits → State → Option ℕ → (size : ℕ) → Request → (after : ℕ) → Stream → Load
load_first limits m None size request after rest = load_on limits m 0 size (Then request after rest)
load_first limits m (Some left) size request after rest = restore_on limits (restoring m) left after size rest

-- loads a stream of this size from its start: if its first request is a head, a checkpoint is at its front
abbrev pub load_start : Limits → State → (size : ℕ) → Stream → Load
load_start limits m size (Then request after rest) =
    load_first limits m (parts_said (part_of request)) size request after rest
load_start limits m size other = load_on limits m 0 size other

-- what these bytes load to, from this state
abbrev pub load_from : Limits → WireLimits → State → List ℕ → Load
load_from limits wire m bytes =
    unless_foreign bytes (load_start limits m (length bytes) (stream_at (journal_limits wire) 0 bytes))

-- what a journal with these bytes loads to
abbrev pub load : Limits → List ℕ → Load
load limits bytes = load_from limits limits.wire empty bytes

-- all of these bytes are a checkpoint and changes, or changes alone, which lead to this state
abbrev pub LoadsTo : Limits → List ℕ → State → Type 0
LoadsTo limits bytes m = load limits bytes ≡ Loads m (length bytes)

-- wherever whole requests of the journal end, a record may start
abbrev pub HasOnlyRecords : Limits → List ℕ → Type 0
HasOnlyRecords limits bytes =
    (place : ℕ) (m : State) → load limits (take place bytes) ≡ Loads m place
    → begins_as_record (drop place bytes) ≡ true

-- the requests are a journal that loads to a state with the same stored data
pub record RestoresStored (limits : Limits) (m : State) (requests : List Request) : Type 0 where
  pub state : State
  pub loads : LoadsTo limits (encoded requests) state
  pub same : RepresentsState limits (kept m) state
