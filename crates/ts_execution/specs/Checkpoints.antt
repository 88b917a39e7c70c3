-- A checkpoint of a database as it is written to the draft of a log.
use Rattle.std.specs.Prelude.{◌≡◌, ℕ, ◌+◌, List, [], ◌∷◌, map, flat_map, length, slice_index, slice_index_or, All, Option, Some, Result, Err}
use Rattle.std.specs.Io.KnownBytes.{append_known}
use Rattle.ts_io.specs.Causes.{Rose}
use Rattle.ts_spec.specs.declared.wire.WireLimits.{WireLimits}
use Rattle.ts_spec.specs.Encoded.{Fits, encoded}
use Rattle.ts_spec.specs.Key.{Key}
use Rattle.ts_spec.specs.Keyed.{Entry, get}
use Rattle.ts_spec.specs.Sample.{Point}
use Rattle.ts_spec.specs.State.{Label}
use Rattle.ts_spec.specs.StoredSeries.{StoredSeries}
use Rattle.ts_spec.specs.Wire.{Request}
use Rattle.ts_sample.specs.declared.sample.Id.{Id}
use Rattle.ts_restore.specs.Checkpoint.{series_part}
use Rattle.ts_journal.specs.Limits.{journal_limits}
use Rattle.ts_checkpoint.specs.Parts.{Part}
use Rattle.ts_checkpoint.specs.PartWords.{part_words}
use Rattle.ts_checkpoint.specs.Restoring.{Chunk, ChunkedSeries, shown_series, series_parts, AreSayable, HaveStoredChunks, IsWritten}
use Rattle.ts_series.specs.History.{History}
use Rattle.ts_series.specs.Stored.{Stored}
use Rattle.ts_db.specs.DbState.{DbState, DbView, chunk_samples_at}
use Rattle.ts_execution.specs.declared.checkpoint.CheckpointFault.{CheckpointFault}
use Rattle.ts_execution.specs.declared.checkpoint.CheckpointFault.TheVariants.{Log}

-- The requests of a checkpoint of the state were appended to the draft. Each of them fits the limits of journals.
pub record Writes (limits : WireLimits) (held : DbState) (old new : Option (List ℕ)) : Type 0 where
  pub requests : List Request
  pub written : IsWritten held.limits held.state requests
  pub fit : All (Fits (journal_limits limits)) requests
  pub added : new ≡ append_known old (encoded requests)

-- ---- what else a log has

-- a log without its draft
pub record LogState : Type 0 where
  pub content : Option (List ℕ)
  pub place : ℕ
  pub faults : ℕ

-- the log without its draft, by the ghost members of its trait
abbrev pub log_state : {J : Type 0} → (content : J → Option (List ℕ)) → (place faults : J → ℕ) → J → LogState
log_state content place faults log = record { content = content log; place = place log; faults = faults log }

-- Only the draft may have changed. The result is the fault of the log exactly if one of its calls failed.
pub record OnlyDrafts (old new : LogState) (result : Result (Unit {0}) CheckpointFault) : Type 0 where
  pub content : new.content ≡ old.content
  pub place : new.place ≡ old.place
  pub fault : result ≡ Err Log → Rose old.faults new.faults
  pub no_fault : (result ≡ Err Log → ⊥) → new.faults ≡ old.faults

-- ---- records

-- The records of these parts were appended to the draft. Each fits the limits, and words can say it.
pub record Written (limits : WireLimits) (old new : Option (List ℕ)) (parts : List Part) : Type 0 where
  pub added : new ≡ append_known old (encoded (map part_words parts))
  pub fit : All (Fits limits) (map part_words parts)
  pub sayable : AreSayable parts

-- ---- series

-- the chunk at an index
abbrev pub chunk_at : Stored → ℕ → Chunk
chunk_at s index = record { limit = slice_index s.limits index; list = slice_index_or s.pieces index [] }

-- chunks from their samples and their limits
abbrev pub chunks_from : List (List Point) → (limits : List ℕ) → List Chunk
chunks_from [] limits = []
chunks_from (ps ∷ pss) [] = []
chunks_from (ps ∷ pss) (n ∷ ns) = record { limit = n; list = ps } ∷ chunks_from pss ns

-- a series with its key and its labels
abbrev pub chunked : Key → List Label → History → ChunkedSeries
chunked key labels h = record {
  key = key;
  spec = record { options = h.options; labels = labels };
  high = h.high;
  born = h.born;
  chunks = chunks_from h.held.pieces h.held.limits;
}

-- the entry of a series by its id
pub record IsEntry (db_view : DbView) (id : Id) (e : Entry StoredSeries) : Type 0 where
  pub numbered : get e.key db_view.ids ≡ Some id
  pub there : get e.key db_view.keys ≡ Some e.value

-- The records of these series and of their chunks were appended to the draft.
pub record WrittenSeries (limits : WireLimits) (db_view : DbView) (es : List (Entry StoredSeries)) (old new : Option (List ℕ)) : Type 0 where
  pub series : List ChunkedSeries
  pub shown : map shown_series series ≡ map series_part es
  pub counts : map (λ s. length s.chunks) series ≡ map (λ e. length (chunk_samples_at db_view e.key)) es
  pub stored : HaveStoredChunks series
  pub written : Written limits old new (flat_map series_parts series)

-- ---- the number of records

-- the records of a series: its own, one for each chunk, and one for each rule
abbrev pub record_count : DbView → Entry StoredSeries → ℕ
record_count db_view e = 1 + length (chunk_samples_at db_view e.key) + length e.value.rules

-- the records of these series
abbrev pub record_total : DbView → List (Entry StoredSeries) → ℕ
record_total db_view [] = 0
record_total db_view (e ∷ es) = record_count db_view e + record_total db_view es
