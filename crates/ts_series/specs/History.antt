-- A series as its callers see it.
use Rattle.std.specs.Prelude.{◌≡◌, ℕ, ◌/◌, ◌≤◌, nat_le, max, min, List, [], length, Option}
use Rattle.ts_spec.specs.declared.series.Encoding.{Encoding}
use Rattle.ts_spec.specs.declared.series.Encoding.TheVariants.{Compressed, Uncompressed}
use Rattle.ts_spec.specs.declared.series.Options.{Options}
use Rattle.ts_spec.specs.Sample.{Point, IsAscending, at_times}
use Rattle.ts_spec.specs.State.{Label, Record, edge_of}
use Rattle.ts_spec.specs.Valid.{IsOwn, Every}
use Rattle.ts_sample.specs.Chunk.{least_limit, greatest_limit}
use Rattle.ts_chunk_packed.specs.Packed.{packed}
use Rattle.ts_chunk_plain.specs.Plain.{plain}
use Rattle.ts_series.specs.Stored.{Stored, points, AreStoredChunks, AreAmong, IsTrimmed, greatest}

-- A series: its options, its samples, the highest time it ever had a sample at, the number of rules ever created on
-- it, and its chunks.
pub record History : Type 0 where
  pub options : Options
  pub samples : List Point
  pub high : Option ℕ
  pub born : ℕ
  pub held : Stored

-- the series of these chunks, which shows their samples from the retention edge on
abbrev pub history_of : Options → (high : Option ℕ) → (born : ℕ) → Stored → History
history_of options high born held =
    record { options = options; samples = at_times (nat_le (edge_of options.retention high)) (points held); high = high; born = born; held = held }

-- the samples, in ascending time
abbrev pub list_of : History → List Point
list_of h = h.samples

-- the retention edge: the earliest time that the series keeps
abbrev pub low : History → ℕ
low h = edge_of h.options.retention h.high

-- the limit of a new chunk: the given size, clamped to the allowed range
abbrev pub limit_for : (chunk_size : ℕ) → ℕ
limit_for size = max least_limit (min size greatest_limit)

-- the reach: no chunk has more samples, since each sample takes at least three bytes
abbrev pub reach : History → ℕ
reach h = greatest (limit_for h.options.chunk_size) h.held.limits / 3

-- every chunk's limit is that of an earlier chunk or of a new one
abbrev pub KeepsLimits : (before after : History) → Type 0
KeepsLimits before after = AreAmong (limit_for before.options.chunk_size) before.held.limits after.held.limits

-- the reach does not grow beyond that of the old chunks and of a new one
abbrev pub KeepsReach : (before after : History) → Type 0
KeepsReach before after = reach after ≤ max (reach before) (limit_for after.options.chunk_size / 3)

-- the record of a series with these labels and without rules
abbrev pub record_of : List Label → History → Record
record_of labels h = record { options = h.options; labels = labels; plain = list_of h; high = h.high; born = h.born; rules = [] }

-- the chunk format of an encoding
abbrev pub format_of : Encoding → List Point → List ℕ
format_of Compressed = packed
format_of Uncompressed = plain

-- What holds for every series: its samples are in ascending time, within retention, and no later than its highest
-- time. Its chunks are in order and in this format. Only the first may hold samples before the retention edge, and it
-- has one at or after it.
pub record IsKeptIn (format : List Point → List ℕ) (h : History) : Type 0 where
  pub ascending : IsAscending h.samples
  pub past_edge : at_times (nat_le (edge_of h.options.retention h.high)) h.samples ≡ h.samples
  pub own : Every (IsOwn (record_of [] h)) h.samples
  pub chunks : AreStoredChunks format h.held.pieces h.held.limits (length (points h.held))
  pub trimmed : IsTrimmed (edge_of h.options.retention h.high) h.held.pieces

-- the same in the format of the series' encoding
abbrev pub IsKept : History → Type 0
IsKept h = IsKeptIn (format_of h.options.encoding) h
