-- A series that is restored chunk by chunk, each from its samples as packed bytes.
use Rattle.std.specs.Prelude.{◌≡◌, ◌≢◌, ℕ, ◌≤◌, nat_le, List, [], ◌∷◌, ◌++◌, Some}
use Rattle.ts_spec.specs.Sample.{Point, IsAscending, at_times, last_of}
use Rattle.ts_spec.specs.Valid.{Every, IsUpTo}
use Rattle.ts_sample.specs.Chunk.{IsChunk}
use Rattle.ts_chunk_packed.specs.Packed.{packed}
use Rattle.ts_series.specs.Stored.{points}
use Rattle.ts_series.specs.History.{History, low, format_of}

-- The samples of a chunk can follow those of the series: there are some, all are later, and none is later than the
-- highest time. Those that the series shows were written when at most `born` rules had been created. The first chunk
-- has one that it shows.
pub record CanFollow (h : History) (ps : List Point) : Type 0 where
  pub some : ps ≢ []
  pub ascending : IsAscending (points h.held ++ ps)
  pub high : (p : Point) → last_of ps ≡ Some p → IsUpTo h.high p.time
  pub made : Every (λ p. p.made ≤ h.born) (at_times (nat_le (low h)) ps)
  pub trimmed : h.held.pieces ≡ [] → at_times (nat_le (low h)) ps ≢ []

-- A chunk with this limit and these samples can be the next one. They fit in it as packed bytes and in the format of
-- the series.
pub record IsNextChunk (h : History) (limit : ℕ) (ps : List Point) : Type 0 where
  pub packs : IsChunk packed limit ps
  pub chunk : IsChunk (format_of h.options.encoding) limit ps
  pub follows : CanFollow h ps

-- the series with this chunk after the others, and capacity for `room` more
abbrev pub with_chunk : History → (limit : ℕ) → List Point → (room : ℕ) → History
with_chunk h limit ps room = record h {
  samples = h.samples ++ at_times (nat_le (low h)) ps;
  held = record { pieces = h.held.pieces ++ ps ∷ []; limits = h.held.limits ++ limit ∷ []; room = room };
}

-- the chunk of this limit whose samples have these packed bytes could be the next one, and now it is
pub record RestoresChunk (before : History) (limit : ℕ) (bytes : List ℕ) (after : History) : Type 0 where
  pub list : List Point
  pub packs_to : packed list ≡ bytes
  pub next : IsNextChunk before limit list
  pub added : after ≡ with_chunk before limit list after.held.room
