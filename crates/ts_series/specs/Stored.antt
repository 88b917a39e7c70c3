-- A series' samples in pieces, one per chunk.
use Rattle.std.specs.Prelude.{◌≡◌, ◌≢◌, ◌⊎◌, ℕ, suc, ◌≤◌, ◌<◌, nat_le, max, ⊤, List, [], ◌∷◌, ◌++◌, take, drop, get_or, length, slice_range, Option, None, Some}
use Rattle.ts_spec.specs.Sample.{Point, IsAscending, at_times, outside, last_of}
use Rattle.ts_sample.specs.Chunk.{IsChunk, IsPast, Fits, joined}

-- a series' samples by chunk, with the limits of the chunks
pub record Stored : Type 0 where
  -- the samples of each chunk
  pub pieces : List (List Point)
  -- the limit of each chunk, in bytes
  pub limits : List ℕ
  -- the number of further chunks it can hold without allocating
  pub room : ℕ

-- the samples of all chunks, one after another
abbrev pub points : Stored → List Point
points h = joined h.pieces

-- the length of the longest piece
abbrev pub longest : List (List Point) → ℕ
longest [] = 0
longest (ps ∷ pss) = max (length ps) (longest pss)

-- the maximum of these numbers and n
abbrev pub greatest : ℕ → List ℕ → ℕ
greatest n [] = n
greatest n (m ∷ ms) = max m (greatest n ms)

-- each piece is that of a non-empty chunk within its limit
abbrev pub AreChunks : (format : List Point → List ℕ) → List (List Point) → (limits : List ℕ) → Type 0
AreChunks format [] [] = ⊤
AreChunks format (ps ∷ pss) (n ∷ ns) = IsChunk format n ps × ((ps ≢ []) × AreChunks format pss ns)
AreChunks format [] (n ∷ ns) = ⊥
AreChunks format (ps ∷ pss) [] = ⊥

-- the chunks are valid and in order, and `count` is their number of samples
pub record AreStoredChunks (format : List Point → List ℕ) (pieces : List (List Point)) (limits : List ℕ) (count : ℕ) : Type 0 where
  pub chunks : AreChunks format pieces limits
  pub ascending : IsAscending (joined pieces)
  pub counted : count ≡ length (joined pieces)

-- The chunks `start..end` hold all samples of the interval, and those between the first and the last of them hold no
-- others.
pub record IsOverlapping (from to : ℕ) (pieces : List (List Point)) (start end : ℕ) : Type 0 where
  pub ordered : start ≤ end
  pub within : end ≤ length pieces
  pub before : at_times (nat_le from) (joined (take start pieces)) ≡ []
  pub past : at_times (λ t. nat_le t to) (joined (drop end pieces)) ≡ []
  pub inner : (k : ℕ) → start < k → suc k < end → outside from to (get_or pieces k []) ≡ []

-- every piece of the range has a sample at or after `from` and one at or before `to`
abbrev pub AllOverlap : (from to : ℕ) → List (List Point) → (start end : ℕ) → Type 0
AllOverlap from to pieces start end =
    (k : ℕ) → start ≤ k → k < end → (at_times (nat_le from) (get_or pieces k []) ≢ []) × (at_times (λ t. nat_le t to) (get_or pieces k []) ≢ [])

-- the first piece, if there is one, has a sample at or after the retention edge
abbrev pub IsTrimmed : (edge : ℕ) → List (List Point) → Type 0
IsTrimmed edge [] = ⊤
IsTrimmed edge (ps ∷ pss) = at_times (nat_le edge) ps ≢ []

-- every piece has a sample at or before this time
abbrev pub HaveBegun : (time : ℕ) → List (List Point) → Type 0
HaveBegun time [] = ⊤
HaveBegun time (ps ∷ pss) = (at_times (λ t. nat_le t time) ps ≢ []) × HaveBegun time pss

-- ---- a change of the chunks

-- a change: new chunks replace `start..end`, and then a sample, if there is one, is appended to the last chunk
pub record Change : Type 0 where
  pub start : ℕ
  pub end : ℕ
  pub pieces : List (List Point)
  pub limits : List ℕ
  pub appended : Option Point

-- the change that does nothing
abbrev pub no_change : Change
no_change = record { start = 0; end = 0; pieces = []; limits = []; appended = None }

-- the pieces with a sample, if there is one, appended to the last
abbrev pub with_last : Option Point → List (List Point) → List (List Point)
with_last None pss = pss
with_last (Some p) [] = []
with_last (Some p) (ps ∷ []) = (ps ++ p ∷ []) ∷ []
with_last (Some p) (ps ∷ qs ∷ pss) = ps ∷ with_last (Some p) (qs ∷ pss)

-- a list with `new` in place of `start..end`
abbrev pub replaced : {X : Type 0} → (start end : ℕ) → (new old : List X) → List X
replaced start end new old = take start old ++ new ++ drop end old

-- the pieces after a change
abbrev pub pieces_after : Change → List (List Point) → List (List Point)
pieces_after c pss = with_last c.appended (replaced c.start c.end c.pieces pss)

-- the limits after a change
abbrev pub limits_after : Change → List ℕ → List ℕ
limits_after c ns = replaced c.start c.end c.limits ns

-- the sample, if there is one, comes after the last chunk's last sample and fits in that chunk
abbrev pub LastChunkFits : (format : List Point → List ℕ) → Option Point → List (List Point) → (limits : List ℕ) → Type 0
LastChunkFits format None pss ns = ⊤
LastChunkFits format (Some p) [] ns = ⊥
LastChunkFits format (Some p) (ps ∷ pss) [] = ⊥
LastChunkFits format (Some p) (ps ∷ []) (n ∷ ns) = IsPast (last_of ps) p.time × Fits format n (ps ++ p ∷ [])
LastChunkFits format (Some p) (ps ∷ qs ∷ pss) (n ∷ ns) = LastChunkFits format (Some p) (qs ∷ pss) ns

-- The change fits these chunks: its range is valid, the last chunk can hold the sample, the result is in ascending
-- time, and the buffer can hold all chunks.
pub record IsChangeOf (format : List Point → List ℕ) (room : ℕ) (pieces : List (List Point)) (limits : List ℕ) (c : Change) : Type 0 where
  pub ordered : c.start ≤ c.end
  pub within : c.end ≤ length pieces
  pub ascending : IsAscending (joined (pieces_after c pieces))
  pub appends : LastChunkFits format c.appended (replaced c.start c.end c.pieces pieces) (replaced c.start c.end c.limits limits)
  pub enough : length (replaced c.start c.end c.pieces pieces) ≤ room

-- the same, once the buffer is large enough
abbrev pub IsReady : (format : List Point → List ℕ) → Stored → Change → Type 0
IsReady format h c = IsChangeOf format (length (replaced c.start c.end c.pieces h.pieces)) h.pieces h.limits c

-- n is one of these limits or `one`
abbrev pub IsAmong : (one : ℕ) → List ℕ → ℕ → Type 0
IsAmong one [] n = n ≡ one
IsAmong one (m ∷ ms) n = (n ≡ m) ⊎ IsAmong one ms n

-- every limit is one of the old ones or `one`
abbrev pub AreAmong : (one : ℕ) → List ℕ → List ℕ → Type 0
AreAmong one before [] = ⊤
AreAmong one before (n ∷ ns) = IsAmong one before n × AreAmong one before ns

-- Every new chunk has the limit of a chunk it replaces, or `one`. So a chunk after all others has the limit `one`.
abbrev pub HasLimits : (one : ℕ) → List ℕ → Change → Type 0
HasLimits one before c = AreAmong one (slice_range before c.start c.end) c.limits

-- the time is not after the last sample
abbrev pub IsUpTo : (time : ℕ) → Option Point → Type 0
IsUpTo time None = ⊥
IsUpTo time (Some p) = time ≤ p.time
