-- The samples of a chunk that are not decoded yet.
use Rattle.std.specs.Prelude.{◌≡◌, ℕ, ◌<◌, ◌≤◌, ⊤, List, [], ◌∷◌, ◌++◌, take, drop, length}
use Rattle.ts_spec.specs.Sample.{Point, IsAscending}
use Rattle.ts_sample.specs.Chunk.{AreInBounds}
use Rattle.ts_chunk_packed.specs.Laws.{IsKnown}
use Rattle.ts_chunk_packed.specs.Packed.{State, begin, next, decoded_from, packed_from, state_from}
use Rattle.ts_chunk_packed.specs.Reading.{StartsFrom}

-- a decoder: the context and the remaining samples
pub record UndecodedList : Type 0 where
  -- the coding context in front of them
  pub state : State
  -- the remaining samples
  pub list : List Point

-- the n samples that the bytes code after a context
unfoldable pub samples_from : State → (n : ℕ) → List ℕ → List Point
samples_from s n bytes = (decoded_from s n bytes).0

-- the bytes code `count` samples that are within their bounds, in ascending time, and not before the context's last
-- sample
pub record IsUndecoded (s : State) (count : ℕ) (written : List ℕ) : Type 0 where
  pub known : IsKnown s
  pub bytes : written ≡ packed_from s (samples_from s count written)
  pub fine : AreInBounds (samples_from s count written)
  pub ascending : IsAscending (samples_from s count written)
  pub starts : StartsFrom s.before.time (samples_from s count written)

-- the remaining samples are the end of `all`, and the context is that of the samples in front of them
pub record IsUndecodedOf (all : List Point) (left : UndecodedList) : Type 0 where
  pub front : List Point
  pub whole : all ≡ front ++ left.list
  pub state : left.state ≡ state_from begin front

-- the remaining samples are those of `all` after the first `count`
pub record IsUndecodedPast (count : ℕ) (all : List Point) (left : UndecodedList) : Type 0 where
  pub within : count ≤ length all
  pub list : left.list ≡ drop count all
  pub state : left.state ≡ state_from begin (take count all)

-- every sample is before t
abbrev pub AreBefore : ℕ → List Point → Type 0
AreBefore t [] = ⊤
AreBefore t (p ∷ ps) = (p.time < t) × AreBefore t ps

-- the same, and all samples in front of them are before `time`
pub record IsUndecodedFrom (time : ℕ) (all : List Point) (left : UndecodedList) : Type 0 where
  pub rest : IsUndecodedOf all left
  pub before : AreBefore time rest.front

-- the decoder after skipping one sample, which is before `time`
pub record HasPassed (time : ℕ) (left after : UndecodedList) : Type 0 where
  pub sample : Point
  pub before : sample.time < time
  pub list : left.list ≡ sample ∷ after.list
  pub state : after.state ≡ next left.state sample
