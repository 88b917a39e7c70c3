-- Positions in a chunk where decoding may start.
use Rattle.std.specs.Prelude.{◌≡◌, ℕ, ◌+◌, ◌≤◌, ⊤, List, [], ◌∷◌, Option, None, Some, take, length, All}
use Rattle.std.specs.Global.{Box}
use Rattle.ts_spec.specs.Sample.{Point}
use Rattle.ts_chunk_packed.specs.Packed.{State, begin, packed, state_from}

-- a position in the bytes of a chunk where decoding may start
pub record MarkState : Type 0 where
  -- the coding context at the position
  pub state : State
  -- the number of bytes in front of it
  pub at : ℕ
  -- the number of samples in front of it
  pub count : ℕ

-- the mark comes after the first m.count of the samples
pub record IsMark (ps : List Point) (m : MarkState) : Type 0 where
  pub within : m.count ≤ length ps
  pub state : m.state ≡ state_from begin (take m.count ps)
  pub bytes : m.at ≡ length (packed (take m.count ps))

-- the number of samples in front of a reading position, 0 without a mark
abbrev pub passed : Option MarkState → ℕ
passed None = 0
passed (Some m) = m.count

-- the reading position is valid for these samples
abbrev pub IsPlace : List Point → Option MarkState → Type 0
IsPlace ps None = ⊤
IsPlace ps (Some m) = IsMark ps m

-- every mark comes after some of the samples
abbrev pub AreMarks : List Point → List MarkState → Type 0
AreMarks ps ms = All (IsMark ps) ms

-- a list of samples has this many bytes and samples
pub record EndsAt (ps : List Point) (at count : ℕ) : Type 0 where
  pub bytes : at ≡ length (packed ps)
  pub samples : count ≡ length ps

-- the marks, or none without memory for them
abbrev pub marks_of : Option (Box (List MarkState)) → List MarkState
marks_of None = []
marks_of (Some ms) = ms.value

-- each mark is at least 256 bytes after the one before it, and the first one as far after `place`
abbrev pub AreSpaced : (place : ℕ) → List MarkState → Type 0
AreSpaced place [] = ⊤
AreSpaced place (m ∷ ms) = (place + 256 ≤ m.at) × AreSpaced m.at ms

-- the offset of the last mark, or `place` if there is none
abbrev pub end_of : (place : ℕ) → List MarkState → ℕ
end_of place [] = place
end_of place (m ∷ ms) = end_of m.at ms

-- the marks are spaced, and the next one is due at least 256 bytes after the last
pub record IsSpaced (due : ℕ) (ms : List MarkState) : Type 0 where
  pub spaced : AreSpaced 0 ms
  pub next : end_of 0 ms + 256 ≤ due
