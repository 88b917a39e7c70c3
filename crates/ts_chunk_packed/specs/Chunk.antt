-- The samples of a packed chunk, and what its fields satisfy.
use Rattle.std.specs.Prelude.{◌≡◌, ℕ, ◌≤◌, pos, List, length, Option}
use Rattle.ts_spec.specs.Sample.{Point, first_of, last_of}
use Rattle.ts_sample.specs.Chunk.{IsChunk}
use Rattle.ts_chunk_packed.specs.Marks.{MarkState, AreMarks}
use Rattle.ts_chunk_packed.specs.Packed.{begin, packed, state_from, samples_of}

-- a packed chunk: its samples and its size limit
pub record Samples : Type 0 where
  -- the limit, in bytes
  pub limit : ℕ
  -- the samples, in ascending time
  pub list : List Point

-- What the fields of a packed chunk satisfy: the buffer has capacity for the limit and holds exactly the coded
-- samples, the count is right, and the first sample, the last one and the step to the last one are cached correctly.
pub record IsPacked (limit capacity : ℕ) (written : List ℕ) (many far : ℕ) (begins ends : Option Point) : Type 0 where
  pub chunk : IsChunk packed limit (samples_of many written)
  pub room : limit ≤ capacity
  pub bytes : written ≡ packed (samples_of many written)
  pub count : many ≡ length (samples_of many written)
  pub step : pos far ≡ (state_from begin (samples_of many written)).step
  pub first : begins ≡ first_of (samples_of many written)
  pub last : ends ≡ last_of (samples_of many written)

-- the same, and every mark comes after some of the samples
pub record IsMarked (limit capacity : ℕ) (written : List ℕ) (many far : ℕ) (begins ends : Option Point) (places : List MarkState) : Type 0 where
  pub packed : IsPacked limit capacity written many far begins ends
  pub marks : AreMarks (samples_of many written) places
