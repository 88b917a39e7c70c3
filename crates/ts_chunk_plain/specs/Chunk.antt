-- The samples of a plain chunk, and what its fields satisfy.
use Rattle.std.specs.Prelude.{◌≡◌, ℕ, ◌≤◌, List, Option}
use Rattle.ts_spec.specs.Sample.{Point, first_of, last_of}
use Rattle.ts_sample.specs.Chunk.{IsChunk}
use Rattle.ts_chunk_plain.specs.Plain.{plain, samples_of}

-- a plain chunk: its samples and its size limit
pub record Samples : Type 0 where
  -- the limit, in bytes
  pub limit : ℕ
  -- the samples, in ascending time
  pub list : List Point

-- What the fields of a plain chunk satisfy: the buffer has capacity for the limit, it holds exactly the encoded
-- samples, and the first and last sample are cached correctly.
pub record IsPlain (limit capacity : ℕ) (written : List ℕ) (begin end : Option Point) : Type 0 where
  pub chunk : IsChunk plain limit (samples_of written)
  pub room : limit ≤ capacity
  pub bytes : written ≡ plain (samples_of written)
  pub first : begin ≡ first_of (samples_of written)
  pub last : end ≡ last_of (samples_of written)
