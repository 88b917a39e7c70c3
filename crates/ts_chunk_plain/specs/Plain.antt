-- The plain format: 28 bytes per sample, little-endian.
use Rattle.std.specs.Prelude.{ℕ, ◌/◌, List, [], ◌∷◌, ◌++◌, map, take, drop, length}
use Rattle.std.specs.Int.{w32, w64, w128, to_le_bytes, from_le_bytes, cast_unsigned, cast_signed}
use Rattle.std.specs.Simd.{first_chunks}
use Rattle.ts_spec.specs.Sample.{Point}

-- an encoded sample: 8 bytes of time, 16 of value (two's complement) and 4 of rule count
unfoldable pub bytes_of : Point → List ℕ
bytes_of p = to_le_bytes w64 p.time ++ to_le_bytes w128 (cast_unsigned w128 p.value) ++ to_le_bytes w32 p.made

-- the encoded samples, one after another
abbrev pub plain : List Point → List ℕ
plain [] = []
plain (p ∷ ps) = bytes_of p ++ plain ps

-- the sample encoded in 28 bytes
unfoldable pub sample_of : List ℕ → Point
sample_of bytes = record {
  time = from_le_bytes w64 (take 8 bytes);
  value = cast_signed w128 (from_le_bytes w128 (take 16 (drop 8 bytes)));
  made = from_le_bytes w32 (take 4 (drop 24 bytes));
}

-- the samples of the first n 28-byte pieces
unfoldable pub decoded : (n : ℕ) → List ℕ → List Point
decoded n bytes = map sample_of (first_chunks 28 n bytes)

-- all samples of the bytes
unfoldable pub samples_of : List ℕ → List Point
samples_of bytes = decoded (length bytes / 28) bytes
