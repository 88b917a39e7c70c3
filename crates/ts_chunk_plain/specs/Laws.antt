-- What every chunk format must satisfy, proved for the plain one.
use Rattle.std.specs.Prelude.{◌≡◌, ◌*◌, ◌≤◌, List, [], ◌∷◌, ◌++◌, length}
use Rattle.std.proofs.Common.{refl, arith, length-append}
use Rattle.ts_spec.specs.Sample.{Point}
use Rattle.ts_sample.specs.Chunk.{least_limit}
use Rattle.ts_sample.specs.Sample.{IsInBounds}
use Rattle.ts_chunk_plain.specs.Plain.{bytes_of, plain}

-- a sample takes 28 bytes
pub length-bytes_of : (p : Point) → length (bytes_of p) ≡ 28
unfolding bytes_of
length-bytes_of p = refl

-- n samples take 28 * n bytes
pub length-plain : (ps : List Point) → length (plain ps) ≡ 28 * length ps
length-plain [] = refl
length-plain (p ∷ ps) = omega (arith, length-append (bytes_of p) (plain ps), length-bytes_of p, length-plain ps)

-- each sample takes at least three bytes
pub three_or_more : (ps : List Point) → 3 * length ps ≤ length (plain ps)
three_or_more ps = omega (arith, length-plain ps)

-- appending a sample never shortens the bytes
pub no_fewer : (ps : List Point) (p : Point) → length (plain ps) ≤ length (plain (ps ++ p ∷ []))
no_fewer ps p = omega (arith, length-plain ps, length-plain (ps ++ p ∷ []), length-append ps (p ∷ []))

-- a single sample fits in a chunk of any allowed limit
pub one_within : (p : Point) → IsInBounds p → length (plain (p ∷ [])) ≤ least_limit
one_within p fine = omega (arith, length-plain (p ∷ []))
