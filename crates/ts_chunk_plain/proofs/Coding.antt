-- Encoding and decoding samples.
use Rattle.std.proofs.Common.{◌≡◌, ℕ, zero, suc, ◌+◌, ◌*◌, ◌/◌, ◌%◌, ◌<◌, ◌≤◌, ◌^◌, List, [], ◌∷◌, ◌++◌, length, map, take, drop, refl, sym, ap, ◌∙◌, append_assoc, append-nil, arith}
use Rattle.std.specs.Prelude.{ℤ, pos, negsuc, unsigned_abs, replicate}
use Rattle.std.specs.Int.{w32, w64, w128, to_le_bytes, from_le_bytes, cast_unsigned, cast_signed, byte_at, byte_worth, sum_through}
use Rattle.std.specs.Simd.{first_chunks}
use Rattle.std.proofs.Math.Nat.{pow-suc, one-le-pow, div-div-eq-div-mul}
use Rattle.std.proofs.Math.Pow.{mod-mod-pow}
use Rattle.std.proofs.lemmas.Nat.{field_of, div-add-mod', mod-mul-add, mul-add-lt, mod_below, from_le_bytes-to_le_bytes_4, from_le_bytes-to_le_bytes_8}
use Rattle.std.proofs.lemmas.Int.{to_z-of_z, fits_signed_from_abs}
use Rattle.std.proofs.lemmas.List.{take_at, drop_at}
use borrow.Rule.Slice.PartMut.{put_mid}
use Rattle.ts_spec.specs.Sample.{Point}
use Rattle.ts_spec.specs.Value.{bound}
use Rattle.ts_sample.specs.Sample.{IsInBounds}
use Rattle.ts_sample.specs.Chunk.{AreInBounds}
use Rattle.ts_chunk_plain.specs.Plain.{bytes_of, plain, sample_of, decoded, samples_of}
use Rattle.ts_chunk_plain.specs.Laws.{length-bytes_of, length-plain}

-- one more byte of a number
byte_more : (n m : ℕ) → 0 < m → n % m + n / m % 256 * m ≡ n % (m * 256)
byte_more n m some =
    let q : ℕ = n / m in
    let low : n % m < m = mod_below n m some in
    let below : q % 256 * m + n % m < m * 256 = mul-add-lt (q % 256) m (n % m) 256 (mod_below q 256 (omega arith)) low in
    let split : q / 256 * 256 + q % 256 ≡ q = div-add-mod' q 256 in
    let whole : q / 256 * (m * 256) + (q % 256 * m + n % m) ≡ n =
    (let regroup : q / 256 * (m * 256) + (q % 256 * m + n % m) ≡ (q / 256 * 256 + q % 256) * m + n % m = omega arith in regroup) ∙ ap (λ (x : ℕ). x * m + n % m) split ∙ div-add-mod' n m in
    let swapped : n % m + q % 256 * m ≡ q % 256 * m + n % m = omega arith in
    swapped ∙ sym (mod-mul-add (q / 256) (m * 256) (q % 256 * m + n % m) below) ∙ ap (λ (x : ℕ). x % (m * 256)) whole

-- the bytes of a number are worth its rest
bytes_worth : (n k : ℕ) → sum_through (λ i. byte_worth i (byte_at i n)) k ≡ n % 256 ^ suc k
bytes_worth n zero = refl
bytes_worth n (suc k) =
    ap (λ (x : ℕ). x + n / 256 ^ suc k % 256 * 256 ^ suc k) (bytes_worth n k)
    ∙ byte_more n (256 ^ suc k) (one-le-pow (suc k) 256 (omega arith)) ∙ ap (λ (m : ℕ). n % m) (sym (pow-suc 256 (suc k)))

number_back : (n : ℕ) → n < 2 ^ 128 → from_le_bytes w128 (to_le_bytes w128 n) ≡ n
number_back n fits = bytes_worth n 15 ∙ (let whole : n % 2 ^ 128 ≡ n = omega arith in whole)

unsigned_fits : (v : ℤ) → unsigned_abs v ≤ bound → cast_unsigned w128 v < 2 ^ 128
unsigned_fits (pos n) small = omega arith
unsigned_fits (negsuc n) small = omega arith

value_back : (v : ℤ) → unsigned_abs v ≤ bound → cast_signed w128 (from_le_bytes w128 (to_le_bytes w128 (cast_unsigned w128 v))) ≡ v
value_back v small =
    ap (cast_signed w128) (number_back (cast_unsigned w128 v) (unsigned_fits v small)) ∙ to_z-of_z w128 v (fits_signed_from_abs w128 v (omega arith))

-- the sample of a sample's bytes
pub sample_back : (p : Point) → IsInBounds p → sample_of (bytes_of p) ≡ p
unfolding sample_of bytes_of
sample_back p fine =
    let time : from_le_bytes w64 (to_le_bytes w64 p.time) ≡ p.time = from_le_bytes-to_le_bytes_8 p.time (omega (arith, fine.time)) in
    let value = value_back p.value fine.value in
    let made : from_le_bytes w32 (to_le_bytes w32 p.made) ≡ p.made = from_le_bytes-to_le_bytes_4 p.made fine.made in
    λ i. record { time = time i; value = value i; made = made i }

samples_first : (ps : List Point) (rest : List ℕ) → AreInBounds ps → decoded (length ps) (plain ps ++ rest) ≡ ps
unfolding decoded
samples_first [] rest fine = refl
samples_first (p ∷ ps) rest fine =
    let apart : (bytes_of p ++ plain ps) ++ rest ≡ bytes_of p ++ (plain ps ++ rest) = append_assoc (bytes_of p) (plain ps) rest in
    let first : sample_of (take 28 ((bytes_of p ++ plain ps) ++ rest)) ≡ p =
    ap (λ (l : List ℕ). sample_of (take 28 l)) apart ∙ ap sample_of (take_at (bytes_of p) (plain ps ++ rest) 28 (length-bytes_of p)) ∙ sample_back p fine.0 in
    let others : drop 28 ((bytes_of p ++ plain ps) ++ rest) ≡ plain ps ++ rest =
    ap (drop 28) apart ∙ drop_at (bytes_of p) (plain ps ++ rest) 28 (length-bytes_of p) in
    λ i. first i ∷ (ap (λ (l : List ℕ). map sample_of (first_chunks 28 (length ps) l)) others ∙ samples_first ps rest fine.1) i

-- The law of the format: what was encoded decodes to the samples, and leaves what follows.
pub law : (ps : List Point) (rest : List ℕ) → AreInBounds ps → (decoded (length ps) (plain ps ++ rest) ≡ ps) × (drop (28 * length ps) (plain ps ++ rest) ≡ rest)
law ps rest fine = (samples_first ps rest fine, drop_at (plain ps) rest (28 * length ps) (length-plain ps))

pub samples_back : (ps : List Point) → AreInBounds ps → samples_of (plain ps) ≡ ps
unfolding samples_of
samples_back ps fine =
    let count : length (plain ps) / 28 ≡ length ps = omega (arith, length-plain ps) in
    ap (λ (n : ℕ). decoded n (plain ps)) count ∙ ap (decoded (length ps)) (sym (append-nil (plain ps))) ∙ (law ps [] fine).0

-- a byte of the low half of a number, and one of the high half
low_byte : (n j k : ℕ) → n % 2 ^ (j + 8 + k) / 2 ^ k % 2 ^ 8 ≡ n / 2 ^ k % 2 ^ 8
low_byte n j k = ap (λ (x : ℕ). x % 2 ^ 8) (field_of n (j + 8) k) ∙ mod-mod-pow (n / 2 ^ k) j 8

high_byte : (n m : ℕ) → n / 2 ^ 64 / m % 256 ≡ n / (2 ^ 64 * m) % 256
high_byte n m = ap (λ (x : ℕ). x % 256) (div-div-eq-div-mul n (2 ^ 64) m)

-- the bytes of a number are those of its two halves
halves : (n : ℕ) → to_le_bytes w64 (n % 2 ^ 64) ++ to_le_bytes w64 (n / 2 ^ 64) ≡ to_le_bytes w128 n
halves n =
    let a = mod-mod-pow n 56 8 in
    let b = low_byte n 48 8 in
    let c = low_byte n 40 16 in
    let d = low_byte n 32 24 in
    let e = low_byte n 24 32 in
    let f = low_byte n 16 40 in
    let g = low_byte n 8 48 in
    let h = low_byte n 0 56 in
    let b' = high_byte n (2 ^ 8) in
    let c' = high_byte n (2 ^ 16) in
    let d' = high_byte n (2 ^ 24) in
    let e' = high_byte n (2 ^ 32) in
    let f' = high_byte n (2 ^ 40) in
    let g' = high_byte n (2 ^ 48) in
    let h' = high_byte n (2 ^ 56) in
    λ i. a i ∷ b i ∷ c i ∷ d i ∷ e i ∷ f i ∷ g i ∷ h i ∷ (n / 2 ^ 64 % 256) ∷ b' i ∷ c' i ∷ d' i ∷ e' i ∷ f' i ∷ g' i ∷ h' i ∷ []

-- four parts written into zeros
pub put_together : (p : Point) (n : ℕ) (time low high made : List ℕ) → n ≡ cast_unsigned w128 p.value → time ≡ to_le_bytes w64 p.time
    → low ≡ to_le_bytes w64 (n % 2 ^ 64) → high ≡ to_le_bytes w64 (n / 2 ^ 64) → made ≡ to_le_bytes w32 p.made
    → put_mid 24 4 (put_mid 16 8 (put_mid 8 8 (time ++ replicate 20 0) low) high) made ≡ bytes_of p
unfolding bytes_of
put_together p n time low high made is e f g h =
    let joined : put_mid 24 4 (put_mid 16 8 (put_mid 8 8 (time ++ replicate 20 0) low) high) made
    ≡ to_le_bytes w64 p.time ++ (to_le_bytes w64 (n % 2 ^ 64) ++ to_le_bytes w64 (n / 2 ^ 64)) ++ to_le_bytes w32 p.made =
    λ i. put_mid 24 4 (put_mid 16 8 (put_mid 8 8 (e i ++ replicate 20 0) (f i)) (g i)) (h i) in
    joined ∙ ap (λ (l : List ℕ). to_le_bytes w64 p.time ++ l ++ to_le_bytes w32 p.made) (halves n ∙ ap (to_le_bytes w128) is)
