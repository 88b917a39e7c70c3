-- Worked examples of the format.
use Rattle.std.specs.Prelude.{◌≡◌, pos, negsuc, [], ◌∷◌, ◌++◌, replicate}
use Rattle.std.proofs.Common.{refl}
use Rattle.ts_chunk_plain.specs.Plain.{bytes_of, sample_of}

-- 10:1 is a million millionths, 64 + 66 * 256 + 15 * 65536
ten_one : bytes_of (record { time = 10; value = pos 1000000; made = 0 }) ≡ (10 ∷ replicate 7 0) ++ (64 ∷ 66 ∷ 15 ∷ replicate 13 0) ++ replicate 4 0
unfolding bytes_of
ten_one = refl

-- a millionth less than nothing, of time 258, after three rules
below_zero : bytes_of (record { time = 258; value = negsuc 0; made = 3 }) ≡ (2 ∷ 1 ∷ replicate 6 0) ++ replicate 16 255 ++ (3 ∷ 0 ∷ 0 ∷ 0 ∷ [])
unfolding bytes_of
below_zero = refl

read_back : sample_of ((2 ∷ 1 ∷ replicate 6 0) ++ replicate 16 255 ++ (3 ∷ 0 ∷ 0 ∷ 0 ∷ [])) ≡ record { time = 258; value = negsuc 0; made = 3 }
unfolding sample_of
read_back = refl
