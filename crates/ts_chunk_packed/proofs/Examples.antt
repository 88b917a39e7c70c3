-- Worked examples of the format.
use Rattle.std.specs.Prelude.{ℕ, ◌≡◌, ◌*◌, pos, negsuc, List, [], ◌∷◌, ◌++◌}
use Rattle.std.proofs.Common.{refl}
use Rattle.ts_spec.specs.Sample.{Point}
use Rattle.ts_chunk_packed.specs.Packed.{zigzag, unzigzag, number, coded, packed, point_of, sample_of, decoded}

zigzags : zigzag (pos 0) ∷ zigzag (negsuc 0) ∷ zigzag (pos 1) ∷ zigzag (negsuc 1) ∷ zigzag (pos 1000) ∷ [] ≡ 0 ∷ 1 ∷ 2 ∷ 3 ∷ 2000 ∷ []
unfolding zigzag
zigzags = refl

least_of_two : number 127 ++ number 128 ≡ 127 ∷ 128 ∷ 1 ∷ []
unfolding number
least_of_two = refl

-- so many millionths at a time, where no rule was made
abbrev sample : ℕ → ℕ → Point
sample time units = record { time = time; value = pos (units * 1000000); made = 0 }

-- 1000:1, 1010:1 and 1020:2
abbrev three : List Point
three = sample 1000 1 ∷ sample 1010 1 ∷ sample 1020 2 ∷ []

abbrev fourteen : List ℕ
fourteen = 208 ∷ 15 ∷ 128 ∷ 137 ∷ 122 ∷ 0 ∷ 20 ∷ 0 ∷ 0 ∷ 0 ∷ 128 ∷ 137 ∷ 122 ∷ 0 ∷ []

three_packed : packed three ≡ fourteen
unfolding coded zigzag number
three_packed = refl

three_decoded : decoded 3 (fourteen ++ 7 ∷ []) ≡ (three, 7 ∷ [])
unfolding decoded sample_of point_of unzigzag
three_decoded = refl
