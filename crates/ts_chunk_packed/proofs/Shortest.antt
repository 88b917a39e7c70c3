-- Numbers in as few bytes as they need, read byte by byte.
use Rattle.std.proofs.Common.{◌≡◌, ℕ, ◌+◌, ◌-◌, ◌*◌, ◌/◌, ◌%◌, ◌^◌, ◌<◌, ◌≤◌, List, ◌∷◌, ◌++◌, length, get_or, drop, sym, ap, ◌∙◌, arith}
use Rattle.std.proofs.lemmas.Nat.{mul-le}
use Rattle.ts_chunk_packed.specs.Packed.{number, number_of}
use Rattle.ts_chunk_packed.specs.Reading.{Begins}
use Rattle.ts_chunk_packed.proofs.Grouping.{small_first, large_first, last_byte}
use Rattle.ts_chunk_packed.proofs.Ungrouping.{IsReading, started, byte_at, read_on, rest_some}

-- What holds while a number is read that bytes may begin with. Where the bytes that are left begin with the rest of
-- it, which is not 0 past the first byte, all begin with the whole.
pub record IsPart (bytes left : List ℕ) (at sum weight : ℕ) : Type 0 where
  pub whole : (n : ℕ) (rest : List ℕ) → (0 < at → 1 ≤ n) → left ≡ number n ++ rest → bytes ≡ number (sum + n * weight) ++ rest
  pub reading : Begins (2 ^ 113) bytes → IsReading (2 ^ 113) bytes left sum weight
  pub some : Begins (2 ^ 113) bytes → 0 < at → 1 ≤ (number_of left).0

pub no_part : (bytes : List ℕ) → IsPart bytes bytes 0 0 1
no_part bytes = record {
  whole = λ n rest some is. is ∙ ap (λ (m : ℕ). number m ++ rest) (let same : n ≡ 0 + n * 1 = omega arith in same);
  reading = started (2 ^ 113) bytes;
  some = λ b past. absurd (omega arith);
}

module _ (bytes : List ℕ) (i sum weight : ℕ) (inside : i < length bytes) (part : IsPart bytes (drop i bytes) i sum weight) where
  abbrev byte : ℕ
  byte = get_or bytes i 0

  abbrev left : List ℕ
  left = drop (i + 1) bytes

  -- a byte from 128 on belongs to it
  pub one_more : 128 ≤ byte → byte < 256 → IsPart bytes left (i + 1) (sum + (byte - 128) * weight) (weight * 128)
  one_more more octet = record {
    whole = λ n rest some is.
        let low : 128 + (byte - 128 + 128 * n) % 128 ≡ byte = omega arith in
        let high : (byte - 128 + 128 * n) / 128 ≡ n = omega arith in
        let here : drop i bytes ≡ number (byte - 128 + 128 * n) ++ rest =
        byte_at bytes i inside ∙ ap (λ (l : List ℕ). byte ∷ l) is ∙ (λ j. sym low j ∷ (number (sym high j) ++ rest))
        ∙ sym (large_first (byte - 128 + 128 * n) rest (omega (arith, some (omega arith)))) in
        let sums : sum + (byte - 128 + 128 * n) * weight ≡ sum + (byte - 128) * weight + n * (weight * 128) = omega arith in
        part.whole (byte - 128 + 128 * n) rest (λ past. omega (arith, some (omega arith))) here ∙ ap (λ (m : ℕ). number m ++ rest) sums;
    reading = λ b. read_on (2 ^ 113) bytes i sum weight inside (part.reading b) more;
    some = λ b past. rest_some (2 ^ 113) bytes i sum weight inside (part.reading b) more;
  }

  -- a smaller one ends it, if it is not 0 or the only one
  pub last_one : byte < 128 → (0 < i → 1 ≤ byte) → bytes ≡ number (sum + byte * weight) ++ left
  last_one small some = part.whole byte left some (byte_at bytes i inside ∙ sym (small_first byte left small))

  -- and else no number begins so
  pub no_number : byte ≡ 0 → 0 < i → Begins (2 ^ 113) bytes → ⊥
  no_number zero past b =
      omega (arith, part.some b past, ap (λ (l : List ℕ). (number_of l).0) (byte_at bytes i inside), ap (λ (r : ℕ × List ℕ). r.0) (last_byte byte left (omega arith)), zero)

-- the sum stays below the weight
pub sum_small : (byte sum weight : ℕ) → byte < 256 → sum < weight → sum + (byte - 128) * weight < weight * 128
sum_small byte sum weight octet small = let most : (byte - 128) * weight ≤ 127 * weight = mul-le (byte - 128) weight 127 weight (omega arith) (omega arith) in omega arith
