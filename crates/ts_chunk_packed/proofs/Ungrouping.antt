-- Numbers read byte by byte.
use Rattle.std.proofs.Common.{◌≡◌, ℕ, ◌+◌, ◌-◌, ◌*◌, ◌/◌, ◌%◌, ◌<◌, ◌≤◌, zero, suc, List, [], ◌∷◌, ◌++◌, length, get_or, take, take_all, drop, refl, sym, ap, ◌∙◌, subst, inl, inr, arith, add-one}
use Rattle.std.specs.Prelude.{⊤}
use Rattle.std.proofs.Math.Nat.{mul-le-mul_left}
use Rattle.std.proofs.Math.Seq.{drop-cons}
use Rattle.std.proofs.lemmas.Bool.{cases_lt}
use Rattle.std.proofs.lemmas.List.{length-drop}
use Rattle.std.proofs.lemmas.Nat.{mul-le}
use Rattle.ts_chunk_packed.specs.Packed.{number, number_of}
use Rattle.ts_chunk_packed.specs.Reading.{Begins}
use Rattle.ts_chunk_packed.proofs.Grouping.{small_first, large_first, last_byte, byte_more, number_back}

-- What holds while the number that bytes begin with is read: the bytes that are left begin with the rest of it, which
-- has this weight.
pub record IsReading (limit : ℕ) (bytes left : List ℕ) (sum weight : ℕ) : Type 0 where
  pub begins : Begins limit left
  pub worth : sum + weight * (number_of left).0 ≡ (number_of bytes).0
  pub after : (number_of left).1 ≡ (number_of bytes).1
  pub some : 1 ≤ weight
  pub below : (number_of bytes).0 < limit

pub value_is : (limit : ℕ) (bytes : List ℕ) (b : Begins limit bytes) → number_of bytes ≡ (b.value, b.rest)
value_is limit bytes b = ap number_of b.is ∙ number_back b.value b.rest

pub started : (limit : ℕ) (bytes : List ℕ) → Begins limit bytes → IsReading limit bytes bytes 0 1
started limit bytes b = record {
  begins = b;
  worth = omega arith;
  after = refl;
  some = omega arith;
  below = subst (λ (r : ℕ × List ℕ). r.0 < limit) (sym (value_is limit bytes b)) b.below;
}

pub not_ended : (limit : ℕ) (bytes : List ℕ) → Begins limit bytes → 0 < length bytes
not_ended limit [] b = elim (cases_lt b.value 128) [
  | inl small ↦ let none : [] ≡ b.value ∷ b.rest = b.is ∙ small_first b.value b.rest small in cc
  | inr large ↦ let none : [] ≡ (128 + b.value % 128) ∷ (number (b.value / 128) ++ b.rest) = b.is ∙ large_first b.value b.rest large in cc
]
not_ended limit (x ∷ xs) b = omega arith

-- after a byte from 128 on comes the rest of the number, which is not 0
rest_begins : (limit x : ℕ) (xs : List ℕ) → Begins limit (x ∷ xs) → 128 ≤ x → Begins limit xs × (1 ≤ (number_of xs).0)
rest_begins limit x xs b more = elim (cases_lt b.value 128) [
  | inl small ↦
      let same : x ∷ xs ≡ b.value ∷ b.rest = b.is ∙ small_first b.value b.rest small in
      let head : x ≡ b.value = cc in
      absurd (omega arith)
  | inr large ↦
      let same : x ∷ xs ≡ (128 + b.value % 128) ∷ (number (b.value / 128) ++ b.rest) = b.is ∙ large_first b.value b.rest large in
      let tail : xs ≡ number (b.value / 128) ++ b.rest = cc in
      let rest : Begins limit xs = record { value = b.value / 128; rest = b.rest; is = tail; below = omega (arith, b.below) } in
      (rest, subst (λ (r : ℕ × List ℕ). 1 ≤ r.0) (sym (value_is limit xs rest)) (omega arith))
]

-- the byte at an index stands before the rest
pub byte_at : (bytes : List ℕ) (i : ℕ) → i < length bytes → drop i bytes ≡ get_or bytes i 0 ∷ drop (i + 1) bytes
byte_at bytes i within = rw (add-one) (drop-cons bytes i 0 within)

-- a slice from an index on
pub all_left : (bytes : List ℕ) (i : ℕ) → take (length bytes - i) (drop i bytes) ≡ drop i bytes
all_left bytes i = take_all (length bytes - i) (drop i bytes) (omega (arith, length-drop i bytes))

-- there is a byte where reading goes on
pub within : (limit : ℕ) (bytes : List ℕ) (i sum weight : ℕ) → IsReading limit bytes (drop i bytes) sum weight → i < length bytes
within limit bytes i sum weight reading = omega (arith, not_ended limit (drop i bytes) reading.begins, length-drop i bytes)

module _ (limit : ℕ) (bytes : List ℕ) (i sum weight : ℕ) (inside : i < length bytes) (reading : IsReading limit bytes (drop i bytes) sum weight) where
  abbrev pub byte : ℕ
  byte = get_or bytes i 0

  abbrev pub left : List ℕ
  left = drop (i + 1) bytes

  here : IsReading limit bytes (byte ∷ left) sum weight
  here = subst (λ (l : List ℕ). IsReading limit bytes l sum weight) (byte_at bytes i inside) reading

  -- a byte below 128 ends the number
  pub number_done : byte < 128 → sum + byte * weight ≡ (number_of bytes).0
  number_done last = omega (arith, here.worth, ap (λ (r : ℕ × List ℕ). weight * r.0) (last_byte byte left last))

  pub left_after : byte < 128 → left ≡ (number_of bytes).1
  left_after last = sym (ap (λ (r : ℕ × List ℕ). r.1) (last_byte byte left last)) ∙ here.after

  worth_of : 128 ≤ byte → sum + (byte - 128) * weight + weight * 128 * (number_of left).0 ≡ (number_of bytes).0
  worth_of more = omega (arith, here.worth, ap (λ (r : ℕ × List ℕ). weight * r.0) (byte_more byte left more))

  -- any other byte leaves the rest of it
  pub read_on : 128 ≤ byte → IsReading limit bytes left (sum + (byte - 128) * weight) (weight * 128)
  read_on more = record {
    begins = (rest_begins limit byte left here.begins more).0;
    worth = worth_of more;
    after = sym (ap (λ (r : ℕ × List ℕ). r.1) (byte_more byte left more)) ∙ here.after;
    some = omega (arith, here.some);
    below = here.below;
  }

  -- which is not 0
  pub rest_some : 128 ≤ byte → 1 ≤ (number_of left).0
  rest_some more = (rest_begins limit byte left here.begins more).1

  pub still_within : 128 ≤ byte → i + 1 < length bytes
  still_within more = within limit bytes (i + 1) (sum + (byte - 128) * weight) (weight * 128) (read_on more)

  -- and its sum and weight stay below the limit
  pub sum_below : 128 ≤ byte → sum + (byte - 128) * weight < limit
  sum_below more = omega (arith, worth_of more, here.below)

  pub weight_below : 128 ≤ byte → weight * 128 < limit
  weight_below more =
      let one : weight * 128 * 1 ≤ weight * 128 * (number_of left).0 = mul-le-mul_left (weight * 128) (rest_begins limit byte left here.begins more).1 in
      omega (arith, worth_of more, here.below)

  -- The same of a sum below its weight, where one more byte fits 63 bits beside it
  pub small_still : get_or bytes i 0 < 256 → sum < weight → sum + (byte - 128) * weight < weight * 128
  small_still octet small =
      let most : (byte - 128) * weight ≤ 127 * weight = mul-le (byte - 128) weight 127 weight (omega arith) (omega arith) in
      omega arith

  -- where it has a great weight, the rest of the number is smaller by as much
  pub higher_begins : (shift size : ℕ) → shift ≤ weight → limit ≤ shift * size → Begins size (drop i bytes)
  higher_begins shift size heavy whole = elim (cases_lt reading.begins.value size) [
    | inl fits ↦ record { value = reading.begins.value; rest = reading.begins.rest; is = reading.begins.is; below = fits }
    | inr large ↦
        let much : shift * size ≤ weight * reading.begins.value = mul-le shift size weight reading.begins.value heavy large in
        let worth = ap (λ (r : ℕ × List ℕ). weight * r.0) (value_is limit (drop i bytes) reading.begins) in
        absurd (omega (arith, reading.worth, reading.below))
  ]

-- each of the first so many bytes is from 128 on
abbrev pub AreMore : ℕ → List ℕ → Type 0
AreMore zero bytes = ⊤
AreMore (suc n) bytes = AreMore n bytes × (128 ≤ get_or bytes n 0)

-- what of the number such bytes are, and what weight the next one has
pub record IsReadTo (limit : ℕ) (bytes : List ℕ) (i : ℕ) : Type 0 where
  pub sum : ℕ
  pub weight : ℕ
  pub reading : IsReading limit bytes (drop i bytes) sum weight

read_to : (limit : ℕ) (bytes : List ℕ) (b : Begins limit bytes) (i : ℕ) → AreMore i bytes → IsReadTo limit bytes i
read_to limit bytes b zero more = record { sum = 0; weight = 1; reading = started limit bytes b }
read_to limit bytes b (suc i) more =
    let r = read_to limit bytes b i more.0 in
    let on = read_on limit bytes i r.sum r.weight (within limit bytes i r.sum r.weight r.reading) r.reading more.1 in
    let next : i + 1 ≡ suc i = omega arith in
    record {
      sum = r.sum + (get_or bytes i 0 - 128) * r.weight;
      weight = r.weight * 128;
      reading = subst (λ (n : ℕ). IsReading limit bytes (drop n bytes) (r.sum + (get_or bytes i 0 - 128) * r.weight) (r.weight * 128)) next on;
    }

-- past such bytes there is one more
pub byte_there : (limit : ℕ) (bytes : List ℕ) (b : Begins limit bytes) (i : ℕ) → AreMore i bytes → i < length bytes
byte_there limit bytes b i more = let r = read_to limit bytes b i more in within limit bytes i r.sum r.weight r.reading

-- and where that is below 128, the others come after the number
pub bytes_after : (limit : ℕ) (bytes : List ℕ) (b : Begins limit bytes) (i : ℕ) → AreMore i bytes → get_or bytes i 0 < 128
    → take (length bytes - (i + 1)) (drop (i + 1) bytes) ≡ (number_of bytes).1
bytes_after limit bytes b i more last =
    let r = read_to limit bytes b i more in
    all_left bytes (i + 1)
    ∙ left_after limit bytes i r.sum r.weight (within limit bytes i r.sum r.weight r.reading) r.reading last
