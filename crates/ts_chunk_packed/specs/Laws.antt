-- What every chunk format must satisfy, proved for the packed one.
use Rattle.std.specs.Prelude.{◌≡◌, ℕ, ◌+◌, ◌*◌, ◌^◌, ◌≤◌, ℤ, pos, negsuc, ◌-ℤ◌, unsigned_abs, List, [], ◌∷◌, ◌++◌, length}
use Rattle.std.proofs.Common.{arith, ◌≤ℤ◌, length-append}
use Rattle.std.proofs.lemmas.Int.{ints}
use Rattle.ts_spec.specs.Sample.{Point, MAX_TIME}
use Rattle.ts_spec.specs.Value.{bound}
use Rattle.ts_sample.specs.Chunk.{least_limit}
use Rattle.ts_sample.specs.Sample.{IsInBounds}
use Rattle.ts_chunk_packed.specs.Packed.{State, begin, gap, next, zigzag, number, coded, packed_from, packed}
use Rattle.ts_chunk_packed.specs.Numbers.{some_bytes, most_bytes}

-- the context is within the bounds of samples
pub record IsKnown (s : State) : Type 0 where
  pub fine : IsInBounds s.before
  pub from : pos 0 ≤ℤ s.step
  pub to : s.step ≤ℤ pos MAX_TIME

-- the initial context is within the bounds of samples
pub nothing_known : IsKnown begin
nothing_known = record { fine = record { time = omega arith; value = omega arith; made = omega arith }; from = omega (arith, ints); to = omega (arith, ints) }

-- a zigzag code is at most twice the magnitude
zigzag_most : (z : ℤ) (m : ℕ) → unsigned_abs z ≤ m → zigzag z ≤ 2 * m
unfolding zigzag
zigzag_most (pos n) m most = omega arith
zigzag_most (negsuc n) m most = omega arith

-- the distance of two numbers is at most the sum of their magnitudes
apart : (a b : ℤ) → unsigned_abs (a -ℤ b) ≤ unsigned_abs a + unsigned_abs b
apart a b = omega (arith, ints)

-- the length of three concatenated lists is the sum of their lengths
three_parts : (a b c : List ℕ) → length (a ++ (b ++ c)) ≡ length a + length b + length c
three_parts a b c = omega (arith, length-append a (b ++ c), length-append b c)

-- a sample takes the bytes of its three numbers
pub length-coded : (s : State) (p : Point)
    → length (coded s p) ≡ length (number (zigzag (gap s p.time -ℤ s.step))) + length (number (zigzag (p.value -ℤ s.before.value))) + length (number (zigzag (pos p.made -ℤ pos s.before.made)))
unfolding coded
length-coded s p =
    three_parts (number (zigzag (gap s p.time -ℤ s.step))) (number (zigzag (p.value -ℤ s.before.value))) (number (zigzag (pos p.made -ℤ pos s.before.made)))

-- two numbers of an interval differ by at most its length
between_both : (a b : ℤ) (m : ℕ) → pos 0 ≤ℤ a → a ≤ℤ pos m → pos 0 ≤ℤ b → b ≤ℤ pos m → unsigned_abs (a -ℤ b) ≤ m
between_both a b m c d e f = omega (arith, ints)

-- the number that codes a time is bounded
pub time_most : (s : State) (p : Point) → IsKnown s → IsInBounds p → s.before.time ≤ p.time → zigzag (gap s p.time -ℤ s.step) ≤ 2 * MAX_TIME
time_most s p known fine later =
    let low : pos 0 ≤ℤ gap s p.time = omega (arith, ints) in
    let high : gap s p.time ≤ℤ pos MAX_TIME = omega (arith, ints, fine.time) in
    zigzag_most (gap s p.time -ℤ s.step) MAX_TIME (between_both (gap s p.time) s.step MAX_TIME low high known.from known.to)

-- the number that codes a value is bounded
pub value_most : (s : State) (p : Point) → IsKnown s → IsInBounds p → zigzag (p.value -ℤ s.before.value) ≤ 2 * (2 * bound)
value_most s p known fine =
    zigzag_most (p.value -ℤ s.before.value) (2 * bound) (omega (arith, apart p.value s.before.value, fine.value, known.fine.value))

-- the number that codes a rule count is bounded
pub made_most : (s : State) (p : Point) → IsKnown s → IsInBounds p → zigzag (pos p.made -ℤ pos s.before.made) ≤ 2 * 2 ^ 32
made_most s p known fine =
    let here : pos p.made ≤ℤ pos (2 ^ 32) = omega (arith, ints, fine.made) in
    let before : pos s.before.made ≤ℤ pos (2 ^ 32) = omega (arith, ints, known.fine.made) in
    zigzag_most (pos p.made -ℤ pos s.before.made) (2 ^ 32) (between_both (pos p.made) (pos s.before.made) (2 ^ 32) (omega (arith, ints)) here (omega (arith, ints)) before)

-- a sample takes at most 27 bytes
pub most_coded : (s : State) (p : Point) → IsKnown s → IsInBounds p → s.before.time ≤ p.time → length (coded s p) ≤ 27
most_coded s p known fine later =
    omega (
      arith,
      length-coded s p,
      most_bytes 9 (zigzag (gap s p.time -ℤ s.step)) (omega (arith, time_most s p known fine later)),
      most_bytes 11 (zigzag (p.value -ℤ s.before.value)) (omega (arith, value_most s p known fine)),
      most_bytes 4 (zigzag (pos p.made -ℤ pos s.before.made)) (omega (arith, made_most s p known fine)),
    )

-- each further sample takes at least three bytes
pub three_each : (s : State) (ps : List Point) → 3 * length ps ≤ length (packed_from s ps)
three_each s [] = omega arith
three_each s (p ∷ ps) =
    omega (
      arith,
      length-append (coded s p) (packed_from (next s p) ps),
      length-coded s p,
      some_bytes (zigzag (gap s p.time -ℤ s.step)),
      some_bytes (zigzag (p.value -ℤ s.before.value)),
      some_bytes (zigzag (pos p.made -ℤ pos s.before.made)),
      three_each (next s p) ps,
    )

-- each sample takes at least three bytes
pub three_or_more : (ps : List Point) → 3 * length ps ≤ length (packed ps)
three_or_more ps = three_each begin ps

-- appending a sample never shortens the bytes, after any context
no_fewer_from : (s : State) (ps : List Point) (p : Point) → length (packed_from s ps) ≤ length (packed_from s (ps ++ p ∷ []))
no_fewer_from s [] p = omega arith
no_fewer_from s (q ∷ ps) p =
    omega (
      arith,
      length-append (coded s q) (packed_from (next s q) ps),
      length-append (coded s q) (packed_from (next s q) (ps ++ p ∷ [])),
      no_fewer_from (next s q) ps p,
    )

-- appending a sample never shortens the bytes
pub no_fewer : (ps : List Point) (p : Point) → length (packed ps) ≤ length (packed (ps ++ p ∷ []))
no_fewer ps p = no_fewer_from begin ps p

-- a single sample fits in a chunk of any allowed limit
pub one_within : (p : Point) → IsInBounds p → length (packed (p ∷ [])) ≤ least_limit
one_within p fine =
    omega (arith, length-append (coded begin p) [], most_coded begin p nothing_known fine (omega arith))
