-- The packed format: each sample as its differences from the sample before it, in variable-length numbers.
use Rattle.std.specs.Prelude.{ℕ, zero, suc, ◌+◌, ◌-◌, ◌*◌, ◌/◌, ◌%◌, ℤ, pos, negsuc, ◌+ℤ◌, ◌-ℤ◌, Bool, true, false, ◌==◌, nat_lt, if◌then◌else◌, unsigned_abs, List, [], ◌∷◌, ◌++◌}
use Rattle.ts_spec.specs.Sample.{Point}

-- ---- numbers

-- zigzag coding: n from 0 up is 2n, and n below 0 is -2n - 1
unfoldable pub zigzag : ℤ → ℕ
zigzag (pos n) = 2 * n
zigzag (negsuc n) = 2 * suc n - 1

-- decodes a zigzag code
unfoldable pub unzigzag : ℕ → ℤ
unzigzag n = if n % 2 == 0 then pos (n / 2) else negsuc (n / 2)

-- A number in groups of seven bits, the lowest first, with 128 added to all but the last. At most `turns` groups come
-- before the last.
abbrev pub groups : (turns : ℕ) → ℕ → List ℕ
groups zero n = n ∷ []
groups (suc turns) n = if nat_lt n 128 then n ∷ [] else (let higher = groups turns (n / 128) in (128 + n % 128) ∷ higher)

-- a number in as few bytes as possible
unfoldable pub number : ℕ → List ℕ
number n = groups n n

-- the first number of the bytes, and the remaining bytes
abbrev pub number_of : List ℕ → ℕ × List ℕ
number_of [] = (0, [])
number_of (b ∷ bs) = if nat_lt b 128 then (b, bs) else (let higher = number_of bs in (b - 128 + 128 * higher.0, higher.1))

-- ---- samples

-- the coding context after some samples
pub record State : Type 0 where
  -- the last sample, or zeros
  pub before : Point
  -- the step from the sample before it, 0 for the first sample
  pub step : ℤ
  -- whether there are any samples
  pub begun : Bool

-- the context at the front of a chunk
abbrev pub begin : State
begin = record { before = record { time = 0; value = pos 0; made = 0 }; step = pos 0; begun = false }

-- the step from the last sample to a time
abbrev pub gap : State → ℕ → ℤ
gap s time = pos time -ℤ pos s.before.time

-- the context after one more sample
abbrev pub next : State → Point → State
next s p = record { before = p; step = if s.begun then gap s p.time else pos 0; begun = true }

-- a coded sample: the changes of its step, its value and its rule count
unfoldable pub coded : State → Point → List ℕ
coded s p =
    number (zigzag (gap s p.time -ℤ s.step))
    ++ (number (zigzag (p.value -ℤ s.before.value)) ++ number (zigzag (pos p.made -ℤ pos s.before.made)))

-- the coded samples after a context
abbrev pub packed_from : State → List Point → List ℕ
packed_from s [] = []
packed_from s (p ∷ ps) = coded s p ++ packed_from (next s p) ps

-- the coded samples of a chunk
abbrev pub packed : List Point → List ℕ
packed ps = packed_from begin ps

-- the context after some samples
abbrev pub state_from : State → List Point → State
state_from s [] = s
state_from s (p ∷ ps) = state_from (next s p) ps

-- ---- samples of bytes

-- the sample that three numbers code
unfoldable pub point_of : State → (time value made : ℕ) → Point
point_of s time value made = record {
  time = unsigned_abs (pos s.before.time +ℤ (s.step +ℤ unzigzag time));
  value = s.before.value +ℤ unzigzag value;
  made = unsigned_abs (pos s.before.made +ℤ unzigzag made);
}

-- the first sample of the bytes, and the remaining bytes
unfoldable pub sample_of : State → List ℕ → Point × List ℕ
sample_of s bytes =
    let time = number_of bytes in
    let value = number_of time.1 in
    let made = number_of value.1 in
    (point_of s time.0 value.0 made.0, made.1)

-- the first n samples of the bytes, and the remaining bytes
abbrev pub decoded_from : State → (n : ℕ) → List ℕ → List Point × List ℕ
decoded_from s zero bytes = ([], bytes)
decoded_from s (suc n) bytes =
    let first = sample_of s bytes in
    let rest = decoded_from (next s first.0) n first.1 in
    (first.0 ∷ rest.0, rest.1)

-- the same at the front of a chunk
unfoldable pub decoded : (n : ℕ) → List ℕ → List Point × List ℕ
decoded n bytes = decoded_from begin n bytes

-- the first n samples of the bytes
unfoldable pub samples_of : (n : ℕ) → List ℕ → List Point
samples_of n bytes = (decoded n bytes).0
