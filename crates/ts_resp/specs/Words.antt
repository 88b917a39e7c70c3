-- How an argument stores its bytes, and how bytes compare.
use Rattle.std.specs.Prelude.{ℕ, zero, suc, ◌+◌, ◌*◌, ◌≤◌, List, [], ◌∷◌, take}
use Rattle.ts_resp.specs.declared.word.Storage.{Storage}
use Rattle.ts_resp.specs.declared.word.Storage.TheVariants.{Short, Long}

-- the bytes: the front of the inline array, or all of the vector
abbrev pub held_bytes : Storage → List ℕ
held_bytes (Short alloc len bytes) = take len bytes
held_bytes (Long bytes) = bytes.items

-- the length fits the inline array
abbrev pub IsHeld : Storage → Type 0
IsHeld (Short alloc len bytes) = len ≤ 30
IsHeld (Long bytes) = Unit {0}

-- the big-endian number of the next n bytes, appended to `so_far`
abbrev pub big_endian : (so_far n : ℕ) → List ℕ → ℕ
big_endian so_far zero bytes = so_far
big_endian so_far (suc n) [] = so_far
big_endian so_far (suc n) (byte ∷ bytes) = big_endian (so_far * 256 + byte) n bytes
