-- What the bytes of a frame's header lead to.
use Rattle.std.specs.Prelude.{◌≡◌, ◌≢◌, ℕ, ◌+◌, ◌<◌, ◌≤◌, List, ◌++◌, length, take, drop, Option, Some, None, IsSome, IfSome, slice_index}
use Rattle.ts_mux.specs.declared.found_number.FoundNumber.{FoundNumber}
use Rattle.ts_mux.specs.declared.found_number.FoundNumber.TheVariants as number
use Rattle.ts_mux.specs.declared.found_header.FoundHeader.{FoundHeader}
use Rattle.ts_mux.specs.declared.found_header.FoundHeader.TheVariants as header
use Rattle.ts_mux.specs.Capture.{Then, Inside, Broken, Mode, Wrong, MOST_BYTES, transition, goes, with_byte, read_on, capture_at}
use Rattle.ts_mux.specs.Framing.{IsLink, begun_on, ended_at}

-- the bytes before `at` lead to this state, if a frame begins with them
abbrev pub LeadsTo : List ℕ → (at : ℕ) → Mode → Type 0
LeadsTo bytes at mode = (place : ℕ) (more : List ℕ) → capture_at place (bytes ++ more) ≡ read_on (place + at) place mode (drop at bytes ++ more)

-- the states in which a number is parsed that is between `least` and `most`, and ends before the byte `last`
pub record IsNumberMode (least most last : ℕ) (mode : Option ℕ → Mode) : Type 0 where
  pub digit : (so_far : Option ℕ) (byte : ℕ) → byte ≢ last → transition (mode so_far) byte ≡ goes mode (with_byte least most so_far byte)
  pub none : transition (mode None) last ≡ Wrong

-- the bytes from `from` to `at` are the digits of this number, if there is one
pub record AreDigits (least most last : ℕ) (bytes : List ℕ) (from at : ℕ) (so_far : Option ℕ) : Type 0 where
  pub within : at ≤ length bytes
  pub begun : from < at → IsSome so_far
  pub range : IfSome so_far (λ value. (least ≤ value) × (value ≤ most))
  pub leads : (mode : Option ℕ → Mode) → IsNumberMode least most last mode → LeadsTo bytes from (mode None) → LeadsTo bytes at (mode so_far)

-- a number that ends before `at`, if it has a digit
abbrev pub ended_number : Option ℕ → (at : ℕ) → FoundNumber
ended_number None at = number.Broken at
ended_number (Some value) at = number.Whole value at

-- the number that begins at `from`
abbrev pub IsNumber : FoundNumber → (least most last : ℕ) (bytes : List ℕ) (from : ℕ) → Type 0
IsNumber (number.Whole value at) least most last bytes from = AreDigits least most last bytes from at (Some value) × (at < length bytes) × (slice_index bytes at ≡ last)
IsNumber number.NotYet least most last bytes from = (so_far : Option ℕ) × AreDigits least most last bytes from (length bytes) so_far
IsNumber (number.Broken at) least most last bytes from =
    (so_far : Option ℕ) × AreDigits least most last bytes from at so_far × (at < length bytes)
    × ((mode : Option ℕ → Mode) → IsNumberMode least most last mode → transition (mode so_far) (slice_index bytes at) ≡ Wrong)

-- the header of a frame with this connection and length, whose bytes start at `start`
pub record IsWholeHeader (bytes : List ℕ) (link len start : ℕ) : Type 0 where
  pub connection : IsLink link
  pub most : len ≤ MOST_BYTES
  pub some : 0 < start
  pub within : start ≤ length bytes
  pub whole : start + len ≤ length bytes → (place : ℕ) (more : List ℕ) → capture_at place (bytes ++ more)
      ≡ Then (record { link = link; bytes = take len (drop start bytes) }) (capture_at (place + (start + len)) (drop (start + len) bytes ++ more))
  pub inside : length bytes < start + len → (place : ℕ) → capture_at place bytes ≡ Inside place

-- the header that the bytes begin with
abbrev pub IsHeader : FoundHeader → List ℕ → Type 0
IsHeader (header.Whole link len start) bytes = IsWholeHeader bytes link len start
IsHeader header.NotYet bytes = (place : ℕ) → capture_at place bytes ≡ ended_at (begun_on place bytes)
IsHeader (header.Broken at) bytes = (at < length bytes) × ((place : ℕ) (more : List ℕ) → capture_at place (bytes ++ more) ≡ Broken (place + at))
