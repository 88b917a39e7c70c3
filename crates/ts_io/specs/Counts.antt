-- What a counting sink records of the bytes written to it.
use Rattle.std.specs.Prelude.{ℕ, ◌+◌, ◌-◌, ◌^◌, min, Bool, true, ◌&&◌, ◌==◌, if◌then◌else◌, List, [], ◌∷◌, length, Option, None, Some}
use Rattle.std.specs.List.{last_or}

-- whether a line begins after this byte, or at the start
abbrev pub begins_line : Option ℕ → Bool
begins_line None = true
begins_line (Some byte) = byte == 10

-- how many of these bytes are a `-` at the start of a line, where `before` is the byte before them, if any
abbrev pub error_marks_after : (before : Option ℕ) → List ℕ → ℕ
error_marks_after before [] = 0
error_marks_after before (byte ∷ bytes) = (if begins_line before && (byte == 45) then 1 else 0) + error_marks_after (Some byte) bytes

-- the number of bytes, the number of lines that begin with `-`, and the last byte
pub record Counts : Type 0 where
  pub total : ℕ
  pub errors : ℕ
  pub last : Option ℕ

-- the counts of these bytes, each at most the greatest u64
abbrev pub counts_of : List ℕ → Counts
counts_of bytes = record {
  total = min (length bytes) (2 ^ 64 - 1);
  errors = min (error_marks_after None bytes) (2 ^ 64 - 1);
  last = last_or None bytes;
}
