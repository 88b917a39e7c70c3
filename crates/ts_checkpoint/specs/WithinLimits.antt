-- Whether the bytes of words are within limits, word by word.
use Rattle.std.specs.Prelude.{ℕ, ◌-◌, Bool, true, false, ◌&&◌, nat_le, if◌then◌else◌, [], ◌∷◌, length}
use Rattle.ts_spec.specs.Wire.{Request}

-- whether each word has at most `word_bytes` bytes, and all of them together at most `left`
abbrev pub fit_within : (word_bytes left : ℕ) → Request → Bool
fit_within word_bytes left [] = true
fit_within word_bytes left (word ∷ words) =
    if nat_le (length word) word_bytes && nat_le (length word) left then fit_within word_bytes (left - length word) words
    else false
