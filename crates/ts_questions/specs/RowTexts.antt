-- The text of rows, written row by row.
use Rattle.std.specs.Prelude.{◌≡◌, ℕ, Bool, false, List, ◌++◌, map, length}
use Rattle.ts_spec.specs.Answer.{Row}
use Rattle.ts_spec.specs.Replies.{reply_list, row_reply}
use Rattle.ts_spec.specs.Text.{texts}

-- the texts of rows, one after another
abbrev pub row_texts : List Row → List ℕ
row_texts rows = texts (reply_list (map row_reply rows))

-- these bytes are a gap of 24 bytes and then the texts of `count` rows
pub record IsBody (count : ℕ) (bytes : List ℕ) (rows : List Row) : Type 0 where
  pub gap : List ℕ
  pub long : length gap ≡ 24
  pub parts : bytes ≡ gap ++ row_texts rows
  pub counted : count ≡ length rows

-- the rows were written, unless memory ran out
abbrev pub AreWritten : (lost : Bool) → (count : ℕ) → (bytes : List ℕ) → List Row → Type 0
AreWritten lost count bytes rows = lost ≡ false → IsBody count bytes rows
