-- The lines of a reply's text, and which items of an array are numbers.
use Rattle.std.specs.Prelude.{ℕ, ◌+◌, Bool, false, ◌==◌, min, if◌then◌else◌, List, [], ◌∷◌, ◌++◌, length, take, drop, codes}
use Rattle.std.specs.Fmt.{decimal}
use Rattle.ts_spec.specs.Encoded.{encoded_word}
use Rattle.ts_spec.specs.Text.{line_text}

-- the bytes after the first line
abbrev pub after_line : List ℕ → List ℕ
after_line [] = []
after_line (byte ∷ bytes) = if byte == 13 then drop 1 bytes else after_line bytes

-- the text of an array's items
abbrev pub items_text : List ℕ → List ℕ
items_text [] = []
items_text (byte ∷ bytes) = if byte == 42 then after_line (byte ∷ bytes) else []

-- whether a text begins with an integer reply
abbrev pub begins_number : List ℕ → Bool
begins_number [] = false
begins_number (byte ∷ bytes) = byte == 58

-- whether a text begins with an error reply
abbrev pub begins_error : List ℕ → Bool
begins_error [] = false
begins_error (byte ∷ bytes) = byte == 45

-- bytes, cut into pieces of these lengths
abbrev pub pieces : List ℕ → List ℕ → List (List ℕ)
pieces [] bytes = []
pieces (len ∷ lens) bytes = take len bytes ∷ pieces lens (drop len bytes)

-- the pieces whose items are numbers; there is one item for each piece
abbrev pub accepted_pieces : (items : List ℕ) → List (List ℕ) → List (List ℕ)
accepted_pieces items [] = []
accepted_pieces items (piece ∷ pieces) =
    if begins_number items then piece ∷ accepted_pieces (after_line items) pieces else accepted_pieces (after_line items) pieces

-- the pieces, joined
abbrev pub joined : List (List ℕ) → List ℕ
joined [] = []
joined (piece ∷ pieces) = piece ++ joined pieces

-- how many arguments the pieces have: three each, or none if a piece is empty
abbrev pub words_in : List (List ℕ) → ℕ
words_in [] = 0
words_in (piece ∷ pieces) = min 3 (length piece) + words_in pieces

-- the TS.MADD request with these pieces, or nothing if they have no arguments
abbrev pub accepted_text : List (List ℕ) → List ℕ
accepted_text pieces =
    if words_in pieces == 0 then [] else line_text 42 (decimal (words_in pieces + 1)) ++ (encoded_word (codes "TS.MADD") ++ joined pieces)
