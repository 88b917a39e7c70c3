-- The RESP2 text of a reply, and of a protocol error.
use Rattle.std.specs.Prelude.{◌≢◌, ℕ, suc, ◌^◌, ◌<◌, ℤ, List, [], ◌∷◌, ◌++◌, length, codes, Option, Some, None}
use Rattle.std.specs.Fmt.{decimal, signed_decimal}
use Rattle.ts_spec.specs.Value.{shown_value}
use Rattle.ts_spec.specs.declared.wire.Kind.{Kind}
use Rattle.ts_spec.specs.declared.wire.Kind.TheVariants as kind

mutual
  -- A reply. A value is a number of millionths, or `None` for NaN.
  pub data Reply : Type 0 where
    Simple : List ℕ → Reply
    Error : List ℕ → Reply
    Int : ℤ → Reply
    Value : Option ℤ → Reply
    Bulk : List ℕ → Reply
    Nil : Reply
    Array : Replies → Reply

  pub data Replies : Type 0 where
    Empty : Replies
    Item : Reply → Replies → Replies

-- the number of replies
abbrev pub count_of : Replies → ℕ
count_of Empty = 0
count_of (Item reply replies) = suc (count_of replies)

-- the end of a line
abbrev pub CRLF : List ℕ
CRLF = 13 ∷ 10 ∷ []

-- a line with its type byte
abbrev pub line_text : ℕ → List ℕ → List ℕ
line_text first text = first ∷ text ++ CRLF

-- the text of a value, or `NaN`
abbrev pub shown_cell : Option ℤ → List ℕ
shown_cell None = codes "NaN"
shown_cell (Some millionths) = shown_value millionths

abbrev mutual
  -- the text of a reply: `+`, `-`, `:`, `$` or `*`, then its content
  pub text : Reply → List ℕ
  text (Simple words) = line_text 43 words
  text (Error words) = line_text 45 words
  text (Int number) = line_text 58 (signed_decimal number)
  text (Value cell) = line_text 43 (shown_cell cell)
  text (Bulk bytes) = line_text 36 (decimal (length bytes)) ++ bytes ++ CRLF
  text Nil = line_text 36 (codes "-1")
  text (Array replies) = line_text 42 (decimal (count_of replies)) ++ texts replies

  -- the texts of replies, one after another
  pub texts : Replies → List ℕ
  texts Empty = []
  texts (Item reply replies) = text reply ++ texts replies

-- the text has no CR
abbrev pub IsOneLine : List ℕ → Type 0
IsOneLine [] = Unit {0}
IsOneLine (byte ∷ bytes) = (byte ≢ 13) × IsOneLine bytes

-- what holds of every reply of the server: lines have no CR, and lengths fit 64 bits
abbrev mutual
  pub IsPlain : Reply → Type 0
  IsPlain (Simple words) = IsOneLine words
  IsPlain (Error words) = IsOneLine words
  IsPlain (Int number) = Unit {0}
  IsPlain (Value cell) = Unit {0}
  IsPlain (Bulk bytes) = length bytes < 2 ^ 64
  IsPlain Nil = Unit {0}
  IsPlain (Array replies) = (count_of replies < 2 ^ 64) × ArePlain replies

  pub ArePlain : Replies → Type 0
  ArePlain Empty = Unit {0}
  ArePlain (Item reply replies) = IsPlain reply × ArePlain replies

-- the message of a protocol error
abbrev pub protocol_message : Kind → List ℕ
protocol_message kind.Multibulk = codes "ERR Protocol error: invalid multibulk length"
protocol_message kind.Bulk = codes "ERR Protocol error: invalid bulk length"
protocol_message kind.Dollar = codes "ERR Protocol error: expected '$'"
protocol_message kind.Crlf = codes "ERR Protocol error: expected CRLF"
protocol_message kind.TooLarge = codes "ERR Protocol error: request too large"

-- the error reply to a protocol error
abbrev pub protocol_error_text : Kind → List ℕ
protocol_error_text kind = text (Error (protocol_message kind))
