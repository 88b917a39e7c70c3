-- Number lines at the front of some bytes.
use Rattle.std.specs.Prelude.{ℕ, ◌+◌, ◌<◌, Bool, List, [], ◌∷◌}
use Rattle.ts_spec.specs.Wire as wire
use Rattle.ts_spec.specs.Wire.{line_step}
use Rattle.ts_resp.specs.declared.line.Line.{Line}
use Rattle.ts_resp.specs.declared.line.Line.TheVariants.{Blank, Zero, Number, Minus, MinusOne}
use Rattle.ts_resp.specs.declared.line.LineMove.{LineMove}
use Rattle.ts_resp.specs.declared.line.LineMove.TheVariants.{Goes, Returns, Wrong}
use Rattle.ts_resp.specs.declared.line.NumberLine.{NumberLine}
use Rattle.ts_resp.specs.declared.line.NumberLine.TheVariants as found

-- the parser state as ts_spec defines it
abbrev pub line_of : Line → wire.Line
line_of Blank = wire.Line.Blank
line_of Zero = wire.Line.Zero
line_of (Number number) = wire.Line.Number number
line_of Minus = wire.Line.Minus
line_of MinusOne = wire.Line.MinusOne

-- the effect of a byte as ts_spec defines it
abbrev pub move_of : LineMove → wire.LineMove
move_of (Goes line) = wire.LineMove.Goes (line_of line)
move_of (Returns number) = wire.LineMove.Returns number
move_of Wrong = wire.LineMove.Wrong

-- the same result with its index moved by k
abbrev pub after : ℕ → NumberLine → NumberLine
after k found.Open = found.Open
after k (found.Whole number len) = found.Whole number (k + len)
after k (found.Wrong at) = found.Wrong (k + at)

-- the result after this effect of one byte, given the result for the rest
abbrev pub on_move : wire.LineMove → (wire.Line → NumberLine) → NumberLine
on_move (wire.LineMove.Goes line) rest = after 1 (rest line)
on_move (wire.LineMove.Returns number) rest = found.Whole number 0
on_move wire.LineMove.Wrong rest = found.Wrong 0

-- the result of parsing the bytes from this state
unfoldable pub number_line : (limit : ℕ) (negative : Bool) → wire.Line → List ℕ → NumberLine
number_line limit negative line [] = found.Open
number_line limit negative line (byte ∷ bytes) =
    on_move (line_step limit negative line byte) (λ next. number_line limit negative next bytes)

-- the index that it names is below n
abbrev pub IsWithin : ℕ → NumberLine → Type 0
IsWithin n found.Open = Unit {0}
IsWithin n (found.Whole number len) = len < n
IsWithin n (found.Wrong at) = at < n
