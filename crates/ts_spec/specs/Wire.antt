-- The request grammar of RESP2 over a list of bytes. A request is an array of bulk strings, or an inline command. The
-- stream is read byte by byte. The first byte that cannot continue a valid stream breaks it, and the error reports
-- the offset of that byte.
use Rattle.std.specs.Prelude.{ℕ, zero, suc, ◌+◌, ◌-◌, ◌*◌, Bool, true, false, not, ◌&&◌, ◌||◌, ◌==◌, nat_lt, nat_le, if◌then◌else◌, List, [], ◌∷◌, ◌++◌, length, take, filter, slice_index}
use Rattle.std.specs.List.{slice_split}
use Rattle.ts_spec.specs.declared.wire.Kind.{Kind}
use Rattle.ts_spec.specs.declared.wire.Kind.TheVariants.{Multibulk, Bulk, Dollar, Crlf, TooLarge}
use Rattle.ts_spec.specs.declared.wire.WireLimits.{WireLimits}

-- a request: a list of words, each a byte string
abbrev pub Request : Type 0
Request = List (List ℕ)

-- A parsed stream: its non-empty requests, each with the byte offset after it, and how the stream ends.
pub data Stream : Type 0 where
  Then : Request → ℕ → Stream → Stream
  -- it ends between two requests
  Ended : Stream
  -- it ends inside the request that begins at this offset
  Inside : ℕ → Stream
  -- the byte at this offset breaks the protocol
  Broken : Kind → ℕ → Stream

-- bytes that the grammar names
abbrev pub STAR : ℕ
STAR = 42

abbrev pub DOLLAR : ℕ
DOLLAR = 36

abbrev pub MINUS : ℕ
MINUS = 45

abbrev pub RETURN : ℕ
RETURN = 13

abbrev pub FEED : ℕ
FEED = 10

abbrev pub SPACE : ℕ
SPACE = 32

abbrev pub TAB : ℕ
TAB = 9

-- whether a byte is a digit
abbrev pub is_digit : ℕ → Bool
is_digit byte = nat_le 48 byte && nat_le byte 57

-- the value of a digit
abbrev pub digit_of : ℕ → ℕ
digit_of byte = byte - 48

-- a partly read line that holds a number
pub data Line : Type 0 where
  Blank : Line
  Zero : Line
  Number : ℕ → Line
  Minus : Line
  MinusOne : Line

-- what the next byte makes of it: the line goes on, its CR has come, or the line is invalid
pub data LineMove : Type 0 where
  Goes : Line → LineMove
  Returns : ℕ → LineMove
  Wrong : LineMove

-- appends a digit, if the number stays within the limit
abbrev pub with_digit : ℕ → ℕ → ℕ → LineMove
with_digit limit number byte =
    if is_digit byte && nat_le (10 * number + digit_of byte) limit then Goes (Number (10 * number + digit_of byte)) else Wrong

-- A number is `0`, or digits without a leading zero. If `negative` is set, `-1` counts as 0.
abbrev pub line_step : (limit : ℕ) (negative : Bool) → Line → ℕ → LineMove
line_step limit negative Blank byte =
    if byte == 48 then Goes Zero else (if negative && (byte == MINUS) then Goes Minus else with_digit limit 0 byte)
line_step limit negative Zero byte = if byte == RETURN then Returns 0 else Wrong
line_step limit negative (Number n) byte = if byte == RETURN then Returns n else with_digit limit n byte
line_step limit negative Minus byte = if byte == 49 then Goes MinusOne else Wrong
line_step limit negative MinusOne byte = if byte == RETURN then Returns 0 else Wrong

-- whether a byte separates the words of an inline command
abbrev pub is_blank : ℕ → Bool
is_blank byte = (byte == SPACE) || (byte == TAB)

-- a line without the CR at its end
abbrev pub text_of_line : List ℕ → List ℕ
text_of_line line = if slice_index line (length line - 1) == RETURN then take (length line - 1) line else line

-- the words of a text: its non-empty pieces between blanks
abbrev pub words_of : List ℕ → Request
words_of text = filter (λ piece. not (length piece == 0)) (slice_split is_blank text)

-- the words of an inline command, without the LF
abbrev pub words_of_line : List ℕ → Request
words_of_line line = words_of (text_of_line line)

-- a partly read request: its complete words, how many words follow the next one, and how many bytes they may still
-- have
pub record Partial : Type 0 where
  pub words : Request
  pub later : ℕ
  pub room : ℕ

-- what the reader expects next
pub data Mode : Type 0 where
  -- `*`, or the first byte of an inline command
  Start : Mode
  -- the next byte of an inline command, after these bytes
  Text : List ℕ → Mode
  -- the word count, and its LF
  Count : Line → Mode
  CountFeed : ℕ → Mode
  -- `$`
  Mark : Partial → Mode
  -- the length of a word, and its LF
  Length : Partial → Line → Mode
  LengthFeed : Partial → ℕ → Mode
  -- this many more bytes of a word, after these bytes
  Body : Partial → ℕ → List ℕ → Mode
  -- CR and LF after a word
  WordReturn : Partial → List ℕ → Mode
  WordFeed : Partial → List ℕ → Mode

-- what a byte does
pub data Move : Type 0 where
  Goto : Mode → Move
  -- the request is complete
  Whole : Request → Move
  Fault : Kind → Move

-- the move if the byte is the expected one, else a fault
abbrev pub expect_byte : ℕ → ℕ → Kind → Move → Move
expect_byte byte wanted kind move = if byte == wanted then move else Fault kind

-- the move after the word count
abbrev pub after_count : WireLimits → ℕ → Move
after_count limits zero = Whole []
after_count limits (suc later) = Goto (Mark (record { words = []; later = later; room = limits.request_bytes }))

-- the mode after the length of a word
abbrev pub after_length : Partial → ℕ → Mode
after_length so_far zero = WordReturn so_far []
after_length so_far (suc n) = Body so_far (suc n) []

-- the move after a complete word
abbrev pub after_word : Request → ℕ → ℕ → Move
after_word words zero room = Whole words
after_word words (suc later) room = Goto (Mark (record { words = words; later = later; room = room }))

-- a byte of the word count
abbrev pub on_count : LineMove → Move
on_count (Goes line) = Goto (Count line)
on_count (Returns n) = Goto (CountFeed n)
on_count Wrong = Fault Multibulk

-- a byte of the length of a word
abbrev pub on_length : Partial → LineMove → Move
on_length so_far (Goes line) = Goto (Length so_far line)
on_length so_far (Returns n) =
    if nat_le n so_far.room then Goto (LengthFeed (record { words = so_far.words; later = so_far.later; room = so_far.room - n }) n) else Fault TooLarge
on_length so_far Wrong = Fault Bulk

-- a byte of a word; n more follow
abbrev pub on_body : Partial → ℕ → List ℕ → Mode
on_body so_far zero bytes = WordReturn so_far bytes
on_body so_far (suc n) bytes = Body so_far (suc n) bytes

-- a byte of an inline command: LF completes it, and a line above the limit is a fault
abbrev pub on_text : WireLimits → List ℕ → ℕ → Move
on_text limits line byte =
    if byte == FEED then Whole (words_of_line line) else (if nat_lt (length line) limits.line_bytes then Goto (Text (line ++ byte ∷ [])) else Fault TooLarge)

-- what a byte does in a mode
abbrev pub move : WireLimits → Mode → ℕ → Move
move limits Start byte = if byte == STAR then Goto (Count Blank) else on_text limits [] byte
move limits (Text line) byte = on_text limits line byte
move limits (Count line) byte = on_count (line_step limits.words true line byte)
move limits (CountFeed n) byte = expect_byte byte FEED Crlf (after_count limits n)
move limits (Mark so_far) byte = expect_byte byte DOLLAR Dollar (Goto (Length so_far Blank))
move limits (Length so_far line) byte = on_length so_far (line_step limits.word_bytes false line byte)
move limits (LengthFeed so_far n) byte = expect_byte byte FEED Crlf (Goto (after_length so_far n))
move limits (Body so_far n bytes) byte = Goto (on_body so_far (n - 1) (bytes ++ byte ∷ []))
move limits (WordReturn so_far bytes) byte = expect_byte byte RETURN Crlf (Goto (WordFeed so_far bytes))
move limits (WordFeed so_far bytes) byte = expect_byte byte FEED Crlf (after_word (so_far.words ++ bytes ∷ []) so_far.later so_far.room)

-- how a stream ends in a mode; `begin` is the offset of the current request
abbrev pub at_end : Mode → ℕ → Stream
at_end Start begin = Ended
at_end _ begin = Inside begin

-- Skips requests without words.
abbrev pub then_request : Request → ℕ → Stream → Stream
then_request [] place rest = rest
then_request (word ∷ words) place rest = Then (word ∷ words) place rest

-- The rest of the stream after a byte at offset `place`. `on` parses the bytes after it, in the request that began at
-- the given offset.
abbrev pub after_move : Move → (place begin : ℕ) → (ℕ → Mode → Stream) → Stream
after_move (Goto next) place begin on = on begin next
after_move (Whole request) place begin on = then_request request (place + 1) (on (place + 1) Start)
after_move (Fault kind) place begin on = Broken kind place

-- Parses the bytes. The first is at offset `place`, in a request that began at offset `begin`.
unfoldable pub read_on : WireLimits → (place begin : ℕ) → Mode → List ℕ → Stream
read_on limits place begin mode [] = at_end mode begin
read_on limits place begin mode (byte ∷ bytes) =
    after_move (move limits mode byte) place begin (λ from next. read_on limits (place + 1) from next bytes)

-- parses a stream whose first byte is at offset `place`
abbrev pub stream_at : WireLimits → ℕ → List ℕ → Stream
stream_at limits place bytes = read_on limits place place Start bytes

-- the requests of a stream
abbrev pub requests_of : Stream → List Request
requests_of (Then request place rest) = request ∷ requests_of rest
requests_of Ended = []
requests_of (Inside place) = []
requests_of (Broken kind place) = []

-- how a stream ends
abbrev pub ending_of : Stream → Stream
ending_of (Then request place rest) = ending_of rest
ending_of ended = ended
