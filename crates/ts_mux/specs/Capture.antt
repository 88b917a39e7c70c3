-- The format of a capture: frames, each with the number of a connection and bytes that it sent. A capture is parsed
-- byte by byte. The first byte that cannot continue it breaks it, and the error has that byte's offset.
use Rattle.std.specs.Prelude.{ℕ, zero, suc, ◌+◌, ◌-◌, ◌*◌, ◌&&◌, ◌==◌, nat_le, if◌then◌else◌, List, [], ◌∷◌, ◌++◌, length, Option, Some, None}
use Rattle.std.specs.Fmt.{decimal}
use Rattle.ts_spec.specs.Wire.{FEED, SPACE, is_digit, digit_of}
use Rattle.ts_mux.specs.declared.frame.Frame.{Frame}

-- A parsed capture: its whole frames, then how it ends.
pub data Capture : Type 0 where
  Then : Frame → Capture → Capture
  -- it ends between two frames
  Ended : Capture
  -- it ends inside the frame that begins at this offset
  Inside : ℕ → Capture
  -- the byte at this offset cannot continue it
  Broken : ℕ → Capture

-- the greatest connection number and the greatest frame length in bytes
abbrev pub MOST_LINKS : ℕ
MOST_LINKS = 4096

abbrev pub MOST_BYTES : ℕ
MOST_BYTES = 65536

-- the parser's state: what it expects next
pub data Mode : Type 0 where
  -- a digit of the connection number or the space after it; the number read so far
  Link : Option ℕ → Mode
  -- a digit of the frame's length or the line feed after it; the connection and the length read so far
  Length : ℕ → Option ℕ → Mode
  -- the connection, how many bytes of its frame are still missing, and the bytes read so far
  Body : ℕ → ℕ → List ℕ → Mode

-- the effect of one byte
pub data Transition : Type 0 where
  Goto : Mode → Transition
  -- the frame is complete
  Whole : Frame → Transition
  Wrong : Transition

-- the number if it is between `least` and `most`
abbrev pub within : (least most : ℕ) → ℕ → Option ℕ
within least most number = if nat_le least number && nat_le number most then Some number else None

-- appends a digit to a number; no number but 0 itself begins with 0
abbrev pub with_digit : (least most : ℕ) → Option ℕ → ℕ → Option ℕ
with_digit least most None digit = within least most digit
with_digit least most (Some number) digit = if number == 0 then None else within least most (10 * number + digit)

-- the same for a byte, which must be a digit
abbrev pub with_byte : (least most : ℕ) → Option ℕ → ℕ → Option ℕ
with_byte least most so_far byte = if is_digit byte then with_digit least most so_far (digit_of byte) else None

-- continues with the number, or fails if there is none
abbrev pub goes : (Option ℕ → Mode) → Option ℕ → Transition
goes mode None = Wrong
goes mode (Some number) = Goto (mode (Some number))

-- a frame after these bytes, with `later` bytes still missing
abbrev pub after_bytes : (link later : ℕ) → List ℕ → Transition
after_bytes link zero bytes = Whole (record { link = link; bytes = bytes })
after_bytes link (suc later) bytes = Goto (Body link (suc later) bytes)

-- the state after the space, if there is a connection number
abbrev pub after_link : Option ℕ → Transition
after_link None = Wrong
after_link (Some link) = Goto (Length link None)

-- the state after the line feed, if there is a length
abbrev pub after_length : ℕ → Option ℕ → Transition
after_length link None = Wrong
after_length link (Some length) = after_bytes link length []

-- the transition on the next byte
abbrev pub transition : Mode → ℕ → Transition
transition (Link so_far) byte = if byte == SPACE then after_link so_far else goes Link (with_byte 1 MOST_LINKS so_far byte)
transition (Length link so_far) byte = if byte == FEED then after_length link so_far else goes (Length link) (with_byte 0 MOST_BYTES so_far byte)
transition (Body link later bytes) byte = after_bytes link (later - 1) (bytes ++ byte ∷ [])

-- the state before the first byte of a frame
abbrev pub start : Mode
start = Link None

-- how a capture ends if its input stops before a digit of the connection number, or after some, in the frame that
-- begins at this offset
abbrev pub before_digit : Option ℕ → ℕ → Capture
before_digit None begin = Ended
before_digit (Some number) begin = Inside begin

-- how a capture ends if its input stops in this state; `begin` is the offset of the current frame
abbrev pub at_end : Mode → ℕ → Capture
at_end (Link so_far) begin = before_digit so_far begin
at_end (Length link so_far) begin = Inside begin
at_end (Body link later bytes) begin = Inside begin

-- The capture after a transition at offset `place`. `on` parses the bytes after it, given where their frame begins and
-- its state.
abbrev pub after_transition : Transition → (place begin : ℕ) → (ℕ → Mode → Capture) → Capture
after_transition (Goto next) place begin on = on begin next
after_transition (Whole frame) place begin on = Then frame (on (place + 1) start)
after_transition Wrong place begin on = Broken place

-- Parses bytes from this state on. The first one is at offset `place`, and the current frame begins at `begin`.
unfoldable pub read_on : (place begin : ℕ) → Mode → List ℕ → Capture
read_on place begin mode [] = at_end mode begin
read_on place begin mode (byte ∷ bytes) =
    after_transition (transition mode byte) place begin (λ from next. read_on (place + 1) from next bytes)

-- parses a capture whose first byte is at this offset
abbrev pub capture_at : ℕ → List ℕ → Capture
capture_at place bytes = read_on place place start bytes

-- parses a whole capture
abbrev pub capture : List ℕ → Capture
capture bytes = capture_at 0 bytes

-- the frames of a capture, and its ending after them
abbrev pub frames_of : Capture → List Frame
frames_of (Then frame rest) = frame ∷ frames_of rest
frames_of Ended = []
frames_of (Inside place) = []
frames_of (Broken place) = []

abbrev pub ending_of : Capture → Capture
ending_of (Then frame rest) = ending_of rest
ending_of ended = ended

-- the header of a frame: connection number, space, length and line feed
abbrev pub header : (link length : ℕ) → List ℕ
header link length = decimal link ++ SPACE ∷ decimal length ++ FEED ∷ []

-- the bytes of one frame, and of several in order
abbrev pub framed : Frame → List ℕ
framed frame = header frame.link (length frame.bytes) ++ frame.bytes

abbrev pub all_framed : List Frame → List ℕ
all_framed [] = []
all_framed (frame ∷ frames) = framed frame ++ all_framed frames
