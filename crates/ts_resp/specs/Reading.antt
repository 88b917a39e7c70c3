-- The state of a reader, and the stream that it represents.
use Rattle.std.specs.Prelude.{ℕ, ◌+◌, List, [], ◌∷◌, ◌++◌, length, Option, Some, None}
use Rattle.ts_spec.specs.declared.wire.WireLimits.{WireLimits}
use Rattle.ts_spec.specs.Wire.{Request, Partial, Mode, Start, Mark, Move, Goto, Whole, Fault, move, Stream, Ended, Inside, read_on}

-- A reader: the offset of the current request, the offset of the first unread byte, the arguments read so far and the
-- unread bytes.
pub record Reading : Type 0 where
  pub limits : WireLimits
  pub begin : ℕ
  pub place : ℕ
  pub so_far : Option Partial
  pub unread : List ℕ

-- what comes next: a request or one more argument
abbrev pub mode_of : Option Partial → Mode
mode_of None = Start
mode_of (Some so_far) = Mark so_far

-- the rest of the stream if `more` follows the bytes received so far
abbrev pub stream_of : Reading → List ℕ → Stream
stream_of r more = read_on r.limits r.place r.begin (mode_of r.so_far) (r.unread ++ more)

-- how many bytes were received
abbrev pub fed : Reading → ℕ
fed r = r.place + length r.unread

-- where the current request begins after a complete one; requests without arguments are skipped
abbrev pub begun_whole : Request → (place begin : ℕ) → (ℕ → Mode → Option ℕ) → Option ℕ
begun_whole [] place begin on = on (place + 1) Start
begun_whole (word ∷ words) place begin on = Some begin

-- where the current request begins after this move; the next byte is at offset `place`
abbrev pub begun_after : Move → (place begin : ℕ) → (ℕ → Mode → Option ℕ) → Option ℕ
begun_after (Goto (Mark so_far)) place begin on = Some begin
begun_after (Goto next) place begin on = on begin next
begun_after (Whole request) place begin on = begun_whole request place begin on
begun_after (Fault kind) place begin on = Some begin

-- where the current request begins if the bytes end here
abbrev pub begun_at_end : Mode → ℕ → Option ℕ
begun_at_end Start begin = None
begun_at_end _ begin = Some begin

-- Where the first request with arguments begins, or the unfinished one at the end. The first byte is at offset `place`
-- and belongs to a request that began at `begin`.
unfoldable pub begun_on : WireLimits → (place begin : ℕ) → Mode → List ℕ → Option ℕ
begun_on limits place begin mode [] = begun_at_end mode begin
begun_on limits place begin mode (byte ∷ bytes) =
    begun_after (move limits mode byte) place begin (λ from next. begun_on limits (place + 1) from next bytes)

-- where the current request begins, if a byte of it has arrived
abbrev pub begun_at : Option Partial → WireLimits → (place begin : ℕ) → List ℕ → Option ℕ
begun_at (Some so_far) limits place begin unread = Some begin
begun_at None limits place begin unread = begun_on limits place begin Start unread

-- where the unfinished request begins, if there is one
abbrev pub unfinished : Reading → Option ℕ
unfinished r = begun_at r.so_far r.limits r.place r.begin r.unread

-- a stream that ends here: between requests, or inside the request that begins at this offset
abbrev pub ended_at : Option ℕ → Stream
ended_at None = Ended
ended_at (Some begin) = Inside begin
