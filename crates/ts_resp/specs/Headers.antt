-- Header lines and arguments at the front of the unread bytes, and their meaning in the stream.
use Rattle.std.specs.Prelude.{◌≡◌, ℕ, ◌+◌, ◌-◌, ◌<◌, ◌≤◌, ◌==◌, nat_lt, if◌then◌else◌, List, [], ◌∷◌, ◌++◌, length, drop, slice_range, Option, Some, None}
use Rattle.ts_spec.specs.declared.wire.Kind.TheVariants.{Crlf}
use Rattle.ts_spec.specs.declared.wire.WireLimits.{WireLimits}
use Rattle.ts_spec.specs.Wire as wire
use Rattle.ts_spec.specs.Wire.{Request, Stream, Partial, Mode, Start, Mark, Move, Goto, FEED, RETURN, at_end, after_move, after_count, after_length, after_word, read_on}
use Rattle.ts_resp.specs.declared.header.Header.{Header}
use Rattle.ts_resp.specs.declared.header.Header.TheVariants as header
use Rattle.ts_resp.specs.declared.header.FoundWord.{FoundWord}
use Rattle.ts_resp.specs.declared.header.FoundWord.TheVariants as word
use Rattle.ts_resp.specs.Reading.{begun_after, begun_on}

-- the stream if these bytes are all that arrives
abbrev pub stopped : Mode → ℕ → List ℕ → Stream
stopped mode begin [] = at_end mode begin
stopped mode begin (byte ∷ bytes) = wire.Inside begin

-- The header parsed from the bytes agrees with the stream in this mode. `next` is the effect of its LF.
abbrev pub IsHeader : WireLimits → Mode → (ℕ → Move) → List ℕ → Header → Type 0
IsHeader limits mode next bytes header.Open = (place begin : ℕ) → read_on limits place begin mode bytes ≡ stopped mode begin bytes
IsHeader limits mode next bytes (header.Whole number feed) =
    (place begin : ℕ) (more : List ℕ) → read_on limits place begin mode (bytes ++ more)
    ≡ after_move (next number) (place + feed) begin (λ from on. read_on limits (place + feed + 1) from on (drop (feed + 1) bytes ++ more))
IsHeader limits mode next bytes (header.Broken kind at) =
    (place begin : ℕ) (more : List ℕ) → read_on limits place begin mode (bytes ++ more) ≡ wire.Broken kind (place + at)

-- the header of a request: an argument count
abbrev pub IsCount : WireLimits → List ℕ → Header → Type 0
IsCount limits = IsHeader limits Start (after_count limits)

-- where an unfinished request begins whose header is incomplete
abbrev pub begun_by : ℕ → List ℕ → Option ℕ
begun_by begin [] = None
begun_by begin (byte ∷ bytes) = Some begin

-- The header of a request agrees on where the current request begins.
abbrev pub IsBegun : WireLimits → List ℕ → Header → Type 0
IsBegun limits bytes header.Open = (place begin : ℕ) → begun_on limits place begin Start bytes ≡ begun_by begin bytes
IsBegun limits bytes (header.Whole number feed) =
    (place begin : ℕ) → begun_on limits place begin Start bytes
    ≡ begun_after (after_count limits number) (place + feed) begin (λ from on. begun_on limits (place + feed + 1) from on (drop (feed + 1) bytes))
IsBegun limits bytes (header.Broken kind at) = (place begin : ℕ) → begun_on limits place begin Start bytes ≡ Some begin

-- the header of an argument: its length
abbrev pub IsLength : WireLimits → Request → (later room : ℕ) → List ℕ → Header → Type 0
IsLength limits words later room =
    IsHeader limits (Mark (record { words = words; later = later; room = room })) (λ n. Goto (after_length (record { words = words; later = later; room = room - n }) n))

-- the index that a header names is below n
abbrev pub IsHeaderWithin : ℕ → Header → Type 0
IsHeaderWithin n header.Open = Unit {0}
IsHeaderWithin n (header.Whole number feed) = feed < n
IsHeaderWithin n (header.Broken kind at) = at < n

-- the LF that ends a header, checked on the bytes at its index
abbrev pub feed_at : (number at : ℕ) → List ℕ → Header
feed_at number at [] = header.Open
feed_at number at (byte ∷ bytes) = if byte == FEED then header.Whole number at else header.Broken Crlf at

-- a complete header has this number
abbrev pub HasNumber : ℕ → Header → Type 0
HasNumber n header.Open = Unit {0}
HasNumber n (header.Whole number feed) = number ≡ n
HasNumber n (header.Broken kind at) = Unit {0}

-- a complete header has at most this number
abbrev pub HasAtMost : ℕ → Header → Type 0
HasAtMost n header.Open = Unit {0}
HasAtMost n (header.Whole number feed) = number ≤ n
HasAtMost n (header.Broken kind at) = Unit {0}

-- The argument parsed from the bytes, its header included, agrees with the stream.
abbrev pub IsWord : WireLimits → Partial → List ℕ → FoundWord → Type 0
IsWord limits so_far bytes word.Open = (place begin : ℕ) → read_on limits place begin (Mark so_far) bytes ≡ wire.Inside begin
IsWord limits so_far bytes (word.Whole start end) =
    (place begin : ℕ) (more : List ℕ) → read_on limits place begin (Mark so_far) (bytes ++ more)
    ≡ after_move (after_word (so_far.words ++ slice_range bytes start end ∷ []) so_far.later (so_far.room - (end - start))) (place + (end + 1)) begin
    (λ from on. read_on limits (place + (end + 1) + 1) from on (drop (end + 2) bytes ++ more))
IsWord limits so_far bytes (word.Broken kind at) =
    (place begin : ℕ) (more : List ℕ) → read_on limits place begin (Mark so_far) (bytes ++ more) ≡ wire.Broken kind (place + at)

-- the indexes that it names are below n, and a complete argument has at most `room` bytes
abbrev pub IsWordWithin : (n room : ℕ) → FoundWord → Type 0
IsWordWithin n room word.Open = Unit {0}
IsWordWithin n room (word.Whole start end) = (start ≤ end) × (end - start ≤ room) × (end + 1 < n)
IsWordWithin n room (word.Broken kind at) = at < n

-- the CRLF that ends an argument, checked on the bytes at its index
abbrev pub ended_by : (start end : ℕ) → List ℕ → FoundWord
ended_by start end [] = word.Open
ended_by start end (byte ∷ []) = if byte == RETURN then word.Open else word.Broken Crlf end
ended_by start end (byte ∷ after ∷ bytes) =
    if byte == RETURN then (if after == FEED then word.Whole start end else word.Broken Crlf (end + 1)) else word.Broken Crlf end

-- the argument of `len` bytes in the bytes received so far
abbrev pub body_at : (start len : ℕ) → List ℕ → FoundWord
body_at start len bytes = if nat_lt (length bytes) len then word.Open else ended_by start (start + len) (drop len bytes)
