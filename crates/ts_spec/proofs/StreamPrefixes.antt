-- Prefixes of streams: the requests of a prefix are a prefix of the requests, and a protocol error stays.
use Rattle.std.proofs.Common.{ℕ, ◌+◌, List, [], ◌∷◌, ◌++◌, refl}
use Rattle.ts_spec.specs.declared.wire.WireLimits.{WireLimits}
use Rattle.ts_spec.specs.Wire.{Request, Stream, Mode, Start, Move, Goto, Whole, Fault, move, at_end, after_move, then_request, read_on}
use Rattle.ts_spec.specs.StreamPrefixes.{IsStreamPrefix}

-- one request before both
front_then : (request : Request) (place : ℕ) (stream other : Stream) → IsStreamPrefix stream other → IsStreamPrefix (then_request request place stream) (then_request request place other)
front_then [] place stream other h = h
front_then (word ∷ words) place stream other h = (other, refl, h)

front_end : (mode : Mode) (begin : ℕ) (other : Stream) → IsStreamPrefix (at_end mode begin) other
front_end Start begin other = tt
front_end (Mode.Text line) begin other = tt
front_end (Mode.Count line) begin other = tt
front_end (Mode.CountFeed n) begin other = tt
front_end (Mode.Mark so_far) begin other = tt
front_end (Mode.Length so_far line) begin other = tt
front_end (Mode.LengthFeed so_far n) begin other = tt
front_end (Mode.Body so_far n bytes) begin other = tt
front_end (Mode.WordReturn so_far bytes) begin other = tt
front_end (Mode.WordFeed so_far bytes) begin other = tt

front_move : (m : Move) (place begin : ℕ) (on other : ℕ → Mode → Stream) → ((from : ℕ) (next : Mode) → IsStreamPrefix (on from next) (other from next))
    → IsStreamPrefix (after_move m place begin on) (after_move m place begin other)
front_move (Goto next) place begin on other h = h begin next
front_move (Whole request) place begin on other h = front_then request (place + 1) (on (place + 1) Start) (other (place + 1) Start) (h (place + 1) Start)
front_move (Fault kind) place begin on other h = refl

-- some bytes, and the same with more
pub read_on-front : (limits : WireLimits) (place begin : ℕ) (mode : Mode) (bytes more : List ℕ)
    → IsStreamPrefix (read_on limits place begin mode bytes) (read_on limits place begin mode (bytes ++ more))
unfolding read_on
read_on-front limits place begin mode [] more = front_end mode begin (read_on limits place begin mode more)
read_on-front limits place begin mode (byte ∷ bytes) more =
    front_move (move limits mode byte) place begin (λ from next. read_on limits (place + 1) from next bytes) (λ from next. read_on limits (place + 1) from next (bytes ++ more))
    (λ from next. read_on-front limits (place + 1) from next bytes more)
