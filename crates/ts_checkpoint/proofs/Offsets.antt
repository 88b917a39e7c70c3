-- The offsets of a stream rise, and a prefix of its bytes has all requests that end within them.
use Rattle.std.proofs.Common.{◌≡◌, ℕ, ◌+◌, ◌<◌, ◌≤◌, List, [], ◌∷◌, ◌++◌, length, refl, arith}
use Rattle.std.specs.Prelude.{⊤}
use Rattle.ts_spec.specs.declared.wire.WireLimits.{WireLimits}
use Rattle.ts_spec.specs.Wire.{Request, Stream, Then, Ended, Inside, Broken, Mode, Start, Move, Goto, Whole, Fault, move, at_end, after_move, then_request, read_on}

-- ---- the offsets rise

-- each request ends after the one before it, and the first after this offset
abbrev pub AreOffsets : ℕ → Stream → Type 0
AreOffsets place (Then request after rest) = (place < after) × AreOffsets after rest
AreOffsets place other = ⊤

pub offsets-before : (n place : ℕ) (stream : Stream) → n ≤ place → AreOffsets place stream → AreOffsets n stream
offsets-before n place (Then request after rest) less h = (omega (arith, h.0, less), h.1)
offsets-before n place Ended less h = tt
offsets-before n place (Inside begin) less h = tt
offsets-before n place (Broken kind at) less h = tt

offsets-then : (request : Request) (n place : ℕ) (rest : Stream) → n < place → AreOffsets place rest → AreOffsets n (then_request request place rest)
offsets-then [] n place rest less h = offsets-before n place rest (omega (arith, less)) h
offsets-then (word ∷ words) n place rest less h = (less, h)

offsets-move : (m : Move) (place begin : ℕ) (on : ℕ → Mode → Stream) → ((from : ℕ) (next : Mode) → AreOffsets (place + 1) (on from next))
    → AreOffsets place (after_move m place begin on)
offsets-move (Goto next) place begin on h = offsets-before place (place + 1) (on begin next) (omega arith) (h begin next)
offsets-move (Whole request) place begin on h = offsets-then request place (place + 1) (on (place + 1) Start) (omega arith) (h (place + 1) Start)
offsets-move (Fault kind) place begin on h = tt

offsets-end : (mode : Mode) (place begin : ℕ) → AreOffsets place (at_end mode begin)
offsets-end Start place begin = tt
offsets-end (Mode.Text line) place begin = tt
offsets-end (Mode.Count line) place begin = tt
offsets-end (Mode.CountFeed n) place begin = tt
offsets-end (Mode.Mark so_far) place begin = tt
offsets-end (Mode.Length so_far line) place begin = tt
offsets-end (Mode.LengthFeed so_far n) place begin = tt
offsets-end (Mode.Body so_far n bytes) place begin = tt
offsets-end (Mode.WordReturn so_far bytes) place begin = tt
offsets-end (Mode.WordFeed so_far bytes) place begin = tt

pub offsets : (limits : WireLimits) (place begin : ℕ) (mode : Mode) (bytes : List ℕ) → AreOffsets place (read_on limits place begin mode bytes)
unfolding read_on
offsets limits place begin mode [] = offsets-end mode place begin
offsets limits place begin mode (byte ∷ bytes) =
    offsets-move (move limits mode byte) place begin (λ from next. read_on limits (place + 1) from next bytes)
    (λ from next. offsets limits (place + 1) from next bytes)

-- ---- the requests of a prefix

-- the first request, if there is one, ends after this offset
abbrev pub EndsPast : ℕ → Stream → Type 0
EndsPast size (Then request after rest) = size < after
EndsPast size other = ⊤

-- the first stream is a prefix of the second, and has all its requests that end up to this offset
abbrev pub IsFrontAt : (size : ℕ) → Stream → Stream → Type 0
IsFrontAt size (Then request place rest) other = (others : Stream) × (other ≡ Then request place others) × IsFrontAt size rest others
IsFrontAt size Ended other = EndsPast size other
IsFrontAt size (Inside place) other = EndsPast size other
IsFrontAt size (Broken kind place) other = other ≡ Broken kind place

past-offsets : (size place : ℕ) (stream : Stream) → size ≤ place → AreOffsets place stream → EndsPast size stream
past-offsets size place (Then request after rest) same h = omega (arith, h.0, same)
past-offsets size place Ended same h = tt
past-offsets size place (Inside begin) same h = tt
past-offsets size place (Broken kind at) same h = tt

front-end : (mode : Mode) (begin size : ℕ) (other : Stream) → EndsPast size other → IsFrontAt size (at_end mode begin) other
front-end Start begin size other h = h
front-end (Mode.Text line) begin size other h = h
front-end (Mode.Count line) begin size other h = h
front-end (Mode.CountFeed n) begin size other h = h
front-end (Mode.Mark so_far) begin size other h = h
front-end (Mode.Length so_far line) begin size other h = h
front-end (Mode.LengthFeed so_far n) begin size other h = h
front-end (Mode.Body so_far n bytes) begin size other h = h
front-end (Mode.WordReturn so_far bytes) begin size other h = h
front-end (Mode.WordFeed so_far bytes) begin size other h = h

front-then : (request : Request) (place size : ℕ) (stream other : Stream) → IsFrontAt size stream other
    → IsFrontAt size (then_request request place stream) (then_request request place other)
front-then [] place size stream other h = h
front-then (word ∷ words) place size stream other h = (other, refl, h)

front-move : (m : Move) (place begin size : ℕ) (on other : ℕ → Mode → Stream) → ((from : ℕ) (next : Mode) → IsFrontAt size (on from next) (other from next))
    → IsFrontAt size (after_move m place begin on) (after_move m place begin other)
front-move (Goto next) place begin size on other h = h begin next
front-move (Whole request) place begin size on other h =
    front-then request (place + 1) size (on (place + 1) Start) (other (place + 1) Start) (h (place + 1) Start)
front-move (Fault kind) place begin size on other h = refl

-- some bytes, and the same with more
pub front-at : (limits : WireLimits) (place begin size : ℕ) (mode : Mode) (bytes more : List ℕ) → place + length bytes ≡ size
    → IsFrontAt size (read_on limits place begin mode bytes) (read_on limits place begin mode (bytes ++ more))
unfolding read_on
front-at limits place begin size mode [] more same =
    front-end mode begin size (read_on limits place begin mode more)
    (past-offsets size place (read_on limits place begin mode more) (omega (arith, same)) (offsets limits place begin mode more))
front-at limits place begin size mode (byte ∷ bytes) more same =
    front-move (move limits mode byte) place begin size (λ from next. read_on limits (place + 1) from next bytes)
    (λ from next. read_on limits (place + 1) from next (bytes ++ more))
    (λ from next. front-at limits (place + 1) from size next bytes more (omega (arith, same)))
