-- Prefixes of streams, and the size of the requests in a stream.
use Rattle.std.specs.Prelude.{◌≡◌, ◌≤◌, ◌⊎◌, ℕ, List, length}
use Rattle.ts_spec.specs.declared.wire.WireLimits.{WireLimits}
use Rattle.ts_spec.specs.Encoded.{Fits}
use Rattle.ts_spec.specs.Wire.{Request, Stream, Then, Ended, Inside, Broken, words_of_line}

-- The first stream is a prefix of the second: the second begins with its requests, and has the same protocol error if
-- it has one.
abbrev pub IsStreamPrefix : Stream → Stream → Type 0
IsStreamPrefix (Then request place rest) other = (others : Stream) × (other ≡ Then request place others) × IsStreamPrefix rest others
IsStreamPrefix Ended other = Unit {0}
IsStreamPrefix (Inside place) other = Unit {0}
IsStreamPrefix (Broken kind place) other = other ≡ Broken kind place

-- the first stream continued by the second, if it ends between two requests
abbrev pub continued_by : Stream → Stream → Stream
continued_by (Then request place rest) other = Then request place (continued_by rest other)
continued_by Ended other = other
continued_by (Inside place) other = Inside place
continued_by (Broken kind place) other = Broken kind place

-- the request is an inline command within the limit on a line
pub record IsShortLine (limits : WireLimits) (request : Request) : Type 0 where
  pub line : List ℕ
  pub words : request ≡ words_of_line line
  pub bytes : length line ≤ limits.line_bytes

-- the request is within the limits for an array or for an inline command
abbrev pub IsWithin : WireLimits → Request → Type 0
IsWithin limits request = Fits limits request ⊎ IsShortLine limits request
