-- Worked examples: inline commands.
use Rattle.std.specs.Prelude.{◌≡◌, ℕ, refl, List, [], ◌∷◌, codes}
use Rattle.ts_spec.specs.declared.wire.Kind.TheVariants.{TooLarge}
use Rattle.ts_spec.specs.declared.wire.WireLimits.{WireLimits}
use Rattle.ts_spec.specs.Wire.{Stream, Then, Ended, Inside, Broken, read_on, stream_at}

-- small limits, but for the lines
abbrev pub limits : ℕ → WireLimits
limits line_bytes = record { words = 1; word_bytes = 1; request_bytes = 1; line_bytes = line_bytes }

abbrev pub stream : ℕ → List ℕ → Stream
stream line_bytes bytes = stream_at (limits line_bytes) 0 bytes

-- blanks before the first word, and a line without words
pub two_lines : stream 14 (codes "  TS.ADD a 5 1\n\r\nTS.GET a\r\n")
    ≡ Then (codes "TS.ADD" ∷ codes "a" ∷ codes "5" ∷ codes "1" ∷ []) 15 (Then (codes "TS.GET" ∷ codes "a" ∷ []) 27 Ended)
unfolding read_on
two_lines = refl

-- as long as the limit, and one byte longer
pub as_long : stream 4 (codes "PING\n") ≡ Then (codes "PING" ∷ []) 5 Ended
unfolding read_on
as_long = refl

pub too_long : stream 4 (codes "PING\r\n") ≡ Broken TooLarge 4
unfolding read_on
too_long = refl

-- the end of a stream ends no line
pub unfinished : stream 4 (codes "PING") ≡ Inside 0
unfolding read_on
unfinished = refl

-- one return goes, a tab parts words, and a quote is a byte as any other
pub odd_bytes : stream 10 (codes "a\t\"b c\" \r\r\n") ≡ Then (codes "a" ∷ codes "\"b" ∷ codes "c\"" ∷ codes "\r" ∷ []) 11 Ended
unfolding read_on
odd_bytes = refl

-- arrays and lines, one after another
pub mixed : stream 4 (codes "*1\r\n$1\r\na\r\nb *1\n*0\r\n\t\n*1\r\n")
    ≡ Then (codes "a" ∷ []) 11 (Then (codes "b" ∷ codes "*1" ∷ []) 16 (Inside 22))
unfolding read_on
mixed = refl
