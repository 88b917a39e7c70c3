-- Requests as a client encodes them in RESP2.
use Rattle.std.specs.Prelude.{◌≢◌, ◌≤◌, ℕ, List, [], ◌∷◌, ◌++◌, length, sum_by, All}
use Rattle.std.specs.Fmt.{decimal}
use Rattle.ts_spec.specs.declared.wire.WireLimits.{WireLimits}
use Rattle.ts_spec.specs.Text.{CRLF}
use Rattle.ts_spec.specs.Wire.{Request, STAR, DOLLAR}

-- a bulk string: `$`, its length, CRLF, its bytes, CRLF
abbrev pub encoded_word : List ℕ → List ℕ
encoded_word word = DOLLAR ∷ decimal (length word) ++ CRLF ++ word ++ CRLF

-- bulk strings, one after another
abbrev pub encoded_words : Request → List ℕ
encoded_words [] = []
encoded_words (word ∷ words) = encoded_word word ++ encoded_words words

-- an array of bulk strings: `*`, their count, CRLF, and the strings
abbrev pub encoded_request : Request → List ℕ
encoded_request words = STAR ∷ decimal (length words) ++ CRLF ++ encoded_words words

-- requests, one after another
abbrev pub encoded : List Request → List ℕ
encoded [] = []
encoded (request ∷ requests) = encoded_request request ++ encoded requests

-- a non-empty request within the limits on its word count and on its bytes
pub record Fits (limits : WireLimits) (request : Request) : Type 0 where
  pub some : request ≢ []
  pub words : length request ≤ limits.words
  pub each : All (λ word. length word ≤ limits.word_bytes) request
  pub together : sum_by length request ≤ limits.request_bytes
