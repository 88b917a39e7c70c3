-- Runs: requests are handled in order, and the output is the concatenation of their replies.
use Rattle.std.specs.Prelude.{◌≡◌, ℕ, Bool, true, false, ◌||◌, if◌then◌else◌, List, [], ◌∷◌, ◌++◌, map, Result, Ok}
use Rattle.ts_spec.specs.Wire.{Request, Stream}
use Rattle.ts_spec.specs.Wire.Stream.{Then}
use Rattle.ts_spec.specs.Command.{Command, Quit}
use Rattle.ts_spec.specs.Refusal.{Fault}
use Rattle.ts_spec.specs.Grammar.{command}

-- `handles` relates the world before a request, the request, its reply, and the world after it.
module _ {World : Type 0} (handles : World → Request → List ℕ → World → Type 0) where
  -- the first request is handled, and the rest of the output comes from the requests after it
  pub record HandledThen (from : World) (request : Request) (later : World → List ℕ → Type 0) (text : List ℕ) : Type 0 where
    pub first : List ℕ
    pub rest : List ℕ
    pub mid : World
    pub split : text ≡ first ++ rest
    pub here : handles from request first mid
    pub after : later mid rest

  -- all requests are handled in order, and together they write the text
  abbrev pub Runs : World → List Request → List ℕ → World → Type 0
  Runs from [] text to = (text ≡ []) × (to ≡ from)
  Runs from (request ∷ requests) text to = HandledThen from request (λ mid rest. Runs mid requests rest to) text

-- a request of a stream, and the byte offset after it
pub record LocatedRequest : Type 0 where
  pub request : Request
  pub after : ℕ

-- a stream that begins with these requests
abbrev pub then_all : List LocatedRequest → Stream → Stream
then_all [] rest = rest
then_all (placed ∷ more) rest = Then placed.request placed.after (then_all more rest)

-- the requests without their offsets
abbrev pub requests_in : List LocatedRequest → List Request
requests_in done = map (λ p. p.request) done

-- ---- QUIT

-- whether a parsed command is QUIT
abbrev pub says_quit : Result Command Fault → Bool
says_quit (Ok Quit) = true
says_quit other = false

-- whether a request is QUIT
abbrev pub is_quit : Request → Bool
is_quit request = says_quit (command request)

-- whether one of the requests is QUIT
abbrev pub has_quit : List Request → Bool
has_quit [] = false
has_quit (request ∷ requests) = is_quit request || has_quit requests

-- the requests up to the first QUIT, included: those that are handled
abbrev pub until_quit : List Request → List Request
until_quit [] = []
until_quit (request ∷ requests) = request ∷ (if is_quit request then [] else until_quit requests)
