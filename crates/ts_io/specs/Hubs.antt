-- What a hub of many links receives, and what it sends.
use Rattle.std.specs.Prelude.{◌≡◌, ℕ, List, [], ◌∷◌, ◌++◌, Option, Result, MatchResult}
use Rattle.std.specs.Option.{option_map}
use Rattle.ts_io.specs.Calls.{Calls}
use Rattle.ts_io.specs.Pieces.{Piece}
use Rattle.ts_io.specs.declared.hub.Next.{Next}
use Rattle.ts_io.specs.declared.hub.Next.TheVariants as next
use Rattle.ts_io.specs.declared.hub.Step.{Step}
use Rattle.ts_io.specs.declared.hub.Step.TheVariants.{Comes, Pauses}

-- the steps to come, if they are known, began with this one, which is now removed
abbrev pub Loses : (old new : Option (List Step)) → Step → Type 0
Loses old new step = old ≡ option_map (λ steps. step ∷ steps) new

-- the step that the answer tells of is removed; its bytes are those at hand
abbrev pub Brings : Next → (old new : Option (List Step)) → (hand : List ℕ) → Type 0
Brings (next.Bytes link) old new hand = Loses old new (Comes (record { link = link; bytes = hand }))
Brings (next.Closed link way) old new hand = Loses old new (Comes (record { link = link; bytes = [] }))
Brings next.Pause old new hand = Loses old new Pauses
Brings next.End old new hand = (new ≡ old) × (old ≡ option_map (λ steps. []) old)

-- the same for a call that may fail: an error removes no step
abbrev pub NextBrings : {E : Type 0} → Result Next E → (old new : Option (List Step)) → (hand : List ℕ) → Type 0
NextBrings r old new hand = MatchResult r (λ answer. Brings answer old new hand) (λ _. new ≡ old)

-- whether these pieces were let out, in order, and those were given since then
abbrev pub Outgoing : Type 1
Outgoing = (sent given : List Piece) → Type 0

-- nothing was let out or given
pub record Same (old new : Outgoing) : Type 0 where
  pub each : (sent given : List Piece) → old sent given → new sent given

-- this piece was given
pub record Gains (old new : Outgoing) (piece : Piece) : Type 0 where
  pub each : (sent given : List Piece) → old sent given → new sent (given ++ piece ∷ [])

-- everything given was let out
pub record LetsOut (old new : Outgoing) : Type 0 where
  pub each : (sent given : List Piece) → old sent given → new (sent ++ given) []

-- a call gives this piece at `Ok`, and nothing at `Err`
abbrev pub Gives : {T E : Type 0} → Result T E → (old new : Outgoing) → Piece → Type 0
Gives r old new piece = MatchResult r (λ _. Gains old new piece) (λ _. Same old new)

-- the state of a hub in memory: the steps to come, the bytes at hand, the pieces let out, those given since, and the
-- calls
pub record MemHubState : Type 0 where
  pub coming : List Step
  pub hand : List ℕ
  pub sent : List Piece
  pub given : List Piece
  pub calls : Calls
