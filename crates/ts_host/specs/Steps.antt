-- The steps of a hub as frames of its connections.
use Rattle.std.specs.Prelude.{◌≡◌, ℕ, suc, ◌+◌, List, [], ◌∷◌, ◌++◌, length, Option}
use Rattle.std.specs.Io.KnownBytes.{append_known}
use Rattle.std.specs.Option.{option_map}
use Rattle.ts_spec.specs.declared.wire.WireLimits.{WireLimits}
use Rattle.ts_io.specs.Pieces.{Piece}
use Rattle.ts_io.specs.declared.hub.Step.{Step}
use Rattle.ts_io.specs.declared.hub.Step.TheVariants.{Comes, Pauses}
use Rattle.ts_mux.specs.declared.frame.Frame.{Frame}
use Rattle.ts_mux.specs.Order.{Item, order_by}
use Rattle.ts_host.specs.Http.{closes}

-- what a hub received, as frames; a pause is none
abbrev pub frames_of : List Step → List Frame
frames_of [] = []
frames_of (Comes piece ∷ steps) = record { link = piece.link; bytes = piece.bytes } ∷ frames_of steps
frames_of (Pauses ∷ steps) = frames_of steps

-- the requests and protocol errors of these steps, in the order in which they become whole
abbrev pub items_of_steps : WireLimits → List Step → List Item
items_of_steps limits steps = order_by closes limits (frames_of steps)

-- what counts toward the budget: one for each step, and its bytes
abbrev pub weight_of_step : Step → ℕ
weight_of_step (Comes piece) = suc (length piece.bytes)
weight_of_step Pauses = 1

abbrev pub weight : List Step → ℕ
weight [] = 0
weight (step ∷ steps) = weight_of_step step + weight steps

-- these steps were taken from those to come, if they are known
abbrev pub Takes : (old new : Option (List Step)) → List Step → Type 0
Takes old new steps = old ≡ option_map (λ rest. steps ++ rest) new

-- replies as pieces of a hub
abbrev pub piece_of : Frame → Piece
piece_of frame = record { link = frame.link; bytes = frame.bytes }

-- the second content begins with the first
abbrev pub Extends : (old new : Option (List ℕ)) → Type 0
Extends old new = (rest : List ℕ) × (new ≡ append_known old rest)
