-- The connections of a listener that knows them: those to come and the closed ones, each in order.
use Rattle.std.specs.Prelude.{◌≡◌, List, [], ◌∷◌, ◌++◌, Bool, Option}
use Rattle.std.specs.Option.{option_map}
use Rattle.ts_io.specs.Calls.{Calls}
use Rattle.ts_io.specs.Sinks.{MemSinkState}
use Rattle.ts_io.specs.Sources.{MemSourceState}
use Rattle.ts_io.specs.declared.listener.Ends.{Ends}

-- the connections to come began with this one, which is now removed
abbrev pub PopsFront : {L : Type 0} → Option (List L) → Option (List L) → L → Type 0
PopsFront old new link = old ≡ option_map (λ links. link ∷ links) new

-- this connection was appended to the closed ones
abbrev pub PushesBack : {L : Type 0} → Option (List L) → Option (List L) → L → Type 0
PushesBack old new link = new ≡ option_map (λ links. links ++ link ∷ []) old

-- the state of a listener in memory: connections to come, closed ones, whether one is open, and its calls
pub record MemListenerState : Type 0 where
  pub coming : List (Ends MemSourceState MemSinkState)
  pub closed : List (Ends MemSourceState MemSinkState)
  pub has_open_link : Bool
  pub calls : Calls
