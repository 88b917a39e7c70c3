-- Facts about the result of `Mux::next`.
use Rattle.std.specs.Prelude.{◌≡◌, ℕ, List, [], ◌∷◌}
use Rattle.ts_spec.specs.Wire.{Request as Words, Then, Broken}
use Rattle.ts_resp.specs.Reading.{Reading, stream_of}
use Rattle.ts_mux.specs.declared.frame.Frame.{Frame}
use Rattle.ts_mux.specs.declared.current_connection.Turn.{Turn}
use Rattle.ts_mux.specs.declared.current_connection.Turn.TheVariants.{Request, Fault, NotYet, Memory}
use Rattle.ts_mux.specs.Order.{Item, Asked, Failed, events_of, without}

-- a fact about the item, if there is one
abbrev pub IfItem : Turn → (Item → Type 0) → Type 0
IfItem (Request link words) P = P (record { link = link; event = Asked words.items })
IfItem (Fault link protocol) P = P (record { link = link; event = Failed protocol })
IfItem NotYet P = Unit {0}
IfItem Memory P = Unit {0}

-- a fact about the request, if there is one
abbrev pub IfRequest : Turn → (Words → Type 0) → Type 0
IfRequest (Request link words) P = P words.items
IfRequest (Fault link protocol) P = Unit {0}
IfRequest NotYet P = Unit {0}
IfRequest Memory P = Unit {0}

-- a fact about the connection that an error closes, if there is one
abbrev pub IfFault : Turn → (ℕ → Type 0) → Type 0
IfFault (Request link words) P = Unit {0}
IfFault (Fault link protocol) P = P link
IfFault NotYet P = Unit {0}
IfFault Memory P = Unit {0}

-- a fact about the connection of the item, if there is one
abbrev pub IfLink : Turn → (ℕ → Type 0) → Type 0
IfLink (Request link words) P = P link
IfLink (Fault link protocol) P = P link
IfLink NotYet P = Unit {0}
IfLink Memory P = Unit {0}

-- a fact, if there is no item
abbrev pub UnlessItem : Turn → Type 0 → Type 0
UnlessItem (Request link words) P = Unit {0}
UnlessItem (Fault link protocol) P = Unit {0}
UnlessItem NotYet P = P
UnlessItem Memory P = P

-- a fact, if no request and no error is left
abbrev pub OnNotYet : Turn → Type 0 → Type 0
OnNotYet (Request link words) P = Unit {0}
OnNotYet (Fault link protocol) P = Unit {0}
OnNotYet NotYet P = P
OnNotYet Memory P = Unit {0}

-- the result describes the next event of a connection's reader
abbrev pub IsNextOfReader : Turn → ℕ → (old new : Reading) → Type 0
IsNextOfReader (Request link words) at old new =
    (link ≡ at) × ((place : ℕ) × ((more : List ℕ) → stream_of old more ≡ Then words.items place (stream_of new more)))
IsNextOfReader (Fault link protocol) at old new =
    (link ≡ at) × ((more : List ℕ) → stream_of new more ≡ Broken protocol.kind protocol.place) × ((more : List ℕ) → stream_of new more ≡ stream_of old more)
IsNextOfReader NotYet at old new = ((more : List ℕ) → stream_of new more ≡ stream_of old more) × (events_of (stream_of new []) ≡ [])
IsNextOfReader Memory at old new = (more : List ℕ) → stream_of new more ≡ stream_of old more

-- the result describes the next item of a `Mux`; an error has not closed its connection yet
abbrev pub IsNextTurn : Turn → (old new : List Frame → List Item) → Type 0
IsNextTurn (Request link words) old new = (frames : List Frame) → old frames ≡ record { link = link; event = Asked words.items } ∷ new frames
IsNextTurn (Fault link protocol) old new = (frames : List Frame) → old frames ≡ record { link = link; event = Failed protocol } ∷ without link (new frames)
IsNextTurn NotYet old new = ((frames : List Frame) → new frames ≡ old frames) × (new [] ≡ [])
IsNextTurn Memory old new = (frames : List Frame) → new frames ≡ old frames
