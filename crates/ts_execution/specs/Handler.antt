-- Kinds of request handlers: what a session knows about the handler it uses.
use Rattle.std.specs.Prelude.{◌≡◌, ◌⊎◌, ℕ, ◌≤◌, List, take, Result, Ok, Err}
use Rattle.ts_io.specs.Causes.{Rose}
use Rattle.ts_io.specs.Sinks.{Grows}
use Rattle.ts_spec.specs.Wire.{Request}

-- A kind of handler: its worlds; the replies of a request and the world after it; the same if a failure cut the reply
-- after `kept` bytes; its own fault counters, and how they rise.
pub record Handler : Type 1 where
  pub World : Type 0
  pub handles : World → Request → (reply : List ℕ) → World → Type 0
  pub cut : World → Request → (reply : List ℕ) → (kept : ℕ) → World → Type 0
  pub Faults : Type 0
  pub rose : Faults → Faults → Type 0

module _ (handler : Handler) where
  -- a fact about the last request, of whose reply `kept` bytes were written
  abbrev pub LastRequest : Type 1
  LastRequest = handler.World → Request → (reply : List ℕ) → (kept : ℕ) → handler.World → Type 0

  -- the last request was handled like any other
  abbrev pub was_handled : LastRequest
  was_handled from request reply kept to = handler.handles from request reply to

  -- the request was handled, and a failure cut its reply after `kept` bytes
  pub record CutShort (request : Request) (reply : List ℕ) (from to : handler.World) (had has : List ℕ → Type 0) : Type 0 where
    pub kept : ℕ
    pub cut : handler.cut from request reply kept to
    pub grown : Grows had has (take kept reply)

  -- the request was handled, and its reply was written or cut short
  abbrev pub Answered : {T E : Type 0} → Result T E → Request → (reply : List ℕ) → (from to : handler.World) → (had has : List ℕ → Type 0) → Type 0
  Answered (Ok answer) request reply from to had has = handler.handles from request reply to × Grows had has reply
  Answered (Err failed) request reply from to had has = CutShort request reply from to had has

  -- no fault counter rose
  abbrev pub NoFault : (before now : ℕ) → (own own' : handler.Faults) → Type 0
  NoFault before now own own' = (now ≡ before) × (own' ≡ own)

  -- a fault counter rose: the output's, or one of the handler
  abbrev pub AFault : (before now : ℕ) → (own own' : handler.Faults) → Type 0
  AFault before now own own' = ((before ≤ now) × Rose before now × (own' ≡ own)) ⊎ ((now ≡ before) × handler.rose own own')

  -- an error if and only if a fault counter rose
  abbrev pub HasHandlerCause : {T E : Type 0} → Result T E → (before now : ℕ) → (own own' : handler.Faults) → Type 0
  HasHandlerCause (Ok answer) before now own own' = NoFault before now own own'
  HasHandlerCause (Err failed) before now own own' = AFault before now own own'
