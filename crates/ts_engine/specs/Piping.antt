-- What `pipe` does to an input, an output and a database; and the same with any kind of request handler.
use Rattle.std.specs.Prelude.{◌≡◌, ◌≢◌, ◌⊎◌, Bool, true, false, ℕ, ◌+◌, ◌<◌, ◌≤◌, List, [], length, Option, None, Some, IfSome}
use Rattle.std.specs.Io.KnownBytes.{Consumes, IsAtEnd}
use Rattle.std.proofs.Common.{inl, inr}
use Rattle.ts_io.specs.Causes.{Rose}
use Rattle.ts_resp.specs.Reading.{stream_of}
use Rattle.ts_spec.specs.Wire.{Ended, Inside}
use Rattle.ts_spec.specs.declared.wire.WireLimits.{WireLimits}
use Rattle.ts_execution.specs.Handling.{World, plain}
use Rattle.ts_execution.specs.Handler.{Handler, NoFault, AFault}
use Rattle.ts_engine.specs.declared.piped.End.{End}
use Rattle.ts_engine.specs.declared.piped.End.TheVariants as end
use Rattle.ts_engine.specs.declared.piped.Outcome.{Outcome}
use Rattle.ts_engine.specs.declared.piped.Step.{Step}
use Rattle.ts_engine.specs.declared.replying.Go.TheVariants as go
use Rattle.ts_engine.specs.Session.{Progress, HandledAll, LastReply, QuitReplied, CutFault, HandledAs}

-- the start of a session: nothing read, nothing executed
abbrev pub beginning_of : (handler : Handler) → WireLimits → handler.World → Progress handler
beginning_of handler limits world = record {
  reader = record { limits = limits; begin = 0; place = 0; so_far = None; unread = [] };
  executed = 0;
  world = world;
}

-- the same with the plain handler
abbrev pub beginning : WireLimits → World → Progress plain
beginning limits world = beginning_of plain limits world

module _ {handler : Handler} where
  -- the input was read to its end, which is between requests
  pub record ReadAll (left : Option (List ℕ)) (old new : Progress handler) (had has : List ℕ → Type 0) (bytes : List ℕ) : Type 0 where
    pub went : HandledAll old new had has bytes []
    pub ended : stream_of new.reader [] ≡ Ended
    pub at_end : IsAtEnd left

  -- how the requests in these bytes were handled, by the end; `left` is what the input has left
  abbrev pub Ends : End → Option (List ℕ) → Progress handler → Progress handler → (List ℕ → Type 0) → (List ℕ → Type 0) → List ℕ → Type 0
  Ends end.Ended left old new had has bytes = ReadAll left old new had has bytes ⊎ QuitReplied old new had has bytes
  Ends (end.Truncated place) left old new had has bytes = HandledAll old new had has bytes [] × (stream_of new.reader [] ≡ Inside place) × IsAtEnd left
  Ends (end.Protocol fault) left old new had has bytes = HandledAs (go.Broken fault) old new had has bytes
  Ends end.ReadFault left old new had has bytes = HandledAs go.More old new had has bytes
  Ends end.WriteFault left old new had has bytes = HandledAs go.WriteFault old new had has bytes
  Ends end.Memory left old new had has bytes = HandledAs go.Memory old new had has bytes
  Ends end.Budget left old new had has bytes = HandledAs go.More old new had has bytes

  -- the input continues, or ended like this
  abbrev pub EndsOr : Option End → Option (List ℕ) → Progress handler → Progress handler → (List ℕ → Type 0) → (List ℕ → Type 0) → List ℕ → Type 0
  EndsOr None left old new had has bytes = HandledAs go.More old new had has bytes
  EndsOr (Some e) left old new had has bytes = Ends e left old new had has bytes

  -- whether the input's end was read, rather than a QUIT
  abbrev pub was_read : (left : Option (List ℕ)) (old new : Progress handler) (had has : List ℕ → Type 0) (bytes : List ℕ) → ReadAll left old new had has bytes ⊎ QuitReplied old new had has bytes → Bool
  was_read left old new had has bytes (inl all) = true
  was_read left old new had has bytes (inr quitted) = false

  -- whether this end is the end of the input
  abbrev pub is_of_input : (e : End) (left : Option (List ℕ)) (old new : Progress handler) (had has : List ℕ → Type 0) (bytes : List ℕ) → Ends e left old new had has bytes → Bool
  is_of_input end.Ended left old new had has bytes ends = was_read left old new had has bytes ends
  is_of_input (end.Truncated place) left old new had has bytes ends = true
  is_of_input (end.Protocol fault) left old new had has bytes ends = false
  is_of_input end.ReadFault left old new had has bytes ends = false
  is_of_input end.WriteFault left old new had has bytes ends = false
  is_of_input end.Memory left old new had has bytes ends = false
  is_of_input end.Budget left old new had has bytes ends = false

  -- whether the input has ended
  abbrev pub has_ended : (e : Option End) (left : Option (List ℕ)) (old new : Progress handler) (had has : List ℕ → Type 0) (bytes : List ℕ) → EndsOr e left old new had has bytes → Bool
  has_ended None left old new had has bytes ends = false
  has_ended (Some e) left old new had has bytes ends = is_of_input e left old new had has bytes ends

  -- one read took these bytes (none at the end of the input), and the requests that they complete were handled
  pub record Pumped (step : Step) (left rest : Option (List ℕ)) (old new : Progress handler) (had has : List ℕ → Type 0) : Type 0 where
    pub bytes : List ℕ
    pub count : length bytes ≡ step.taken
    pub took : Consumes left rest bytes
    pub ends : EndsOr step.end rest old new had has bytes
    pub none : has_ended step.end rest old new had has bytes ends ≡ true → step.taken ≡ 0

  -- the offset after the request whose reply was cut, or of the protocol error whose text was
  abbrev pub cut_at : (old new : Progress handler) (had has : List ℕ → Type 0) (bytes : List ℕ) → LastReply handler.cut old new had has bytes ⊎ CutFault old new had has bytes → ℕ
  cut_at old new had has bytes (inl cut) = cut.last.after
  cut_at old new had has bytes (inr cut) = cut.fault.place

  -- the offset after QUIT, if there is one
  abbrev pub quit_at : (left : Option (List ℕ)) (old new : Progress handler) (had has : List ℕ → Type 0) (bytes : List ℕ) → ReadAll left old new had has bytes ⊎ QuitReplied old new had has bytes → Option ℕ
  quit_at left old new had has bytes (inl all) = None
  quit_at left old new had has bytes (inr quitted) = Some quitted.reply.last.after

  -- the offset at which the input shows this end, if it does
  abbrev pub shown_at : (e : End) (left : Option (List ℕ)) (old new : Progress handler) (had has : List ℕ → Type 0) (bytes : List ℕ) → Ends e left old new had has bytes → Option ℕ
  shown_at end.Ended left old new had has bytes ends = quit_at left old new had has bytes ends
  shown_at (end.Truncated place) left old new had has bytes ends = None
  shown_at (end.Protocol fault) left old new had has bytes ends = Some fault.place
  shown_at end.ReadFault left old new had has bytes ends = None
  shown_at end.WriteFault left old new had has bytes ends = Some (cut_at old new had has bytes ends)
  shown_at end.Memory left old new had has bytes ends = None
  shown_at end.Budget left old new had has bytes ends = None

-- the most bytes that one read asks for
abbrev pub PIECE : ℕ
PIECE = 4096

-- These bytes were read: at most the budget, and fewer if the end of the input was read. Their requests were handled.
-- At most one piece was read past an end that the input shows.
pub record PipedWith (handler : Handler) (limits : WireLimits) (budget : ℕ) (outcome : Outcome) (from to : handler.World) (left rest : Option (List ℕ)) (had has : List ℕ → Type 0) : Type 0 where
  pub bytes : List ℕ
  pub last : Progress handler
  pub count : length bytes ≡ outcome.taken
  pub within : outcome.taken ≤ budget
  pub spent : outcome.end ≡ end.Budget → outcome.taken ≡ budget
  pub took : Consumes left rest bytes
  pub world : last.world ≡ to
  pub executed : last.executed ≡ outcome.executed
  pub ends : Ends outcome.end rest (beginning_of handler limits from) last had has bytes
  pub read_bound : IfSome (shown_at outcome.end rest (beginning_of handler limits from) last had has bytes ends) (λ place. outcome.taken ≤ place + PIECE)
  pub below : is_of_input outcome.end rest (beginning_of handler limits from) last had has bytes ends ≡ true → outcome.taken < budget

-- the same with the plain handler
abbrev pub Piped : WireLimits → (budget : ℕ) → Outcome → (from to : World) → (left rest : Option (List ℕ)) → (had has : List ℕ → Type 0) → Type 0
Piped limits budget outcome from to left rest had has = PipedWith plain limits budget outcome from to left rest had has

-- fault counters never fall; an end is a fault if and only if its counter rose
pub record HasCauses (e : End) (reads reads' writes writes' : ℕ) : Type 0 where
  pub reads_later : reads ≤ reads'
  pub writes_later : writes ≤ writes'
  pub read : e ≡ end.ReadFault → Rose reads reads'
  pub write : e ≡ end.WriteFault → Rose writes writes'
  pub unread : e ≢ end.ReadFault → reads' ≡ reads
  pub unwritten : e ≢ end.WriteFault → writes' ≡ writes

-- the same with a handler that has its own fault counters
module _ (handler : Handler) where
  pub record HasCausesWith (e : End) (reads reads' writes writes' : ℕ) (own own' : handler.Faults) : Type 0 where
    pub reads_later : reads ≤ reads'
    pub read : e ≡ end.ReadFault → Rose reads reads'
    pub write : e ≡ end.WriteFault → AFault handler writes writes' own own'
    pub unread : e ≢ end.ReadFault → reads' ≡ reads
    pub unwritten : e ≢ end.WriteFault → NoFault handler writes writes' own own'

  abbrev pub HasCausesWithOr : Option End → (reads reads' writes writes' : ℕ) → (own own' : handler.Faults) → Type 0
  HasCausesWithOr None reads reads' writes writes' own own' = (reads' ≡ reads) × NoFault handler writes writes' own own'
  HasCausesWithOr (Some e) reads reads' writes writes' own own' = HasCausesWith e reads reads' writes writes' own own'
