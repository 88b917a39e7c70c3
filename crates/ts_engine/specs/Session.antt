-- What a session does with a piece of its stream, with any kind of request handler.
use Rattle.ts_io.specs.Causes.{Rose}
use Rattle.std.specs.Prelude.{◌≡◌, ◌⊎◌, ⊤, true, false, ℕ, ◌+◌, ◌≤◌, ◌<◌, List, [], ◌∷◌, ◌++◌, length, take, Option, None, Some}
use Rattle.ts_io.specs.Sinks.{Grows, GrowsByPrefix}
use Rattle.ts_resp.specs.Reading.{Reading, stream_of, unfinished, ended_at}
use Rattle.ts_resp.specs.declared.protocol.Protocol.{Protocol}
use Rattle.ts_spec.specs.Run.{LocatedRequest, Runs, then_all, requests_in, is_quit, has_quit}
use Rattle.ts_spec.specs.Text.{protocol_error_text}
use Rattle.ts_spec.specs.Wire.{Request, Stream, Broken}
use Rattle.ts_execution.specs.Handler.{Handler, LastRequest, was_handled, CutShort, NoFault, AFault}
use Rattle.ts_engine.specs.declared.replying.Go.{Go}
use Rattle.ts_engine.specs.declared.replying.Go.TheVariants as go

-- the state of a session: its reader, the number of requests executed, and the world
pub record Progress (handler : Handler) : Type 0 where
  pub reader : Reading
  pub executed : ℕ
  pub world : handler.World

-- the session continues if the request is not QUIT, and ends otherwise
abbrev pub IsEndBy : Option Go → Request → Type 0
IsEndBy None request = is_quit request ≡ false
IsEndBy (Some go.Quit) request = is_quit request ≡ true
IsEndBy (Some other) request = ⊤

-- the request was handled, and its reply written, or cut short if the result says so
abbrev pub HandledBy : (handler : Handler) → Option Go → Request → (reply : List ℕ) → (from to : handler.World) → (List ℕ → Type 0) → (List ℕ → Type 0) → Type 0
HandledBy handler None request reply from to had has = handler.handles from request reply to × Grows had has reply
HandledBy handler (Some go.Quit) request reply from to had has = handler.handles from request reply to × Grows had has reply
HandledBy handler (Some go.WriteFault) request reply from to had has = CutShort handler request reply from to had has
HandledBy handler (Some other) request reply from to had has = ⊥

module _ {handler : Handler} where
  -- These bytes completed these requests, and all were handled; none is QUIT. The output grew by their replies and then
  -- the tail.
  pub record HandledAll (old new : Progress handler) (had has : List ℕ → Type 0) (bytes tail : List ℕ) : Type 0 where
    pub done : List LocatedRequest
    pub text : List ℕ
    pub stream : (more : List ℕ) → stream_of old.reader (bytes ++ more) ≡ then_all done (stream_of new.reader more)
    pub run : Runs handler.handles old.world (requests_in done) text new.world
    pub goes_on : has_quit (requests_in done) ≡ false
    pub grown : Grows had has (text ++ tail)
    pub executed : new.executed ≡ old.executed + length done

  -- Some requests were handled, then a last one, of whose reply the first `kept` bytes were written. `said` holds of
  -- the last one.
  pub record LastReply (said : LastRequest handler) (old new : Progress handler) (had has : List ℕ → Type 0) (bytes : List ℕ) : Type 0 where
    pub done : List LocatedRequest
    pub text : List ℕ
    pub mid : handler.World
    pub last : LocatedRequest
    pub reply : List ℕ
    pub kept : ℕ
    pub stream : (more : List ℕ) → stream_of old.reader (bytes ++ more) ≡ then_all (done ++ last ∷ []) (stream_of new.reader more)
    pub run : Runs handler.handles old.world (requests_in done) text mid
    pub goes_on : has_quit (requests_in done) ≡ false
    pub turned : said mid last.request reply kept new.world
    pub grown : Grows had has (text ++ take kept reply)
    pub executed : new.executed ≡ old.executed + (length done + 1)

  -- the last request is QUIT, and its whole reply was written
  pub record QuitReplied (old new : Progress handler) (had has : List ℕ → Type 0) (bytes : List ℕ) : Type 0 where
    pub reply : LastReply (was_handled handler) old new had has bytes
    pub whole : take reply.kept reply.reply ≡ reply.reply
    pub asked : is_quit reply.last.request ≡ true

  -- the first requests of these bytes were handled; the rest was dropped
  pub record HandledSome (old new : Progress handler) (had has : List ℕ → Type 0) (bytes : List ℕ) : Type 0 where
    pub done : List LocatedRequest
    pub text : List ℕ
    pub stream : (more : List ℕ) → (rest : Stream) × (stream_of old.reader (bytes ++ more) ≡ then_all done rest)
    pub run : Runs handler.handles old.world (requests_in done) text new.world
    pub goes_on : has_quit (requests_in done) ≡ false
    pub grown : Grows had has text
    pub executed : new.executed ≡ old.executed + length done

  -- the stream is broken here, whatever follows
  abbrev pub IsBroken : Protocol → Progress handler → Type 0
  IsBroken fault progress_over = (more : List ℕ) → stream_of progress_over.reader more ≡ Broken fault.kind fault.place

  -- the stream is broken, and only a prefix of the protocol error was written
  pub record CutFault (old new : Progress handler) (had has : List ℕ → Type 0) (bytes : List ℕ) : Type 0 where
    pub fault : Protocol
    pub kept : ℕ
    pub went : HandledAll old new had has bytes (take kept (protocol_error_text fault.kind))
    pub broken : IsBroken fault new

  -- every complete request was handled, and the rest is no complete request
  pub record IsUpToDate (progress_over : Progress handler) : Type 0 where
    pub rest : stream_of progress_over.reader [] ≡ ended_at (unfinished progress_over.reader)

  -- how a session handled a piece, by its result
  abbrev pub HandledAs : Go → Progress handler → Progress handler → (List ℕ → Type 0) → (List ℕ → Type 0) → List ℕ → Type 0
  HandledAs go.More old new had has bytes = HandledAll old new had has bytes [] × IsUpToDate new
  HandledAs go.Quit old new had has bytes = QuitReplied old new had has bytes
  HandledAs (go.Broken fault) old new had has bytes = HandledAll old new had has bytes (protocol_error_text fault.kind) × IsBroken fault new
  HandledAs go.WriteFault old new had has bytes = LastReply handler.cut old new had has bytes ⊎ CutFault old new had has bytes
  HandledAs go.Memory old new had has bytes = HandledSome old new had has bytes

  -- one request was handled and more may follow, or the session returned this result
  abbrev pub GoesOn : Option Go → Progress handler → Progress handler → (List ℕ → Type 0) → (List ℕ → Type 0) → Type 0
  GoesOn None old new had has = HandledAll old new had has [] [] × (old.reader.begin < new.reader.begin)
  GoesOn (Some answer) old new had has = HandledAs answer old new had has []

  -- the request was handled, and its reply written unless something failed
  pub record Replied (answer : Option Go) (request : Request) (old new : Progress handler) (had has : List ℕ → Type 0) : Type 0 where
    pub reply : List ℕ
    pub turned : HandledBy handler answer request reply old.world new.world had has
    pub end : IsEndBy answer request
    pub reader : new.reader ≡ old.reader
    pub executed : new.executed ≡ old.executed + 1

-- the protocol error was written, unless a write failed
abbrev pub Refused : Go → Protocol → (List ℕ → Type 0) → (List ℕ → Type 0) → Type 0
Refused (go.Broken cause) fault had has = (cause ≡ fault) × Grows had has (protocol_error_text fault.kind)
Refused go.WriteFault fault had has = GrowsByPrefix had has (protocol_error_text fault.kind)
Refused go.More fault had has = ⊥
Refused go.Quit fault had has = ⊥
Refused go.Memory fault had has = ⊥

-- a fault counter rose if and only if the result is a write fault
abbrev pub HasCauseWith : (handler : Handler) → Option Go → (before now : ℕ) → (own own' : handler.Faults) → Type 0
HasCauseWith handler (Some go.WriteFault) before now own own' = AFault handler before now own own'
HasCauseWith handler other before now own own' = NoFault handler before now own own'

-- the result is a write fault if and only if the fault counter rose; the counter never falls
abbrev pub WroteOrFault : ℕ → ℕ → Option Go → Type 0
WroteOrFault before now (Some go.WriteFault) = (before ≤ now) × Rose before now
WroteOrFault before now other = now ≡ before
