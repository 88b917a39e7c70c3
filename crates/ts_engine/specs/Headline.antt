-- What is written for an input, by how it ended: the replies of a database of plain sample lists, with any kind of
-- request handler.
use Rattle.std.specs.Prelude.{◌≡◌, ◌⊎◌, Bool, true, false, ℕ, ◌+◌, List, [], ◌∷◌, ◌++◌, length, take, Option, Some}
use Rattle.std.proofs.Common.{inl, inr}
use Rattle.ts_io.specs.Sinks.{Grows}
use Rattle.ts_resp.specs.Reading.{ended_at}
use Rattle.ts_spec.specs.Run.{Runs, has_quit, until_quit}
use Rattle.ts_spec.specs.State.{empty}
use Rattle.ts_spec.specs.Text.{protocol_error_text}
use Rattle.ts_spec.specs.Wire.{Request, Stream, Ended, Inside, Broken, stream_at, requests_of, ending_of}
use Rattle.ts_spec.specs.declared.wire.Kind.{Kind}
use Rattle.ts_spec.specs.declared.limits.Limits.{Limits}
use Rattle.ts_spec.specs.declared.wire.WireLimits.{WireLimits}
use Rattle.ts_db.specs.DbState.{DbState}
use Rattle.ts_execution.specs.Handling.{World, plain}
use Rattle.ts_execution.specs.Handler.{Handler}
use Rattle.ts_engine.specs.declared.piped.End.{End}
use Rattle.ts_engine.specs.declared.piped.End.TheVariants as end

-- the requests in these bytes, up to and including the first QUIT
abbrev pub requests : WireLimits → List ℕ → List Request
requests limits bytes = until_quit (requests_of (stream_at limits 0 bytes))

-- whether these bytes contain a QUIT
abbrev pub asks_to_quit : WireLimits → List ℕ → Bool
asks_to_quit limits bytes = has_quit (requests_of (stream_at limits 0 bytes))

-- how the bytes end
abbrev pub ending : WireLimits → List ℕ → Stream
ending limits bytes = ending_of (stream_at limits 0 bytes)

-- the empty database under these limits, with these clock readings to come
abbrev pub start : Limits → Option (List ℕ) → World
start limits readings = record { held = record { limits = limits; state = empty }; readings = readings }

-- an exchange of requests and replies: the wire limits, the worlds before and after, and the output before and after
pub record Exchange (handler : Handler) : Type 1 where
  pub limits : WireLimits
  pub from : handler.World
  pub to : handler.World
  pub had : List ℕ → Type 0
  pub has : List ℕ → Type 0

-- what a run shows: its limits, the clock readings before and after, and the output before and after
pub record RunView : Type 1 where
  pub limits : Limits
  pub readings : Option (List ℕ)
  pub readings_left : Option (List ℕ)
  pub had : List ℕ → Type 0
  pub has : List ℕ → Type 0

-- the same from the clock and the output before and after
abbrev pub run_view : {C K : Type 0} → (readings : C → Option (List ℕ)) → (has : K → List ℕ → Type 0) → Limits → (clock clock' : C) → (out out' : K) → RunView
run_view readings has limits clock clock' out out' = record {
  limits = limits;
  readings = readings clock;
  readings_left = readings clock';
  had = has out;
  has = has out';
}

-- the exchange of such a run with the plain handler, from the empty database to `held`
abbrev pub exchange_of : RunView → DbState → Exchange plain
exchange_of seen held = record {
  limits = seen.limits.wire;
  from = start seen.limits seen.readings;
  to = record { held = held; readings = seen.readings_left };
  had = seen.had;
  has = seen.has;
}

module _ {handler : Handler} (exchange : Exchange handler) where
  -- the output has the replies to all requests in these bytes, then the tail
  pub record AllAnswered (bytes tail : List ℕ) : Type 0 where
    pub text : List ℕ
    pub run : Runs handler.handles exchange.from (requests exchange.limits bytes) text exchange.to
    pub grown : Grows exchange.had exchange.has (text ++ tail)

  -- the output has the replies to the first requests in these bytes
  pub record SomeAnswered (bytes : List ℕ) : Type 0 where
    pub done : List Request
    pub others : List Request
    pub first : requests exchange.limits bytes ≡ done ++ others
    pub text : List ℕ
    pub run : Runs handler.handles exchange.from done text exchange.to
    pub grown : Grows exchange.had exchange.has text

  -- the same, but the last reply is cut short
  pub record LastCut (bytes : List ℕ) : Type 0 where
    pub done : List Request
    pub last : Request
    pub others : List Request
    pub first : requests exchange.limits bytes ≡ done ++ last ∷ others
    pub text : List ℕ
    pub mid : handler.World
    pub reply : List ℕ
    pub kept : ℕ
    pub run : Runs handler.handles exchange.from done text mid
    pub turned : handler.cut mid last reply kept exchange.to
    pub grown : Grows exchange.had exchange.has (text ++ take kept reply)

  -- the output has the replies to all requests, then a prefix of the protocol error
  pub record FaultCut (bytes : List ℕ) : Type 0 where
    pub kind : Kind
    pub place : ℕ
    pub kept : ℕ
    pub broken : ending exchange.limits bytes ≡ Broken kind place
    pub goes_on : asks_to_quit exchange.limits bytes ≡ false
    pub answered : AllAnswered bytes (take kept (protocol_error_text kind))

  -- A prefix of the bytes was read, and all its requests were answered. It contains no protocol error and no QUIT.
  pub record PrefixAnswered (bytes : List ℕ) (left : Option (List ℕ)) : Type 0 where
    pub front : List ℕ
    pub rest : List ℕ
    pub split : bytes ≡ front ++ rest
    pub left_is : left ≡ Some rest
    pub place : Option ℕ
    pub unbroken : ending exchange.limits front ≡ ended_at place
    pub goes_on : asks_to_quit exchange.limits front ≡ false
    pub answered : AllAnswered front []

  -- all bytes were read and all their requests answered, and none is QUIT
  pub record WholeAnswered (bytes : List ℕ) (left : Option (List ℕ)) (end : Stream) : Type 0 where
    pub answered : AllAnswered bytes []
    pub goes_on : asks_to_quit exchange.limits bytes ≡ false
    pub ended : ending exchange.limits bytes ≡ end
    pub left_is : left ≡ Some []

  -- What is written for an input with these bytes, of which at most `budget` are read. `left` is what the input has
  -- left.
  abbrev pub Writes : (budget : ℕ) → List ℕ → Option (List ℕ) → End → Type 0
  Writes budget bytes left end.Ended = WholeAnswered bytes left Ended ⊎ (AllAnswered bytes [] × (asks_to_quit exchange.limits bytes ≡ true))
  Writes budget bytes left (end.Truncated place) = WholeAnswered bytes left (Inside place)
  Writes budget bytes left (end.Protocol fault) = AllAnswered bytes (protocol_error_text fault.kind) × (asks_to_quit exchange.limits bytes ≡ false) × (ending exchange.limits bytes ≡ Broken fault.kind fault.place)
  Writes budget bytes left end.ReadFault = PrefixAnswered bytes left
  Writes budget bytes left end.Budget = (front : PrefixAnswered bytes left) × (length front.front ≡ budget)
  Writes budget bytes left end.Memory = SomeAnswered bytes
  Writes budget bytes left end.WriteFault = LastCut bytes ⊎ FaultCut bytes

  -- how many requests were executed if a write failed; the one whose reply was cut counts
  abbrev pub count_cut : (bytes : List ℕ) → LastCut bytes ⊎ FaultCut bytes → ℕ
  count_cut bytes (inl cut) = length cut.done + 1
  count_cut bytes (inr cut) = length (requests exchange.limits bytes)

  -- how many requests were executed
  abbrev pub count_done : (budget : ℕ) (bytes : List ℕ) (left : Option (List ℕ)) (e : End) → Writes budget bytes left e → ℕ
  count_done budget bytes left end.Ended written = length (requests exchange.limits bytes)
  count_done budget bytes left (end.Truncated place) written = length (requests exchange.limits bytes)
  count_done budget bytes left (end.Protocol fault) written = length (requests exchange.limits bytes)
  count_done budget bytes left end.ReadFault written = length (requests exchange.limits written.front)
  count_done budget bytes left end.Budget written = length (requests exchange.limits written.0.front)
  count_done budget bytes left end.Memory written = length written.done
  count_done budget bytes left end.WriteFault written = count_cut bytes written
