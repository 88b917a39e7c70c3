-- Offsets of requests and errors in a stream: past bytes that contain neither.
use Rattle.std.proofs.Common.{ℕ, ◌+◌, ◌≤◌, ◌<◌, List, [], ◌∷◌, ◌++◌, length, Option, None, Some, refl, sym, ◌∙◌, ap, subst, append-nil, arith}
use Rattle.ts_resp.specs.Reading.{stream_of, fed, mode_of, ended_at, unfinished}
use Rattle.ts_spec.specs.Run.{LocatedRequest, then_all}
use Rattle.ts_spec.specs.Wire.{Stream, Then, Ended, Inside, Broken, Mode, Start, Text, Count, CountFeed, Mark, Length, LengthFeed, Body, WordReturn, WordFeed, Move, Goto, Whole, Fault, move, at_end, after_move, read_on}
use Rattle.ts_spec.specs.declared.wire.Kind.{Kind}
use Rattle.ts_spec.specs.declared.wire.WireLimits.{WireLimits}
use Rattle.ts_spec.proofs.Streams.{read_on-nil, read_on-byte}
use Rattle.ts_execution.specs.Handler.{Handler, LastRequest}
use Rattle.ts_engine.specs.Session.{Progress, HandledAll, LastReply, IsBroken, IsUpToDate}
use Rattle.ts_resp.specs.declared.protocol.Protocol.{Protocol}

-- each request ends past this offset, and no error is before it
abbrev IsPast : ℕ → Stream → Type 0
IsPast place (Then request after rest) = (place < after) × IsPast place rest
IsPast place Ended = Unit {0}
IsPast place (Inside begin) = Unit {0}
IsPast place (Broken kind at) = place ≤ at

lower : (high low : ℕ) (stream : Stream) → low ≤ high → IsPast high stream → IsPast low stream
lower high low (Then request after rest) less past =
    let first : high < after = past.0 in
    (omega arith, lower high low rest less past.1)
lower high low Ended less past = tt
lower high low (Inside begin) less past = tt
lower high low (Broken kind at) less past = omega (arith, less, past)

at_end-past : (place : ℕ) (mode : Mode) (begin : ℕ) → IsPast place (at_end mode begin)
at_end-past place Start begin = tt
at_end-past place (Text line) begin = tt
at_end-past place (Count line) begin = tt
at_end-past place (CountFeed n) begin = tt
at_end-past place (Mark so_far) begin = tt
at_end-past place (Length so_far line) begin = tt
at_end-past place (LengthFeed so_far n) begin = tt
at_end-past place (Body so_far n bytes) begin = tt
at_end-past place (WordReturn so_far bytes) begin = tt
at_end-past place (WordFeed so_far bytes) begin = tt

move-past : (m : Move) (place begin : ℕ) (on : ℕ → Mode → Stream) → ((from : ℕ) (next : Mode) → IsPast place (on from next)) → IsPast place (after_move m place begin on)
move-past (Goto next) place begin on h = h begin next
move-past (Whole []) place begin on h = h (place + 1) Start
move-past (Whole (word ∷ words)) place begin on h = (omega arith, h (place + 1) Start)
move-past (Fault kind) place begin on h = omega arith

-- all requests in these bytes end past their first offset
read_on-past : (limits : WireLimits) (place begin : ℕ) (mode : Mode) (bytes : List ℕ) → IsPast place (read_on limits place begin mode bytes)
read_on-past limits place begin mode [] = subst (λ (s : Stream). IsPast place s) (sym (read_on-nil limits place begin mode)) (at_end-past place mode begin)
read_on-past limits place begin mode (byte ∷ bytes) =
    subst (λ (s : Stream). IsPast place s) (sym (read_on-byte limits place begin mode byte bytes (move limits mode byte) refl))
    (move-past (move limits mode byte) place begin (λ from next. read_on limits (place + 1) from next bytes)
    (λ from next. lower (place + 1) place (read_on limits (place + 1) from next bytes) (omega arith) (read_on-past limits (place + 1) from next bytes)))

-- no request, and no fault
abbrev IsQuiet : Stream → Type 0
IsQuiet (Then request after rest) = ⊥
IsQuiet Ended = Unit {0}
IsQuiet (Inside begin) = Unit {0}
IsQuiet (Broken kind at) = ⊥

ended-quiet : (begin : Option ℕ) → IsQuiet (ended_at begin)
ended-quiet None = tt
ended-quiet (Some begin) = tt

move-goes : (m : Move) (place begin q : ℕ) (on on' : ℕ → Mode → Stream) → ((from : ℕ) (next : Mode) → IsQuiet (on from next) → IsPast q (on' from next))
    → IsQuiet (after_move m place begin on) → IsPast q (after_move m place begin on')
move-goes (Goto next) place begin q on on' h quiet = h begin next quiet
move-goes (Whole []) place begin q on on' h quiet = h (place + 1) Start quiet
move-goes (Whole (word ∷ words)) place begin q on on' h quiet = absurd quiet
move-goes (Fault kind) place begin q on on' h quiet = absurd quiet

-- bytes without a request or an error; what follows ends past them
read_on-goes : (limits : WireLimits) (place begin : ℕ) (mode : Mode) (bytes more : List ℕ) → IsQuiet (read_on limits place begin mode bytes)
    → IsPast (place + length bytes) (read_on limits place begin mode (bytes ++ more))
read_on-goes limits place begin mode [] more quiet = lower place (place + 0) (read_on limits place begin mode more) (omega arith) (read_on-past limits place begin mode more)
read_on-goes limits place begin mode (byte ∷ bytes) more quiet =
    subst (λ (s : Stream). IsPast (place + length (byte ∷ bytes)) s) (sym (read_on-byte limits place begin mode byte (bytes ++ more) (move limits mode byte) refl))
    (move-goes (move limits mode byte) place begin (place + length (byte ∷ bytes)) (λ from next. read_on limits (place + 1) from next bytes) (λ from next. read_on limits (place + 1) from next (bytes ++ more))
    (λ from next q. lower (place + 1 + length bytes) (place + length (byte ∷ bytes)) (read_on limits (place + 1) from next (bytes ++ more)) (omega arith) (read_on-goes limits (place + 1) from next bytes more q))
    (subst IsQuiet (read_on-byte limits place begin mode byte bytes (move limits mode byte) refl) quiet))

last-past : (place : ℕ) (done : List LocatedRequest) (last : LocatedRequest) (rest : Stream) → IsPast place (then_all (done ++ last ∷ []) rest) → place < last.after
last-past place [] last rest past = past.0
last-past place (first ∷ done) last rest past = last-past place done last rest past.1

fault-past : (place : ℕ) (done : List LocatedRequest) (kind : Kind) (at : ℕ) → IsPast place (then_all done (Broken kind at)) → place ≤ at
fault-past place [] kind at past = past
fault-past place (first ∷ done) kind at past = fault-past place done kind at past.1

module _ {handler : Handler} where
  -- every complete request was handled, so all that comes is past the bytes fed
  comes_past : (progress_over : Progress handler) (bytes : List ℕ) → IsUpToDate progress_over → IsPast (fed progress_over.reader) (stream_of progress_over.reader bytes)
  comes_past progress_over bytes current =
      let r = progress_over.reader in
      read_on-goes r.limits r.place r.begin (mode_of r.so_far) r.unread bytes
      (subst (λ (l : List ℕ). IsQuiet (read_on r.limits r.place r.begin (mode_of r.so_far) l)) (append-nil r.unread)
      (subst IsQuiet (sym current.rest) (ended-quiet (unfinished r))))

  -- the next request ends past the bytes fed
  pub reply_past : {said : LastRequest handler} (old new : Progress handler) (had has : List ℕ → Type 0) (bytes : List ℕ) → IsUpToDate old → (cut : LastReply said old new had has bytes) → fed old.reader < cut.last.after
  reply_past old new had has bytes current cut =
      last-past (fed old.reader) cut.done cut.last (stream_of new.reader [])
      (subst (λ (s : Stream). IsPast (fed old.reader) s) (cut.stream []) (comes_past old (bytes ++ []) current))

  -- and an error is not before them
  pub break_past : (old new : Progress handler) (had has : List ℕ → Type 0) (bytes tail : List ℕ) (fault : Protocol) → IsUpToDate old → HandledAll old new had has bytes tail → IsBroken fault new
      → fed old.reader ≤ fault.place
  break_past old new had has bytes tail fault current went broken =
      fault-past (fed old.reader) went.done fault.kind fault.place
      (subst (λ (s : Stream). IsPast (fed old.reader) s) (went.stream [] ∙ ap (λ (s : Stream). then_all went.done s) (broken [])) (comes_past old (bytes ++ []) current))
