-- How many bytes of an input `pipe` reads, by how it answers it.
use Rattle.std.specs.Prelude.{Option, Some, IfSome}
use Rattle.std.proofs.Common.{◌≡◌, ◌⊎◌, inl, inr, Bool, true, false, if◌then◌else◌, ℕ, ◌+◌, ◌≤◌, List, [], ◌∷◌, ◌++◌, length, refl, sym, ◌∙◌, ap, subst, arith}
use Rattle.std.proofs.lemmas.List.{append-nil}
use Rattle.ts_resp.specs.Reading.{stream_of}
use Rattle.ts_spec.specs.Run.{LocatedRequest, then_all, requests_in, is_quit, has_quit}
use Rattle.ts_spec.specs.Wire.{Stream, stream_at}
use Rattle.ts_db.specs.DbState.{DbState}
use Rattle.ts_spec.specs.declared.wire.WireLimits.{WireLimits}
use Rattle.ts_engine.specs.declared.piped.End.{End}
use Rattle.ts_engine.specs.declared.piped.End.TheVariants as end
use Rattle.ts_engine.specs.declared.piped.Outcome.{Outcome}
use Rattle.ts_words.specs.declared.status.Status.{Status}
use Rattle.ts_words.specs.declared.status.Status.TheVariants as status
use Rattle.ts_execution.specs.Handler.{Handler}
use Rattle.ts_engine.specs.Headline.{Exchange, RunView, exchange_of, Writes, count_done}
use Rattle.ts_engine.specs.Piping.{beginning_of, PIECE, ReadAll, Ends, shown_at, is_of_input, PipedWith, Piped}
use Rattle.ts_engine.specs.Session.{Progress, QuitReplied}
use Rattle.ts_engine.specs.Status.{status_of, place_of}
use Rattle.ts_engine.specs.InputTaken.{quit_place, place_after, ReadBound, PrefixTaken, WrittenAndTaken, InputTaken}
use Rattle.ts_engine.specs.Top.{Reports}
use Rattle.ts_engine.proofs.Headlines.{Splits, splits, writes, executed_writes}
use Rattle.ts_engine.proofs.Quits.{neither}

-- the offset after QUIT is that after the last request
quit_place-last : (done : List LocatedRequest) (last : LocatedRequest) (rest : Stream) → has_quit (requests_in done) ≡ false → is_quit last.request ≡ true → quit_place (then_all (done ++ last ∷ []) rest) ≡ Some last.after
quit_place-last [] last rest none asked = ap (λ (b : Bool). if b then Some last.after else quit_place rest) asked
quit_place-last (first ∷ done) last rest none asked =
    let both = neither (is_quit first.request) (has_quit (requests_in done)) none in
    ap (λ (b : Bool). if b then Some first.after else quit_place (then_all (done ++ last ∷ []) rest)) both.0 ∙ quit_place-last done last rest both.1 asked

-- the offset after a request
place_after-last : (done : List LocatedRequest) (last : LocatedRequest) (rest : Stream) → place_after (then_all (done ++ last ∷ []) rest) (length (requests_in done)) ≡ Some last.after
place_after-last [] last rest = refl
place_after-last (first ∷ done) last rest = place_after-last done last rest

module _ {handler : Handler} (exchange : Exchange handler) (last : Progress handler) (at : last.world ≡ exchange.to) (bytes front : List ℕ) (left : Option (List ℕ)) (split : Splits bytes left front) (taken : ℕ) where
  -- at most one piece was read past an end that the input shows
  near_writes : (budget : ℕ) (e : End) (spent : e ≡ end.Budget → length front ≡ budget) (ends : Ends e left (beginning_of handler exchange.limits exchange.from) last exchange.had exchange.has front)
      → IfSome (shown_at e left (beginning_of handler exchange.limits exchange.from) last exchange.had exchange.has front ends) (λ place. taken ≤ place + PIECE)
      → ReadBound exchange bytes left budget e (writes exchange last at bytes front left split budget e spent ends) taken
  near_writes budget end.Ended spent (inl all) read_bound = tt
  near_writes budget end.Ended spent (inr quitted) read_bound = record {
    at = quitted.reply.last.after;
    is = ap (λ (l : List ℕ). quit_place (stream_at exchange.limits 0 l)) split.1 ∙ ap quit_place (quitted.reply.stream split.0)
        ∙ quit_place-last quitted.reply.done quitted.reply.last (stream_of last.reader split.0) quitted.reply.goes_on quitted.asked;
    read_bound = read_bound;
  }
  near_writes budget (end.Truncated place) spent ends read_bound = tt
  near_writes budget (end.Protocol fault) spent ends read_bound = read_bound
  near_writes budget end.ReadFault spent ends read_bound = tt
  near_writes budget end.Budget spent ends read_bound = tt
  near_writes budget end.Memory spent ends read_bound = tt
  near_writes budget end.WriteFault spent (inl cut) read_bound = record {
    at = cut.last.after;
    is = ap (λ (l : List ℕ). place_after (stream_at exchange.limits 0 l) (length (requests_in cut.done))) split.1
        ∙ ap (λ (s : Stream). place_after s (length (requests_in cut.done))) (cut.stream split.0) ∙ place_after-last cut.done cut.last (stream_of last.reader split.0);
    read_bound = read_bound;
  }
  near_writes budget end.WriteFault spent (inr cut) read_bound = read_bound

-- an input with nothing left ends the same
abbrev read_alone : {handler : Handler} (left : Option (List ℕ)) (old new : Progress handler) (had has : List ℕ → Type 0) (bytes : List ℕ) → ReadAll left old new had has bytes ⊎ QuitReplied old new had has bytes
    → ReadAll (Some []) old new had has bytes ⊎ QuitReplied old new had has bytes
read_alone left old new had has bytes (inl all) = inl (record { went = all.went; ended = all.ended; at_end = refl })
read_alone left old new had has bytes (inr quitted) = inr quitted

abbrev ends_alone : {handler : Handler} (e : End) (left : Option (List ℕ)) (old new : Progress handler) (had has : List ℕ → Type 0) (bytes : List ℕ) → Ends e left old new had has bytes → Ends e (Some []) old new had has bytes
ends_alone end.Ended left old new had has bytes ends = read_alone left old new had has bytes ends
ends_alone (end.Truncated place) left old new had has bytes ends = (ends.0, ends.1, refl)
ends_alone (end.Protocol fault) left old new had has bytes ends = ends
ends_alone end.ReadFault left old new had has bytes ends = ends
ends_alone end.WriteFault left old new had has bytes ends = ends
ends_alone end.Memory left old new had has bytes ends = ends
ends_alone end.Budget left old new had has bytes ends = ends

-- and shows its end at the same offset
pub shown_alone : {handler : Handler} (e : End) (left : Option (List ℕ)) (old new : Progress handler) (had has : List ℕ → Type 0) (bytes : List ℕ) (ends : Ends e left old new had has bytes)
    → shown_at e (Some []) old new had has bytes (ends_alone e left old new had has bytes ends) ≡ shown_at e left old new had has bytes ends
shown_alone end.Ended left old new had has bytes (inl all) = refl
shown_alone end.Ended left old new had has bytes (inr quitted) = refl
shown_alone (end.Truncated place) left old new had has bytes ends = refl
shown_alone (end.Protocol fault) left old new had has bytes ends = refl
shown_alone end.ReadFault left old new had has bytes ends = refl
shown_alone end.WriteFault left old new had has bytes ends = refl
shown_alone end.Memory left old new had has bytes ends = refl
shown_alone end.Budget left old new had has bytes ends = refl

pub of_input_alone : {handler : Handler} (e : End) (left : Option (List ℕ)) (old new : Progress handler) (had has : List ℕ → Type 0) (bytes : List ℕ) (ends : Ends e left old new had has bytes)
    → is_of_input e (Some []) old new had has bytes (ends_alone e left old new had has bytes ends) ≡ is_of_input e left old new had has bytes ends
of_input_alone end.Ended left old new had has bytes (inl all) = refl
of_input_alone end.Ended left old new had has bytes (inr quitted) = refl
of_input_alone (end.Truncated place) left old new had has bytes ends = refl
of_input_alone (end.Protocol fault) left old new had has bytes ends = refl
of_input_alone end.ReadFault left old new had has bytes ends = refl
of_input_alone end.WriteFault left old new had has bytes ends = refl
of_input_alone end.Memory left old new had has bytes ends = refl
of_input_alone end.Budget left old new had has bytes ends = refl

-- `pipe` does the same with the bytes that it read, if there are no others
abbrev pub piped_alone : (handler : Handler) (limits : WireLimits) (budget : ℕ) (outcome : Outcome) (from to : handler.World) (told left : Option (List ℕ)) (had has : List ℕ → Type 0)
    → (piped : PipedWith handler limits budget outcome from to told left had has) → PipedWith handler limits budget outcome from to (Some piped.bytes) (Some []) had has
piped_alone handler limits budget outcome from to told left had has piped =
    let first : Progress handler = beginning_of handler limits from in
    record {
      bytes = piped.bytes;
      last = piped.last;
      count = piped.count;
      within = piped.within;
      spent = piped.spent;
      took = sym (append-nil piped.bytes);
      world = piped.world;
      executed = piped.executed;
      ends = ends_alone outcome.end left first piped.last had has piped.bytes piped.ends;
      read_bound = subst (λ (o : Option ℕ). IfSome o (λ place. outcome.taken ≤ place + PIECE)) (sym (shown_alone outcome.end left first piped.last had has piped.bytes piped.ends)) piped.read_bound;
      below = λ is. piped.below (sym (of_input_alone outcome.end left first piped.last had has piped.bytes piped.ends) ∙ is);
    }

-- a run of `pipe` on an input whose bytes are known
module _ {handler : Handler} (exchange : Exchange handler) (budget : ℕ) (outcome : Outcome) (bytes : List ℕ) (left : Option (List ℕ))
    (piped : PipedWith handler exchange.limits budget outcome exchange.from exchange.to (Some bytes) left exchange.had exchange.has) where
  abbrev split : Splits bytes left piped.bytes
  split = splits bytes left piped.bytes piped.took

  pub used_up : outcome.end ≡ end.Budget → length piped.bytes ≡ budget
  used_up is = piped.count ∙ piped.spent is

  abbrev pub writes_of : Writes exchange budget bytes left outcome.end
  writes_of = writes exchange piped.last piped.world bytes piped.bytes left split budget outcome.end used_up piped.ends

  pub executed_of : outcome.executed ≡ count_done exchange budget bytes left outcome.end writes_of
  executed_of = sym piped.executed ∙ executed_writes exchange piped.last piped.world bytes piped.bytes left split budget outcome.end used_up piped.ends

  pub near_of : ReadBound exchange bytes left budget outcome.end writes_of outcome.taken
  near_of = near_writes exchange piped.last piped.world bytes piped.bytes left split outcome.taken budget outcome.end used_up piped.ends piped.read_bound

pub piped_writes : {handler : Handler} (exchange : Exchange handler) (budget : ℕ) (outcome : Outcome) (bytes : List ℕ) (told left : Option (List ℕ)) → told ≡ Some bytes
    → PipedWith handler exchange.limits budget outcome exchange.from exchange.to told left exchange.had exchange.has → Writes exchange budget bytes left outcome.end
piped_writes {handler} exchange budget outcome bytes told left tells piped =
    writes_of exchange budget outcome bytes left (subst (λ (o : Option (List ℕ)). PipedWith handler exchange.limits budget outcome exchange.from exchange.to o left exchange.had exchange.has) tells piped)

-- a prefix of the input was read
abbrev pub front_taken : (handler : Handler) (limits : WireLimits) (budget : ℕ) (outcome : Outcome) (from to : handler.World) (bytes : List ℕ) (left : Option (List ℕ)) (had has : List ℕ → Type 0)
    → PipedWith handler limits budget outcome from to (Some bytes) left had has → PrefixTaken budget bytes left
front_taken handler limits budget outcome from to bytes left had has piped =
    let parts = splits bytes left piped.bytes piped.took in
    record { front = piped.bytes; rest = parts.0; split = parts.1; left_is = parts.2; within = omega (arith, piped.count, piped.within) }

module _ {handler : Handler} (exchange : Exchange handler) (budget : ℕ) (outcome : Outcome) (bytes : List ℕ) (left : Option (List ℕ)) where
  -- the input was answered, and that prefix alone is answered the same
  taken_front : PipedWith handler exchange.limits budget outcome exchange.from exchange.to (Some bytes) left exchange.had exchange.has → WrittenAndTaken exchange budget bytes left outcome.end
  taken_front piped = record {
    written = writes_of exchange budget outcome bytes left piped;
    taken = front_taken handler exchange.limits budget outcome exchange.from exchange.to bytes left exchange.had exchange.has piped;
    alone = writes_of exchange budget outcome piped.bytes (Some []) (piped_alone handler exchange.limits budget outcome exchange.from exchange.to (Some bytes) left exchange.had exchange.has piped);
    read_bound = subst (λ (n : ℕ). ReadBound exchange bytes left budget outcome.end (writes_of exchange budget outcome bytes left piped) n) (sym piped.count) (near_of exchange budget outcome bytes left piped);
  }

  pub taken_by : (told : Option (List ℕ)) → told ≡ Some bytes
      → PipedWith handler exchange.limits budget outcome exchange.from exchange.to told left exchange.had exchange.has → WrittenAndTaken exchange budget bytes left outcome.end
  taken_by told tells piped =
      taken_front (subst (λ (o : Option (List ℕ)). PipedWith handler exchange.limits budget outcome exchange.from exchange.to o left exchange.had exchange.has) tells piped)

-- the clause `taken` of `top`, for a run from the empty database
pub piped_taken : (seen : RunView) (held : DbState) (budget : ℕ) (outcome : Outcome) (bytes : List ℕ) (left told : Option (List ℕ)) → told ≡ Some bytes
    → Piped seen.limits.wire budget outcome (exchange_of seen held).from (exchange_of seen held).to told left seen.had seen.has
    → (had has : List ℕ → Type 0) (given : Status) → Reports (status_of outcome.end) (place_of outcome.end) given had has → (outcome.end ≡ end.Ended → given ≡ status.Ended)
    → InputTaken seen budget bytes left had has given
piped_taken seen held budget outcome bytes left told tells piped had has given reported quiet =
    let all : WrittenAndTaken (exchange_of seen held) budget bytes left outcome.end = taken_by (exchange_of seen held) budget outcome bytes left told tells piped in
    record {
      headline = record { held = held; end = outcome.end; written = all.written; reported = reported };
      front = all.taken.front;
      rest = all.taken.rest;
      split = all.taken.split;
      left_is = all.taken.left_is;
      within = all.taken.within;
      alone = all.alone;
      read_bound = all.read_bound;
      quiet = quiet;
    }
