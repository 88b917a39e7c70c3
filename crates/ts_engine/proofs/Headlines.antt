-- From what `pipe` did to what the headline says.
use Rattle.std.specs.Prelude.{Option, Some, None}
use Rattle.std.specs.Io.KnownBytes.{Consumes, IsAtEnd}
use Rattle.std.proofs.Common.{◌≡◌, inl, inr, true, false, if◌then◌else◌, take, ℕ, List, [], ◌∷◌, ◌++◌, length, refl, sym, ◌∙◌, ap, subst, arith, append_assoc, length-append}
use Rattle.std.proofs.lemmas.List.{append-nil, length-map}
use Rattle.ts_resp.specs.Reading.{stream_of, ended_at, unfinished}
use Rattle.ts_spec.specs.Run.{LocatedRequest, Runs, then_all, requests_in, is_quit, has_quit, until_quit}
use Rattle.ts_spec.specs.Wire.{Request, Stream, Ended, Inside, Broken, stream_at, requests_of, ending_of}
use Rattle.ts_spec.proofs.Runs.{Runs-append, Runs-one, requests_of-then_all, ending_of-then_all, requests_in-append}
use Rattle.ts_execution.specs.Handler.{Handler, LastRequest}
use Rattle.ts_engine.specs.declared.piped.End.{End}
use Rattle.ts_engine.specs.declared.piped.End.TheVariants as end
use Rattle.ts_engine.specs.Session.{Progress, HandledAll, HandledSome, LastReply, QuitReplied, CutFault, IsUpToDate}
use Rattle.ts_engine.specs.Piping.{beginning_of, Ends}
use Rattle.ts_engine.specs.Headline.{requests, asks_to_quit, ending, Exchange, AllAnswered, WholeAnswered, SomeAnswered, LastCut, FaultCut, PrefixAnswered, Writes, count_done}
use Rattle.ts_engine.proofs.Quits.{has_quit-append, until_quit-append, until_quit-last, has_quit-last}
use Rattle.ts_engine.proofs.Sessions.{grows_as}

-- an input whose bytes are known: what is left of it is known too
abbrev pub Splits : List ℕ → Option (List ℕ) → List ℕ → Type 0
Splits bytes left front = (rest : List ℕ) × (bytes ≡ front ++ rest) × (left ≡ Some rest)

pub splits : (bytes : List ℕ) (left : Option (List ℕ)) (front : List ℕ) → Consumes (Some bytes) left front → Splits bytes left front
splits bytes None front took = absurd took
splits bytes (Some rest) front took = (rest, took, refl)

module _ {handler : Handler} (exchange : Exchange handler) (last : Progress handler) (at : last.world ≡ exchange.to) where
  module _ (front tail : List ℕ) (went : HandledAll (beginning_of handler exchange.limits exchange.from) last exchange.had exchange.has front tail) where
    -- the requests in the bytes and in whatever follows them
    follows : (more : List ℕ) → stream_at exchange.limits 0 (front ++ more) ≡ then_all went.done (stream_of last.reader more)
    follows more = went.stream more

    its_requests : (more : List ℕ) → requests_of (stream_at exchange.limits 0 (front ++ more)) ≡ requests_in went.done ++ requests_of (stream_of last.reader more)
    its_requests more = ap requests_of (follows more) ∙ requests_of-then_all went.done (stream_of last.reader more)

    pub first_requests : (more : List ℕ) → requests exchange.limits (front ++ more) ≡ requests_in went.done ++ until_quit (requests_of (stream_of last.reader more))
    first_requests more = ap until_quit (its_requests more) ∙ until_quit-append (requests_in went.done) (requests_of (stream_of last.reader more)) went.goes_on

    its_ending : (more : List ℕ) → ending exchange.limits (front ++ more) ≡ ending_of (stream_of last.reader more)
    its_ending more = ap ending_of (follows more) ∙ ending_of-then_all went.done (stream_of last.reader more)

    -- no request follows, so these are all
    pub all_requests : (bytes more : List ℕ) → bytes ≡ front ++ more → requests_of (stream_of last.reader more) ≡ [] → requests exchange.limits bytes ≡ requests_in went.done
    all_requests bytes more whole none =
        ap (requests exchange.limits) whole ∙ first_requests more ∙ ap (λ (l : List Request). requests_in went.done ++ until_quit l) none ∙ append-nil (requests_in went.done)

    -- this many requests were executed
    pub all_executed : (bytes more : List ℕ) → bytes ≡ front ++ more → requests_of (stream_of last.reader more) ≡ [] → last.executed ≡ length (requests exchange.limits bytes)
    all_executed bytes more whole none = omega (arith, went.executed, ap length (all_requests bytes more whole none), length-map went.done (λ (p : LocatedRequest). p.request))

    -- no request follows, so all were handled
    pub all_answered : (bytes more : List ℕ) → bytes ≡ front ++ more → requests_of (stream_of last.reader more) ≡ [] → AllAnswered exchange bytes tail
    all_answered bytes more whole none = record {
      text = went.text;
      run = subst (λ (w : handler.World). Runs handler.handles exchange.from (requests exchange.limits bytes) went.text w) at
          (subst (λ (l : List Request). Runs handler.handles exchange.from l went.text last.world)
          (sym (all_requests bytes more whole none))
          went.run);
      grown = went.grown;
    }

    -- no request follows, and none is QUIT
    pub no_quit : (bytes more : List ℕ) → bytes ≡ front ++ more → requests_of (stream_of last.reader more) ≡ [] → asks_to_quit exchange.limits bytes ≡ false
    no_quit bytes more whole none =
        ap (asks_to_quit exchange.limits) whole ∙ ap has_quit (its_requests more) ∙ has_quit-append (requests_in went.done) (requests_of (stream_of last.reader more)) went.goes_on ∙ ap has_quit none

    -- how the bytes end, from the rest of the stream
    pub ends_as : (bytes more : List ℕ) (stream : Stream) → bytes ≡ front ++ more → stream_of last.reader more ≡ stream → ending exchange.limits bytes ≡ ending_of stream
    ends_as bytes more stream whole is = ap (ending exchange.limits) whole ∙ its_ending more ∙ ap ending_of is

pub no_requests : (place : Option ℕ) → requests_of (ended_at place) ≡ []
no_requests None = refl
no_requests (Some place) = refl

pub its_own_ending : (place : Option ℕ) → ending_of (ended_at place) ≡ ended_at place
its_own_ending None = refl
its_own_ending (Some place) = refl

module _ {handler : Handler} (exchange : Exchange handler) (last : Progress handler) (at : last.world ≡ exchange.to) (bytes front : List ℕ) (left : Option (List ℕ)) (split : Splits bytes left front) where
  -- all bytes were read
  whole : IsAtEnd left → (bytes ≡ front ++ []) × (left ≡ Some [])
  whole at_end =
      let none : split.0 ≡ [] = subst IsAtEnd split.2 at_end in
      (split.1 ∙ ap (λ (l : List ℕ). front ++ l) none, split.2 ∙ ap Some none)

  abbrev pub front_answered : HandledAll (beginning_of handler exchange.limits exchange.from) last exchange.had exchange.has front [] → IsUpToDate last → PrefixAnswered exchange bytes left
  front_answered went current = record {
    front = front;
    rest = split.0;
    split = split.1;
    left_is = split.2;
    place = unfinished last.reader;
    unbroken = ends_as exchange last at front [] went front [] (ended_at (unfinished last.reader)) (sym (append-nil front)) current.rest
        ∙ its_own_ending (unfinished last.reader);
    goes_on = no_quit exchange last at front [] went front [] (sym (append-nil front)) (ap requests_of current.rest ∙ no_requests (unfinished last.reader));
    answered = all_answered exchange last at front [] went front [] (sym (append-nil front)) (ap requests_of current.rest ∙ no_requests (unfinished last.reader));
  }

  front_executed : HandledAll (beginning_of handler exchange.limits exchange.from) last exchange.had exchange.has front [] → IsUpToDate last → last.executed ≡ length (requests exchange.limits front)
  front_executed went current =
      all_executed exchange last at front [] went front [] (sym (append-nil front)) (ap requests_of current.rest ∙ no_requests (unfinished last.reader))

  abbrev pub some_answered : HandledSome (beginning_of handler exchange.limits exchange.from) last exchange.had exchange.has front → SomeAnswered exchange bytes
  some_answered went =
      let rest = went.stream split.0 in
      record {
        done = requests_in went.done;
        others = until_quit (requests_of rest.0);
        first = ap (requests exchange.limits) split.1 ∙ ap until_quit (ap requests_of rest.1 ∙ requests_of-then_all went.done rest.0)
            ∙ until_quit-append (requests_in went.done) (requests_of rest.0) went.goes_on;
        text = went.text;
        run = subst (λ (w : handler.World). Runs handler.handles exchange.from (requests_in went.done) went.text w) at went.run;
        grown = went.grown;
      }

  -- the requests in the bytes, and the last one that was handled
  pub with_last : {said : LastRequest handler} (cut : LastReply said (beginning_of handler exchange.limits exchange.from) last exchange.had exchange.has front)
      → requests_of (stream_at exchange.limits 0 bytes) ≡ requests_in cut.done ++ cut.last.request ∷ requests_of (stream_of last.reader split.0)
  with_last cut =
      ap (λ (l : List ℕ). requests_of (stream_at exchange.limits 0 l)) split.1 ∙ ap requests_of (cut.stream split.0)
      ∙ requests_of-then_all (cut.done ++ cut.last ∷ []) (stream_of last.reader split.0)
      ∙ ap (λ (l : List Request). l ++ requests_of (stream_of last.reader split.0)) (requests_in-append cut.done (cut.last ∷ []))
      ∙ append_assoc (requests_in cut.done) (cut.last.request ∷ []) (requests_of (stream_of last.reader split.0))

  abbrev pub last_cut : LastReply handler.cut (beginning_of handler exchange.limits exchange.from) last exchange.had exchange.has front → LastCut exchange bytes
  last_cut cut = record {
    done = requests_in cut.done;
    last = cut.last.request;
    others = if is_quit cut.last.request then [] else until_quit (requests_of (stream_of last.reader split.0));
    first = ap until_quit (with_last cut) ∙ until_quit-append (requests_in cut.done) (cut.last.request ∷ requests_of (stream_of last.reader split.0)) cut.goes_on;
    text = cut.text;
    mid = cut.mid;
    reply = cut.reply;
    kept = cut.kept;
    run = cut.run;
    turned = subst (λ (w : handler.World). handler.cut cut.mid cut.last.request cut.reply cut.kept w) at cut.turned;
    grown = cut.grown;
  }

  -- the last request that was handled is the last of all
  quitted_requests : (quitted : QuitReplied (beginning_of handler exchange.limits exchange.from) last exchange.had exchange.has front) → requests exchange.limits bytes ≡ requests_in quitted.reply.done ++ quitted.reply.last.request ∷ []
  quitted_requests quitted =
      ap until_quit (with_last quitted.reply)
      ∙ until_quit-last (requests_in quitted.reply.done) quitted.reply.last.request (requests_of (stream_of last.reader split.0)) quitted.reply.goes_on quitted.asked

  -- QUIT was answered
  pub quitted_all : (quitted : QuitReplied (beginning_of handler exchange.limits exchange.from) last exchange.had exchange.has front)
      → AllAnswered exchange bytes [] × (asks_to_quit exchange.limits bytes ≡ true)
  quitted_all quitted =
      let cut = quitted.reply in
      let rest : List Request = requests_of (stream_of last.reader split.0) in (
        record {
          text = cut.text ++ cut.reply;
          run = subst (λ (w : handler.World). Runs handler.handles exchange.from (requests exchange.limits bytes) (cut.text ++ cut.reply) w) at
              (subst (λ (l : List Request). Runs handler.handles exchange.from l (cut.text ++ cut.reply) last.world)
              (sym (quitted_requests quitted))
              (Runs-append handler.handles exchange.from cut.mid last.world (requests_in cut.done) (cut.last.request ∷ []) cut.text cut.reply cut.run
              (Runs-one handler.handles cut.mid last.world cut.last.request cut.reply cut.turned)));
          grown = grows_as exchange.had exchange.has (cut.text ++ take cut.kept cut.reply) ((cut.text ++ cut.reply) ++ [])
              (ap (λ (l : List ℕ). cut.text ++ l) quitted.whole ∙ sym (append-nil (cut.text ++ cut.reply))) cut.grown;
        },
        ap has_quit (with_last cut) ∙ has_quit-last (requests_in cut.done) cut.last.request rest cut.goes_on quitted.asked,
      )

  -- the input was read to its end, which is of this kind
  pub whole_answered : (end : Stream) → requests_of end ≡ [] → ending_of end ≡ end
      → HandledAll (beginning_of handler exchange.limits exchange.from) last exchange.had exchange.has front [] → stream_of last.reader [] ≡ end → IsAtEnd left
      → WholeAnswered exchange bytes left end
  whole_answered end none own went is at_end =
      let all = whole at_end in
      record {
        answered = all_answered exchange last at front [] went bytes [] all.0 (ap requests_of is ∙ none);
        goes_on = no_quit exchange last at front [] went bytes [] all.0 (ap requests_of is ∙ none);
        ended = ends_as exchange last at front [] went bytes [] end all.0 is ∙ own;
        left_is = all.1;
      }

  abbrev pub fault_cut : CutFault (beginning_of handler exchange.limits exchange.from) last exchange.had exchange.has front → FaultCut exchange bytes
  fault_cut cut = record {
    kind = cut.fault.kind;
    place = cut.fault.place;
    kept = cut.kept;
    broken = ends_as exchange last at front _ cut.went bytes split.0 (Broken cut.fault.kind cut.fault.place) split.1 (cut.broken split.0);
    goes_on = no_quit exchange last at front _ cut.went bytes split.0 split.1 (ap requests_of (cut.broken split.0));
    answered = all_answered exchange last at front _ cut.went bytes split.0 split.1 (ap requests_of (cut.broken split.0));
  }

  -- what was done with the bytes read is what the headline says of the end
  abbrev pub writes : (budget : ℕ) (e : End) → (e ≡ end.Budget → length front ≡ budget) → Ends e left (beginning_of handler exchange.limits exchange.from) last exchange.had exchange.has front
      → Writes exchange budget bytes left e
  writes budget end.Ended spent (inl all) = inl (whole_answered Ended refl refl all.went all.ended all.at_end)
  writes budget end.Ended spent (inr quitted) = inr (quitted_all quitted)
  writes budget (end.Truncated place) spent ends = whole_answered (Inside place) refl refl ends.0 ends.1 ends.2
  writes budget (end.Protocol fault) spent ends = (
    all_answered exchange last at front _ ends.0 bytes split.0 split.1 (ap requests_of (ends.1 split.0)),
    no_quit exchange last at front _ ends.0 bytes split.0 split.1 (ap requests_of (ends.1 split.0)),
    ends_as exchange last at front _ ends.0 bytes split.0 (Broken fault.kind fault.place) split.1 (ends.1 split.0),
  )
  writes budget end.ReadFault spent ends = front_answered ends.0 ends.1
  writes budget end.Budget spent ends = (front_answered ends.0 ends.1, spent refl)
  writes budget end.Memory spent ends = some_answered ends
  writes budget end.WriteFault spent (inl cut) = inl (last_cut cut)
  writes budget end.WriteFault spent (inr cut) = inr (fault_cut cut)

  -- as many requests were handled as were executed
  pub executed_writes : (budget : ℕ) (e : End) (spent : e ≡ end.Budget → length front ≡ budget) (ends : Ends e left (beginning_of handler exchange.limits exchange.from) last exchange.had exchange.has front)
      → last.executed ≡ count_done exchange budget bytes left e (writes budget e spent ends)
  executed_writes budget end.Ended spent (inl all) =
      let everything = whole all.at_end in
      all_executed exchange last at front [] all.went bytes [] everything.0 (ap requests_of all.ended)
  executed_writes budget end.Ended spent (inr quitted) =
      let cut = quitted.reply in
      omega (arith, cut.executed, ap length (quitted_requests quitted), length-append (requests_in cut.done) (cut.last.request ∷ []), length-map cut.done (λ (p : LocatedRequest). p.request))
  executed_writes budget (end.Truncated place) spent ends =
      let everything = whole ends.2 in
      all_executed exchange last at front [] ends.0 bytes [] everything.0 (ap requests_of ends.1)
  executed_writes budget (end.Protocol fault) spent ends = all_executed exchange last at front _ ends.0 bytes split.0 split.1 (ap requests_of (ends.1 split.0))
  executed_writes budget end.ReadFault spent ends = front_executed ends.0 ends.1
  executed_writes budget end.Budget spent ends = front_executed ends.0 ends.1
  executed_writes budget end.Memory spent ends = omega (arith, ends.executed, length-map ends.done (λ (p : LocatedRequest). p.request))
  executed_writes budget end.WriteFault spent (inl cut) = omega (arith, cut.executed, length-map cut.done (λ (p : LocatedRequest). p.request))
  executed_writes budget end.WriteFault spent (inr cut) = all_executed exchange last at front _ cut.went bytes split.0 split.1 (ap requests_of (cut.broken split.0))
