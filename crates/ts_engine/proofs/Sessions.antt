-- What a session did adds up, request by request and piece by piece.
use Rattle.std.specs.Prelude.{Option, None, Some}
use Rattle.std.proofs.Common.{◌≡◌, false, ◌<◌, inl, inr, ⊎_elim, ℕ, ◌+◌, List, [], ◌∷◌, ◌++◌, length, take, refl, sym, ◌∙◌, ap, subst, append_assoc, arith, length-append}
use Rattle.std.proofs.lemmas.List.{append-nil}
use Rattle.std.proofs.Math.Seq.{take-length}
use Rattle.ts_io.specs.Sinks.{Grows}
use Rattle.ts_io.proofs.Growth.{grows_none, grows_twice}
use Rattle.ts_resp.specs.declared.protocol.Protocol.{Protocol}
use Rattle.ts_resp.specs.Reading.{Reading, stream_of}
use Rattle.ts_spec.specs.Run.{LocatedRequest, Runs, then_all, requests_in, is_quit}
use Rattle.ts_spec.specs.Wire.{Request, Then}
use Rattle.ts_spec.proofs.Runs.{Runs-append, Runs-one, then_all-append, requests_in-append}
use Rattle.ts_execution.specs.Handler.{Handler, LastRequest, was_handled}
use Rattle.ts_engine.specs.declared.replying.Go.{Go}
use Rattle.ts_engine.specs.declared.replying.Go.TheVariants as go
use Rattle.ts_engine.specs.Session.{Progress, HandledAll, HandledSome, LastReply, QuitReplied, CutFault, IsBroken, HandledAs, GoesOn, Replied, Refused}
use Rattle.ts_engine.proofs.Quits.{goes_on-append, goes_on-one}

-- the same bytes, written differently
pub grows_as : (had has : List ℕ → Type 0) (x y : List ℕ) → x ≡ y → Grows had has x → Grows had has y
grows_as had has x y same grown = subst (λ (l : List ℕ). Grows had has l) same grown

module _ {handler : Handler} where
  -- bytes were fed, and nothing else happened
  pub fed_only : (old new : Progress handler) (has : List ℕ → Type 0) (bytes : List ℕ) → ((more : List ℕ) → stream_of new.reader more ≡ stream_of old.reader (bytes ++ more))
      → new.executed ≡ old.executed → new.world ≡ old.world → HandledAll old new has has bytes []
  fed_only old new has bytes stream executed world = record {
    done = [];
    text = [];
    stream = λ more. sym (stream more);
    run = (refl, world);
    goes_on = refl;
    grown = grows_none has;
    executed = omega (arith, executed);
  }

  -- a request was handled, and its reply written
  pub went_one : (old new : Progress handler) (had has : List ℕ → Type 0) (request : Request) (place : ℕ) (text : List ℕ)
      → ((more : List ℕ) → stream_of old.reader more ≡ Then request place (stream_of new.reader more))
      → handler.handles old.world request text new.world → is_quit request ≡ false → Grows had has text → new.executed ≡ old.executed + 1 → HandledAll old new had has [] []
  went_one old new had has request place text stream turned on grown executed = record {
    done = record { request = request; after = place } ∷ [];
    text = text;
    stream = stream;
    run = Runs-one handler.handles old.world new.world request text turned;
    goes_on = goes_on-one request on;
    grown = grows_as had has text (text ++ []) (sym (append-nil text)) grown;
    executed = omega (arith, executed);
  }

  module _ (first mid : Progress handler) (had has' : List ℕ → Type 0) (x : List ℕ) (before : HandledAll first mid had has' x []) where
    had_text : Grows had has' before.text
    had_text = grows_as had has' (before.text ++ []) before.text (append-nil before.text) before.grown

    pub streams : (last : Progress handler) (y : List ℕ) (done : List LocatedRequest) → ((more : List ℕ) → stream_of mid.reader (y ++ more) ≡ then_all done (stream_of last.reader more))
        → (more : List ℕ) → stream_of first.reader ((x ++ y) ++ more) ≡ then_all (before.done ++ done) (stream_of last.reader more)
    streams last y done after more =
        ap (stream_of first.reader) (append_assoc x y more) ∙ before.stream (y ++ more) ∙ ap (then_all before.done) (after more)
        ∙ sym (then_all-append before.done done (stream_of last.reader more))

    pub runs : (to : handler.World) (done : List LocatedRequest) (text : List ℕ) → Runs handler.handles mid.world (requests_in done) text to
        → Runs handler.handles first.world (requests_in (before.done ++ done)) (before.text ++ text) to
    runs to done text run =
        subst (λ (l : List Request). Runs handler.handles first.world l (before.text ++ text) to) (sym (requests_in-append before.done done))
        (Runs-append handler.handles first.world mid.world to (requests_in before.done) (requests_in done) before.text text before.run run)

    pub grew : (has : List ℕ → Type 0) (text tail : List ℕ) → Grows has' has (text ++ tail) → Grows had has ((before.text ++ text) ++ tail)
    grew has text tail grown =
        grows_as had has (before.text ++ (text ++ tail)) ((before.text ++ text) ++ tail) (sym (append_assoc before.text text tail))
        (grows_twice had has' has before.text (text ++ tail) had_text grown)

    -- two parts make one
    pub went_on : (last : Progress handler) (has : List ℕ → Type 0) (y tail : List ℕ) → HandledAll mid last has' has y tail → HandledAll first last had has (x ++ y) tail
    went_on last has y tail after = record {
      done = before.done ++ after.done;
      text = before.text ++ after.text;
      stream = streams last y after.done after.stream;
      run = runs last.world after.done after.text after.run;
      goes_on = goes_on-append before.done after.done before.goes_on after.goes_on;
      grown = grew has after.text tail after.grown;
      executed = omega (arith, before.executed, after.executed, length-append before.done after.done);
    }

    abbrev pub last_reply_on : (said : LastRequest handler) (last : Progress handler) (has : List ℕ → Type 0) (y : List ℕ) → LastReply said mid last has' has y → LastReply said first last had has (x ++ y)
    last_reply_on said last has y cut = record {
      done = before.done ++ cut.done;
      text = before.text ++ cut.text;
      mid = cut.mid;
      last = cut.last;
      reply = cut.reply;
      kept = cut.kept;
      stream = λ more. streams last y (cut.done ++ cut.last ∷ []) cut.stream more
          ∙ ap (λ (l : List LocatedRequest). then_all l (stream_of last.reader more)) (sym (append_assoc before.done cut.done (cut.last ∷ [])));
      run = runs cut.mid cut.done cut.text cut.run;
      goes_on = goes_on-append before.done cut.done before.goes_on cut.goes_on;
      turned = cut.turned;
      grown = grew has cut.text (take cut.kept cut.reply) cut.grown;
      executed = omega (arith, before.executed, cut.executed, length-append before.done cut.done);
    }

    abbrev pub quitted_on : (last : Progress handler) (has : List ℕ → Type 0) (y : List ℕ) → QuitReplied mid last has' has y → QuitReplied first last had has (x ++ y)
    quitted_on last has y quitted = record { reply = last_reply_on (was_handled handler) last has y quitted.reply; whole = quitted.whole; asked = quitted.asked }

    pub went_some_on : (last : Progress handler) (has : List ℕ → Type 0) (y : List ℕ) → HandledSome mid last has' has y → HandledSome first last had has (x ++ y)
    went_some_on last has y after = record {
      done = before.done ++ after.done;
      text = before.text ++ after.text;
      stream = λ more.
          let rest = after.stream more in (
            rest.0,
            ap (stream_of first.reader) (append_assoc x y more) ∙ before.stream (y ++ more) ∙ ap (then_all before.done) rest.1
                ∙ sym (then_all-append before.done after.done rest.0),
          );
      run = runs last.world after.done after.text after.run;
      goes_on = goes_on-append before.done after.done before.goes_on after.goes_on;
      grown = grows_twice had has' has before.text after.text had_text after.grown;
      executed = omega (arith, before.executed, after.executed, length-append before.done after.done);
    }

    abbrev pub cut_fault_on : (last : Progress handler) (has : List ℕ → Type 0) (y : List ℕ) → CutFault mid last has' has y → CutFault first last had has (x ++ y)
    cut_fault_on last has y cut = record { fault = cut.fault; kept = cut.kept; went = went_on last has y _ cut.went; broken = cut.broken }

    -- a result after a part is a result after both
    abbrev pub answers_on : (answer : Go) (last : Progress handler) (has : List ℕ → Type 0) (y : List ℕ) → HandledAs answer mid last has' has y → HandledAs answer first last had has (x ++ y)
    answers_on go.More last has y after = (went_on last has y [] after.0, after.1)
    answers_on go.Quit last has y after = quitted_on last has y after
    answers_on (go.Broken fault) last has y after = (went_on last has y _ after.0, after.1)
    answers_on go.WriteFault last has y after = ⊎_elim (λ cut. inl (last_reply_on handler.cut last has y cut)) (λ cut. inr (cut_fault_on last has y cut)) after
    answers_on go.Memory last has y after = went_some_on last has y after

    -- a result without more bytes is a result after the part
    pub answers_then : (answer : Go) (last : Progress handler) (has : List ℕ → Type 0) → HandledAs answer mid last has' has [] → HandledAs answer first last had has x
    answers_then answer last has after = subst (λ (l : List ℕ). HandledAs answer first last had has l) (append-nil x) (answers_on answer last has [] after)

    pub went_then : (last : Progress handler) (has : List ℕ → Type 0) → HandledAll mid last has' has [] [] → HandledAll first last had has x []
    went_then last has after = subst (λ (l : List ℕ). HandledAll first last had has l []) (append-nil x) (went_on last has [] [] after)

  -- out of memory for a piece: nothing was done
  pub not_fed : (old new : Progress handler) (has : List ℕ → Type 0) (bytes : List ℕ) → new.executed ≡ old.executed → new.world ≡ old.world → HandledSome old new has has bytes
  not_fed old new has bytes executed world = record {
    done = [];
    text = [];
    stream = λ more. (stream_of old.reader (bytes ++ more), refl);
    run = (refl, world);
    goes_on = refl;
    grown = grows_none has;
    executed = omega (arith, executed);
  }

  -- a piece was fed, and the requests that it completes were answered
  pub piece_answers : (answer : Go) (old fed new : Progress handler) (had has : List ℕ → Type 0) (bytes : List ℕ)
      → ((more : List ℕ) → stream_of fed.reader more ≡ stream_of old.reader (bytes ++ more)) → fed.executed ≡ old.executed → fed.world ≡ old.world
      → HandledAs answer fed new had has [] → HandledAs answer old new had has bytes
  piece_answers answer old fed new had has bytes stream executed world after =
      answers_then old fed had had bytes (fed_only old fed had bytes stream executed world) answer new has after

  -- a request was handled, and a prefix of its reply written
  abbrev last_reply : (said : LastRequest handler) (request : Request) (old new : Progress handler) (reader : Reading) (had has : List ℕ → Type 0) (reply : List ℕ) (kept : ℕ)
      → ((more : List ℕ) → stream_of old.reader more ≡ Then request reader.begin (stream_of reader more))
      → said old.world request reply kept new.world → Grows had has (take kept reply) → new.reader ≡ reader → new.executed ≡ old.executed + 1 → LastReply said old new had has []
  last_reply said request old new reader had has reply kept stream turned grown same executed = record {
    done = [];
    text = [];
    mid = old.world;
    last = record { request = request; after = reader.begin };
    reply = reply;
    kept = kept;
    stream = λ more. stream more ∙ ap (λ (r : Reading). Then request reader.begin (stream_of r more)) (sym same);
    run = (refl, refl);
    goes_on = refl;
    turned = turned;
    grown = grown;
    executed = omega (arith, executed);
  }

  -- the next request was answered
  pub answered_next : (answer : Option Go) (request : Request) (old new : Progress handler) (reader : Reading) (had has : List ℕ → Type 0)
      → ((more : List ℕ) → stream_of old.reader more ≡ Then request reader.begin (stream_of reader more)) → old.reader.begin < reader.begin
      → Replied answer request (record { reader = reader; executed = old.executed; world = old.world }) new had has → GoesOn answer old new had has
  answered_next None request old new reader had has stream onward replied = (
    went_one old new had has request reader.begin replied.reply
        (λ more. stream more ∙ ap (λ (r : Reading). Then request reader.begin (stream_of r more)) (sym replied.reader))
        replied.turned.0 replied.end replied.turned.1 replied.executed,
    subst (λ (r : Reading). old.reader.begin < r.begin) (sym replied.reader) onward,
  )
  answered_next (Some go.Quit) request old new reader had has stream onward replied = record {
    reply = last_reply (was_handled handler) request old new reader had has replied.reply (length replied.reply) stream replied.turned.0
        (grows_as had has replied.reply (take (length replied.reply) replied.reply) (sym (take-length replied.reply)) replied.turned.1) replied.reader replied.executed;
    whole = take-length replied.reply;
    asked = replied.end;
  }
  answered_next (Some go.WriteFault) request old new reader had has stream onward replied =
      inl (last_reply handler.cut request old new reader had has replied.reply replied.turned.kept stream replied.turned.cut replied.turned.grown replied.reader replied.executed)
  answered_next (Some go.More) request old new reader had has stream onward replied = absurd replied.turned
  answered_next (Some (go.Broken fault)) request old new reader had has stream onward replied = absurd replied.turned
  answered_next (Some go.Memory) request old new reader had has stream onward replied = absurd replied.turned

  -- the next event was a protocol error, and it was answered
  pub refused_next : (answer : Go) (fault : Protocol) (old new : Progress handler) (had has : List ℕ → Type 0)
      → ((more : List ℕ) → stream_of new.reader more ≡ stream_of old.reader more) → IsBroken fault old
      → new.executed ≡ old.executed → new.world ≡ old.world → Refused answer fault had has → GoesOn (Some answer) old new had has
  refused_next (go.Broken told) fault old new had has stream broken executed world wrote =
      subst (λ (f : Protocol). GoesOn (Some (go.Broken f)) old new had has) (sym wrote.0) (
        record { done = []; text = []; stream = λ more. sym (stream more); run = (refl, world); goes_on = refl; grown = wrote.1; executed = omega (arith, executed) },
        λ more. stream more ∙ broken more,
      )
  refused_next go.WriteFault fault old new had has stream broken executed world wrote = inr (record {
    fault = fault;
    kept = wrote.len;
    went = record { done = []; text = []; stream = λ more. sym (stream more); run = (refl, world); goes_on = refl; grown = wrote.grows; executed = omega (arith, executed) };
    broken = λ more. stream more ∙ broken more;
  })
  refused_next go.Quit fault old new had has stream broken executed world wrote = absurd wrote
  refused_next go.More fault old new had has stream broken executed world wrote = absurd wrote
  refused_next go.Memory fault old new had has stream broken executed world wrote = absurd wrote
