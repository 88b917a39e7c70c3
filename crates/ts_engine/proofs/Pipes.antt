-- Reading and answering a whole input adds up.
use Rattle.std.specs.Prelude.{◌≢◌, true, Option, Some, None, IfSome}
use Rattle.std.specs.Io.KnownBytes.{Consumes, Keeps, IsAtEnd}
use Rattle.std.proofs.KnownBytes.{Consumes-nil, Consumes-trans, Consumes-kept}
use Rattle.std.proofs.Common.{◌≡◌, ◌⊎◌, inl, inr, ◌<◌, ℕ, ◌+◌, ◌≤◌, List, [], ◌++◌, length, take, refl, sym, ◌∙◌, ap, subst, arith, length-append}
use Rattle.ts_resp.specs.Reading.{Reading, stream_of, fed, ended_at, unfinished}
use Rattle.ts_spec.specs.Wire.{stream_at, read_on}
use Rattle.ts_spec.specs.declared.wire.WireLimits.{WireLimits}
use Rattle.ts_engine.specs.declared.piped.End.{End}
use Rattle.ts_engine.specs.declared.piped.End.TheVariants as end
use Rattle.ts_engine.specs.declared.piped.Step.{Step}
use Rattle.ts_io.specs.Causes.{Rose}
use Rattle.ts_execution.specs.Handling.{plain}
use Rattle.ts_execution.specs.Handler.{Handler, NoFault, AFault}
use Rattle.ts_engine.specs.declared.replying.Go.{Go}
use Rattle.ts_engine.specs.declared.replying.Go.TheVariants as go
use Rattle.ts_engine.specs.Ending.{end_at, end_by}
use Rattle.ts_engine.specs.Session.{Progress, HandledAll, QuitReplied, IsUpToDate, HandledAs}
use Rattle.ts_engine.specs.Piping.{beginning_of, ReadAll, Ends, EndsOr, PIECE, shown_at, is_of_input, has_ended, Pumped, PipedWith, HasCauses, HasCausesWith}
use Rattle.ts_engine.proofs.Places.{reply_past, break_past}
use Rattle.ts_engine.proofs.Sessions.{fed_only, not_fed, went_on, quitted_on, answers_on}

-- the last read went at most one piece past it
near_by : (shown : Option ℕ) (before taken : ℕ) → taken ≤ before + PIECE → IfSome shown (λ place. before ≤ place) → IfSome shown (λ place. taken ≤ place + PIECE)
near_by None before taken piece past = tt
near_by (Some place) before taken piece past = omega (arith, piece, past)

module _ {handler : Handler} where
  -- this many bytes were read, and their requests handled
  pub record SoFar (limits : WireLimits) (taken : ℕ) (from : handler.World) (now : Progress handler) (left rest : Option (List ℕ)) (had has : List ℕ → Type 0) : Type 0 where
    pub bytes : List ℕ
    pub count : length bytes ≡ taken
    pub took : Consumes left rest bytes
    pub went : HandledAll (beginning_of handler limits from) now had has bytes []

  -- nothing was read yet
  pub so_far_none : (limits : WireLimits) (now : Progress handler) (left : Option (List ℕ)) (has : List ℕ → Type 0)
      → ((more : List ℕ) → stream_of now.reader more ≡ stream_at limits 0 more) → now.executed ≡ 0 → SoFar limits 0 now.world now left left has has
  so_far_none limits now left has stream executed = record {
    bytes = [];
    count = refl;
    took = Consumes-nil left;
    went = fed_only (beginning_of handler limits now.world) now has [] stream executed refl;
  }

  -- the end of the input, or QUIT, after a prefix is that of all bytes
  abbrev ended_on : (first mid last : Progress handler) (had has' has : List ℕ → Type 0) (x y : List ℕ) (rest : Option (List ℕ))
      → HandledAll first mid had has' x [] → ReadAll rest mid last has' has y ⊎ QuitReplied mid last has' has y → ReadAll rest first last had has (x ++ y) ⊎ QuitReplied first last had has (x ++ y)
  ended_on first mid last had has' has x y rest went (inl all) =
      inl (record { went = went_on first mid had has' x went last has y [] all.went; ended = all.ended; at_end = all.at_end })
  ended_on first mid last had has' has x y rest went (inr quitted) = inr (quitted_on first mid had has' x went last has y quitted)

  -- the end of the input, by where it is
  ends_read : (place : Option ℕ) (left : Option (List ℕ)) (old new : Progress handler) (had has : List ℕ → Type 0) → HandledAll old new had has [] [] → stream_of new.reader [] ≡ ended_at place → IsAtEnd left
      → Ends (end_at place) left old new had has []
  ends_read None left old new had has went is at_end = inl (record { went = went; ended = is; at_end = at_end })
  ends_read (Some place) left old new had has went is at_end = (went, is, at_end)

  -- a read returned nothing: the end of the input
  pub pumped_end : (now : Progress handler) (left rest : Option (List ℕ)) (has : List ℕ → Type 0) (e : End) → e ≡ end_at (unfinished now.reader) → IsUpToDate now
      → (n : ℕ) (buffer : List ℕ) → n ≡ 0 → Consumes left rest (take n buffer) → IsAtEnd rest
      → Pumped (record { taken = 0; end = Some e }) left rest now now has has
  pumped_end now left rest has e is current n buffer none took at_end = record {
    bytes = [];
    count = refl;
    took = subst (λ (i : ℕ). Consumes left rest (take i buffer)) none took;
    ends = subst (λ (x : End). Ends x rest now now has has []) (sym is)
        (ends_read (unfinished now.reader) rest now now has has (fed_only now now has [] (λ more. refl) refl refl) current.rest at_end);
    none = λ same. refl;
  }

  -- an end after a prefix is an end after all bytes
  abbrev ends_on : (e : End) (first mid last : Progress handler) (had has' has : List ℕ → Type 0) (x y : List ℕ) (rest : Option (List ℕ))
      → HandledAll first mid had has' x [] → Ends e rest mid last has' has y → Ends e rest first last had has (x ++ y)
  ends_on end.Ended first mid last had has' has x y rest went ends = ended_on first mid last had has' has x y rest went ends
  ends_on (end.Truncated place) first mid last had has' has x y rest went ends = (went_on first mid had has' x went last has y [] ends.0, ends.1, ends.2)
  ends_on (end.Protocol fault) first mid last had has' has x y rest went ends = answers_on first mid had has' x went (go.Broken fault) last has y ends
  ends_on end.ReadFault first mid last had has' has x y rest went ends = answers_on first mid had has' x went go.More last has y ends
  ends_on end.WriteFault first mid last had has' has x y rest went ends = answers_on first mid had has' x went go.WriteFault last has y ends
  ends_on end.Memory first mid last had has' has x y rest went ends = answers_on first mid had has' x went go.Memory last has y ends
  ends_on end.Budget first mid last had has' has x y rest went ends = answers_on first mid had has' x went go.More last has y ends

  -- the input shows it past what the session was fed before
  ends_past : (e : End) (first mid last : Progress handler) (had has' has : List ℕ → Type 0) (x y : List ℕ) (rest : Option (List ℕ))
      → (went : HandledAll first mid had has' x []) → IsUpToDate mid → (ends : Ends e rest mid last has' has y)
      → IfSome (shown_at e rest first last had has (x ++ y) (ends_on e first mid last had has' has x y rest went ends)) (λ place. fed mid.reader ≤ place)
  ends_past end.Ended first mid last had has' has x y rest went current (inl all) = tt
  ends_past end.Ended first mid last had has' has x y rest went current (inr quitted) =
      let past : fed mid.reader < quitted.reply.last.after = reply_past mid last has' has y current quitted.reply in
      omega (arith, past)
  ends_past (end.Truncated place) first mid last had has' has x y rest went current ends = tt
  ends_past (end.Protocol fault) first mid last had has' has x y rest went current ends = break_past mid last has' has y _ fault current ends.0 ends.1
  ends_past end.ReadFault first mid last had has' has x y rest went current ends = tt
  ends_past end.WriteFault first mid last had has' has x y rest went current (inl cut) =
      let past : fed mid.reader < cut.last.after = reply_past mid last has' has y current cut in
      omega (arith, past)
  ends_past end.WriteFault first mid last had has' has x y rest went current (inr cut) = break_past mid last has' has y _ cut.fault current cut.went cut.broken
  ends_past end.Memory first mid last had has' has x y rest went current ends = tt
  ends_past end.Budget first mid last had has' has x y rest went current ends = tt

  -- it is the end of the input, if it was that after the prefix
  of_input : (e : End) (first mid last : Progress handler) (had has' has : List ℕ → Type 0) (x y : List ℕ) (rest : Option (List ℕ)) (went : HandledAll first mid had has' x []) (ends : Ends e rest mid last has' has y)
      → is_of_input e rest first last had has (x ++ y) (ends_on e first mid last had has' has x y rest went ends) ≡ is_of_input e rest mid last has' has y ends
  of_input end.Ended first mid last had has' has x y rest went (inl all) = refl
  of_input end.Ended first mid last had has' has x y rest went (inr quitted) = refl
  of_input (end.Truncated place) first mid last had has' has x y rest went ends = refl
  of_input (end.Protocol fault) first mid last had has' has x y rest went ends = refl
  of_input end.ReadFault first mid last had has' has x y rest went ends = refl
  of_input end.WriteFault first mid last had has' has x y rest went ends = refl
  of_input end.Memory first mid last had has' has x y rest went ends = refl
  of_input end.Budget first mid last had has' has x y rest went ends = refl

  module _ (limits : WireLimits) (taken : ℕ) (from : handler.World) (mid : Progress handler) (left between : Option (List ℕ)) (had has' : List ℕ → Type 0)
      (so_far : SoFar limits taken from mid left between had has') where
    -- one more piece was handled
    pub so_far_more : (step : Step) (now : Progress handler) (rest : Option (List ℕ)) (has : List ℕ → Type 0) → step.end ≡ None
        → Pumped step between rest mid now has' has → SoFar limits (taken + step.taken) from now left rest had has
    so_far_more step now rest has is pumped =
        let ends = subst (λ e. EndsOr e rest mid now has' has pumped.bytes) is pumped.ends in
        record {
          bytes = so_far.bytes ++ pumped.bytes;
          count = omega (arith, so_far.count, pumped.count, length-append so_far.bytes pumped.bytes);
          took = Consumes-trans left between rest so_far.bytes pumped.bytes so_far.took pumped.took;
          went = went_on (beginning_of handler limits from) mid had has' so_far.bytes so_far.went now has pumped.bytes [] ends.0;
        }

    -- the last piece was handled
    pub piped_last : (budget executed count : ℕ) (e : End) (now : Progress handler) (rest : Option (List ℕ)) (has : List ℕ → Type 0)
        → executed ≡ now.executed → taken < budget → taken + count ≤ budget → (e ≡ end.Budget → ⊥) → IsUpToDate mid → fed mid.reader ≡ taken → count ≤ PIECE
        → Pumped (record { taken = count; end = Some e }) between rest mid now has' has
        → PipedWith handler limits budget (record { executed = executed; taken = taken + count; end = e }) from now.world left rest had has
    piped_last budget executed count e now rest has done less within unspent current fed_is piece pumped = record {
      bytes = so_far.bytes ++ pumped.bytes;
      last = now;
      count = omega (arith, so_far.count, pumped.count, length-append so_far.bytes pumped.bytes);
      within = within;
      spent = λ same. absurd (unspent same);
      took = Consumes-trans left between rest so_far.bytes pumped.bytes so_far.took pumped.took;
      world = refl;
      executed = sym done;
      ends = ends_on e (beginning_of handler limits from) mid now had has' has so_far.bytes pumped.bytes rest so_far.went pumped.ends;
      read_bound = near_by (shown_at e rest (beginning_of handler limits from) now had has (so_far.bytes ++ pumped.bytes) (ends_on e (beginning_of handler limits from) mid now had has' has so_far.bytes pumped.bytes rest so_far.went pumped.ends)) (fed mid.reader) (taken + count) (omega (arith, fed_is, piece))
          (ends_past e (beginning_of handler limits from) mid now had has' has so_far.bytes pumped.bytes rest so_far.went current pumped.ends);
      below = λ same.
          let none : count ≡ 0 = pumped.none (sym (of_input e (beginning_of handler limits from) mid now had has' has so_far.bytes pumped.bytes rest so_far.went pumped.ends) ∙ same) in
          omega (arith, none, less);
    }

    pub piped_end : (budget executed : ℕ) (step : Step) (e : End) (now : Progress handler) (rest : Option (List ℕ)) (has : List ℕ → Type 0)
        → executed ≡ now.executed → taken < budget → taken + step.taken ≤ budget → step.end ≡ Some e → (step.end ≡ Some end.Budget → ⊥)
        → IsUpToDate mid → fed mid.reader ≡ taken → step.taken ≤ PIECE
        → Pumped step between rest mid now has' has
        → PipedWith handler limits budget (record { executed = executed; taken = taken + step.taken; end = e }) from now.world left rest had has
    piped_end budget executed step e now rest has done less within is unspent current fed_is piece pumped =
        piped_last budget executed step.taken e now rest has done less within (λ same. unspent (is ∙ ap Some same)) current fed_is piece
        (subst (λ (o : Option End). Pumped (record { taken = step.taken; end = o }) between rest mid now has' has) is pumped)

    -- the budget is used up
    pub piped_budget : (budget executed : ℕ) → executed ≡ mid.executed → taken ≡ budget → IsUpToDate mid
        → PipedWith handler limits budget (record { executed = executed; taken = taken; end = end.Budget }) from mid.world left between had has'
    piped_budget budget executed done spent current = record {
      bytes = so_far.bytes;
      last = mid;
      count = so_far.count;
      within = omega (arith, spent);
      spent = λ _. spent;
      took = so_far.took;
      world = refl;
      executed = sym done;
      ends = (so_far.went, current);
      read_bound = tt;
      below = λ same. (cc);
    }

  -- out of memory for the session
  pub piped_none : (limits : WireLimits) (budget : ℕ) (from : handler.World) (left : Option (List ℕ)) (has : List ℕ → Type 0)
      → PipedWith handler limits budget (record { executed = 0; taken = 0; end = end.Memory }) from from left left has has
  piped_none limits budget from left has = record {
    bytes = [];
    last = beginning_of handler limits from;
    count = refl;
    within = omega arith;
    spent = λ same. (cc);
    took = Consumes-nil left;
    world = refl;
    executed = refl;
    ends = not_fed (beginning_of handler limits from) (beginning_of handler limits from) has [] refl refl;
    read_bound = tt;
    below = λ same. (cc);
  }

  -- how the input continues or ends, by the session's result
  abbrev ends_by : (answer : Go) (rest : Option (List ℕ)) (old new : Progress handler) (had has : List ℕ → Type 0) (bytes : List ℕ) → HandledAs answer old new had has bytes → EndsOr (end_by answer) rest old new had has bytes
  ends_by go.More rest old new had has bytes goes = goes
  ends_by go.Quit rest old new had has bytes goes = inr goes
  ends_by (go.Broken fault) rest old new had has bytes goes = goes
  ends_by go.WriteFault rest old new had has bytes goes = goes
  ends_by go.Memory rest old new had has bytes goes = goes

  -- no result of the session is the end of the input
  no_end : (answer : Go) (rest : Option (List ℕ)) (old new : Progress handler) (had has : List ℕ → Type 0) (bytes : List ℕ) (goes : HandledAs answer old new had has bytes)
      → has_ended (end_by answer) rest old new had has bytes (ends_by answer rest old new had has bytes goes) ≡ true → ⊥
  no_end go.More rest old new had has bytes goes same = (cc)
  no_end go.Quit rest old new had has bytes goes same = (cc)
  no_end (go.Broken fault) rest old new had has bytes goes same = (cc)
  no_end go.WriteFault rest old new had has bytes goes same = (cc)
  no_end go.Memory rest old new had has bytes goes same = (cc)

  -- a read returned some bytes, and their requests were handled
  pub pumped_piece : (answer : Go) (e : Option End) (taken : ℕ) (old new : Progress handler) (left rest : Option (List ℕ)) (had has : List ℕ → Type 0) (bytes : List ℕ) → e ≡ end_by answer
      → length bytes ≡ taken → Consumes left rest bytes → HandledAs answer old new had has bytes → Pumped (record { taken = taken; end = e }) left rest old new had has
  pumped_piece answer e taken old new left rest had has bytes is count took goes =
      subst (λ (x : Option End). Pumped (record { taken = taken; end = x }) left rest old new had has) (sym is) (record {
        bytes = bytes;
        count = count;
        took = took;
        ends = ends_by answer rest old new had has bytes goes;
        none = λ same. absurd (no_end answer rest old new had has bytes goes same);
      })

  -- a read failed
  pub pumped_fault : (now : Progress handler) (left rest : Option (List ℕ)) (has : List ℕ → Type 0) → Keeps left rest → IsUpToDate now
      → Pumped (record { taken = 0; end = Some end.ReadFault }) left rest now now has has
  pumped_fault now left rest has keeps current = record {
    bytes = [];
    count = refl;
    took = Consumes-kept left left rest [] (Consumes-nil left) keeps;
    ends = (fed_only now now has [] (λ more. refl) refl refl, current);
    none = λ same. refl;
  }

-- a new session is the start of an input
pub begins_current : (reader : Reading) (limits : WireLimits) → ((more : List ℕ) → stream_of reader more ≡ stream_at limits 0 more)
    → unfinished reader ≡ None → stream_of reader [] ≡ ended_at (unfinished reader)
begins_current reader limits stream none = stream [] ∙ unfold read_on in ap ended_at (sym none)

-- the session continues if its result is no end
pub goes_by : (answer : Go) (e : Option End) → e ≡ end_by answer → e ≡ None → answer ≡ go.More
goes_by go.More e is none = refl
goes_by go.Quit e is none = (cc)
goes_by (go.Broken fault) e is none = (cc)
goes_by go.WriteFault e is none = (cc)
goes_by go.Memory e is none = (cc)

-- counters that did not change before a piece have the same causes
pub causes_from : (handler : Handler) (e : End) (first reads reads' wrote writes writes' : ℕ) (known own own' : handler.Faults) → reads ≡ first → NoFault handler wrote writes known own
    → HasCausesWith handler e reads reads' writes writes' own own' → HasCausesWith handler e first reads' wrote writes' known own'
causes_from handler e first reads reads' wrote writes writes' known own own' read write causes =
    subst (λ (n : ℕ). HasCausesWith handler e n reads' wrote writes' known own') read
    (subst (λ (n : ℕ). HasCausesWith handler e reads reads' n writes' known own') write.0 (subst (λ (f : handler.Faults). HasCausesWith handler e reads reads' writes writes' f own') write.1 causes))

-- the plain handler has no counters of its own
failed_plain : (before now : ℕ) (own own' : plain.Faults) → AFault plain before now own own' → (before ≤ now) × Rose before now
failed_plain before now own own' (inl failed) = (failed.0, failed.1)
failed_plain before now own own' (inr own_failed) = absurd own_failed.1

plain_later : (e : End) (writes writes' : ℕ) (own own' : plain.Faults) → (e ≡ end.WriteFault → AFault plain writes writes' own own') → (e ≢ end.WriteFault → NoFault plain writes writes' own own') → writes ≤ writes'
plain_later end.WriteFault writes writes' own own' failed fine = (failed_plain writes writes' own own' (failed refl)).0
plain_later end.Ended writes writes' own own' failed fine = omega (arith, (fine (λ is. (cc))).0)
plain_later (end.Truncated place) writes writes' own own' failed fine = omega (arith, (fine (λ is. (cc))).0)
plain_later (end.Protocol fault) writes writes' own own' failed fine = omega (arith, (fine (λ is. (cc))).0)
plain_later end.ReadFault writes writes' own own' failed fine = omega (arith, (fine (λ is. (cc))).0)
plain_later end.Memory writes writes' own own' failed fine = omega (arith, (fine (λ is. (cc))).0)
plain_later end.Budget writes writes' own own' failed fine = omega (arith, (fine (λ is. (cc))).0)

pub causes_plain : (e : End) (reads reads' writes writes' : ℕ) (own own' : plain.Faults) → HasCausesWith plain e reads reads' writes writes' own own' → HasCauses e reads reads' writes writes'
causes_plain e reads reads' writes writes' own own' causes = record {
  reads_later = causes.reads_later;
  writes_later = plain_later e writes writes' own own' causes.write causes.unwritten;
  read = causes.read;
  write = λ is. (failed_plain writes writes' own own' (causes.write is)).1;
  unread = causes.unread;
  unwritten = λ is. (causes.unwritten is).0;
}
