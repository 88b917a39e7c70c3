-- Reading and answering a whole capture adds up.
use Rattle.std.specs.Prelude.{true, Option, Some, None}
use Rattle.std.specs.Io.KnownBytes.{Consumes, Keeps, IsAtEnd}
use Rattle.std.proofs.KnownBytes.{Consumes-nil, Consumes-trans, Consumes-kept}
use Rattle.std.proofs.Common.{◌≡◌, ◌<◌, ℕ, ◌+◌, ◌≤◌, List, [], ◌++◌, length, take, refl, sym, ◌∙◌, ap, subst, arith, length-append, append-nil}
use Rattle.ts_spec.specs.Run.{is_quit}
use Rattle.ts_spec.specs.declared.wire.WireLimits.{WireLimits}
use Rattle.ts_db.specs.DbState.{DbState}
use Rattle.ts_mux.specs.Capture.{Capture, capture, frames_of, ending_of, start}
use Rattle.ts_mux.specs.Framing.{unfinished, ended_at}
use Rattle.ts_mux.specs.Order.{Item, order, closing}
use Rattle.ts_execution.specs.Handling.{World}
use Rattle.ts_engine.specs.declared.capture_session.CaptureGo.{CaptureGo}
use Rattle.ts_engine.specs.declared.capture_session.CaptureGo.TheVariants as capture_go
use Rattle.ts_engine.specs.declared.capture_session.CaptureSession.{CaptureSession as Snapshot}
use Rattle.ts_engine.specs.declared.capture_run.CaptureEnd.{CaptureEnd}
use Rattle.ts_engine.specs.declared.capture_run.CaptureEnd.TheVariants as end
use Rattle.ts_engine.specs.declared.capture_run.CaptureRead.{CaptureRead}
use Rattle.ts_engine.specs.CaptureSteps.{Progress, beginning, HandledAll, HandledAs, IsAt, IsUpToDate, Ends, EndsOr, done_of, has_ended, Pumped, CaptureRun, HasCauses, end_at, end_by}
use Rattle.ts_engine.specs.Captured.{IsNear, items, ending}
use Rattle.ts_engine.specs.Piping.{PIECE}
use Rattle.ts_engine.specs.CaptureView.{coming, capture_progress, HasAnswered, Begins}
use Rattle.ts_mux.proofs.CaptureLemmas.{read_on-nil}
use Rattle.ts_engine.proofs.CapturesOn.{went_none, not_answered, went_on, some_on, last_on, answers_on}
use Rattle.ts_engine.proofs.CaptureItems.{no_frames, its_own_ending}

-- this many bytes were read, and their frames answered
pub record SoFar (limits : WireLimits) (taken : ℕ) (from : World) (now : Progress) (left rest : Option (List ℕ)) (had has : List ℕ → Type 0) : Type 0 where
  pub bytes : List ℕ
  pub count : length bytes ≡ taken
  pub took : Consumes left rest bytes
  pub went : HandledAll (beginning limits from) now had has bytes

-- nothing was read yet
pub so_far_none : (limits : WireLimits) (r : Snapshot) (held : DbState) (readings left : Option (List ℕ)) (has : List ℕ → Type 0) → Begins limits r
    → SoFar limits 0 (record { held = held; readings = readings }) (capture_progress r held readings) left left has has
so_far_none limits r held readings left has begins = record {
  bytes = [];
  count = refl;
  took = Consumes-nil left;
  went = went_none (beginning limits (record { held = held; readings = readings })) (capture_progress r held readings) has []
      (λ more. sym (begins.coming (frames_of (capture more))) ∙ ap (λ (rest : Capture). coming r (frames_of rest)) (sym (begins.capture more)))
      (λ more. ap ending_of (sym (begins.capture more))) refl;
}

-- every complete frame was answered
pub is_at : (r : Snapshot) (held : DbState) (readings : Option (List ℕ)) → HasAnswered r → IsAt (ended_at (unfinished r.frames)) (capture_progress r held readings)
is_at r held readings answered = record {
  items = ap (λ (rest : Capture). coming r (frames_of rest)) answered.rest
      ∙ ap (coming r) (no_frames (unfinished r.frames))
      ∙ ap (closing is_quit) answered.asked;
  is = ap ending_of answered.rest ∙ its_own_ending (unfinished r.frames);
}

pub is_up_to_date : (r : Snapshot) (held : DbState) (readings : Option (List ℕ)) → HasAnswered r → IsUpToDate (capture_progress r held readings)
is_up_to_date r held readings answered = (unfinished r.frames, is_at r held readings answered)

-- nothing was read
same_spot : (now : Progress) (has : List ℕ → Type 0) → HandledAll now now has has []
same_spot now has = went_none now now has [] (λ more. refl) (λ more. refl) refl

-- the end of the input, by where it is
ends_read : (place : Option ℕ) (left : Option (List ℕ)) (now : Progress) (has : List ℕ → Type 0) → IsAt (ended_at place) now → IsAtEnd left → Ends (end_at place) left now now has has []
ends_read None left now has at at_end = (same_spot now has, at, at_end)
ends_read (Some place) left now has at at_end = (same_spot now has, at, at_end)

-- a read returned nothing: the end of the input
pub pumped_end : (r : Snapshot) (held : DbState) (readings left rest : Option (List ℕ)) (has : List ℕ → Type 0) (e : CaptureEnd) → e ≡ end_at (unfinished r.frames) → HasAnswered r
    → (n : ℕ) (buffer : List ℕ) → n ≡ 0 → Consumes left rest (take n buffer) → IsAtEnd rest
    → Pumped (record { taken = 0; end = Some e }) left rest (capture_progress r held readings) (capture_progress r held readings) has has
pumped_end r held readings left rest has e is answered n buffer none took at_end = record {
  bytes = [];
  count = refl;
  took = subst (λ (i : ℕ). Consumes left rest (take i buffer)) none took;
  ends = subst (λ (x : CaptureEnd). Ends x rest (capture_progress r held readings) (capture_progress r held readings) has has []) (sym is)
      (ends_read (unfinished r.frames) rest (capture_progress r held readings) has (is_at r held readings answered) at_end);
  none = λ same. refl;
}

-- an end after a prefix is an end after all bytes
ends_on : (e : CaptureEnd) (first mid last : Progress) (had has' has : List ℕ → Type 0) (x y : List ℕ) (rest : Option (List ℕ))
    → HandledAll first mid had has' x → Ends e rest mid last has' has y → Ends e rest first last had has (x ++ y)
ends_on end.Ended first mid last had has' has x y rest went ends = (went_on first mid had has' x went last has y ends.0, ends.1, ends.2)
ends_on (end.Truncated place) first mid last had has' has x y rest went ends = (went_on first mid had has' x went last has y ends.0, ends.1, ends.2)
ends_on (end.Broken place) first mid last had has' has x y rest went ends = answers_on first mid had has' x went (capture_go.Broken place) last has y ends
ends_on end.ReadFault first mid last had has' has x y rest went ends = (went_on first mid had has' x went last has y ends.0, ends.1)
ends_on end.WriteFault first mid last had has' has x y rest went ends = answers_on first mid had has' x went capture_go.WriteFault last has y ends
ends_on end.Memory first mid last had has' has x y rest went ends = answers_on first mid had has' x went capture_go.Memory last has y ends
ends_on end.Budget first mid last had has' has x y rest went ends = (went_on first mid had has' x went last has y ends.0, ends.1)

-- the items of the pieces before the last one were answered before it was read
near_by : (first mid : Progress) (had has' : List ℕ → Type 0) (bytes x y : List ℕ) → bytes ≡ x ++ y → (went : HandledAll first mid had has' x) → IsUpToDate mid → length y ≤ PIECE
    → (done others : List Item) → done ≡ went.done ++ others → IsNear first.items first.ending bytes done
near_by first mid had has' bytes x y split went current short done others is = record {
  before = x;
  piece = y;
  pieces = split;
  short = short;
  place = current.0;
  unbroken = ap first.ending (sym (append-nil x)) ∙ went.ending [] ∙ current.1.is;
  others = others;
  answered = is ∙ ap (λ (l : List Item). l ++ others)
      (sym (ap first.items (sym (append-nil x)) ∙ went.items [] ∙ ap (λ (l : List Item). went.done ++ l) current.1.items ∙ append-nil went.done));
}

near_on : (e : CaptureEnd) (first mid last : Progress) (had has' has : List ℕ → Type 0) (x y : List ℕ) (rest : Option (List ℕ)) (went : HandledAll first mid had has' x) (ends : Ends e rest mid last has' has y)
    → IsUpToDate mid → length y ≤ PIECE → IsNear first.items first.ending (x ++ y) (done_of e rest first last had has (x ++ y) (ends_on e first mid last had has' has x y rest went ends))
unfolding ends_on went_on answers_on last_on some_on
near_on end.Ended first mid last had has' has x y rest went ends current short = near_by first mid had has' (x ++ y) x y refl went current short _ ends.0.done refl
near_on (end.Truncated place) first mid last had has' has x y rest went ends current short = near_by first mid had has' (x ++ y) x y refl went current short _ ends.0.done refl
near_on (end.Broken place) first mid last had has' has x y rest went ends current short = near_by first mid had has' (x ++ y) x y refl went current short _ ends.0.done refl
near_on end.ReadFault first mid last had has' has x y rest went ends current short = near_by first mid had has' (x ++ y) x y refl went current short _ ends.0.done refl
near_on end.WriteFault first mid last had has' has x y rest went ends current short = near_by first mid had has' (x ++ y) x y refl went current short _ ends.done refl
near_on end.Memory first mid last had has' has x y rest went ends current short = near_by first mid had has' (x ++ y) x y refl went current short _ ends.done refl
near_on end.Budget first mid last had has' has x y rest went ends current short = near_by first mid had has' (x ++ y) x y refl went current short _ ends.0.done refl

module _ (limits : WireLimits) (taken : ℕ) (from : World) (mid : Progress) (left between : Option (List ℕ)) (had has' : List ℕ → Type 0)
    (so_far : SoFar limits taken from mid left between had has') where
  -- one more piece was answered
  pub so_far_more : (read : CaptureRead) (now : Progress) (rest : Option (List ℕ)) (has : List ℕ → Type 0) → read.end ≡ None
      → Pumped read between rest mid now has' has → SoFar limits (taken + read.taken) from now left rest had has
  so_far_more read now rest has is pumped =
      let ends = subst (λ e. EndsOr e rest mid now has' has pumped.bytes) is pumped.ends in
      record {
        bytes = so_far.bytes ++ pumped.bytes;
        count = omega (arith, so_far.count, pumped.count, length-append so_far.bytes pumped.bytes);
        took = Consumes-trans left between rest so_far.bytes pumped.bytes so_far.took pumped.took;
        went = went_on (beginning limits from) mid had has' so_far.bytes so_far.went now has pumped.bytes ends;
      }

  -- the last piece was answered
  replayed_last : (budget count : ℕ) (e : CaptureEnd) (now : Progress) (rest : Option (List ℕ)) (has : List ℕ → Type 0)
      → taken < budget → taken + count ≤ budget → (e ≡ end.Budget → ⊥) → IsUpToDate mid → count ≤ PIECE
      → Pumped (record { taken = count; end = Some e }) between rest mid now has' has → CaptureRun limits budget e from now.world left rest had has
  replayed_last budget count e now rest has less within unspent current short pumped = record {
    bytes = so_far.bytes ++ pumped.bytes;
    last = now;
    within = omega (arith, so_far.count, pumped.count, length-append so_far.bytes pumped.bytes, within);
    spent = λ same. absurd (unspent same);
    below = λ same.
        let none : count ≡ 0 = pumped.none same in
        omega (arith, so_far.count, pumped.count, length-append so_far.bytes pumped.bytes, none, less);
    took = Consumes-trans left between rest so_far.bytes pumped.bytes so_far.took pumped.took;
    world = refl;
    ends = ends_on e (beginning limits from) mid now had has' has so_far.bytes pumped.bytes rest so_far.went pumped.ends;
    near = near_on e (beginning limits from) mid now had has' has so_far.bytes pumped.bytes rest so_far.went pumped.ends current (omega (arith, pumped.count, short));
  }

  pub replayed_end : (budget : ℕ) (read : CaptureRead) (e : CaptureEnd) (now : Progress) (rest : Option (List ℕ)) (has : List ℕ → Type 0)
      → taken < budget → taken + read.taken ≤ budget → read.end ≡ Some e → (read.end ≡ Some end.Budget → ⊥) → IsUpToDate mid → read.taken ≤ PIECE
      → Pumped read between rest mid now has' has → CaptureRun limits budget e from now.world left rest had has
  replayed_end budget read e now rest has less within is unspent current short pumped =
      replayed_last budget read.taken e now rest has less within (λ same. unspent (is ∙ ap Some same)) current short
      (subst (λ (o : Option CaptureEnd). Pumped (record { taken = read.taken; end = o }) between rest mid now has' has) is pumped)

  -- the budget is used up
  pub replayed_budget : (budget : ℕ) → taken ≡ budget → IsUpToDate mid → CaptureRun limits budget end.Budget from mid.world left between had has'
  replayed_budget budget spent current = record {
    bytes = so_far.bytes;
    last = mid;
    within = omega (arith, so_far.count, spent);
    spent = λ _. so_far.count ∙ spent;
    below = λ same. (cc);
    took = so_far.took;
    world = refl;
    ends = (so_far.went, current);
    near = near_by (beginning limits from) mid had has' so_far.bytes so_far.bytes [] (sym (append-nil so_far.bytes)) so_far.went current (omega arith) so_far.went.done [] (sym (append-nil so_far.went.done));
  }

-- no byte was read
no_bytes : (limits : WireLimits) → IsNear (items limits) ending [] []
no_bytes limits = record {
  before = [];
  piece = [];
  pieces = refl;
  short = omega arith;
  place = None;
  unbroken = ap ending_of (read_on-nil 0 0 start);
  others = [];
  answered = ap (λ (c : Capture). order limits (frames_of c) ++ []) (sym (read_on-nil 0 0 start));
}

-- out of memory for the session
pub replayed_none : (limits : WireLimits) (budget : ℕ) (from : World) (left : Option (List ℕ)) (has : List ℕ → Type 0) → CaptureRun limits budget end.Memory from from left left has has
unfolding not_answered
replayed_none limits budget from left has = record {
  bytes = [];
  last = beginning limits from;
  within = omega arith;
  spent = λ same. (cc);
  below = λ same. (cc);
  took = Consumes-nil left;
  world = refl;
  ends = not_answered (beginning limits from) (beginning limits from) has [] refl;
  near = no_bytes limits;
}

-- how the input continues or ends, by the session's result
abbrev ends_by : (answer : CaptureGo) (rest : Option (List ℕ)) (old new : Progress) (had has : List ℕ → Type 0) (bytes : List ℕ) → HandledAs answer old new had has bytes → EndsOr (end_by answer) rest old new had has bytes
ends_by capture_go.More rest old new had has bytes goes = goes
ends_by (capture_go.Broken place) rest old new had has bytes goes = goes
ends_by capture_go.WriteFault rest old new had has bytes goes = goes
ends_by capture_go.Memory rest old new had has bytes goes = goes

-- no result of the session is the end of the input
no_end : (answer : CaptureGo) → has_ended (end_by answer) ≡ true → ⊥
no_end capture_go.More same = (cc)
no_end (capture_go.Broken place) same = (cc)
no_end capture_go.WriteFault same = (cc)
no_end capture_go.Memory same = (cc)

-- a read returned some bytes, and their frames were answered
pub pumped_piece : (answer : CaptureGo) (e : Option CaptureEnd) (taken : ℕ) (old new : Progress) (left rest : Option (List ℕ)) (had has : List ℕ → Type 0) (bytes : List ℕ) → e ≡ end_by answer
    → length bytes ≡ taken → Consumes left rest bytes → HandledAs answer old new had has bytes → Pumped (record { taken = taken; end = e }) left rest old new had has
pumped_piece answer e taken old new left rest had has bytes is count took goes =
    subst (λ (x : Option CaptureEnd). Pumped (record { taken = taken; end = x }) left rest old new had has) (sym is) (record {
      bytes = bytes;
      count = count;
      took = took;
      ends = ends_by answer rest old new had has bytes goes;
      none = λ same. absurd (no_end answer same);
    })

-- the session continues if its result is no end
pub goes_by_end : (answer : CaptureGo) (e : Option CaptureEnd) → e ≡ end_by answer → e ≡ None → answer ≡ capture_go.More
goes_by_end capture_go.More e is none = refl
goes_by_end (capture_go.Broken place) e is none = (cc)
goes_by_end capture_go.WriteFault e is none = (cc)
goes_by_end capture_go.Memory e is none = (cc)

-- a read failed
pub pumped_fault : (r : Snapshot) (held : DbState) (readings left rest : Option (List ℕ)) (has : List ℕ → Type 0) → Keeps left rest → HasAnswered r
    → Pumped (record { taken = 0; end = Some end.ReadFault }) left rest (capture_progress r held readings) (capture_progress r held readings) has has
pumped_fault r held readings left rest has keeps answered = record {
  bytes = [];
  count = refl;
  took = Consumes-kept left left rest [] (Consumes-nil left) keeps;
  ends = (same_spot (capture_progress r held readings) has, is_up_to_date r held readings answered);
  none = λ same. refl;
}

-- counters that did not change before a piece have the same causes
pub causes_from : (e : CaptureEnd) (first reads reads' wrote writes writes' : ℕ) → reads ≡ first → writes ≡ wrote
    → HasCauses e reads reads' writes writes' → HasCauses e first reads' wrote writes'
causes_from e first reads reads' wrote writes writes' read write causes =
    subst (λ (n : ℕ). HasCauses e n reads' wrote writes') read (subst (λ (n : ℕ). HasCauses e reads reads' n writes') write causes)
