-- From what a capture session did to what its end says.
use Rattle.std.specs.Prelude.{Option, Some, None}
use Rattle.std.specs.Io.KnownBytes.{IsAtEnd}
use Rattle.std.proofs.Common.{◌≡◌, ◌≢◌, ◌⊎◌, inl, inr, Bool, true, false, nat_le, ℕ, ◌-◌, ◌<◌, List, [], ◌++◌, length, take, refl, sym, ◌∙◌, ap, subst, arith, length-append, append-nil}
use Rattle.std.proofs.lemmas.Bool.{le-leb, lt-leb}
use Rattle.std.proofs.lemmas.List.{take_all}
use Rattle.ts_io.specs.Causes.{Rose}
use Rattle.ts_db.specs.DbState.{DbState}
use Rattle.ts_mux.specs.Capture as capture
use Rattle.ts_mux.specs.Capture.{Capture}
use Rattle.ts_mux.specs.Framing.{ended_at}
use Rattle.ts_mux.specs.Order.{Item}
use Rattle.ts_words.specs.declared.mode.Mode.TheVariants as mode
use Rattle.ts_words.specs.declared.status.Status.{Status}
use Rattle.ts_words.specs.declared.status.Status.TheVariants as status
use Rattle.ts_execution.specs.Handling.{World, plain}
use Rattle.ts_engine.specs.declared.capture_run.CaptureEnd.{CaptureEnd}
use Rattle.ts_engine.specs.declared.capture_run.CaptureEnd.TheVariants as end
use Rattle.ts_engine.specs.Captured.{items, ending, SomeReplied, FrameCut, EndReplied, Writes, IsNear, ReadBound, Captured, status_of, place_of, status_by, status_captured}
use Rattle.ts_engine.specs.Headline.{Exchange, RunView, exchange_of}
use Rattle.ts_engine.specs.CaptureSteps.{Progress, beginning, HandledAll, HandledSome, LastFrame, IsUpToDate, Ends, done_of, is_of_input, CaptureRun, HasCauses}
use Rattle.ts_engine.specs.Replies.{IsReply, Replies}
use Rattle.ts_engine.specs.Top.{ReportsIn}
use Rattle.ts_engine.proofs.Headlines.{Splits, splits}
use Rattle.ts_engine.proofs.Spending.{first_bytes}

module _ (exchange : Exchange plain) (last : Progress) (at : last.world ≡ exchange.to) where
  module _ (front : List ℕ) (went : HandledAll (beginning exchange.limits exchange.from) last exchange.had exchange.has front) (bytes more : List ℕ) (whole : bytes ≡ front ++ more) where
    pub ends_as : ending bytes ≡ last.ending more
    ends_as = ap ending whole ∙ went.ending more

    -- no item is left, so all were answered
    pub end_replied : (end : Capture) → last.items more ≡ [] → last.ending more ≡ end → EndReplied exchange bytes end
    end_replied end none is =
        let all : items exchange.limits bytes ≡ went.done = ap (items exchange.limits) whole ∙ went.items more ∙ ap (λ (l : List Item). went.done ++ l) none ∙ append-nil went.done in
        record {
          replied = record {
            frames = went.frames;
            replies = subst (λ (w : World). Replies exchange.from (items exchange.limits bytes) went.frames w) at
                (subst (λ (l : List Item). Replies exchange.from l went.frames last.world) (sym all) went.replies);
            grown = went.grown;
          };
          ended = ends_as ∙ is;
        }

  module _ (bytes front : List ℕ) (left : Option (List ℕ)) (split : Splits bytes left front) where
    -- all bytes were read
    pub all_taken : IsAtEnd left → bytes ≡ front ++ []
    all_taken at_end = split.1 ∙ ap (λ (l : List ℕ). front ++ l) (subst IsAtEnd split.2 at_end)

    pub up_to_date : (went : HandledAll (beginning exchange.limits exchange.from) last exchange.had exchange.has front) → (current : IsUpToDate last) → EndReplied exchange front (ended_at current.0)
    up_to_date went current = end_replied front went front [] (sym (append-nil front)) (ended_at current.0) current.1.items current.1.is

    some_replied : HandledSome (beginning exchange.limits exchange.from) last exchange.had exchange.has front → SomeReplied exchange bytes
    some_replied went =
        let rest = went.items split.0 in
        record {
          done = went.done;
          others = rest.0;
          first = ap (items exchange.limits) split.1 ∙ rest.1;
          frames = went.frames;
          replies = subst (λ (w : World). Replies exchange.from went.done went.frames w) at went.replies;
          grown = went.grown;
        }

    frame_cut : LastFrame (beginning exchange.limits exchange.from) last exchange.had exchange.has front → FrameCut exchange bytes
    frame_cut cut =
        let rest = cut.items split.0 in
        record {
          done = cut.done;
          last = cut.last;
          others = rest.0;
          first = ap (items exchange.limits) split.1 ∙ rest.1;
          frames = cut.frames;
          mid = cut.mid;
          text = cut.text;
          kept = cut.kept;
          replies = cut.replies;
          reply = subst (λ (w : World). IsReply cut.mid cut.last.event cut.text w) at cut.reply;
          grown = cut.grown;
        }

    -- what was done with the bytes read is what the end says
    pub writes : (e : CaptureEnd) → Ends e left (beginning exchange.limits exchange.from) last exchange.had exchange.has front → Writes exchange bytes front e
    writes end.Ended ends =
        let whole = all_taken ends.2 in
        (end_replied front ends.0 bytes [] whole capture.Ended ends.1.items ends.1.is, sym (whole ∙ append-nil front))
    writes (end.Truncated place) ends =
        let whole = all_taken ends.2 in
        (end_replied front ends.0 bytes [] whole (capture.Inside place) ends.1.items ends.1.is, sym (whole ∙ append-nil front))
    writes (end.Broken place) ends = end_replied front ends.0 bytes split.0 split.1 (capture.Broken place) (ends.1.items split.0) (ends.1.ending split.0)
    writes end.ReadFault ends = (ends.1.0, up_to_date ends.0 ends.1)
    writes end.Budget ends = (ends.1.0, up_to_date ends.0 ends.1)
    writes end.Memory ends = some_replied ends
    writes end.WriteFault ends = frame_cut ends

    read_bound : (e : CaptureEnd) (ends : Ends e left (beginning exchange.limits exchange.from) last exchange.had exchange.has front)
        → IsNear (items exchange.limits) ending front (done_of e left (beginning exchange.limits exchange.from) last exchange.had exchange.has front ends) → ReadBound exchange bytes front e (writes e ends)
    unfolding writes some_replied frame_cut
    read_bound end.Ended ends near = tt
    read_bound (end.Truncated place) ends near = tt
    read_bound (end.Broken place) ends near =
        subst (λ (l : List Item). IsNear (items exchange.limits) ending front l) (sym (ap (items exchange.limits) split.1 ∙ ends.0.items split.0 ∙ ap (λ (l : List Item). ends.0.done ++ l) (ends.1.items split.0) ∙ append-nil ends.0.done)) near
    read_bound end.ReadFault ends near = tt
    read_bound end.Budget ends near = tt
    read_bound end.Memory ends near = near
    read_bound end.WriteFault ends near = near

-- a run from the empty database, on an input whose bytes are known
module _ (seen : RunView) (held : DbState) (budget : ℕ) (e : CaptureEnd) (bytes : List ℕ) (left : Option (List ℕ)) where
  captured_of : CaptureRun seen.limits.wire budget e (exchange_of seen held).from (exchange_of seen held).to (Some bytes) left seen.had seen.has
      → (had has : List ℕ → Type 0) (given : Status) → ReportsIn (Some mode.Mux) (status_of e) (place_of e) given had has → (e ≡ end.Ended → given ≡ status.Ended)
      → Captured seen budget bytes left had has given
  captured_of capture_ran had has given reported quiet =
      let split = splits bytes left capture_ran.bytes capture_ran.took in
      record {
        held = held;
        ended = e;
        front = capture_ran.bytes;
        rest = split.0;
        split = split.1;
        left_is = split.2;
        within = capture_ran.within;
        spent = capture_ran.spent;
        written = writes (exchange_of seen held) capture_ran.last capture_ran.world bytes capture_ran.bytes left split e capture_ran.ends;
        read_bound = read_bound (exchange_of seen held) capture_ran.last capture_ran.world bytes capture_ran.bytes left split e capture_ran.ends capture_ran.near;
        reported = reported;
        quiet = quiet;
      }

  pub captured_told : (told : Option (List ℕ)) → told ≡ Some bytes
      → CaptureRun seen.limits.wire budget e (exchange_of seen held).from (exchange_of seen held).to told left seen.had seen.has
      → (had has : List ℕ → Type 0) (given : Status) → ReportsIn (Some mode.Mux) (status_of e) (place_of e) given had has → (e ≡ end.Ended → given ≡ status.Ended)
      → Captured seen budget bytes left had has given
  captured_told told tells capture_ran =
      captured_of (subst (λ (o : Option (List ℕ)). CaptureRun seen.limits.wire budget e (exchange_of seen held).from (exchange_of seen held).to o left seen.had seen.has) tells capture_ran)

-- ---- the status

broken_by : (spent : Bool) (place : ℕ) → status.CaptureBroken ≡ status_by spent (capture.Broken place)
broken_by true place = refl
broken_by false place = refl

spent_by : (place : Option ℕ) → status.Budget ≡ status_by true (ended_at place)
spent_by None = refl
spent_by (Some place) = refl

module _ (budget : ℕ) (bytes : List ℕ) where
  -- all of it was read, and it is shorter than the budget
  below_by : (end : Capture) → length bytes < budget → ending bytes ≡ end → status_captured budget bytes ≡ status_by false end
  below_by end below is =
      ap (λ (b : Bool). status_by b (ending (take budget bytes))) (lt-leb budget (length bytes) below)
      ∙ ap (status_by false) (ap ending (take_all budget bytes (omega (arith, below))) ∙ is)

  cut_by : (end : Capture) → ending (take budget bytes) ≡ end → status_captured budget bytes ≡ status_by (nat_le budget (length bytes)) end
  cut_by end is = ap (status_by (nat_le budget (length bytes))) is

  module _ (exchange : Exchange plain) (e : CaptureEnd) (left : Option (List ℕ)) (capture_ran : CaptureRun exchange.limits budget e exchange.from exchange.to (Some bytes) left exchange.had exchange.has) where
    front : List ℕ
    front = capture_ran.bytes

    split : Splits bytes left capture_ran.bytes
    split = splits bytes left capture_ran.bytes capture_ran.took

    -- the first `budget` bytes are those that were read, and more
    first : take budget bytes ≡ capture_ran.bytes ++ take (budget - length capture_ran.bytes) split.0
    first = ap (take budget) split.1 ∙ first_bytes capture_ran.bytes split.0 budget capture_ran.within

    read_to : (end : Capture) (went : HandledAll (beginning exchange.limits exchange.from) capture_ran.last exchange.had exchange.has capture_ran.bytes) → IsAtEnd left → is_of_input e ≡ true
        → capture_ran.last.ending [] ≡ end → status_captured budget bytes ≡ status_by false end
    read_to end went at_end read is =
        let whole = all_taken exchange capture_ran.last capture_ran.world bytes capture_ran.bytes left split at_end in
        let below = capture_ran.below read in
        below_by end (omega (arith, below, ap length whole, length-append capture_ran.bytes [])) (ends_as exchange capture_ran.last capture_ran.world capture_ran.bytes went bytes [] whole ∙ is)

    by_end : (is : CaptureEnd) → e ≡ is → Ends is left (beginning exchange.limits exchange.from) capture_ran.last exchange.had exchange.has capture_ran.bytes → (reads reads' writes writes' : ℕ)
        → HasCauses is reads reads' writes writes' → (Rose reads reads' → ⊥) → (Rose writes writes' → ⊥) → (status_of is ≡ status.Memory) ⊎ (status_of is ≡ status_captured budget bytes)
    by_end end.Ended same ends reads reads' writes writes' causes no_read no_write = inr (sym (read_to capture.Ended ends.0 ends.2 (ap is_of_input same) ends.1.is))
    by_end (end.Truncated place) same ends reads reads' writes writes' causes no_read no_write = inr (sym (read_to (capture.Inside place) ends.0 ends.2 (ap is_of_input same) ends.1.is))
    by_end (end.Broken place) same ends reads reads' writes writes' causes no_read no_write =
        inr (broken_by (nat_le budget (length bytes)) place ∙ sym (cut_by (capture.Broken place)
        (ends_as exchange capture_ran.last capture_ran.world capture_ran.bytes ends.0 (take budget bytes) (take (budget - length capture_ran.bytes) split.0) first ∙ ends.1.ending (take (budget - length capture_ran.bytes) split.0))))
    by_end end.ReadFault same ends reads reads' writes writes' causes no_read no_write = absurd (no_read (causes.read refl))
    by_end end.WriteFault same ends reads reads' writes writes' causes no_read no_write = absurd (no_write (causes.write refl))
    by_end end.Memory same ends reads reads' writes writes' causes no_read no_write = inl refl
    by_end end.Budget same ends reads reads' writes writes' causes no_read no_write =
        let used = capture_ran.spent same in
        let none : budget - length capture_ran.bytes ≡ 0 = omega (arith, used) in
        let all : take budget bytes ≡ capture_ran.bytes ++ [] = first ∙ ap (λ (n : ℕ). capture_ran.bytes ++ take n split.0) none in
        inr (spent_by ends.1.0
        ∙ sym (ap (λ (b : Bool). status_by b (ending (take budget bytes))) (le-leb budget (length bytes) (omega (arith, used, ap length split.1, length-append capture_ran.bytes split.0)))
        ∙ ap (status_by true) (ends_as exchange capture_ran.last capture_ran.world capture_ran.bytes ends.0 (take budget bytes) [] all ∙ ends.1.1.is)))

-- no fault counter rose, so the status is that of the capture, or out of memory
pub by_capture : (exchange : Exchange plain) (budget : ℕ) (e : CaptureEnd) (bytes : List ℕ) (told left : Option (List ℕ)) → told ≡ Some bytes
    → CaptureRun exchange.limits budget e exchange.from exchange.to told left exchange.had exchange.has → (reads reads' writes writes' : ℕ)
    → HasCauses e reads reads' writes writes' → (Rose reads reads' → ⊥) → (Rose writes writes' → ⊥) → (status_of e ≡ status.Memory) ⊎ (status_of e ≡ status_captured budget bytes)
by_capture exchange budget e bytes told left tells capture_ran reads reads' writes writes' causes no_read no_write =
    let here = subst (λ (o : Option (List ℕ)). CaptureRun exchange.limits budget e exchange.from exchange.to o left exchange.had exchange.has) tells capture_ran in
    by_end budget bytes exchange e left here e refl here.ends reads reads' writes writes' causes no_read no_write

-- a capture never has a status of another mode
pub record IsOther (given : Status) : Type 0 where
  pub no_usage : given ≢ status.Usage
  pub no_accept : given ≢ status.AcceptFault
  pub no_journal : given ≢ status.JournalFault
  pub no_broken : given ≢ status.JournalBroken

never_meant : (e : CaptureEnd) → IsOther (status_of e)
never_meant end.Ended = record { no_usage = λ is. (cc); no_accept = λ is. (cc); no_journal = λ is. (cc); no_broken = λ is. (cc) }
never_meant (end.Truncated place) = record { no_usage = λ is. (cc); no_accept = λ is. (cc); no_journal = λ is. (cc); no_broken = λ is. (cc) }
never_meant (end.Broken place) = record { no_usage = λ is. (cc); no_accept = λ is. (cc); no_journal = λ is. (cc); no_broken = λ is. (cc) }
never_meant end.ReadFault = record { no_usage = λ is. (cc); no_accept = λ is. (cc); no_journal = λ is. (cc); no_broken = λ is. (cc) }
never_meant end.WriteFault = record { no_usage = λ is. (cc); no_accept = λ is. (cc); no_journal = λ is. (cc); no_broken = λ is. (cc) }
never_meant end.Memory = record { no_usage = λ is. (cc); no_accept = λ is. (cc); no_journal = λ is. (cc); no_broken = λ is. (cc) }
never_meant end.Budget = record { no_usage = λ is. (cc); no_accept = λ is. (cc); no_journal = λ is. (cc); no_broken = λ is. (cc) }

pub never : (e : CaptureEnd) (meant given : Status) → meant ≡ status_of e → (given ≡ status.WriteFault) ⊎ (given ≡ meant) → IsOther given
never e meant given means (inl failed) = record { no_usage = λ is. (cc); no_accept = λ is. (cc); no_journal = λ is. (cc); no_broken = λ is. (cc) }
never e meant given means (inr same) = subst IsOther (sym (same ∙ means)) (never_meant e)
