-- What a capture session did adds up, item by item and piece by piece.
use Rattle.std.specs.Prelude.{Option, None, Some}
use Rattle.std.proofs.Common.{◌≡◌, ℕ, List, [], ◌∷◌, ◌++◌, take, refl, sym, ◌∙◌, ap, subst, append_assoc, append-nil}
use Rattle.ts_io.specs.Sinks.{Grows}
use Rattle.ts_io.proofs.Growth.{grows_none, grows_twice}
use Rattle.ts_mux.specs.declared.frame.Frame.{Frame}
use Rattle.ts_mux.specs.Capture.{framed, all_framed}
use Rattle.ts_mux.specs.Order.{Item}
use Rattle.ts_engine.specs.declared.capture_session.CaptureGo.{CaptureGo}
use Rattle.ts_engine.specs.declared.capture_session.CaptureGo.TheVariants as capture_go
use Rattle.ts_engine.specs.Replies.{IsReply, reply_frame}
use Rattle.ts_engine.specs.CaptureSteps.{Progress, HandledAll, HandledSome, LastFrame, HandledAs, GoesOn, Replied, end_of}
use Rattle.ts_engine.proofs.FramesWritten.{all_framed-append}
use Rattle.ts_engine.proofs.ReplyRuns.{Replies-append, Replies-one}

-- nothing was answered
pub went_none : (old new : Progress) (has : List ℕ → Type 0) (bytes : List ℕ) → ((more : List ℕ) → old.items (bytes ++ more) ≡ new.items more)
    → ((more : List ℕ) → old.ending (bytes ++ more) ≡ new.ending more) → new.world ≡ old.world → HandledAll old new has has bytes
went_none old new has bytes items ending world = record {
  done = [];
  frames = [];
  items = items;
  ending = ending;
  replies = (refl, world);
  grown = grows_none has;
}

-- the rest may be unknown
unfoldable pub not_answered : (old new : Progress) (has : List ℕ → Type 0) (bytes : List ℕ) → new.world ≡ old.world → HandledSome old new has has bytes
not_answered old new has bytes world = record {
  done = [];
  frames = [];
  items = λ more. (old.items (bytes ++ more), refl);
  replies = (refl, world);
  grown = grows_none has;
}

-- an item was answered, and its frame written
pub went_one : (old new : Progress) (had has : List ℕ → Type 0) (item : Item) (text : List ℕ) → ((more : List ℕ) → old.items more ≡ item ∷ new.items more)
    → ((more : List ℕ) → old.ending more ≡ new.ending more) → IsReply old.world item.event text new.world → Grows had has (framed (reply_frame item text))
    → HandledAll old new had has []
went_one old new had has item text items ending reply grown = record {
  done = item ∷ [];
  frames = reply_frame item text ∷ [];
  items = items;
  ending = ending;
  replies = Replies-one old.world new.world item text reply;
  grown = subst (λ (l : List ℕ). Grows had has l) (sym (append-nil (framed (reply_frame item text)))) grown;
}

module _ (first mid : Progress) (had has' : List ℕ → Type 0) (x : List ℕ) (before : HandledAll first mid had has' x) where
  pub items_on : (y more : List ℕ) (done rest : List Item) → mid.items (y ++ more) ≡ done ++ rest → first.items ((x ++ y) ++ more) ≡ (before.done ++ done) ++ rest
  items_on y more done rest after =
      ap first.items (append_assoc x y more) ∙ before.items (y ++ more) ∙ ap (λ (l : List Item). before.done ++ l) after ∙ sym (append_assoc before.done done rest)

  pub grew : (has : List ℕ → Type 0) (frames : List Frame) → Grows has' has (all_framed frames) → Grows had has (all_framed (before.frames ++ frames))
  grew has frames grown =
      subst (λ (l : List ℕ). Grows had has l) (sym (all_framed-append before.frames frames))
      (grows_twice had has' has (all_framed before.frames) (all_framed frames) before.grown grown)

  pub grew_tail : (has : List ℕ → Type 0) (frames : List Frame) (tail : List ℕ) → Grows has' has (all_framed frames ++ tail) → Grows had has (all_framed (before.frames ++ frames) ++ tail)
  grew_tail has frames tail grown =
      subst (λ (l : List ℕ). Grows had has l)
      (sym (ap (λ (l : List ℕ). l ++ tail) (all_framed-append before.frames frames) ∙ append_assoc (all_framed before.frames) (all_framed frames) tail))
      (grows_twice had has' has (all_framed before.frames) (all_framed frames ++ tail) before.grown grown)

  -- two parts make one
  unfoldable pub went_on : (last : Progress) (has : List ℕ → Type 0) (y : List ℕ) → HandledAll mid last has' has y → HandledAll first last had has (x ++ y)
  went_on last has y after = record {
    done = before.done ++ after.done;
    frames = before.frames ++ after.frames;
    items = λ more. items_on y more after.done (last.items more) (after.items more);
    ending = λ more. ap first.ending (append_assoc x y more) ∙ before.ending (y ++ more) ∙ after.ending more;
    replies = Replies-append first.world mid.world last.world before.done after.done before.frames after.frames before.replies after.replies;
    grown = grew has after.frames after.grown;
  }

  unfoldable pub some_on : (last : Progress) (has : List ℕ → Type 0) (y : List ℕ) → HandledSome mid last has' has y → HandledSome first last had has (x ++ y)
  some_on last has y after = record {
    done = before.done ++ after.done;
    frames = before.frames ++ after.frames;
    items = λ more. let rest = after.items more in (rest.0, items_on y more after.done rest.0 rest.1);
    replies = Replies-append first.world mid.world last.world before.done after.done before.frames after.frames before.replies after.replies;
    grown = grew has after.frames after.grown;
  }

  unfoldable pub last_on : (last : Progress) (has : List ℕ → Type 0) (y : List ℕ) → LastFrame mid last has' has y → LastFrame first last had has (x ++ y)
  last_on last has y cut = record {
    done = before.done ++ cut.done;
    frames = before.frames ++ cut.frames;
    mid = cut.mid;
    last = cut.last;
    text = cut.text;
    kept = cut.kept;
    items = λ more. let rest = cut.items more in (rest.0, items_on y more cut.done (cut.last ∷ rest.0) rest.1);
    replies = Replies-append first.world mid.world cut.mid before.done cut.done before.frames cut.frames before.replies cut.replies;
    reply = cut.reply;
    grown = grew_tail has cut.frames (take cut.kept (framed (reply_frame cut.last cut.text))) cut.grown;
  }

  -- a result after a part is a result after both
  unfoldable pub answers_on : (answer : CaptureGo) (last : Progress) (has : List ℕ → Type 0) (y : List ℕ) → HandledAs answer mid last has' has y → HandledAs answer first last had has (x ++ y)
  answers_on capture_go.More last has y after = went_on last has y after
  answers_on (capture_go.Broken place) last has y after = (went_on last has y after.0, after.1)
  answers_on capture_go.WriteFault last has y after = last_on last has y after
  answers_on capture_go.Memory last has y after = some_on last has y after

  -- a result without more bytes is a result after the part
  pub answers_then : (answer : CaptureGo) (last : Progress) (has : List ℕ → Type 0) → HandledAs answer mid last has' has [] → HandledAs answer first last had has x
  answers_then answer last has after = subst (λ (l : List ℕ). HandledAs answer first last had has l) (append-nil x) (answers_on answer last has [] after)

  pub went_then : (last : Progress) (has : List ℕ → Type 0) → HandledAll mid last has' has [] → HandledAll first last had has x
  went_then last has after = subst (λ (l : List ℕ). HandledAll first last had has l) (append-nil x) (went_on last has [] after)

-- the next item was answered
pub answered_item : (answer : Option CaptureGo) (item : Item) (old new : Progress) (had has : List ℕ → Type 0) → ((more : List ℕ) → old.items more ≡ item ∷ new.items more)
    → ((more : List ℕ) → old.ending more ≡ new.ending more) → Replied answer item old.world new.world had has → GoesOn answer old new had has
answered_item None item old new had has items ending replied = went_one old new had has item replied.text items ending replied.reply replied.wrote
answered_item (Some capture_go.WriteFault) item old new had has items ending replied = record {
  done = [];
  frames = [];
  mid = old.world;
  last = item;
  text = replied.text;
  kept = replied.wrote.len;
  items = λ more. (new.items more, items more);
  replies = (refl, refl);
  reply = replied.reply;
  grown = replied.wrote.grows;
}
answered_item (Some capture_go.More) item old new had has items ending replied = absurd replied.wrote
answered_item (Some (capture_go.Broken place)) item old new had has items ending replied = absurd replied.wrote
answered_item (Some capture_go.Memory) item old new had has items ending replied = absurd replied.wrote

-- the session continues after a frame whose items were all answered
pub goes_on : (answer : CaptureGo) (old new : Progress) (had has : List ℕ → Type 0) → HandledAs answer old new had has [] → GoesOn (end_of answer) old new had has
goes_on capture_go.More old new had has answers = answers
goes_on (capture_go.Broken place) old new had has answers = answers
goes_on capture_go.WriteFault old new had has answers = answers
goes_on capture_go.Memory old new had has answers = answers

-- it continues only if all of them were answered
pub goes_by : (answer : CaptureGo) (e : Option CaptureGo) → e ≡ end_of answer → e ≡ None → answer ≡ capture_go.More
goes_by capture_go.More e is none = refl
goes_by (capture_go.Broken place) e is none = (cc)
goes_by capture_go.WriteFault e is none = (cc)
goes_by capture_go.Memory e is none = (cc)
