-- The pending items of a capture session after one item, and after one frame.
use Rattle.std.proofs.Common.{◌≡◌, ℕ, suc, ◌<◌, ◌≤◌, Bool, true, false, not, ◌==◌, if◌then◌else◌, List, [], ◌∷◌, length, refl, sym, ◌∙◌, ap, subst, Option, None, Some, arith}
use Rattle.ts_spec.specs.Wire.{Request}
use Rattle.ts_spec.specs.Run.{is_quit}
use Rattle.ts_resp.specs.declared.protocol.Protocol.{Protocol}
use Rattle.ts_mux.specs.declared.frame.Frame.{Frame}
use Rattle.ts_mux.specs.declared.frames.FrameSpan.{FrameSpan}
use Rattle.ts_mux.specs.Capture.{Capture, frames_of, ending_of}
use Rattle.ts_mux.specs.Framing.{Framing, capture_of, past, ended_at}
use Rattle.ts_mux.specs.NextFrames.{StandsAt, bytes_at}
use Rattle.ts_mux.specs.Order.{Item, Asked, Failed, without, closing}
use Rattle.ts_mux.proofs.Closings.{closing-without}

-- the next item was a request, and a QUIT closed its connection
pub asked_next : (link : ℕ) (words : Request) (old mid coming : List Frame → List Item)
    → ((frames : List Frame) → old frames ≡ record { link = link; event = Asked words } ∷ mid frames)
    → ((frames : List Frame) → coming frames ≡ (if is_quit words then without link (closing is_quit (mid frames)) else closing is_quit (mid frames)))
    → (frames : List Frame) → closing is_quit (old frames) ≡ record { link = link; event = Asked words } ∷ coming frames
asked_next link words old mid coming gives closes frames =
    ap (closing is_quit) (gives frames) ∙ ap (λ (items : List Item). record { link = link; event = Asked words } ∷ items) (sym (closes frames))

-- the next item was an error, and its connection is closed
pub failed_next : (link : ℕ) (fault : Protocol) (old new : List Frame → List Item)
    → ((frames : List Frame) → old frames ≡ record { link = link; event = Failed fault } ∷ new frames)
    → ((frames : List Frame) → without link (new frames) ≡ new frames)
    → (frames : List Frame) → closing is_quit (old frames) ≡ record { link = link; event = Failed fault } ∷ closing is_quit (new frames)
failed_next link fault old new gives closed frames =
    ap (closing is_quit) (gives frames)
    ∙ ap (λ (items : List Item). record { link = link; event = Failed fault } ∷ items) (sym (closing-without is_quit link (new frames)) ∙ ap (closing is_quit) (closed frames))

-- a frame was delivered and passed over
module _ (r new : Framing) (span : FrameSpan) (stands : StandsAt r span) (passed : new ≡ past r span.end) where
  pub frame_delivered : (bytes : List ℕ) (old after : List Frame → List Item) → bytes ≡ bytes_at r span
      → ((frames : List Frame) → after frames ≡ old (record { link = span.link; bytes = bytes } ∷ frames))
      → (more : List ℕ) → closing is_quit (old (frames_of (capture_of r more))) ≡ closing is_quit (after (frames_of (capture_of new more)))
  frame_delivered bytes old after is brings more =
      ap (λ (capture : Capture). closing is_quit (old (frames_of capture))) (stands.next more)
      ∙ ap (λ (l : List ℕ). closing is_quit (old (record { link = span.link; bytes = l } ∷ frames_of (capture_of (past r span.end) more)))) (sym is)
      ∙ ap (closing is_quit) (sym (brings (frames_of (capture_of (past r span.end) more))))
      ∙ ap (λ (f : Framing). closing is_quit (after (frames_of (capture_of f more)))) (sym passed)

  pub frame_passed : (more : List ℕ) → ending_of (capture_of r more) ≡ ending_of (capture_of new more)
  frame_passed more = ap ending_of (stands.next more) ∙ ap (λ (f : Framing). ending_of (capture_of f more)) (sym passed)

  pub passes_on : r.begin < new.begin
  passes_on =
      let some = stands.some in
      let order = stands.order in
      subst (λ (f : Framing). r.begin < f.begin) (sym passed) (omega (arith, some, order))

-- closing a connection drops items and adds none
pub without-shorter : (link : ℕ) (items : List Item) → length (without link items) ≤ length items
without-shorter link [] = omega arith
without-shorter link (item ∷ items) = go (not (item.link == link)) (without-shorter link items)
  where
    go : (test : Bool) → length (without link items) ≤ length items → length (if test then item ∷ without link items else without link items) ≤ suc (length items)
    go true h = omega (arith, h)
    go false h = omega (arith, h)

-- a capture that has ended has no further frame
pub no_frames : (place : Option ℕ) → frames_of (ended_at place) ≡ []
no_frames None = refl
no_frames (Some place) = refl

pub its_own_ending : (place : Option ℕ) → ending_of (ended_at place) ≡ ended_at place
its_own_ending None = refl
its_own_ending (Some place) = refl
