-- Lemmas about finding the next frame, and about passing over it.
use Rattle.std.proofs.Common.{◌≡◌, ℕ, ◌+◌, ◌-◌, ◌<◌, ◌≤◌, List, [], ◌∷◌, length, take, drop, Some, refl, sym, ap, ◌∙◌, subst, length-drop, append-nil, arith}
use Rattle.std.proofs.lemmas.List.{length-take-le}
use Rattle.ts_mux.specs.declared.frames.FrameSpan.{FrameSpan}
use Rattle.ts_mux.specs.declared.frames.NextFrame.TheVariants as next
use Rattle.ts_mux.specs.declared.frames.FoundFrame.TheVariants as found
use Rattle.ts_mux.specs.declared.found_header.FoundHeader.TheVariants as header
use Rattle.ts_mux.specs.Capture.{Then, capture_at}
use Rattle.ts_mux.specs.Framing.{Framing, capture_of, begun_on, ended_at, past}
use Rattle.ts_mux.specs.Headers.{IsWholeHeader, IsHeader}
use Rattle.ts_mux.specs.NextFrames.{IsNextFrame, StandsAt, bytes_at, IsFound}

-- ---- what was found

pub found_whole : (r : Framing) (link len start : ℕ) → IsWholeHeader r.unread link len start → start + len ≤ length r.unread
    → StandsAt r (record { link = link; start = start; end = start + len })
found_whole r link len start whole fits =
    let same : len ≡ start + len - start = omega arith in
    let most = whole.most in
    record {
      next = λ more. whole.whole fits r.begin more
          ∙ ap (λ n. Then (record { link = link; bytes = take n (drop start r.unread) }) (capture_of (past r (start + len)) more)) same;
      connection = whole.connection;
      some = whole.some;
      order = omega arith;
      within = fits;
      most = omega (arith, most);
    }

begun_some : (begin : ℕ) (bytes : List ℕ) → 0 < length bytes → begun_on begin bytes ≡ Some begin
begun_some begin [] h = absurd (omega (arith, h))
begun_some begin (byte ∷ bytes) h = refl

-- bytes of the frame are missing
pub found_inside : (r : Framing) (link len start : ℕ) → IsWholeHeader r.unread link len start → length r.unread < start + len → IsFound found.NotYet r
found_inside r link len start whole short =
    let some = whole.some in
    let within = whole.within in
    ap (capture_at r.begin) (append-nil r.unread)
    ∙ whole.inside short r.begin
    ∙ sym (ap ended_at (begun_some r.begin r.unread (omega (arith, some, within))))

-- bytes of the header are missing
pub found_not_yet : (r : Framing) → IsHeader header.NotYet r.unread → IsFound found.NotYet r
found_not_yet r not_yet = ap (capture_at r.begin) (append-nil r.unread) ∙ not_yet r.begin

pub found_broken : (r : Framing) (at : ℕ) → IsHeader (header.Broken at) r.unread → IsFound (found.Broken (r.begin + at)) r
found_broken r at broken = broken.1 r.begin

-- ---- a frame that was found

pub length-bytes_at : (r : Framing) (span : FrameSpan) → StandsAt r span → span.start + length (bytes_at r span) ≡ span.end
length-bytes_at r span stands =
    let order = stands.order in
    let within = stands.within in
    let left = length-drop span.start r.unread in
    let size = length-take-le (span.end - span.start) (drop span.start r.unread) (omega (arith, order, within, left)) in
    omega (arith, order, size)

pub fed-past : (r : Framing) (len : ℕ) → len ≤ length r.unread → r.begin + len + length (drop len r.unread) ≡ r.begin + length r.unread
fed-past r len within = omega (arith, within, length-drop len r.unread)

pub taken : (r new : Framing) (span : FrameSpan) (bytes : List ℕ) → StandsAt r span → bytes ≡ bytes_at r span → new ≡ past r span.end
    → IsNextFrame r new (next.Whole (record { link = span.link; bytes = bytes }))
taken r new span bytes stands is after =
    subst (λ l. IsNextFrame r new (next.Whole (record { link = span.link; bytes = l }))) (sym is)
    (subst (λ n. IsNextFrame r n (next.Whole (record { link = span.link; bytes = bytes_at r span }))) (sym after)
    (let size = length-bytes_at r span stands in
    let some = stands.some in
    let order = stands.order in
    let most = stands.most in
    record {
      whole = stands.next;
      link = stands.connection;
      length = omega (arith, size, most);
      progress = omega (arith, some, order);
      taken = omega (arith, size);
      not_yet = tt;
      broken = tt;
      memory = tt;
      same = tt;
      place = tt;
      fed_same = fed-past r span.end stands.within;
      later = omega arith;
      begin = omega arith;
    }))

-- out of memory for it
pub not_taken : (r : Framing) (span : FrameSpan) → StandsAt r span → IsNextFrame r r next.Memory
not_taken r span stands = record {
  whole = tt;
  link = tt;
  length = tt;
  progress = tt;
  taken = tt;
  not_yet = tt;
  broken = tt;
  memory = (record { link = span.link; bytes = bytes_at r span }, (λ more. capture_of (past r span.end) more), stands.next);
  same = λ more. refl;
  place = refl;
  fed_same = refl;
  later = omega arith;
  begin = omega arith;
}
