-- What the parts of a checkpoint restore to, one after another, and what loads behind them.
use Rattle.std.proofs.Common.{◌≡◌, ℕ, zero, suc, ◌<◌, ◌≤◌, refl, sym, ap, ◌∙◌, subst, arith}
use Rattle.std.specs.Prelude.{◌⊎◌, Option, None, Some}
use Rattle.ts_spec.specs.declared.limits.Limits.{Limits}
use Rattle.ts_spec.specs.StreamPrefixes.{continued_by}
use Rattle.ts_spec.specs.State.{State}
use Rattle.ts_spec.specs.Wire.{Request, Stream, Then, Ended, Inside, Broken, ending_of}
use Rattle.ts_journal.specs.Loading.{Loads, BreaksAt, load_on}
use Rattle.ts_journal.proofs.FrontsLoad.{finished-loads}
use Rattle.ts_journal.proofs.Loads.{loads-end, loads-continued_by}
use Rattle.ts_journal.proofs.Unfinished.{finished}
use Rattle.ts_checkpoint.specs.PartOf.{part_of}
use Rattle.ts_checkpoint.specs.Loading.{OpenSeries, Restoring, restore_request, restore_or_break, load_behind, restore_on}
use Rattle.ts_checkpoint.specs.Fronts.{offset_behind}
use Rattle.ts_checkpoint.proofs.Offsets.{AreOffsets, EndsPast, IsFrontAt}
use Rattle.ts_checkpoint.proofs.LoadOn.{front-loads}

-- ---- a part, and those after it

-- it is taken, and the others load
pub record IsNextPart (limits : Limits) (r : Restoring) (request : Request) (left after size : ℕ) (rest : Stream) (n : State) (place : ℕ) : Type 0 where
  pub mid : Restoring
  pub does : restore_request limits r (part_of request) ≡ Some mid
  pub on : restore_on limits mid left after size rest ≡ Loads n place

pub parts-next : (limits : Limits) (r : Restoring) (left before size : ℕ) (request : Request) (after : ℕ) (rest : Stream) (n : State) (place : ℕ)
    → restore_on limits r (suc left) before size (Then request after rest) ≡ Loads n place → IsNextPart limits r request left after size rest n place
parts-next limits r left before size request after rest n place e = go (restore_request limits r (part_of request)) refl e
  where
    go : (o : Option Restoring) → restore_request limits r (part_of request) ≡ o
        → restore_or_break o before (λ mid. restore_on limits mid left after size rest) ≡ Loads n place
        → IsNextPart limits r request left after size rest n place
    go None its e = absurd cc
    go (Some mid) its e = record { mid = mid; does = its; on = e }

pub next-parts : (limits : Limits) (r : Restoring) (left before size : ℕ) (request : Request) (after : ℕ) (rest : Stream) (mid : Restoring)
    → restore_request limits r (part_of request) ≡ Some mid
    → restore_on limits r (suc left) before size (Then request after rest) ≡ restore_on limits mid left after size rest
next-parts limits r left before size request after rest mid e = ap (λ o. restore_or_break o before (λ mid. restore_on limits mid left after size rest)) e

-- ---- where a stream ends that loads

behind-end : (limits : Limits) (current : Option OpenSeries) (m : State) (before size : ℕ) (stream : Stream) (n : State) (place : ℕ)
    → load_behind limits current m before size stream ≡ Loads n place
    → ((ending_of stream ≡ Ended) × (place ≡ size)) ⊎ (ending_of stream ≡ Inside place)
behind-end limits None m before size stream n place e = loads-end limits m before size stream n place e
behind-end limits (Some o) m before size stream n place e = absurd cc

pub restores-end : (limits : Limits) (r : Restoring) (left before size : ℕ) (stream : Stream) (n : State) (place : ℕ)
    → restore_on limits r left before size stream ≡ Loads n place
    → ((ending_of stream ≡ Ended) × (place ≡ size)) ⊎ (ending_of stream ≡ Inside place)
restores-end limits r zero before size stream n place e = behind-end limits r.current r.state before size stream n place e
restores-end limits r (suc left) before size (Then request after rest) n place e =
    let next = parts-next limits r left before size request after rest n place e in
    restores-end limits next.mid left after size rest n place next.on
restores-end limits r (suc left) before size Ended n place e = absurd cc
restores-end limits r (suc left) before size (Inside begin) n place e = absurd cc
restores-end limits r (suc left) before size (Broken kind at) n place e = absurd cc

-- ---- without the request inside which it ends

behind-finished : (limits : Limits) (current : Option OpenSeries) (m : State) (before size : ℕ) (stream : Stream) (n : State) (place : ℕ)
    → ending_of stream ≡ Inside place → load_behind limits current m before size stream ≡ Loads n place
    → load_behind limits current m before place (finished stream) ≡ Loads n place
behind-finished limits None m before size stream n place inside e = finished-loads limits m before size stream n place inside e
behind-finished limits (Some o) m before size stream n place inside e = absurd cc

pub restores-finished : (limits : Limits) (r : Restoring) (left before size : ℕ) (stream : Stream) (n : State) (place : ℕ) → ending_of stream ≡ Inside place
    → restore_on limits r left before size stream ≡ Loads n place → restore_on limits r left before place (finished stream) ≡ Loads n place
restores-finished limits r zero before size stream n place inside e = behind-finished limits r.current r.state before size stream n place inside e
restores-finished limits r (suc left) before size (Then request after rest) n place inside e =
    let next = parts-next limits r left before size request after rest n place e in
    next-parts limits r left before place request after (finished rest) next.mid next.does
    ∙ restores-finished limits next.mid left after size rest n place inside next.on
restores-finished limits r (suc left) before size Ended n place inside e = absurd cc
restores-finished limits r (suc left) before size (Inside begin) n place inside e = absurd cc
restores-finished limits r (suc left) before size (Broken kind at) n place inside e = absurd cc

-- ---- a prefix

-- it loads, or it breaks, since it has less than so many parts
pub data FrontRestores (limits : Limits) (r : Restoring) (left before size most : ℕ) (stream other : Stream) : Type 0 where
  loads : (mid : State) (at : ℕ) → restore_on limits r left before size stream ≡ Loads mid at → FrontRestores limits r left before size most stream other
  breaks : (at : ℕ) → restore_on limits r left before size stream ≡ BreaksAt at → most < offset_behind left before other
      → FrontRestores limits r left before size most stream other

-- the parts are behind what is before them
pub behind-before : (left place : ℕ) (stream : Stream) → AreOffsets place stream → place ≤ offset_behind left place stream
behind-before zero place stream h = omega arith
behind-before (suc left) place (Then request after rest) h = omega (arith, h.0, behind-before left after rest h.1)
behind-before (suc left) place Ended h = omega arith
behind-before (suc left) place (Inside begin) h = omega arith
behind-before (suc left) place (Broken kind at) h = omega arith

-- the next part is not there
too-short : (limits : Limits) (r : Restoring) (left before total most : ℕ) (other : Stream) (n : State) (place : ℕ) → EndsPast most other → AreOffsets before other
    → restore_on limits r (suc left) before total other ≡ Loads n place → most < offset_behind (suc left) before other
too-short limits r left before total most (Then request after rest) n place past h e = omega (arith, past, behind-before left after rest h.1)
too-short limits r left before total most Ended n place past h e = absurd cc
too-short limits r left before total most (Inside begin) n place past h e = absurd cc
too-short limits r left before total most (Broken kind at) n place past h e = absurd cc

behind-front : (limits : Limits) (current : Option OpenSeries) (m : State) (before size total most : ℕ) (stream other : Stream) (n : State) (place : ℕ)
    → IsFrontAt most stream other → load_behind limits current m before total other ≡ Loads n place
    → (mid : State) × (at : ℕ) × (load_behind limits current m before size stream ≡ Loads mid at)
behind-front limits None m before size total most stream other n place front e = front-loads limits m before size total most stream other n place front e
behind-front limits (Some o) m before size total most stream other n place front e = absurd cc

pub restores-front : (limits : Limits) (r : Restoring) (left before size total most : ℕ) (stream other : Stream) (n : State) (place : ℕ)
    → IsFrontAt most stream other → AreOffsets before other → restore_on limits r left before total other ≡ Loads n place
    → FrontRestores limits r left before size most stream other
restores-front limits r zero before size total most stream other n place front h e =
    let all = behind-front limits r.current r.state before size total most stream other n place front e in
    loads all.0 all.1 all.2
restores-front limits r (suc left) before size total most (Then request after rest) other n place front h e =
    let its : restore_on limits r (suc left) before total (Then request after front.0) ≡ Loads n place = sym (ap (restore_on limits r (suc left) before total) front.1) ∙ e in
    let next = parts-next limits r left before total request after front.0 n place its in
    let rises : AreOffsets before (Then request after front.0) = subst (AreOffsets before) front.1 h in
    let same = next-parts limits r left before size request after rest next.mid next.does in
    elim (restores-front limits next.mid left after size total most rest front.0 n place front.2 rises.1 next.on) [
      | loads mid at e ↦ loads mid at (same ∙ e)
      | breaks at e less ↦ breaks at (same ∙ e) (subst (λ (s : Stream). most < offset_behind (suc left) before s) (sym front.1) less)
    ]
restores-front limits r (suc left) before size total most Ended other n place front h e =
    breaks before refl (too-short limits r left before total most other n place front h e)
restores-front limits r (suc left) before size total most (Inside begin) other n place front h e =
    breaks before refl (too-short limits r left before total most other n place front h e)
restores-front limits r (suc left) before size total most (Broken kind at) other n place front h e =
    let broken : BreaksAt at ≡ Loads n place = sym (ap (restore_on limits r (suc left) before total) front) ∙ e in
    absurd cc

-- ---- more after it

behind-continued : (limits : Limits) (current : Option OpenSeries) (m : State) (before size total : ℕ) (stream rest : Stream) (n : State) (place : ℕ)
    → ending_of stream ≡ Ended → load_behind limits current m before size stream ≡ Loads n place
    → (last : ℕ) × (load_behind limits current m before total (continued_by stream rest) ≡ load_on limits n last total rest)
behind-continued limits None m before size total stream rest n place ended e = loads-continued_by limits m before size total stream rest n place ended e
behind-continued limits (Some o) m before size total stream rest n place ended e = absurd cc

pub restores-continued : (limits : Limits) (r : Restoring) (left before size total : ℕ) (stream rest : Stream) (n : State) (place : ℕ) → ending_of stream ≡ Ended
    → restore_on limits r left before size stream ≡ Loads n place
    → (last : ℕ) × (restore_on limits r left before total (continued_by stream rest) ≡ load_on limits n last total rest)
restores-continued limits r zero before size total stream rest n place ended e =
    behind-continued limits r.current r.state before size total stream rest n place ended e
restores-continued limits r (suc left) before size total (Then request after others) rest n place ended e =
    let next = parts-next limits r left before size request after others n place e in
    let more = restores-continued limits next.mid left after size total others rest n place ended next.on in
    (more.0, next-parts limits r left before total request after (continued_by others rest) next.mid next.does ∙ more.1)
restores-continued limits r (suc left) before size total Ended rest n place ended e = absurd cc
restores-continued limits r (suc left) before size total (Inside begin) rest n place ended e = absurd cc
restores-continued limits r (suc left) before size total (Broken kind at) rest n place ended e = absurd cc
