-- What a stream loads to from its start.
use Rattle.std.proofs.Common.{◌≡◌, ℕ, ◌<◌, refl, sym, ap, ◌∙◌, subst}
use Rattle.std.specs.Prelude.{◌⊎◌, Option, None, Some}
use Rattle.ts_spec.specs.declared.limits.Limits.{Limits}
use Rattle.ts_spec.specs.StreamPrefixes.{continued_by}
use Rattle.ts_spec.specs.State.{State}
use Rattle.ts_spec.specs.Wire.{Request, Stream, Then, Ended, Inside, Broken, ending_of}
use Rattle.ts_journal.specs.Loading.{Loads, BreaksAt, load_on}
use Rattle.ts_journal.proofs.FrontsLoad.{finished-loads}
use Rattle.ts_journal.proofs.Loads.{loads-end, loads-continued_by}
use Rattle.ts_journal.proofs.Unfinished.{finished}
use Rattle.ts_checkpoint.specs.PartOf.{part_of}
use Rattle.ts_checkpoint.specs.Loading.{restoring, parts_said, load_first, load_start}
use Rattle.ts_checkpoint.specs.Fronts.{size_behind, front_size}
use Rattle.ts_checkpoint.proofs.Offsets.{AreOffsets, IsFrontAt}
use Rattle.ts_checkpoint.proofs.LoadOn.{front-loads}
use Rattle.ts_checkpoint.proofs.RestoreOn.{FrontRestores, restores-end, restores-finished, restores-front, restores-continued}

-- ---- without a checkpoint

pub first-none : (limits : Limits) (m : State) (size : ℕ) (request : Request) (after : ℕ) (rest : Stream) → parts_said (part_of request) ≡ None
    → load_start limits m size (Then request after rest) ≡ load_on limits m 0 size (Then request after rest)
first-none limits m size request after rest none = ap (λ o. load_first limits m o size request after rest) none

-- the first request is no head
abbrev pub BeginsWithout : Stream → Type 0
BeginsWithout (Then request after rest) = parts_said (part_of request) ≡ None
BeginsWithout other = Unit {0}

pub starts-without : (limits : Limits) (m : State) (size : ℕ) (stream : Stream) → BeginsWithout stream → load_start limits m size stream ≡ load_on limits m 0 size stream
starts-without limits m size (Then request after rest) none = first-none limits m size request after rest none
starts-without limits m size Ended none = refl
starts-without limits m size (Inside begin) none = refl
starts-without limits m size (Broken kind at) none = refl

-- ---- where a stream ends that loads

starts-end-first : (limits : Limits) (m : State) (left : Option ℕ) (size : ℕ) (request : Request) (after : ℕ) (rest : Stream) (n : State) (place : ℕ)
    → load_first limits m left size request after rest ≡ Loads n place
    → ((ending_of rest ≡ Ended) × (place ≡ size)) ⊎ (ending_of rest ≡ Inside place)
starts-end-first limits m None size request after rest n place e = loads-end limits m 0 size (Then request after rest) n place e
starts-end-first limits m (Some left) size request after rest n place e = restores-end limits (restoring m) left after size rest n place e

pub starts-end : (limits : Limits) (m : State) (size : ℕ) (stream : Stream) (n : State) (place : ℕ) → load_start limits m size stream ≡ Loads n place
    → ((ending_of stream ≡ Ended) × (place ≡ size)) ⊎ (ending_of stream ≡ Inside place)
starts-end limits m size (Then request after rest) n place e = starts-end-first limits m (parts_said (part_of request)) size request after rest n place e
starts-end limits m size Ended n place e = loads-end limits m 0 size Ended n place e
starts-end limits m size (Inside begin) n place e = loads-end limits m 0 size (Inside begin) n place e
starts-end limits m size (Broken kind at) n place e = loads-end limits m 0 size (Broken kind at) n place e

-- ---- without the request inside which it ends

finished-first : (limits : Limits) (m : State) (left : Option ℕ) (size : ℕ) (request : Request) (after : ℕ) (rest : Stream) (n : State) (place : ℕ)
    → ending_of rest ≡ Inside place → load_first limits m left size request after rest ≡ Loads n place
    → load_first limits m left place request after (finished rest) ≡ Loads n place
finished-first limits m None size request after rest n place inside e = finished-loads limits m 0 size (Then request after rest) n place inside e
finished-first limits m (Some left) size request after rest n place inside e = restores-finished limits (restoring m) left after size rest n place inside e

pub finished-starts : (limits : Limits) (m : State) (size : ℕ) (stream : Stream) (n : State) (place : ℕ) → ending_of stream ≡ Inside place
    → load_start limits m size stream ≡ Loads n place → load_start limits m place (finished stream) ≡ Loads n place
finished-starts limits m size (Then request after rest) n place inside e =
    finished-first limits m (parts_said (part_of request)) size request after rest n place inside e
finished-starts limits m size Ended n place inside e = absurd cc
finished-starts limits m size (Inside begin) n place inside e = finished-loads limits m 0 size (Inside begin) n place inside e
finished-starts limits m size (Broken kind at) n place inside e = absurd cc

-- ---- a prefix

-- it loads, or it breaks, since it has less than the checkpoint
pub data FrontStarts (limits : Limits) (m : State) (size most : ℕ) (stream other : Stream) : Type 0 where
  loads : (mid : State) (at : ℕ) → load_start limits m size stream ≡ Loads mid at → FrontStarts limits m size most stream other
  breaks : (at : ℕ) → load_start limits m size stream ≡ BreaksAt at → most < front_size other → FrontStarts limits m size most stream other

module _ (limits : Limits) (m : State) (size total most : ℕ) (request : Request) (after : ℕ) (rest others : Stream) (n : State) (place : ℕ) where
  front-first : (left : Option ℕ) → parts_said (part_of request) ≡ left → IsFrontAt most rest others → AreOffsets after others
      → load_first limits m left total request after others ≡ Loads n place → FrontStarts limits m size most (Then request after rest) (Then request after others)
  front-first None its front h e =
      let all = front-loads limits m 0 size total most (Then request after rest) (Then request after others) n place (others, refl, front) e in
      FrontStarts.loads all.0 all.1 (ap (λ o. load_first limits m o size request after rest) its ∙ all.2)
  front-first (Some left) its front h e =
      elim (restores-front limits (restoring m) left after size total most rest others n place front h e) [
        | FrontRestores.loads mid at e ↦ FrontStarts.loads mid at (ap (λ o. load_first limits m o size request after rest) its ∙ e)
        | FrontRestores.breaks at e less ↦ FrontStarts.breaks at (ap (λ o. load_first limits m o size request after rest) its ∙ e)
            (subst (λ (o : Option ℕ). most < size_behind o after others) (sym its) less)
      ]

pub front-starts : (limits : Limits) (m : State) (size total most : ℕ) (stream other : Stream) (n : State) (place : ℕ) → IsFrontAt most stream other
    → AreOffsets 0 other → load_start limits m total other ≡ Loads n place → FrontStarts limits m size most stream other
front-starts limits m size total most (Then request after rest) other n place front h e =
    let its : load_start limits m total (Then request after front.0) ≡ Loads n place = sym (ap (load_start limits m total) front.1) ∙ e in
    let rises : AreOffsets 0 (Then request after front.0) = subst (AreOffsets 0) front.1 h in
    subst (λ (s : Stream). FrontStarts limits m size most (Then request after rest) s) (sym front.1)
    (front-first limits m size total most request after rest front.0 n place (parts_said (part_of request)) refl front.2 rises.1 its)
front-starts limits m size total most Ended other n place front h e = FrontStarts.loads m size refl
front-starts limits m size total most (Inside begin) other n place front h e = FrontStarts.loads m begin refl
front-starts limits m size total most (Broken kind at) other n place front h e =
    let broken : BreaksAt at ≡ Loads n place = sym (ap (load_start limits m total) front) ∙ e in
    absurd cc

-- ---- more after it, which does not begin with a checkpoint

continued-first : (limits : Limits) (m : State) (left : Option ℕ) (size total : ℕ) (request : Request) (after : ℕ) (others rest : Stream) (n : State) (place : ℕ)
    → ending_of others ≡ Ended → load_first limits m left size request after others ≡ Loads n place
    → (last : ℕ) × (load_first limits m left total request after (continued_by others rest) ≡ load_on limits n last total rest)
continued-first limits m None size total request after others rest n place ended e =
    loads-continued_by limits m 0 size total (Then request after others) rest n place ended e
continued-first limits m (Some left) size total request after others rest n place ended e =
    restores-continued limits (restoring m) left after size total others rest n place ended e

pub continued-starts : (limits : Limits) (m : State) (size total : ℕ) (stream rest : Stream) (n : State) (place : ℕ) → ending_of stream ≡ Ended
    → BeginsWithout rest → load_start limits m size stream ≡ Loads n place
    → (last : ℕ) × (load_start limits m total (continued_by stream rest) ≡ load_on limits n last total rest)
continued-starts limits m size total (Then request after others) rest n place ended without e =
    continued-first limits m (parts_said (part_of request)) size total request after others rest n place ended e
continued-starts limits m size total Ended rest n place ended without e =
    let same : m ≡ n = cc in
    (0, starts-without limits m total rest without ∙ ap (λ m. load_on limits m 0 total rest) same)
continued-starts limits m size total (Inside begin) rest n place ended without e = absurd cc
continued-starts limits m size total (Broken kind at) rest n place ended without e = absurd cc
