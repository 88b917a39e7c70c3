-- What the requests of a stream load to, one after another.
use Rattle.std.proofs.Common.{◌≡◌, ℕ, List, length, inl, inr, refl, ap, ◌∙◌}
use Rattle.std.specs.Prelude.{◌⊎◌, Option, None, Some}
use Rattle.ts_spec.specs.declared.limits.Limits.{Limits}
use Rattle.ts_spec.specs.StreamPrefixes.{continued_by}
use Rattle.ts_spec.specs.Grammar.{command}
use Rattle.ts_spec.specs.State.{State, empty}
use Rattle.ts_spec.specs.Wire.{Request, Stream, Then, Ended, Inside, Broken, stream_at, ending_of}
use Rattle.ts_journal.specs.Limits.{journal_limits}
use Rattle.ts_journal.specs.Loading.{Load, Loads, apply_recorded_request, continue_or_break, load_on, load}
use Rattle.ts_journal.proofs.Rests.{rest-of}

-- ---- a request, and those after it

-- it leads to a state, from which the others load
pub record IsNext (limits : Limits) (m : State) (request : Request) (after size : ℕ) (rest : Stream) (n : State) (place : ℕ) : Type 0 where
  pub mid : State
  pub does : apply_recorded_request limits m (command request) ≡ Some mid
  pub on : load_on limits mid after size rest ≡ Loads n place

pub loads-next : (limits : Limits) (m : State) (before size : ℕ) (request : Request) (after : ℕ) (rest : Stream) (n : State) (place : ℕ)
    → load_on limits m before size (Then request after rest) ≡ Loads n place → IsNext limits m request after size rest n place
loads-next limits m before size request after rest n place e = go (apply_recorded_request limits m (command request)) refl e
  where
    go : (o : Option State) → apply_recorded_request limits m (command request) ≡ o → continue_or_break o before (λ mid. load_on limits mid after size rest) ≡ Loads n place
        → IsNext limits m request after size rest n place
    go None its e = absurd cc
    go (Some mid) its e = record { mid = mid; does = its; on = e }

pub next-loads : (limits : Limits) (m : State) (before size : ℕ) (request : Request) (after : ℕ) (rest : Stream) (mid : State)
    → apply_recorded_request limits m (command request) ≡ Some mid → load_on limits m before size (Then request after rest) ≡ load_on limits mid after size rest
next-loads limits m before size request after rest mid e = ap (λ o. continue_or_break o before (λ mid. load_on limits mid after size rest)) e

-- ---- where a stream ends that loads

-- after its last request, or inside the one after it
pub loads-end : (limits : Limits) (m : State) (before size : ℕ) (stream : Stream) (n : State) (place : ℕ) → load_on limits m before size stream ≡ Loads n place
    → ((ending_of stream ≡ Ended) × (place ≡ size)) ⊎ (ending_of stream ≡ Inside place)
loads-end limits m before size (Then request after rest) n place e =
    let next = loads-next limits m before size request after rest n place e in
    loads-end limits next.mid after size rest n place next.on
loads-end limits m before size Ended n place e = inl (refl, cc)
loads-end limits m before size (Inside begin) n place e = inr cc
loads-end limits m before size (Broken kind at) n place e = absurd cc

-- its requests, whatever its rest is
abbrev pub requests_load : Limits → List ℕ → Load
requests_load limits bytes = load_on limits empty 0 (length bytes) (stream_at (journal_limits limits.wire) 0 bytes)

pub requests-of : (limits : Limits) (bytes : List ℕ) (m : State) (place : ℕ) → load limits bytes ≡ Loads m place → requests_load limits bytes ≡ Loads m place
requests-of limits bytes m place e = (rest-of bytes (requests_load limits bytes) m place e).0

-- ---- requests, and more after them

pub loads-continued_by : (limits : Limits) (m : State) (before size total : ℕ) (stream rest : Stream) (n : State) (place : ℕ) → ending_of stream ≡ Ended
    → load_on limits m before size stream ≡ Loads n place
    → (last : ℕ) × (load_on limits m before total (continued_by stream rest) ≡ load_on limits n last total rest)
loads-continued_by limits m before size total (Then request after others) rest n place ended e =
    let next = loads-next limits m before size request after others n place e in
    let more = loads-continued_by limits next.mid after size total others rest n place ended next.on in
    (more.0, next-loads limits m before total request after (continued_by others rest) next.mid next.does ∙ more.1)
loads-continued_by limits m before size total Ended rest n place ended e =
    let same : m ≡ n = cc in
    (before, ap (λ m. load_on limits m before total rest) same)
loads-continued_by limits m before size total (Inside begin) rest n place ended e = absurd cc
loads-continued_by limits m before size total (Broken kind at) rest n place ended e = absurd cc
