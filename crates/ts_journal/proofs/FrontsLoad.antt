-- The prefixes of changes that load. Their whole requests load to the same state.
use Rattle.std.proofs.Common.{◌≡◌, ℕ, zero, suc, ◌-◌, true, List, [], ◌∷◌, take, refl, sym, ap, ◌∙◌}
use Rattle.ts_spec.specs.declared.limits.Limits.{Limits}
use Rattle.ts_spec.specs.StreamPrefixes.{IsStreamPrefix}
use Rattle.ts_spec.specs.State.{State}
use Rattle.ts_spec.specs.Wire.{Stream, Then, Ended, Inside, Broken, ending_of}
use Rattle.ts_journal.specs.Loading.{Loads, BreaksAt, begins_as_record, load_on}
use Rattle.ts_journal.proofs.Loads.{loads-next, next-loads}
use Rattle.ts_journal.proofs.Unfinished.{finished}

-- the front of its whole requests
pub finished-loads : (limits : Limits) (m : State) (before size : ℕ) (stream : Stream) (n : State) (place : ℕ) → ending_of stream ≡ Inside place
    → load_on limits m before size stream ≡ Loads n place → load_on limits m before place (finished stream) ≡ Loads n place
finished-loads limits m before size (Then request after rest) n place inside e =
    let next = loads-next limits m before size request after rest n place e in
    next-loads limits m before place request after (finished rest) next.mid next.does ∙ finished-loads limits next.mid after size rest n place inside next.on
finished-loads limits m before size Ended n place inside e = absurd cc
finished-loads limits m before size (Inside begin) n place inside e = cc
finished-loads limits m before size (Broken kind at) n place inside e = absurd cc

-- the start of a record
pub front-begins : (n : ℕ) (bytes : List ℕ) → begins_as_record bytes ≡ true → begins_as_record (take n bytes) ≡ true
front-begins zero bytes is = refl
front-begins (suc n) [] is = refl
front-begins (suc n) (byte ∷ bytes) is = is

-- any front
pub front-loads : (limits : Limits) (m : State) (before size total : ℕ) (stream other : Stream) (n : State) (place : ℕ) → IsStreamPrefix stream other
    → load_on limits m before total other ≡ Loads n place → (mid : State) × (at : ℕ) × (load_on limits m before size stream ≡ Loads mid at)
front-loads limits m before size total (Then request after rest) other n place front e =
    let next = loads-next limits m before total request after front.0 n place (sym (ap (load_on limits m before total) front.1) ∙ e) in
    let more = front-loads limits next.mid after size total rest front.0 n place front.2 next.on in
    (more.0, more.1, next-loads limits m before size request after rest next.mid next.does ∙ more.2)
front-loads limits m before size total Ended other n place front e = (m, size, refl)
front-loads limits m before size total (Inside begin) other n place front e = (m, begin, refl)
front-loads limits m before size total (Broken kind at) other n place front e =
    let broken : BreaksAt at ≡ Loads n place = sym (ap (load_on limits m before total) front) ∙ e in
    absurd cc
