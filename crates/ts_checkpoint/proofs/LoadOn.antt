-- What the changes of a prefix load to.
use Rattle.std.proofs.Common.{◌≡◌, ℕ}
use Rattle.ts_spec.specs.declared.limits.Limits.{Limits}
use Rattle.ts_spec.specs.StreamPrefixes.{IsStreamPrefix}
use Rattle.ts_spec.specs.State.{State}
use Rattle.ts_spec.specs.Wire.{Stream, Then, Ended, Inside, Broken}
use Rattle.ts_journal.specs.Loading.{Loads, load_on}
use Rattle.ts_journal.proofs.FrontsLoad as changes
use Rattle.ts_checkpoint.proofs.Offsets.{IsFrontAt}

front-of : (most : ℕ) (stream other : Stream) → IsFrontAt most stream other → IsStreamPrefix stream other
front-of most (Then request place rest) other h = (h.0, h.1, front-of most rest h.0 h.2)
front-of most Ended other h = tt
front-of most (Inside begin) other h = tt
front-of most (Broken kind at) other h = h

pub front-loads : (limits : Limits) (m : State) (before size total most : ℕ) (stream other : Stream) (n : State) (place : ℕ) → IsFrontAt most stream other
    → load_on limits m before total other ≡ Loads n place → (mid : State) × (at : ℕ) × (load_on limits m before size stream ≡ Loads mid at)
front-loads limits m before size total most stream other n place front e =
    changes.front-loads limits m before size total stream other n place (front-of most stream other front) e
