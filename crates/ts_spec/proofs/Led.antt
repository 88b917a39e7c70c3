-- The result of a step, over a valid state and over its stored data. One case analysis over the tests of the commands
-- serves all laws.
use Rattle.std.proofs.Common.{◌≡◌, ℕ, ◌≤◌, Bool, true, false, if◌then◌else◌, length, Option, Some, None, option_map, refl, sym, ap, ◌∙◌}
use Rattle.std.specs.Prelude.{⊤}
use Rattle.ts_spec.specs.declared.limits.Limits.{Limits}
use Rattle.ts_spec.specs.Key.{Key}
use Rattle.ts_spec.specs.Keyed.{get}
use Rattle.ts_spec.specs.State.{Rule, Record, State, link_to}
use Rattle.ts_spec.specs.Rules.{shown, plain_at}
use Rattle.ts_spec.specs.Refusal.{Refusal, DestinationFull}
use Rattle.ts_spec.specs.Response.{Response, Count, Refused}
use Rattle.ts_spec.specs.Step.{Outcome, refused, answer_only, first_full, rules_at, unless_full, within_destinations, unless_ignored}
use Rattle.ts_spec.specs.CountsAll.{CountsAll, LinksWithoutRetention}
use Rattle.ts_spec.specs.Valid.{EachRule, IsValid}
use Rattle.ts_spec.specs.StoredSeries.{StoredSeries, StoredKeys, stored_record, kept}
use Rattle.ts_spec.specs.StoredStep.{StoredOutcome, stored_refused, unchanged_with, stored_first_full, stored_rules_at, stored_unless_full, stored_within_destinations, stored_unless_ignored}
use Rattle.ts_spec.specs.Represents.{RepresentsState, SimulatesStep}
use Rattle.ts_spec.proofs.StoredMaps.{get-kept, rules-kept, first_full-kept}
use Rattle.ts_spec.proofs.CountsOn.{CountsOn}
use Rattle.ts_spec.proofs.Allowed.{none-full}

-- a rule that counts all that its source has, and is between series without retention
pub record IsKnown (m : State) (s k : Key) (old : Rule) : Type 0 where
  pub joins : LinksWithoutRetention m s k old
  pub counts : CountsAll (plain_at (get s m)) old

-- The result of a command. Within the limits, the step over the stored data is that of the state. A known rule keeps
-- counting, if
-- the command does not change the key that it writes to.
pub record IsLed (limits : Limits) (Room : Type 0) (Spared : Key → Type 0) (Known : Key → Key → Rule → Type 0) (m : State) (done : Outcome) (stored_done : StoredOutcome) : Type 0 where
  pub is_step : Room → SimulatesStep limits done stored_done
  pub counts : (s k : Key) (old : Rule) → Spared k → Known s k old → CountsOn old m s k → CountsOn old done.state s k

module _ {Room : Type 0} {Spared : Key → Type 0} {Known : Key → Key → Rule → Type 0} (limits : Limits) (m : State) (v : IsValid limits m) where
  -- nothing changes, and the responses are equal
  pub led-told : (q r : Response) → q ≡ r → IsLed limits Room Spared Known m (answer_only m r) (unchanged_with (kept m) q)
  led-told q r e = record { is_step = λ room. record { response = sym e; stands = record { valid = v; kept = refl } }; counts = λ s k old other known h. h }

  pub led-refused : (refusal : Refusal) → IsLed limits Room Spared Known m (refused m refusal) (stored_refused (kept m) refusal)
  led-refused refusal = led-told (Refused refusal) (Refused refusal) refl

  -- refused by the same test, or else related
  pub led-unless : (a b : Bool) (refusal : Refusal) (done : Outcome) (stored_done : StoredOutcome) → b ≡ a → (a ≡ false → IsLed limits Room Spared Known m done stored_done) →
      IsLed limits Room Spared Known m (if a then refused m refusal else done) (if b then stored_refused (kept m) refusal else stored_done)
  led-unless a b refusal done stored_done e f = rw e (go a refl)
    where
      go : (c : Bool) → a ≡ c → IsLed limits Room Spared Known m (if c then refused m refusal else done) (if c then stored_refused (kept m) refusal else stored_done)
      go true x = led-refused refusal
      go false x = f x

  -- a choice by one test
  pub led-if : (a : Bool) (x y : Outcome) (p q : StoredOutcome) → IsLed limits Room Spared Known m x p → IsLed limits Room Spared Known m y q → IsLed limits Room Spared Known m (if a then x else y) (if a then p else q)
  led-if true x y p q f g = f
  led-if false x y p q f g = g

  -- unless the same sample is ignored
  pub led-ignored : (o p : Option ℕ) (done : Outcome) (stored_done : StoredOutcome) → p ≡ o → IsLed limits Room Spared Known m done stored_done →
      IsLed limits Room Spared Known m (unless_ignored m o done) (stored_unless_ignored (kept m) p stored_done)
  led-ignored o p done stored_done e led = rw e (go o)
    where
      go : (q : Option ℕ) → IsLed limits Room Spared Known m (unless_ignored m q done) (stored_unless_ignored (kept m) q stored_done)
      go None = led
      go (Some last) = led-told (Count last) (Count last) refl

  -- unless a destination of the key is full
  pub led-destinations : (key : Key) (d : Record) (done : Outcome) (stored_done : StoredOutcome) → get key m ≡ Some d → stored_done.keys ≡ kept done.state →
      (EachRule (λ r. length (shown done.state r.dest) ≤ limits.samples) d.rules → IsLed limits Room Spared Known m done stored_done) →
      IsLed limits Room Spared Known m (within_destinations limits m key done) (stored_within_destinations limits (kept m) key stored_done)
  led-destinations key d done stored_done there e f = rw same_full (go (first_full limits.samples done.state (rules_at (get key m))) refl)
    where
      same_full : stored_first_full limits.samples stored_done.keys (stored_rules_at (get key (kept m))) ≡ first_full limits.samples done.state (rules_at (get key m))
      same_full =
          ap (λ (n : StoredKeys). stored_first_full limits.samples n (stored_rules_at (get key (kept m)))) e
          ∙ ap (stored_first_full limits.samples (kept done.state)) (rules-kept m key)
          ∙ first_full-kept limits.samples done.state (rules_at (get key m))

      go : (o : Option Key) → first_full limits.samples done.state (rules_at (get key m)) ≡ o → IsLed limits Room Spared Known m (unless_full m o done) (stored_unless_full (kept m) o stored_done)
      go None x = f (none-full limits done.state d.rules (ap (λ (p : Option Record). first_full limits.samples done.state (rules_at p)) (sym there) ∙ x))
      go (Some j) x = led-refused (DestinationFull j)

  -- on the record at a key: related if it is for a missing key and for an existing one
  pub led-at : (key : Key) (f : Option Record → Outcome) (g : Option StoredSeries → StoredOutcome) → (get key m ≡ None → IsLed limits Room Spared Known m (f None) (g None)) →
      ((d : Record) → get key m ≡ Some d → IsLed limits Room Spared Known m (f (Some d)) (g (Some (stored_record (link_to m key) d)))) → IsLed limits Room Spared Known m (f (get key m)) (g (get key (kept m)))
  led-at key f g none some = rw (get-kept m key) (go (get key m) refl)
    where
      go : (o : Option Record) → get key m ≡ o → IsLed limits Room Spared Known m (f o) (g (option_map (stored_record (link_to m key)) o))
      go None x = none x
      go (Some d) x = some d x

-- It is the step of each represented state.
pub led-stands : (limits : Limits) (keys : StoredKeys) (m : State) → RepresentsState limits keys m → {Room : Type 0} {Spared : Key → Type 0} {done : Outcome} (g : StoredKeys → StoredOutcome) → Room →
    IsLed limits Room Spared (λ s k old. ⊤) m done (g (kept m)) → SimulatesStep limits done (g keys)
led-stands limits keys m s {done = done} g room led = rw s.kept (led.is_step room)
