-- What contracts see of a database, the states that it represents, and how its answers relate to the steps of ts_spec.
use Rattle.std.specs.Prelude.{◌≡◌, ◌≤◌, ℕ, Bool, true, false, ⊤, if◌then◌else◌, List, [], ◌∷◌, Option, None, Some, is_some, Result, Ok, Err}
use Rattle.std.specs.Option.{unwrap_or}
use Rattle.ts_spec.specs.Sample.{Point, MAX_TIME, last_of, later_or}
use Rattle.ts_spec.specs.declared.limits.Limits.{Limits}
use Rattle.ts_spec.specs.Key.{Key}
use Rattle.ts_spec.specs.Keyed.{Keyed, get}
use Rattle.ts_spec.specs.Refusal.{Refusal}
use Rattle.ts_spec.specs.State.{State}
use Rattle.ts_spec.specs.Rules.{dropped}
use Rattle.ts_spec.specs.Step.{Outcome, refused}
use Rattle.ts_spec.specs.Response.{Response, Done, Count, Refused}
use Rattle.ts_spec.specs.StoredSeries.{StoredKeys}
use Rattle.ts_spec.specs.Represents.{RepresentsState}
use Rattle.ts_sample.specs.declared.sample.Id.{Id}
use Rattle.ts_db.specs.declared.fault.DbFault.{DbFault}
use Rattle.ts_db.specs.declared.fault.DbFault.TheVariants.{NoKey, SamplesFull}
use Rattle.ts_db.specs.Faults.{refusal_of, IsMemory}

-- a state with the limits of the database
pub record DbState : Type 0 where
  pub limits : Limits
  pub state : State

-- The view of a database: its limits, the stored data and the id of each key, the reach of each series, and the
-- samples and the capacity of each chunk.
pub record DbView : Type 0 where
  pub limits : Limits
  pub keys : StoredKeys
  pub ids : Keyed Id
  pub reaches : Keyed ℕ
  pub pieces : Keyed (List (List Point))
  pub sizes : Keyed (List ℕ)

-- the reach of a key's series; 0 if the key does not exist
abbrev pub reach_at : DbView → Key → ℕ
reach_at db_view key = unwrap_or (get key db_view.reaches) 0

-- the samples of each chunk of a key; none if the key does not exist
abbrev pub chunk_samples_at : DbView → Key → List (List Point)
chunk_samples_at db_view key = unwrap_or (get key db_view.pieces) []

-- the database represents this state
pub record Represents (db_view : DbView) (held : DbState) : Type 0 where
  pub limits : held.limits ≡ db_view.limits
  pub state : RepresentsState db_view.limits db_view.keys held.state

-- the database represents a state for which P holds
pub record RepresentsSome (db_view : DbView) (P : DbState → Type 0) : Type 0 where
  pub to : DbState
  pub done : P to
  pub stands : Represents db_view to

-- for each state represented before, P relates it to one represented after
abbrev pub Simulates : (old new : DbView) → (DbState → DbState → Type 0) → Type 0
Simulates old new P = (from : DbState) → Represents old from → RepresentsSome new (P from)

-- an operation with this response may also run out of memory: the response is no refusal
abbrev pub AllowsOutOfMemory : Response → Type 0
AllowsOutOfMemory (Refused refusal) = ⊥
AllowsOutOfMemory response = ⊤

-- an error is the step's refusal; out of memory is allowed only if the step refuses nothing
abbrev pub IsAnswer : Option Refusal → State → Outcome → Type 0
IsAnswer None m step = AllowsOutOfMemory step.response
IsAnswer (Some refusal) m step = step ≡ refused m refusal

-- the step has this response, and the database represents the state after the step
pub record IsDone (response : Response) (limits : Limits) (step : Outcome) (new : DbView) : Type 0 where
  pub says : step.response ≡ response
  pub stands : Represents new (record { limits = limits; state = step.state })

-- For each represented state: a success has the response of the step, and the database then represents the state after
-- it. An error is the step's refusal, or out of memory if the step refuses nothing; then nothing has changed.
abbrev pub Answers : {T : Type 0} → (T → Response) → (old : DbView) → (DbState → Outcome) → Result T DbFault → (new : DbView) → Type 0
Answers response old step (Ok x) new = (from : DbState) → Represents old from → IsDone (response x) from.limits (step from) new
Answers response old step (Err fault) new = ((from : DbState) → Represents old from → IsAnswer (refusal_of old.ids fault) from.state (step from)) × (new ≡ old)

-- an operation that returns nothing, and one that returns a time or a count
abbrev pub AnswersDone : (old : DbView) → (DbState → Outcome) → Result (Unit {0}) DbFault → (new : DbView) → Type 0
AnswersDone old step result new = Answers (λ x. Done) old step result new

abbrev pub AnswersCount : (old : DbView) → (DbState → Outcome) → Result ℕ DbFault → (new : DbView) → Type 0
AnswersCount old step result new = Answers (λ t. Count t) old step result new

-- The id belongs to a key.
pub record IsLive (ids : Keyed Id) (id : Id) : Type 0 where
  pub key : Key
  pub is : get key ids ≡ Some id

-- the full series: the written key has this id, or a destination has it
abbrev pub IsFullAt : Keyed Id → Key → Id → (written : Bool) → Type 0
IsFullAt ids key id true = get key ids ≡ Some id
IsFullAt ids key id false = IsLive ids id

-- an error for a full series names the right series
abbrev pub NamesFullSeries : DbView → Key → DbFault → Type 0
NamesFullSeries db_view key (SamplesFull id written) = IsFullAt db_view.ids key id written
NamesFullSeries db_view key other = ⊤

-- `was` tells whether the key existed; now it does not
pub record Drops (key : Key) (was : Bool) (from : DbState) (new : DbView) : Type 0 where
  pub there : was ≡ is_some (get key from.state)
  pub stands : Represents new (record { limits = from.limits; state = if was then dropped key from.state else from.state })

-- A query for a missing key fails with NoKey. For an existing key it succeeds with a correct result or runs out of
-- memory.
abbrev pub Finds : {X T : Type 0} → Option X → (T → Type 0) → Result T DbFault → Type 0
Finds None what (Ok x) = ⊥
Finds None what (Err fault) = fault ≡ NoKey
Finds (Some d) what (Ok x) = what x
Finds (Some d) what (Err fault) = IsMemory fault

-- the times of the first and the last sample, if there are any
abbrev pub ends_of : List Point → Option (ℕ × ℕ)
ends_of [] = None
ends_of (p ∷ ps) = Some (p.time, (later_or p (last_of ps)).time)

-- both are valid times
abbrev pub AreTimes : ℕ × ℕ → Type 0
AreTimes ends = (ends.0 ≤ MAX_TIME) × (ends.1 ≤ MAX_TIME)

-- the ids of these keys, in the same order
abbrev pub AreIdsOf : Keyed Id → List Key → List Id → Type 0
AreIdsOf ids [] [] = ⊤
AreIdsOf ids [] (n ∷ ns) = ⊥
AreIdsOf ids (k ∷ ks) [] = ⊥
AreIdsOf ids (k ∷ ks) (n ∷ ns) = (get k ids ≡ Some n) × AreIdsOf ids ks ns
