-- The outcome of a step.
use Rattle.std.specs.Prelude.{ℕ, min}
use Rattle.ts_spec.specs.Sample.{MAX_TIME}
use Rattle.ts_spec.specs.State.{State}
use Rattle.ts_spec.specs.Refusal.{Refusal}
use Rattle.ts_spec.specs.declared.command.At.{At}
use Rattle.ts_spec.specs.declared.command.At.TheVariants.{Clock, Time}
use Rattle.ts_spec.specs.Response.{Response, Refused}

-- The state after a step, and the response.
pub record Outcome : Type 0 where
  pub state : State
  pub response : Response

-- a refused command changes nothing
abbrev pub refused : State → Refusal → Outcome
refused m refusal = record { state = m; response = Refused refusal }

-- a query changes nothing
abbrev pub answer_only : State → Response → Outcome
answer_only m response = record { state = m; response = response }

-- the time of a command; a reading past MAX_TIME counts as MAX_TIME
abbrev pub time_of : (reading : ℕ) → At → ℕ
time_of reading Clock = min reading MAX_TIME
time_of reading (Time t) = t
