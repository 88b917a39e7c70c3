-- What a session does, in each state that the database represents.
use Rattle.std.proofs.Common.{◌≡◌, ◌+◌, ℕ, List, refl, subst}
use Rattle.std.specs.Prelude.{Option, None, IfNone}
use Rattle.ts_resp.specs.Reading.{Reading}
use Rattle.ts_spec.specs.Wire.{Request}
use Rattle.ts_db.specs.DbState.{DbState, DbView, Simulates}
use Rattle.ts_execution.specs.Handler.{Handler}
use Rattle.ts_execution.proofs.Carried.{carries_as}
use Rattle.ts_engine.specs.declared.replying.Go.{Go}
use Rattle.ts_engine.specs.Session.{Progress, HandledBy, IsEndBy, Replied}

-- a fact about a session that continues
pub if_none : {T P : Type 0} (o : Option T) → o ≡ None → IfNone o P → P
if_none {T} {P} o is holds = subst (λ (x : Option T). IfNone x P) is holds

module _ (handler : Handler) where
  -- the state of a session on a database state
  abbrev pub spot_on : (reader : Reading) (executed : ℕ) (world : handler.World) → Progress handler
  spot_on reader executed world = record { reader = reader; executed = executed; world = world }

  -- a request was handled, and this much of its reply was written
  pub replies_each : (answer : Option Go) (request : Request) (reader : Reading) (executed executed' : ℕ) (world world' : DbState → handler.World) (old new : DbView) (had has : List ℕ → Type 0) (reply : List ℕ)
      → Simulates old new (λ from to. HandledBy handler answer request reply (world from) (world' to) had has)
      → IsEndBy answer request → executed' ≡ executed + 1
      → Simulates old new (λ from to. Replied answer request (spot_on reader executed (world from)) (spot_on reader executed' (world' to)) had has)
  replies_each answer request reader executed executed' world world' old new had has reply carries end more =
      carries_as old new (λ from to. HandledBy handler answer request reply (world from) (world' to) had has)
      (λ from to. Replied answer request (spot_on reader executed (world from)) (spot_on reader executed' (world' to)) had has)
      (λ from to turned. record { reply = reply; turned = turned; end = end; reader = refl; executed = more }) carries
