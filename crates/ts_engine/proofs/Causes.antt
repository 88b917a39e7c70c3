-- Fault counters over several calls.
use Rattle.std.proofs.Common.{ℕ, subst}
use Rattle.std.specs.Prelude.{Option}
use Rattle.ts_execution.specs.Handler.{Handler, NoFault}
use Rattle.ts_engine.specs.declared.replying.Go.{Go}
use Rattle.ts_engine.specs.Session.{HasCauseWith}

-- counters that did not change have the same cause
pub cause_after : (handler : Handler) (answer : Option Go) (first before now : ℕ) (known own own' : handler.Faults) → NoFault handler first before known own
    → HasCauseWith handler answer before now own own' → HasCauseWith handler answer first now known own'
cause_after handler answer first before now known own own' fine cause =
    subst (λ (n : ℕ). HasCauseWith handler answer n now known own') fine.0 (subst (λ (f : handler.Faults). HasCauseWith handler answer before now f own') fine.1 cause)
