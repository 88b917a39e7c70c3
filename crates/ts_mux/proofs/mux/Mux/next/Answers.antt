use Rattle.std.proofs.Common.{[], refl, sym, ap, ◌∙◌}
use Rattle.ts_mux.specs.Order.{without}
use Rattle.ts_mux.proofs.Closings.{without_twice}
use Rattle.ts_mux.proofs.MuxLemmas.{shorter}
use Rattle.ts_mux.proofs.mux.Mux.next.Goals as goal

pub returns-in-Request-clause-progress : goal.returns-in-Request-clause-progress
returns-in-Request-clause-progress c = shorter _ _ _ _ (c.in-Request.ensures.gives []) refl

pub returns-in-Fault-clause-progress : goal.returns-in-Fault-clause-progress
returns-in-Fault-clause-progress c = shorter _ _ _ _ (c.in-Fault.ensures.gives []) (c.close.ensures.others [])

pub returns-in-Fault-clause-closed : goal.returns-in-Fault-clause-closed
returns-in-Fault-clause-closed c = λ frames.
    ap (without c.in-Fault.link) (c.close.ensures.others frames) ∙ without_twice c.in-Fault.link _ ∙ sym (c.close.ensures.others frames)
