use Rattle.std.proofs.Common.{◌<◌, ◌≤◌, ℕ, refl, sym, ◌∙◌, subst, arith}
use Rattle.std.specs.Prelude.{Option, Some}
use Rattle.ts_io.specs.declared.hub.Step.{Step}
use Rattle.std.specs.Prelude.{List}
use Rattle.ts_execution.proofs.Carried.{carries_as, carries_none, carries_then}
use Rattle.ts_host.specs.Causes.{Faults, HasCause}
use Rattle.ts_host.specs.Serving.{IsOver, Ran, Stepped}
use Rattle.ts_host.specs.Shown.{connections_of, host_log, recorder_of, shown, taken_by}
use Rattle.ts_host.specs.declared.host.receiving.HubStep.TheVariants as step
use Rattle.ts_host.proofs.Contents.{extends_none}
use Rattle.ts_host.proofs.Endings.{budget_cause, ended_cause, ends_at_budget, ends_when_over}
use Rattle.ts_host.proofs.WholeRuns.{ran_halted, ran_none, ran_on, ran_quiet}
use Rattle.ts_host.proofs.serving.serve_hub.Goals as goal

pub loop-host-init : goal.loop-host-init
loop-host-init g c = record {
  ran = carries_none _ _ (λ from stands.
      subst
      (λ (n : ℕ). Ran (shown g.J.Log.content c.args.host.now from (g.C.Clock.readings c.args.clock.now) (g.H.Hub.out c.args.hub.now) (g.K.Sink.has c.args.out.now))
      (shown g.J.Log.content c.args.host.now from (g.C.Clock.readings c.args.clock.now) (g.H.Hub.out c.args.hub.now) (g.K.Sink.has c.args.out.now)) (g.H.Hub.coming c.args.hub.now) (g.H.Hub.coming c.args.hub.now) n)
      (sym c.requires.taken) (ran_none _ (g.H.Hub.coming c.args.hub.now) (extends_none _ _ (sym c.requires.stored))));
  asked = c.requires.asked;
  lent = refl;
  fine = refl;
}

pub step-requires : goal.step-requires
step-requires g c = c.loop-host.invariant.asked

pub loop-host-smaller : goal.loop-host-smaller
loop-host-smaller g c =
    let here : taken_by (connections_of c.loop-host.host) < c.args.budget = subst (λ (n : ℕ). n < c.args.budget) c.taken.ensures c.loop-host-test.true in
    let fits = c.ranges.budget.fits in
    let onward = c.in-Taken.ensures.onward refl (omega (arith, here, fits)) in
    omega (arith, here, onward)

pub loop-host-preserved : goal.loop-host-preserved
loop-host-preserved g c = record {
  ran = carries_then _ _ _ _ _ _ (λ from between to ran stepped. ran_on _ _ _ _ _ ran _ _ _ stepped) c.loop-host.invariant.ran c.in-Taken.ensures.stepped;
  asked = c.in-Taken.ensures.asked refl;
  lent = c.in-Taken.ensures.lent ∙ c.loop-host.invariant.lent;
  fine = c.in-Taken.ensures.cause ∙ c.loop-host.invariant.fine;
}

pub returns-in-Over-clause-serves : goal.returns-in-Over-clause-serves
returns-in-Over-clause-serves g c =
    let content = g.J.Log.content in
    carries_then _ _ _ _ _ _ (λ from between to ran (stepped : Stepped step.Over
    (shown content c.loop-host.host between (g.C.Clock.readings c.loop-host.clock) (g.H.Hub.out c.loop-host.hub) (g.K.Sink.has c.loop-host.out))
    (shown content c.step.new.self to (g.C.Clock.readings c.step.new.clock) (g.H.Hub.out c.step.new.hub) (g.K.Sink.has c.step.new.out))
    (g.H.Hub.coming c.loop-host.hub) (g.H.Hub.coming c.step.new.hub) (taken_by (connections_of c.loop-host.host)) (taken_by (connections_of c.step.new.self))).
    rw c.end_after.ensures
    (ends_when_over c.settle.result content (recorder_of c.step.new.self) (recorder_of c.settle.new.self) (connections_of c.step.new.self) (connections_of c.settle.new.self) to (g.C.Clock.readings c.step.new.clock)
    (g.H.Hub.out c.step.new.hub) (g.H.Hub.out c.settle.new.hub) (g.K.Sink.has c.step.new.out) c.args.budget _ _ _ _
    (subst
    (λ (o : Option (List Step)). Ran (shown content c.args.host.now from (g.C.Clock.readings c.args.clock.now) (g.H.Hub.out c.args.hub.now) (g.K.Sink.has c.args.out.now))
    (shown content c.step.new.self to (g.C.Clock.readings c.step.new.clock) (g.H.Hub.out c.step.new.hub) (g.K.Sink.has c.step.new.out)) (g.H.Hub.coming c.args.hub.now) o (taken_by (connections_of c.loop-host.host)))
    (sym (c.settle.ensures.coming ∙ stepped.1)) (ran_quiet _ _ _ _ _ ran _ stepped.0))
    (subst IsOver (sym c.settle.ensures.coming) stepped.2) c.settle.ensures.connections (c.in-Over.ensures.over refl) c.settle.ensures.settles))
    c.loop-host.invariant.ran c.in-Over.ensures.stepped

pub returns-in-Over-clause-lent : goal.returns-in-Over-clause-lent
returns-in-Over-clause-lent g c = c.settle.ensures.lent ∙ c.in-Over.ensures.lent ∙ c.loop-host.invariant.lent

pub returns-in-Over-clause-cause : goal.returns-in-Over-clause-cause
returns-in-Over-clause-cause g c =
    rw c.end_after.ensures (ended_cause c.settle.result _ _ _ _ (c.in-Over.ensures.cause ∙ c.loop-host.invariant.fine) c.settle.ensures.hub_faults c.settle.ensures.cause)

pub returns-in-Fault-clause-serves : goal.returns-in-Fault-clause-serves
returns-in-Fault-clause-serves g c =
    carries_then _ _ _ _ _ _ (λ from between to ran stepped. ran_halted _ _ _ _ _ ran c.in-Fault.fault c.args.budget _ _ stepped) c.loop-host.invariant.ran c.in-Fault.ensures.stepped

pub returns-in-Fault-clause-lent : goal.returns-in-Fault-clause-lent
returns-in-Fault-clause-lent g c = c.in-Fault.ensures.lent ∙ c.loop-host.invariant.lent

pub returns-in-Fault-clause-cause : goal.returns-in-Fault-clause-cause
returns-in-Fault-clause-cause g c = subst (λ (before : Faults). HasCause (Some c.in-Fault.fault) before (record { hub = g.H.Hub.faults c.step.new.hub; lines = g.K.Sink.faults c.step.new.out; journal = g.J.Log.faults (host_log c.step.new.self) })) c.loop-host.invariant.fine c.in-Fault.ensures.cause

pub returns-clause-serves : goal.returns-clause-serves
returns-clause-serves g c =
    let content = g.J.Log.content in
    let spent : c.args.budget ≤ taken_by (connections_of c.loop-host.host) = subst (λ (n : ℕ). c.args.budget ≤ n) c.taken.ensures c.loop-host-test.false in
    carries_as _ _ _ _ (λ from to ran.
    rw c.end_after-2.ensures
    (ends_at_budget c.settle-2.result content (recorder_of c.loop-host.host) (recorder_of c.settle-2.new.self) (connections_of c.loop-host.host) (connections_of c.settle-2.new.self) to (g.C.Clock.readings c.loop-host.clock)
    (g.H.Hub.out c.loop-host.hub) (g.H.Hub.out c.settle-2.new.hub) (g.K.Sink.has c.loop-host.out) c.args.budget _ _ _ _
    (subst
    (λ (o : Option (List Step)). Ran (shown content c.args.host.now from (g.C.Clock.readings c.args.clock.now) (g.H.Hub.out c.args.hub.now) (g.K.Sink.has c.args.out.now))
    (shown content c.loop-host.host to (g.C.Clock.readings c.loop-host.clock) (g.H.Hub.out c.loop-host.hub) (g.K.Sink.has c.loop-host.out)) (g.H.Hub.coming c.args.hub.now) o (taken_by (connections_of c.loop-host.host)))
    (sym c.settle-2.ensures.coming) ran)
    spent c.settle-2.ensures.connections c.loop-host.invariant.asked c.settle-2.ensures.settles))
    c.loop-host.invariant.ran

pub returns-clause-lent : goal.returns-clause-lent
returns-clause-lent g c = c.settle-2.ensures.lent ∙ c.loop-host.invariant.lent

pub returns-clause-cause : goal.returns-clause-cause
returns-clause-cause g c =
    rw c.end_after-2.ensures (budget_cause c.settle-2.result _ _ _ _ c.loop-host.invariant.fine c.settle-2.ensures.hub_faults c.settle-2.ensures.cause)
