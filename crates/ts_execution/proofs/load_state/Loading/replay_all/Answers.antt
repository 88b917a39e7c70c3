use Rattle.std.proofs.Common.{[], refl, sym, ◌∙◌, subst, arith}
use Rattle.std.specs.Prelude.{IfNone}
use Rattle.ts_execution.specs.JournalReplay.{HasNoWholeRequest}
use Rattle.ts_execution.proofs.Carried.{carries_then}
use Rattle.ts_execution.proofs.Loadings.{loads-none, loads-more, loads-all, loads-broken}
use Rattle.ts_execution.proofs.load_state.Loading.replay_all.Goals as goal

pub loop-end-init : goal.loop-end-init
loop-end-init g c = record { loads = loads-none _ _; whole = c.requires.whole; same = refl }

pub loop-end-smaller : goal.loop-end-smaller
loop-end-smaller g c = omega (arith, c.in-Change.ensures.onward, c.in-Change.ensures.fed, c.in-Change.ensures.within)

pub loop-end-preserved : goal.loop-end-preserved
loop-end-preserved g c = record {
  loads = loads-more _ _ c.requires.whole c.loop-end.invariant.whole _ _ [] _ _ _ c.loop-end.invariant.loads _ _ refl refl refl c.loop-end.invariant.whole c.in-Change.ensures.finds;
  whole = c.loop-end.invariant.whole;
  same = c.in-Change.ensures.fed ∙ c.loop-end.invariant.same;
}

pub returns-in-Nothing-clause-loads : goal.returns-in-Nothing-clause-loads
returns-in-Nothing-clause-loads g c = loads-all _ _ c.requires.whole c.loop-end.invariant.whole _ _ [] _ _ _ c.loop-end.invariant.loads _ refl refl refl c.loop-end.invariant.whole c.in-Nothing.ensures.finds

pub returns-in-Nothing-clause-current : goal.returns-in-Nothing-clause-current
returns-in-Nothing-clause-current g c = λ _. subst (λ o. IfNone o (HasNoWholeRequest c.next_change.new.reader)) (sym c.loop-end.invariant.whole) (c.in-Nothing.ensures.all refl)

pub returns-in-Nothing-clause-fed : goal.returns-in-Nothing-clause-fed
returns-in-Nothing-clause-fed g c = c.in-Nothing.ensures.fed ∙ c.loop-end.invariant.same

pub returns-in-Broken-clause-loads : goal.returns-in-Broken-clause-loads
returns-in-Broken-clause-loads g c = loads-broken _ _ c.requires.whole c.loop-end.invariant.whole c.next_change.new.stage c.next_change.new.reader [] _ _ _ c.loop-end.invariant.loads _ _ refl c.in-Broken.ensures.finds

pub returns-in-Broken-clause-fed : goal.returns-in-Broken-clause-fed
returns-in-Broken-clause-fed g c = c.in-Broken.ensures.fed ∙ c.loop-end.invariant.same

pub returns-in-Memory-clause-loads : goal.returns-in-Memory-clause-loads
returns-in-Memory-clause-loads g c = carries_then _ _ _ _ _ _ (λ from mid to was lost. tt) c.loop-end.invariant.loads c.in-Memory.ensures.finds

pub returns-in-Memory-clause-fed : goal.returns-in-Memory-clause-fed
returns-in-Memory-clause-fed g c = c.in-Memory.ensures.fed ∙ c.loop-end.invariant.same
