use Rattle.std.proofs.Common.{drop}
use Rattle.ts_range.proofs.Shown.{IsShown}
use Rattle.ts_range.proofs.answers.visit_all.Given as goal

-- the samples that are left will make of the visitor what all of them make
abbrev pub invariant-loop-sample : goal.invariant-loop-sample
invariant-loop-sample g l = IsShown g.V.Visit.step g.V.Visit.room l.initial.visit l.visit l.samples (drop l.sample-index l.samples)
