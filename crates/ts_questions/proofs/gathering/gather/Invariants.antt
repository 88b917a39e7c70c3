use Rattle.std.proofs.Common.{drop}
use Rattle.ts_questions.proofs.Gathered.{AreLeft}
use Rattle.ts_questions.proofs.gathering.gather.Given as goal

-- the series of these are left, and those of the others are in the group
abbrev pub invariant-loop-id : goal.invariant-loop-id
invariant-loop-id g l = AreLeft l.db l.group_query l.ids (drop l.id-index l.ids) l.fn.group l.group l.before l.lost l.initial.steps l.steps
