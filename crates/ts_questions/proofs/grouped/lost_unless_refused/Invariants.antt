use Rattle.std.proofs.Common.{drop}
use Rattle.ts_questions.proofs.Gathered.{AreUnasked}
use Rattle.ts_questions.proofs.grouped.lost_unless_refused.Given as goal

-- those before the one at hand are not refused
abbrev pub invariant-loop-id : goal.invariant-loop-id
invariant-loop-id g l = AreUnasked l.db l.group_query l.ids (drop l.id-index l.ids) l.initial.steps l.steps
