use Rattle.ts_questions.proofs.Searching.{Searching}
use Rattle.ts_questions.proofs.multi_reply.is_one_refused.Given as goal

-- of the keys so far there is something to tell, or they are not selected
abbrev pub invariant-loop-id : goal.invariant-loop-id
invariant-loop-id g l = record {
  searched : Searching (g.T.MultiReply.is_over_limit l.multi_reply l.db) (g.T.MultiReply.most l.multi_reply l.db) l.db l.filters l.id-iterator l.fn.steps l.steps;
}
