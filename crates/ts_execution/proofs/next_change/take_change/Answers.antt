use Rattle.ts_execution.proofs.Carried.{carries_as}
use Rattle.ts_execution.proofs.Staged.{change-accepted, change-refused}
use Rattle.ts_execution.proofs.next_change.take_change.Goals as goal

pub returns-in-Accepted-clause-takes : goal.returns-in-Accepted-clause-takes
returns-in-Accepted-clause-takes g c = change-accepted c.args.words.items c.args.before c.args.after _ _ c.in-Accepted.ensures.replay_matches

pub returns-in-Refused-clause-takes : goal.returns-in-Refused-clause-takes
returns-in-Refused-clause-takes g c = change-refused c.args.words.items c.args.before c.args.after _ _ c.in-Refused.ensures.replay_matches

pub returns-in-Memory-clause-takes : goal.returns-in-Memory-clause-takes
returns-in-Memory-clause-takes g c = carries_as _ _ _ _ (λ from to lost checkpoint. tt) c.in-Memory.ensures.replay_matches
