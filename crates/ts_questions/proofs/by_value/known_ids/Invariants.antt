use Rattle.std.proofs.Common.{All, drop}
use Rattle.ts_questions.specs.GroupQuery.{IsIdOfOneKey}
use Rattle.ts_questions.proofs.by_value.known_ids.Given as goal

-- where those that are left are known, all are
abbrev pub invariant-loop-id : goal.invariant-loop-id
invariant-loop-id l = All (IsIdOfOneKey l.db.ids) (drop l.id-index l.ids) → All (IsIdOfOneKey l.db.ids) l.ids
