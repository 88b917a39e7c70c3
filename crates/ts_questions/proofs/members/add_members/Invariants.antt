use Rattle.std.proofs.Common.{◌+◌, ◌≤◌, ◌++◌, List, drop, length}
use Rattle.std.specs.Fmt.{decimal}
use Rattle.ts_spec.specs.Key.{Key}
use Rattle.ts_spec.specs.Text.{line_text, text}
use Rattle.ts_db.specs.DbState.{AreIdsOf}
use Rattle.ts_questions.specs.Members.{reply_at}
use Rattle.ts_questions.specs.Bounds.{content_steps}
use Rattle.ts_questions.proofs.ManyTexts.{SoFar}
use Rattle.ts_questions.proofs.MemberBounds.{Left}
use Rattle.ts_questions.proofs.members.add_members.Given as goal

-- the members so far are those of the first keys
abbrev pub invariant-loop-id : goal.invariant-loop-id
invariant-loop-id g l = record {
  told : (keys : List Key) → AreIdsOf l.db.ids keys l.ids
      → SoFar text (reply_at l.db.limits l.db.keys l.wanted) l.db.ids keys (drop l.id-index l.ids) (l.fn.out.bytes ++ line_text 42 (decimal (length l.ids))) l.out.bytes l.lost;
  steps : (keys : List Key) → AreIdsOf l.db.ids keys l.ids → Left (content_steps l.db l.wanted) l.db.ids keys (drop l.id-index l.ids) l.initial.steps l.steps;
  room : length l.fn.out.bytes + l.fn.out.spare ≤ length l.out.bytes + l.out.spare;
}
